-- The cycle of calls of the walk: each member meets its contract. Assumes nothing.
use Prim.Native.Nat.{ℕ, ◌+◌, ◌-◌, ◌≤◌, ◌<◌}
use mathlib.Core.Path.{refl, sym, ap, ◌∙◌}
use native.Mathlib.Omega.{arith}
use borrow.Author.Rules.{rules}
use Rattle.base_sets.proofs.Members.{first-low, not_none}
use Rattle.walk_stages.proofs.Members.{single-low, at-several, at_other, at_goes, either-stops, either-goes, negation-finds, placed-number, placed-far, placed-name, placed-goes, split-stops, split_goes, deep-visits, over-visits, outside-visits, counted-visits, truth-finds, void-finds, none-finds}
use Rattle.walk_stages.proofs.Turns.{dividing-holds, dividing-again, dividing-stops, dividing-ends, naming-none, naming-holds, naming-again, naming-stops, naming-ends, rest-shorter, somewhere-first, somewhere-then, seeking-holds, seeking-again, seeking-stops, seeking-ends, sometime-first, sometime-then, trying-less, trying-holds, trying-again, trying-stops, trying-ends}
use Rattle.walk_states.proofs.Lendings.{step-moves, step-apart}
use Rattle.walk_visits.proofs.+at_name_beside_either_negation_placed_in_some_name_sometime_somewhere_split_visit.Goals as goal

-- ---- AT

pub at_name-offset_bounds-lent-i : goal.at_name-offset_bounds-lent-i
at_name-offset_bounds-lent-i t c = omega (arith, single-low _ _ (sym c.is_single.ensures ∙ c.if-is_single.true) c.first-i.ensures)

pub at_name-bounds-lent-i : goal.at_name-bounds-lent-i
at_name-bounds-lent-i t c = omega (arith, single-low _ _ (sym c.is_single.ensures ∙ c.if-is_single.true) c.first-i.ensures)

pub at_name-returns-then-is_called : goal.at_name-returns-then-is_called
at_name-returns-then-is_called t c =
    let x = c.args in
    at_goes x.walk.now.program.now x.walk.now.script.now x.lent.now.sets x.lent.now.numbers x.chosen.now x.spot.top x.spot.somes x.spot.left x.spot.at x.walk.now.limits x.c (sym c.is_single.ensures ∙ c.if-is_single.true) _ c.first-i.ensures c.requires.2.few-somes _ c.name_said-name.ensures _ c.is_called.ensures c.if-is_called.true _ c.visit.ensures

pub at_name-returns-else-is_called : goal.at_name-returns-else-is_called
at_name-returns-else-is_called t c =
    let x = c.args in
    at_other x.walk.now.program.now x.walk.now.script.now x.lent.now.sets x.lent.now.numbers x.chosen.now x.spot.top x.spot.somes x.spot.left x.spot.at x.walk.now.limits x.c (sym c.is_single.ensures ∙ c.if-is_single.true) _ c.first-i.ensures c.requires.2.few-somes _ c.name_said-name.ensures _ c.is_called.ensures c.if-is_called.false

pub at_name-returns-else-is_single : goal.at_name-returns-else-is_single
at_name-returns-else-is_single t c =
    let x = c.args in
    at-several x.walk.now.program.now x.walk.now.script.now x.lent.now.sets x.lent.now.numbers x.chosen.now x.spot.top x.spot.somes x.spot.left x.spot.at x.walk.now.limits x.c (sym c.is_single.ensures ∙ c.if-is_single.false)

-- ---- BESIDE

pub beside-loop-share-init : goal.beside-loop-share-init
beside-loop-share-init t c = let x = c.args in (omega arith, dividing-holds x.walk.now.program.now x.walk.now.script.now x.lent.now.sets x.lent.now.numbers x.chosen.now x.spot.top x.spot.somes x.spot.left x.spot.at x.walk.now.limits x.c)

pub beside-returns-then-share-spot : goal.beside-returns-then-share-spot
beside-returns-then-share-spot t c =
    let x = c.args in
    dividing-ends x.walk.now.program.now x.walk.now.script.now x.lent.now.sets x.lent.now.numbers x.chosen.now x.spot.top x.spot.somes x.spot.left x.spot.at x.walk.now.limits _ _ _ c.loop-share.invariant.1 _ c.split-w.ensures (search rules) c.loop-share.invariant.0 c.if-share-spot.true

pub beside-returns-in_default : goal.beside-returns-in_default
beside-returns-in_default t c =
    let x = c.args in
    dividing-stops x.walk.now.program.now x.walk.now.script.now x.lent.now.sets x.lent.now.numbers x.chosen.now x.spot.top x.spot.somes x.spot.left x.spot.at x.walk.now.limits _ _ _ c.loop-share.invariant.1 _ c.split-w.ensures c.in_default.not-No

pub beside-loop-share-smaller : goal.beside-loop-share-smaller
beside-loop-share-smaller t c =
    let x = c.args in
    let g = (dividing-again x.walk.now.program.now x.walk.now.script.now x.lent.now.sets x.lent.now.numbers x.chosen.now x.spot.top x.spot.somes x.spot.left x.spot.at x.walk.now.limits _ _ _ c.loop-share.invariant.1 _ c.split-w.ensures _ c.in-No.is (search rules) c.loop-share.invariant.0 c.if-share-spot.false _ c.next_share-share.type_inv c.next_share-share.ensures.next).1 in
    omega (arith, g, c.next_share-share.type_inv)

pub beside-loop-share-preserved : goal.beside-loop-share-preserved
beside-loop-share-preserved t c =
    let x = c.args in
    (c.next_share-share.type_inv, (dividing-again x.walk.now.program.now x.walk.now.script.now x.lent.now.sets x.lent.now.numbers x.chosen.now x.spot.top x.spot.somes x.spot.left x.spot.at x.walk.now.limits _ _ _ c.loop-share.invariant.1 _ c.split-w.ensures _ c.in-No.is (search rules) c.loop-share.invariant.0 c.if-share-spot.false _ c.next_share-share.type_inv c.next_share-share.ensures.next).0)

-- ---- OR and NOT

pub either-returns-in_default : goal.either-returns-in_default
either-returns-in_default t c =
    let x = c.args in
    either-stops x.walk.now.program.now x.walk.now.script.now x.lent.now.sets x.lent.now.numbers x.chosen.now x.spot.top x.spot.somes x.spot.left x.spot.at x.walk.now.limits x.c _ c.visit-on_left.ensures c.in_default.not-No

pub either-returns : goal.either-returns
either-returns t c =
    let x = c.args in
    either-goes x.walk.now.program.now x.walk.now.script.now x.lent.now.sets x.lent.now.numbers x.chosen.now x.spot.top x.spot.somes x.spot.left x.spot.at x.walk.now.limits x.c _ _ _ _ c.visit-on_left.ensures c.in-No.is c.right_rule.ensures c.visit.ensures

pub negation-returns : goal.negation-returns
negation-returns t c =
    let x = c.args in
    negation-finds x.walk.now.program.now x.walk.now.script.now x.lent.now.sets x.lent.now.numbers x.chosen.now x.spot.top x.spot.somes x.spot.left x.spot.at x.walk.now.limits x.c _ _ c.visit-w.ensures c.turned.ensures

-- ---- PLACED

pub placed_in-returns-then-number-ge-PARTS : goal.placed_in-returns-then-number-ge-PARTS
placed_in-returns-then-number-ge-PARTS t c =
    let x = c.args in
    placed-far x.walk.now.program.now x.walk.now.script.now x.lent.now.sets x.lent.now.numbers x.chosen.now x.spot.top x.spot.somes x.spot.left x.spot.at x.walk.now.limits x.c (rw (sym c.placing-number.ensures) c.if-number-ge-PARTS.true) _

pub placed_in-returns-then-i-ge-PARTS : goal.placed_in-returns-then-i-ge-PARTS
placed_in-returns-then-i-ge-PARTS t c =
    let x = c.args in
    placed-number x.walk.now.program.now x.walk.now.script.now x.lent.now.sets x.lent.now.numbers x.chosen.now x.spot.top x.spot.somes x.spot.left x.spot.at x.walk.now.limits x.c _ (ap (λ (y : ℕ). x.walk.now.limits.parts + y) c.placing-number.ensures) c.if-i-ge-PARTS.true _

pub placed_in-returns-then-name-ge-NAMES : goal.placed_in-returns-then-name-ge-NAMES
placed_in-returns-then-name-ge-NAMES t c =
    let x = c.args in
    placed-name x.walk.now.program.now x.walk.now.script.now x.lent.now.sets x.lent.now.numbers x.chosen.now x.spot.top x.spot.somes x.spot.left x.spot.at x.walk.now.limits x.c c.requires.2.few-somes _ c.name_said-name.ensures c.if-name-ge-NAMES.true _

pub placed_in-returns : goal.placed_in-returns
placed_in-returns t c =
    let x = c.args in
    let m = c.next_state.ensures in
    placed-goes x.walk.now.program.now x.walk.now.script.now x.lent.now.sets x.lent.now.numbers x.chosen.now x.spot.top x.spot.somes x.spot.left x.spot.at x.walk.now.limits x.c c.requires.2.few-somes _ c.name_said-name.ensures _ (ap (λ (y : ℕ). x.walk.now.limits.parts + y) c.placing-number.ensures) _ _ _
    m.lends (m.placed _ _ refl).0 (m.placed _ _ refl).1 _ c.visit.ensures

-- ---- SOME

pub some_name-returns-then-somes-ge-SOMES : goal.some_name-returns-then-somes-ge-SOMES
some_name-returns-then-somes-ge-SOMES t c = let x = c.args in naming-none x.walk.now.program.now x.walk.now.script.now x.lent.now.sets x.lent.now.numbers x.chosen.now x.spot.top x.spot.somes x.spot.left x.spot.at x.walk.now.limits x.c _ c.if-somes-ge-SOMES.true

pub some_name-loop-n-init : goal.some_name-loop-n-init
some_name-loop-n-init t c = let x = c.args in (c.last_name-last.ensures, naming-holds x.walk.now.program.now x.walk.now.script.now x.lent.now.sets x.lent.now.numbers x.chosen.now x.spot.top x.spot.somes x.spot.left x.spot.at x.walk.now.limits x.c)

pub some_name-returns-in_default : goal.some_name-returns-in_default
some_name-returns-in_default t c =
    let x = c.args in
    naming-stops x.walk.now.program.now x.walk.now.script.now x.lent.now.sets x.lent.now.numbers x.chosen.now x.spot.top x.spot.somes x.spot.left x.spot.at x.walk.now.limits _ _ _ c.loop-n.invariant.1 (omega (arith, c.loop-n-test.true, c.loop-n.invariant.0)) _ c.with_name-names.ensures.here c.with_name-names.ensures.elsewhere _ c.visit-w.ensures c.in_default.not-No

pub some_name-loop-n-preserved : goal.some_name-loop-n-preserved
some_name-loop-n-preserved t c =
    let x = c.args in
    (c.loop-n.invariant.0, naming-again x.walk.now.program.now x.walk.now.script.now x.lent.now.sets x.lent.now.numbers x.chosen.now x.spot.top x.spot.somes x.spot.left x.spot.at x.walk.now.limits _ _ _ c.loop-n.invariant.1 (omega (arith, c.loop-n-test.true, c.loop-n.invariant.0)) _ c.with_name-names.ensures.here c.with_name-names.ensures.elsewhere _ c.visit-w.ensures _ c.in-No.is)

pub some_name-returns-in-No : goal.some_name-returns-in-No
some_name-returns-in-No t c =
    let x = c.args in
    let end : c.last_name-last.result ≤ c.loop-n.n = search rules in
    let again = naming-again x.walk.now.program.now x.walk.now.script.now x.lent.now.sets x.lent.now.numbers x.chosen.now x.spot.top x.spot.somes x.spot.left x.spot.at x.walk.now.limits _ _ _ c.loop-n.invariant.1 (omega (arith, c.loop-n-test.true, c.loop-n.invariant.0)) _ c.with_name-names.ensures.here c.with_name-names.ensures.elsewhere _ c.visit-w.ensures _ c.in-No.is in
    naming-ends x.walk.now.program.now x.walk.now.script.now x.lent.now.sets x.lent.now.numbers x.chosen.now x.spot.top x.spot.somes x.spot.left x.spot.at x.walk.now.limits _ _ _ again (omega (arith, end, c.loop-n.invariant.0))

-- ---- SOMETIME

pub sometime-returns-in_default : goal.sometime-returns-in_default
sometime-returns-in_default t c = let x = c.args in sometime-first x.walk.now.program.now x.walk.now.script.now x.lent.now.sets x.lent.now.numbers x.chosen.now x.spot.top x.spot.somes x.spot.left x.spot.at x.walk.now.limits x.c _ c.visit-w.ensures c.in_default.not-No

pub sometime-loop-turn-init : goal.sometime-loop-turn-init
sometime-loop-turn-init t c =
    let x = c.args in
    (search (c.next_turn-turn.type_inv, rules), trying-holds x.walk.now.program.now x.walk.now.script.now x.lent.now.sets x.lent.now.numbers x.chosen.now x.spot.top x.spot.somes x.spot.left x.spot.at x.walk.now.limits c.all_targets-homes.result _ c.all_targets-homes.ensures.homes c.all_targets-homes.ensures.targets _ _ _ c.next_turn-turn.ensures)

pub sometime-next_state-requires : goal.sometime-next_state-requires
sometime-next_state-requires t c =
    let w = c.loop-turn.invariant.1.turn.within in
    let low : c.loop-turn.turn.from - 1 < c.args.walk.now.limits.limit = omega (arith, w.begun c.loop-turn-test.true, w.low c.loop-turn-test.true) in
    let target-low = first-low _ _ c.loop-turn.invariant.0 c.loop-turn-test.true c.first-t.ensures in
    let few = c.requires.2.few-numbers in
    (λ b u e. step-moves (λ (y : ℕ) (z : ℕ). (y < 64) × (z < 64)) _ _ b u e (omega (arith, low, few, target-low), omega (arith, low, few, target-low)), λ i n e. absurd (step-apart _ _ i n e), c.requires.2.state)

pub sometime-returns-in_default-w2 : goal.sometime-returns-in_default-w2
sometime-returns-in_default-w2 t c =
    let x = c.args in
    let m = c.next_state.ensures in
    sometime-then x.walk.now.program.now x.walk.now.script.now x.lent.now.sets x.lent.now.numbers x.chosen.now x.spot.top x.spot.somes x.spot.left x.spot.at x.walk.now.limits x.c _ c.visit-w.ensures _ c.in-No.is _
    (trying-stops x.walk.now.program.now x.walk.now.script.now x.lent.now.sets x.lent.now.numbers x.chosen.now x.spot.top x.spot.somes x.spot.left x.spot.at x.walk.now.limits c.all_targets-homes.result _ c.all_targets-homes.ensures.homes c.all_targets-homes.ensures.targets _ _ _ _ _ c.loop-turn.invariant.1 c.loop-turn.invariant.0 c.loop-turn-test.true c.first-t.ensures _ _ _
    m.lends (m.made _ _ refl).0 (m.made _ _ refl).1 (m.made _ _ refl).2 _ c.visit-w2.ensures c.in_default-w2.not-No)

pub sometime-loop-turn-smaller : goal.sometime-loop-turn-smaller
sometime-loop-turn-smaller t c =
    let x = c.args in
    trying-less x.walk.now.program.now x.walk.now.script.now x.lent.now.sets x.lent.now.numbers x.chosen.now x.spot.top x.spot.somes x.spot.left x.spot.at x.walk.now.limits _ _ _ _ _ c.loop-turn.invariant.1 c.loop-turn.invariant.0 c.loop-turn-test.true _ _ c.next_turn-turn-in-loop-turn.ensures

pub sometime-loop-turn-preserved : goal.sometime-loop-turn-preserved
sometime-loop-turn-preserved t c =
    let x = c.args in
    let m = c.next_state.ensures in (
      search (c.next_turn-turn-in-loop-turn.type_inv, rules),
      trying-again x.walk.now.program.now x.walk.now.script.now x.lent.now.sets x.lent.now.numbers x.chosen.now x.spot.top x.spot.somes x.spot.left x.spot.at x.walk.now.limits c.all_targets-homes.result _ c.all_targets-homes.ensures.homes c.all_targets-homes.ensures.targets _ _ _ _ _ c.loop-turn.invariant.1 c.loop-turn.invariant.0 c.loop-turn-test.true c.first-t.ensures _ _ _
          m.lends (m.made _ _ refl).0 (m.made _ _ refl).1 (m.made _ _ refl).2 _ c.visit-w2.ensures _ c.in-No-w2.is _ _ c.next_turn-turn-in-loop-turn.ensures,
    )

pub sometime-returns : goal.sometime-returns
sometime-returns t c =
    let x = c.args in
    sometime-then x.walk.now.program.now x.walk.now.script.now x.lent.now.sets x.lent.now.numbers x.chosen.now x.spot.top x.spot.somes x.spot.left x.spot.at x.walk.now.limits x.c _ c.visit-w.ensures _ c.in-No.is _ (trying-ends x.walk.now.program.now x.walk.now.script.now x.lent.now.sets x.lent.now.numbers x.chosen.now x.spot.top x.spot.somes x.spot.left x.spot.at x.walk.now.limits _ _ _ _ _ c.loop-turn.invariant.1 c.loop-turn-test.false)

-- ---- SOMEWHERE

pub somewhere-returns-in_default : goal.somewhere-returns-in_default
somewhere-returns-in_default t c = let x = c.args in somewhere-first x.walk.now.program.now x.walk.now.script.now x.lent.now.sets x.lent.now.numbers x.chosen.now x.spot.top x.spot.somes x.spot.left x.spot.at x.walk.now.limits x.c _ c.visit-w.ensures c.in_default.not-No

pub somewhere-loop-rest-init : goal.somewhere-loop-rest-init
somewhere-loop-rest-init t c =
    let x = c.args in
    (c.intersection-rest.type_inv, seeking-holds x.walk.now.program.now x.walk.now.script.now x.lent.now.sets x.lent.now.numbers x.chosen.now x.spot.top x.spot.somes x.spot.left x.spot.at x.walk.now.limits _ _ c.intersection-rest.ensures)

pub somewhere-rest-others-requires : goal.somewhere-rest-others-requires
somewhere-rest-others-requires t c = not_none _ c.loop-rest.invariant.0 c.loop-rest-test.true

pub somewhere-offset_bounds-lent-i : goal.somewhere-offset_bounds-lent-i
somewhere-offset_bounds-lent-i t c = omega (arith, first-low _ _ c.loop-rest.invariant.0 c.loop-rest-test.true c.first-i.ensures)

pub somewhere-bounds-lent-i : goal.somewhere-bounds-lent-i
somewhere-bounds-lent-i t c = omega (arith, first-low _ _ c.loop-rest.invariant.0 c.loop-rest-test.true c.first-i.ensures)

pub somewhere-returns-in_default-w2 : goal.somewhere-returns-in_default-w2
somewhere-returns-in_default-w2 t c =
    let x = c.args in
    somewhere-then x.walk.now.program.now x.walk.now.script.now x.lent.now.sets x.lent.now.numbers x.chosen.now x.spot.top x.spot.somes x.spot.left x.spot.at x.walk.now.limits x.c _ c.visit-w.ensures _ c.in-No.is _
    (seeking-stops x.walk.now.program.now x.walk.now.script.now x.lent.now.sets x.lent.now.numbers x.chosen.now x.spot.top x.spot.somes x.spot.left x.spot.at x.walk.now.limits _ _ _ _ _ c.loop-rest.invariant.1 c.loop-rest.invariant.0 c.loop-rest-test.true c.first-i.ensures c.rest-others.ensures _ c.visit-w2.ensures c.in_default-w2.not-No)

pub somewhere-loop-rest-smaller : goal.somewhere-loop-rest-smaller
somewhere-loop-rest-smaller t c = rest-shorter _ _ _ c.loop-rest.invariant.0 c.loop-rest-test.true c.first-i.ensures c.rest-others.ensures

pub somewhere-loop-rest-preserved : goal.somewhere-loop-rest-preserved
somewhere-loop-rest-preserved t c =
    let x = c.args in
    (c.rest-others.type_inv, seeking-again x.walk.now.program.now x.walk.now.script.now x.lent.now.sets x.lent.now.numbers x.chosen.now x.spot.top x.spot.somes x.spot.left x.spot.at x.walk.now.limits _ _ _ _ _ c.loop-rest.invariant.1 c.loop-rest.invariant.0 c.loop-rest-test.true c.first-i.ensures c.rest-others.ensures _ c.visit-w2.ensures _ c.in-No-w2.is)

pub somewhere-returns : goal.somewhere-returns
somewhere-returns t c =
    let x = c.args in
    somewhere-then x.walk.now.program.now x.walk.now.script.now x.lent.now.sets x.lent.now.numbers x.chosen.now x.spot.top x.spot.somes x.spot.left x.spot.at x.walk.now.limits x.c _ c.visit-w.ensures _ c.in-No.is _ (seeking-ends x.walk.now.program.now x.walk.now.script.now x.lent.now.sets x.lent.now.numbers x.chosen.now x.spot.top x.spot.somes x.spot.left x.spot.at x.walk.now.limits _ _ _ c.loop-rest.invariant.1 c.loop-rest-test.false)

-- ---- a share of BESIDE

pub split-returns-in_default : goal.split-returns-in_default
split-returns-in_default t c = let x = c.args in split-stops x.walk.now.program.now x.walk.now.script.now x.lent.now.sets x.lent.now.numbers x.chosen.now x.spot.top x.spot.somes x.spot.left x.spot.at x.walk.now.limits x.c _ x.share c.visit-w.ensures c.in_default.not-Yes

pub split-returns : goal.split-returns
split-returns t c =
    let x = c.args in
    split_goes x.walk.now.program.now x.walk.now.script.now x.lent.now.sets x.lent.now.numbers x.chosen.now x.spot.top x.spot.somes x.spot.left x.spot.at x.walk.now.limits x.c _ x.share c.visit-w.ensures _ _ _ _ c.in-Yes.is c.right_rule.ensures c.difference.ensures c.visit.ensures

-- ---- a visit

pub visit-returns-then-left-eq0 : goal.visit-returns-then-left-eq0
visit-returns-then-left-eq0 t c = let x = c.args in deep-visits x.walk.now.program.now x.walk.now.script.now x.lent.now.sets x.lent.now.numbers x.chosen.now x.spot.top x.spot.somes x.spot.left x.spot.at x.walk.now.limits x.c c.if-left-eq0.true

pub visit-returns-then-walk-visits : goal.visit-returns-then-walk-visits
visit-returns-then-walk-visits t c = let x = c.args in over-visits x.walk.now.program.now x.walk.now.script.now x.lent.now.sets x.lent.now.numbers x.chosen.now x.spot.top x.spot.somes x.spot.left x.spot.at x.walk.now.limits x.c c.if-left-eq0.false c.if-walk-visits.true

pub visit-returns-then-at-ge-WORDS : goal.visit-returns-then-at-ge-WORDS
visit-returns-then-at-ge-WORDS t c = let x = c.args in outside-visits x.walk.now.program.now x.walk.now.script.now x.lent.now.sets x.lent.now.numbers x.chosen.now x.spot.top x.spot.somes x.spot.left x.spot.at x.walk.now.limits x.c c.if-at-ge-WORDS.true _

pub visit-returns-in-0 : goal.visit-returns-in-0
visit-returns-in-0 t c =
    let x = c.args in
    counted-visits x.walk.now.program.now x.walk.now.script.now x.lent.now.sets x.lent.now.numbers x.chosen.now x.spot.top x.spot.somes x.spot.left x.spot.at x.walk.now.limits x.c c.if-left-eq0.false c.requires.0 c.if-walk-visits.false _ c.next_count-n.ensures.visits c.next_count-n.ensures.deepest 0 c.in-0.is _ (truth-finds x.walk.now.program.now x.walk.now.script.now x.lent.now.sets x.lent.now.numbers x.chosen.now x.spot.top x.spot.somes (x.spot.left - 1) x.spot.at x.walk.now.limits _)

pub visit-returns-in-1 : goal.visit-returns-in-1
visit-returns-in-1 t c =
    let x = c.args in
    counted-visits x.walk.now.program.now x.walk.now.script.now x.lent.now.sets x.lent.now.numbers x.chosen.now x.spot.top x.spot.somes x.spot.left x.spot.at x.walk.now.limits x.c c.if-left-eq0.false c.requires.0 c.if-walk-visits.false _ c.next_count-n.ensures.visits c.next_count-n.ensures.deepest 1 c.in-1.is _ c.negation.ensures

pub visit-returns-in-2 : goal.visit-returns-in-2
visit-returns-in-2 t c =
    let x = c.args in
    counted-visits x.walk.now.program.now x.walk.now.script.now x.lent.now.sets x.lent.now.numbers x.chosen.now x.spot.top x.spot.somes x.spot.left x.spot.at x.walk.now.limits x.c c.if-left-eq0.false c.requires.0 c.if-walk-visits.false _ c.next_count-n.ensures.visits c.next_count-n.ensures.deepest 2 c.in-2.is _ c.either.ensures

pub visit-returns-in-3 : goal.visit-returns-in-3
visit-returns-in-3 t c =
    let x = c.args in
    counted-visits x.walk.now.program.now x.walk.now.script.now x.lent.now.sets x.lent.now.numbers x.chosen.now x.spot.top x.spot.somes x.spot.left x.spot.at x.walk.now.limits x.c c.if-left-eq0.false c.requires.0 c.if-walk-visits.false _ c.next_count-n.ensures.visits c.next_count-n.ensures.deepest 3 c.in-3.is _ (void-finds x.walk.now.program.now x.walk.now.script.now x.lent.now.sets x.lent.now.numbers x.chosen.now x.spot.top x.spot.somes (x.spot.left - 1) x.spot.at x.walk.now.limits _ _ (search rules) c.void_rule.ensures)

pub visit-returns-in-4 : goal.visit-returns-in-4
visit-returns-in-4 t c =
    let x = c.args in
    counted-visits x.walk.now.program.now x.walk.now.script.now x.lent.now.sets x.lent.now.numbers x.chosen.now x.spot.top x.spot.somes x.spot.left x.spot.at x.walk.now.limits x.c c.if-left-eq0.false c.requires.0 c.if-walk-visits.false _ c.next_count-n.ensures.visits c.next_count-n.ensures.deepest 4 c.in-4.is _ c.at_name.ensures

pub visit-returns-in-5 : goal.visit-returns-in-5
visit-returns-in-5 t c =
    let x = c.args in
    counted-visits x.walk.now.program.now x.walk.now.script.now x.lent.now.sets x.lent.now.numbers x.chosen.now x.spot.top x.spot.somes x.spot.left x.spot.at x.walk.now.limits x.c c.if-left-eq0.false c.requires.0 c.if-walk-visits.false _ c.next_count-n.ensures.visits c.next_count-n.ensures.deepest 5 c.in-5.is _ c.beside.ensures

pub visit-returns-in-6 : goal.visit-returns-in-6
visit-returns-in-6 t c =
    let x = c.args in
    counted-visits x.walk.now.program.now x.walk.now.script.now x.lent.now.sets x.lent.now.numbers x.chosen.now x.spot.top x.spot.somes x.spot.left x.spot.at x.walk.now.limits x.c c.if-left-eq0.false c.requires.0 c.if-walk-visits.false _ c.next_count-n.ensures.visits c.next_count-n.ensures.deepest 6 c.in-6.is _ c.some_name.ensures

pub visit-returns-in-7 : goal.visit-returns-in-7
visit-returns-in-7 t c =
    let x = c.args in
    counted-visits x.walk.now.program.now x.walk.now.script.now x.lent.now.sets x.lent.now.numbers x.chosen.now x.spot.top x.spot.somes x.spot.left x.spot.at x.walk.now.limits x.c c.if-left-eq0.false c.requires.0 c.if-walk-visits.false _ c.next_count-n.ensures.visits c.next_count-n.ensures.deepest 7 c.in-7.is _ c.sometime.ensures

pub visit-returns-in-8 : goal.visit-returns-in-8
visit-returns-in-8 t c =
    let x = c.args in
    counted-visits x.walk.now.program.now x.walk.now.script.now x.lent.now.sets x.lent.now.numbers x.chosen.now x.spot.top x.spot.somes x.spot.left x.spot.at x.walk.now.limits x.c c.if-left-eq0.false c.requires.0 c.if-walk-visits.false _ c.next_count-n.ensures.visits c.next_count-n.ensures.deepest 8 c.in-8.is _ c.somewhere.ensures

pub visit-returns-in-9 : goal.visit-returns-in-9
visit-returns-in-9 t c =
    let x = c.args in
    counted-visits x.walk.now.program.now x.walk.now.script.now x.lent.now.sets x.lent.now.numbers x.chosen.now x.spot.top x.spot.somes x.spot.left x.spot.at x.walk.now.limits x.c c.if-left-eq0.false c.requires.0 c.if-walk-visits.false _ c.next_count-n.ensures.visits c.next_count-n.ensures.deepest 9 c.in-9.is _ c.placed_in.ensures

pub visit-returns-in-10-to-4294967295 : goal.visit-returns-in-10-to-4294967295
visit-returns-in-10-to-4294967295 t c =
    let x = c.args in
    counted-visits x.walk.now.program.now x.walk.now.script.now x.lent.now.sets x.lent.now.numbers x.chosen.now x.spot.top x.spot.somes x.spot.left x.spot.at x.walk.now.limits x.c c.if-left-eq0.false c.requires.0 c.if-walk-visits.false _ c.next_count-n.ensures.visits c.next_count-n.ensures.deepest _ refl _ (none-finds x.walk.now.program.now x.walk.now.script.now x.lent.now.sets x.lent.now.numbers x.chosen.now x.spot.top x.spot.somes (x.spot.left - 1) x.spot.at x.walk.now.limits _ _ (omega arith) _)

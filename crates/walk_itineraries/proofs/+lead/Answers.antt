-- `lead` meets its contract: how the visit begins, and move by move. Assumes nothing.
use Prim.Native.Nat.{ℕ, ◌-◌, ◌≤◌, ◌<◌}
use mathlib.Core.Path.{◌≡◌, refl, ◌∙◌}
use native.Mathlib.Omega.{arith}
use borrow.Author.Rules.{rules}
use Rattle.base_sets.proofs.Members.{first-low}
use Rattle.walk_stages.specs.Order.{TurnWithin}
use Rattle.walk_stages.proofs.Turns.{trying-less, trying-holds, turn-again}
use Rattle.walk_states.proofs.Lendings.{step-moves, step-apart}
use Rattle.walk_itineraries.proofs.Guiding.{leads-first, leads-none, leads-move, leads-there}
use Rattle.walk_itineraries.proofs.+lead.Goals as goal

-- the actor of a turn is below the limit, so below 64
actor-low : (limit from rest : ℕ) → TurnWithin limit from rest → (rest ≡ 0 → ⊥) → limit ≤ 64 → from - 1 < 64
actor-low limit from rest w n l = omega (arith, w.begun n, w.low n)

-- ---- the visit begins

pub returns-in_default : goal.returns-in_default
returns-in_default t c =
    let x = c.args in record {
      kept = c.requires.1;
      guides = leads-first x.walk.now.program.now x.walk.now.script.now x.lent.now.sets x.lent.now.numbers x.chosen.now x.spot.top x.spot.somes x.spot.left x.spot.at x.walk.now.limits x.c _ _ c.begin-walked.ensures c.in_default.not-No;
    }

pub loop-turn-init : goal.loop-turn-init
loop-turn-init t c =
    let x = c.args in record {
      long = c.requires.1;
      small = search (c.next_turn-turn.type_inv, rules);
      trying = trying-holds x.walk.now.program.now x.walk.now.script.now x.lent.now.sets x.lent.now.numbers x.chosen.now x.spot.top x.spot.somes (x.spot.left - 1) x.spot.at x.walk.now.limits c.all_targets-homes.result _ c.all_targets-homes.ensures.homes c.all_targets-homes.ensures.targets _ _ _ c.next_turn-turn.ensures;
    }

-- ---- a move

pub next_state-requires : goal.next_state-requires
next_state-requires t c =
    let low = actor-low _ _ _ c.loop-turn.invariant.trying.turn.within c.loop-turn-test.true c.requires.2.few-numbers in
    let less = first-low _ _ c.loop-turn.invariant.small c.loop-turn-test.true c.first-t.ensures in
    (λ b u e. step-moves (λ (y : ℕ) (z : ℕ). (y < 64) × (z < 64)) _ _ b u e (low, less), λ i n e. absurd (step-apart _ _ i n e), c.requires.2.state)

pub note_move-requires : goal.note_move-requires
note_move-requires t c = (
  c.begin-walked.ensures.depths _ c.in-No.is,
  c.requires.0,
  actor-low _ _ _ c.loop-turn.invariant.trying.turn.within c.loop-turn-test.true c.requires.2.few-numbers,
  first-low _ _ c.loop-turn.invariant.small c.loop-turn-test.true c.first-t.ensures,
)

pub returns-in_default-walked : goal.returns-in_default-walked
returns-in_default-walked t c =
    let x = c.args in
    let z = c.next_state.ensures in record {
      kept = c.note_move.ensures.kept ∙ c.lead-led.ensures.kept;
      guides = leads-move x.walk.now.program.now x.walk.now.script.now x.lent.now.sets x.lent.now.numbers x.chosen.now x.spot.top x.spot.somes x.spot.left x.spot.at x.walk.now.limits x.c _ c.begin-walked.ensures _ c.in-No.is
          c.all_targets-homes.result _ c.all_targets-homes.ensures.homes c.all_targets-homes.ensures.targets _ _ _ _ c.loop-turn.invariant.trying c.loop-turn.invariant.small c.loop-turn-test.true c.first-t.ensures _ _ _
          z.lends (z.made _ _ refl).0 (z.made _ _ refl).1 (z.made _ _ refl).2 _ _ _ c.lead-led.ensures.guides c.in_default-walked.not-No c.requires.0 c.lead-led.ensures.kept _ _ c.note_move.ensures.noted (omega arith);
    }

-- ---- the next move

pub loop-turn-smaller : goal.loop-turn-smaller
loop-turn-smaller t c =
    let x = c.args in
    trying-less x.walk.now.program.now x.walk.now.script.now x.lent.now.sets x.lent.now.numbers x.chosen.now x.spot.top x.spot.somes (x.spot.left - 1) x.spot.at x.walk.now.limits _ _ _ _ _ c.loop-turn.invariant.trying c.loop-turn.invariant.small c.loop-turn-test.true _ _ c.next_turn-turn-in-loop-turn.ensures

pub loop-turn-preserved : goal.loop-turn-preserved
loop-turn-preserved t c =
    let x = c.args in
    let z = c.next_state.ensures in record {
      long = c.lead-led.ensures.kept;
      small = search (c.next_turn-turn-in-loop-turn.type_inv, rules);
      trying = turn-again x.walk.now.program.now x.walk.now.script.now x.lent.now.sets x.lent.now.numbers x.chosen.now x.spot.top x.spot.somes (x.spot.left - 1) x.spot.at x.walk.now.limits c.all_targets-homes.result _ c.all_targets-homes.ensures.homes c.all_targets-homes.ensures.targets _ _ _ _ _ c.loop-turn.invariant.trying c.loop-turn.invariant.small c.loop-turn-test.true c.first-t.ensures _ _ _
          z.lends (z.made _ _ refl).0 (z.made _ _ refl).1 (z.made _ _ refl).2 _ (leads-there c.lead-led.ensures.guides) _ c.in-No-walked.is _ _ c.next_turn-turn-in-loop-turn.ensures;
    }

-- none leads to a yes
pub returns-clause-guides : goal.returns-clause-guides
returns-clause-guides t c =
    let x = c.args in
    leads-none x.walk.now.program.now x.walk.now.script.now x.lent.now.sets x.lent.now.numbers x.chosen.now x.spot.top x.spot.somes x.spot.left x.spot.at x.walk.now.limits x.c _ c.begin-walked.ensures _ c.in-No.is _ _ _ _ c.loop-turn.invariant.trying c.loop-turn-test.false _

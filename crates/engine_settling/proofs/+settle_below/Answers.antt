-- `settle_below` meets its contract: one law of settling for each way on. Assumes nothing.
use Prim.Native.Nat.{ℕ, ◌-◌, ◌^◌, ◌<◌}
use mathlib.Core.Bool.{true, false}
use mathlib.Core.List.{List, ◌∷◌, tail}
use mathlib.Core.Path.{◌≡◌, refl, sym, ap, ◌∙◌, subst}
use lib.ListN.{set}
use lib.Seq.{get_or-set_same, get_or-set_other}
use native.Mathlib.Omega.{arith}
use borrow.Author.Tests.{eq-eqb, ne_eqb}
use Rattle.base_sets.specs.Sets.{members, in_both, head_or}
use Rattle.base_sets.proofs.Members.{first-is, first-low, not_none, members-rising, first-and-rest}
use Rattle.read_scripts.specs.Tree.{is_ambient}
use Rattle.read_scripts.specs.Represents.{body_in}
use Rattle.theory_closures.specs.Closure.{ClosureHead, Bindings}
use Rattle.engine_states.specs.Searches.{Settles}
use Rattle.engine_states.specs.Seen.{busy_under}
use Rattle.engine_settling.proofs.Settling.{not-busy, busy-ambient, busy-spent, none-busy, some-busy, settle-quiet, settle-no-fuel, settle-keeps, settle-melts, settle-enters}
use Rattle.engine_settling.proofs.+settle_below.Goals as goal

-- where one of left is busy, it has a first
module _ (left busy both' i : ℕ) (small : both' < 2 ^ 64) (is : members both' ≡ in_both (members left) (members busy)) (some : both' ≡ 0 → ⊥) (fits : left < 2 ^ 64) (first : i ≡ head_or 64 (members left)) where
  begins : members left ≡ i ∷ tail (members left)
  begins = first-is left i fits (some-busy left busy both' small is some) first

  low : i < 64
  low = first-low left i fits (some-busy left busy both' small is some) first

-- the parts beside it are settled
beside : (sets after : List ℕ) (others : ℕ) (rest : List ℕ) (r fuel : ℕ) (σ : Bindings) (w : ℕ → ClosureHead) → members others ≡ rest
    → Settles σ (body_in sets) (body_in after) w (members others) (members r) (fuel - 1) → Settles σ (body_in sets) (body_in after) w rest (members r) (fuel - 1)
beside sets after others rest r fuel σ w e S = subst (λ (l : List ℕ). Settles σ (body_in sets) (body_in after) w l (members r) (fuel - 1)) e S

pub returns-then-intersection-eq0-clause-settled : goal.returns-then-intersection-eq0-clause-settled
returns-then-intersection-eq0-clause-settled t c σ w busy ambients =
    let k = body_in c.args.sets.now in
    settle-quiet σ k k w (members c.args.left) (members c.args.left) c.args.fuel (members-rising c.args.left)
    (none-busy c.args.left c.args.busy c.intersection.result c.intersection.type_inv c.intersection.ensures σ w busy c.if-intersection-eq0.true) refl (λ j. refl)

pub returns-then-fuel-eq0-clause-settled : goal.returns-then-fuel-eq0-clause-settled
returns-then-fuel-eq0-clause-settled t c σ w busy ambients =
    let k = body_in c.args.sets.now in
    settle-no-fuel σ k k w (members c.args.left) (members 0) c.args.fuel _ _ (first-and-rest c.args.left c.ranges.left.fits (some-busy c.args.left c.args.busy c.intersection.result c.intersection.type_inv c.intersection.ensures c.if-intersection-eq0.false)) c.if-fuel-eq0.true

pub rest-others-requires : goal.rest-others-requires
rest-others-requires t c = not_none c.args.left c.ranges.left.fits (some-busy c.args.left c.args.busy c.intersection.result c.intersection.type_inv c.intersection.ensures c.if-intersection-eq0.false)

pub has-requires : goal.has-requires
has-requires t c = low c.args.left c.args.busy c.intersection.result c.first-i.result c.intersection.type_inv c.intersection.ensures c.if-intersection-eq0.false c.ranges.left.fits c.first-i.ensures

pub offset_bounds-sets-i : goal.offset_bounds-sets-i
offset_bounds-sets-i t c = omega (arith, low c.args.left c.args.busy c.intersection.result c.first-i.result c.intersection.type_inv c.intersection.ensures c.if-intersection-eq0.false c.ranges.left.fits c.first-i.ensures)

pub bounds-sets-i : goal.bounds-sets-i
bounds-sets-i t c = omega (arith, low c.args.left c.args.busy c.intersection.result c.first-i.result c.intersection.type_inv c.intersection.ensures c.if-intersection-eq0.false c.ranges.left.fits c.first-i.ensures)

pub offset_bounds-numbers-i : goal.offset_bounds-numbers-i
offset_bounds-numbers-i t c = omega (arith, low c.args.left c.args.busy c.intersection.result c.first-i.result c.intersection.type_inv c.intersection.ensures c.if-intersection-eq0.false c.ranges.left.fits c.first-i.ensures)

pub bounds-numbers-i : goal.bounds-numbers-i
bounds-numbers-i t c = omega (arith, low c.args.left c.args.busy c.intersection.result c.first-i.result c.intersection.type_inv c.intersection.ensures c.if-intersection-eq0.false c.ranges.left.fits c.first-i.ensures)

pub bounds-sets-i-then-numbers-i : goal.bounds-sets-i-then-numbers-i
bounds-sets-i-then-numbers-i t c = omega (arith, low c.args.left c.args.busy c.intersection.result c.first-i.result c.intersection.type_inv c.intersection.ensures c.if-intersection-eq0.false c.ranges.left.fits c.first-i.ensures)

pub with-requires : goal.with-requires
with-requires t c = low c.args.left c.args.busy c.intersection.result c.first-i.result c.intersection.type_inv c.intersection.ensures c.if-intersection-eq0.false c.ranges.left.fits c.first-i.ensures

pub returns-then-numbers-i-clause-others : goal.returns-then-numbers-i-clause-others
returns-then-numbers-i-clause-others t c j l =
    let m = (low c.args.left c.args.busy c.intersection.result c.first-i.result c.intersection.type_inv c.intersection.ensures c.if-intersection-eq0.false c.ranges.left.fits c.first-i.ensures) in
    get_or-set_other c.settle_below-s.new.sets c.first-i.result j c.settle_below-s.result 0 (λ e. let z : ⊥ = omega arith in z) ∙ c.settle_below-s.ensures.others j l ∙ c.settle_below-rest.ensures.others j l

pub returns-then-numbers-i-clause-settled : goal.returns-then-numbers-i-clause-settled
returns-then-numbers-i-clause-settled t c σ w busy ambients =
    let y = c.settle_below-s in
    let i = c.first-i.result in
    let m = (low c.args.left c.args.busy c.intersection.result c.first-i.result c.intersection.type_inv c.intersection.ensures c.if-intersection-eq0.false c.ranges.left.fits c.first-i.ensures) in
    let a : is_ambient (w i) ≡ true = sym (ambients i m) ∙ eq-eqb _ 1 c.if-numbers-i.true in
    settle-enters σ (body_in c.args.sets.now) (body_in c.settle_below-rest.new.sets) w (members c.args.left) (members c.settle_below-rest.result) c.args.fuel i (tail (members c.args.left)) (members c.with.result)
    (begins c.args.left c.args.busy c.intersection.result c.first-i.result c.intersection.type_inv c.intersection.ensures c.if-intersection-eq0.false c.ranges.left.fits c.first-i.ensures)
    (beside c.args.sets.now c.settle_below-rest.new.sets c.rest-others.result (tail (members c.args.left)) c.settle_below-rest.result c.args.fuel σ w c.rest-others.ensures (c.settle_below-rest.ensures.settled σ w busy ambients))
    (body_in y.new.sets) (members y.result) (y.ensures.settled σ w busy ambients) (body_in (set y.new.sets i y.result)) (busy-ambient σ (w i) a) a c.with.ensures
    (ap members (get_or-set_same y.new.sets i y.result 0 (omega (arith, y.ensures.kept)))) (λ j d. sym (ap members (get_or-set_other y.new.sets i j y.result 0 d)))

pub returns-then-has-clause-settled : goal.returns-then-has-clause-settled
returns-then-has-clause-settled t c σ w busy ambients =
    let y = c.settle_below-s in
    let i = c.first-i.result in
    let m = (low c.args.left c.args.busy c.intersection.result c.first-i.result c.intersection.type_inv c.intersection.ensures c.if-intersection-eq0.false c.ranges.left.fits c.first-i.ensures) in
    let b : busy_under σ (w i) ≡ true = sym (busy i m) ∙ sym c.has.ensures ∙ c.if-has.true in
    let n : is_ambient (w i) ≡ false = sym (ambients i m) ∙ ne_eqb _ 1 c.if-numbers-i.false in
    settle-melts σ (body_in c.args.sets.now) (body_in c.settle_below-rest.new.sets) w (members c.args.left) (members c.settle_below-rest.result) c.args.fuel i (tail (members c.args.left)) (members c.union.result)
    (begins c.args.left c.args.busy c.intersection.result c.first-i.result c.intersection.type_inv c.intersection.ensures c.if-intersection-eq0.false c.ranges.left.fits c.first-i.ensures)
    (beside c.args.sets.now c.settle_below-rest.new.sets c.rest-others.result (tail (members c.args.left)) c.settle_below-rest.result c.args.fuel σ w c.rest-others.ensures (c.settle_below-rest.ensures.settled σ w busy ambients))
    (body_in y.new.sets) (members y.result) (y.ensures.settled σ w busy ambients) (busy-spent σ (w i) b n) c.union.ensures

pub with-requires-2 : goal.with-requires-2
with-requires-2 t c = low c.args.left c.args.busy c.intersection.result c.first-i.result c.intersection.type_inv c.intersection.ensures c.if-intersection-eq0.false c.ranges.left.fits c.first-i.ensures

pub returns-clause-settled : goal.returns-clause-settled
returns-clause-settled t c σ w busy ambients =
    let i = c.first-i.result in
    let m = (low c.args.left c.args.busy c.intersection.result c.first-i.result c.intersection.type_inv c.intersection.ensures c.if-intersection-eq0.false c.ranges.left.fits c.first-i.ensures) in
    let (bare, amb) = not-busy σ (w i) (sym (busy i m) ∙ sym c.has.ensures ∙ c.if-has.false) in
    settle-keeps σ (body_in c.args.sets.now) (body_in c.settle_below-rest.new.sets) w (members c.args.left) (members c.settle_below-rest.result) c.args.fuel i (tail (members c.args.left)) (members c.with-2.result)
    (begins c.args.left c.args.busy c.intersection.result c.first-i.result c.intersection.type_inv c.intersection.ensures c.if-intersection-eq0.false c.ranges.left.fits c.first-i.ensures)
    (beside c.args.sets.now c.settle_below-rest.new.sets c.rest-others.result (tail (members c.args.left)) c.settle_below-rest.result c.args.fuel σ w c.rest-others.ensures (c.settle_below-rest.ensures.settled σ w busy ambients)) bare amb c.with-2.ensures

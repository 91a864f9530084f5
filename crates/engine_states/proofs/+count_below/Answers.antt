-- `count_below` meets its contract: one law of counting for each way on. The measure is the fuel. Assumes nothing.
use Prim.Native.Nat.{ℕ, ◌-◌}
use mathlib.Core.List.{List, tail}
use mathlib.Core.Path.{ap, ◌∙◌, subst}
use native.Mathlib.Omega.{arith}
use Rattle.base_sets.specs.Sets.{members}
use Rattle.base_sets.proofs.Members.{first-is, first_below, not_none, members-empty}
use Rattle.read_scripts.specs.Represents.{body_in}
use Rattle.engine_states.specs.Searches.{CountsParts}
use Rattle.engine_states.proofs.Weighing.{count_none, count-part, count-many}
use Rattle.engine_states.proofs.+count_below.Goals.{then-left-eq0-via-then-left-eq0, then-left-eq0-via-else-left-eq0+then-fuel-eq0}
use Rattle.engine_states.proofs.+count_below.Goals as goal

pub returns-then-left-eq0-clause-counted : goal.returns-then-left-eq0-clause-counted
returns-then-left-eq0-clause-counted t c few =
    elim c.then-left-eq0.branch [
      | then-left-eq0-via-then-left-eq0 w ↦ count_none (body_in c.args.kids.now) (members c.args.left) c.args.fuel (ap members w.if-left-eq0.true ∙ members-empty)
      | then-left-eq0-via-else-left-eq0+then-fuel-eq0 w ↦ λ g b e h m. omega (arith, w.if-fuel-eq0.true)
    ]

pub rest-others-requires : goal.rest-others-requires
rest-others-requires t c = not_none c.args.left c.ranges.left.fits c.if-left-eq0.false

pub offset_bounds-kids-i : goal.offset_bounds-kids-i
offset_bounds-kids-i t c =
    let f = first-is c.args.left c.first-i.result c.ranges.left.fits c.if-left-eq0.false c.first-i.ensures in
    omega (arith, first_below c.args.left c.first-i.result (tail (members c.args.left)) f)

pub bounds-kids-i : goal.bounds-kids-i
bounds-kids-i t c =
    let f = first-is c.args.left c.first-i.result c.ranges.left.fits c.if-left-eq0.false c.first-i.ensures in
    omega (arith, first_below c.args.left c.first-i.result (tail (members c.args.left)) f)

pub returns-then-a-b-ge64-clause-counted : goal.returns-then-a-b-ge64-clause-counted
returns-then-a-b-ge64-clause-counted t c few =
    let f = first-is c.args.left c.first-i.result c.ranges.left.fits c.if-left-eq0.false c.first-i.ensures in
    let others : CountsParts (body_in c.args.kids.now) (tail (members c.args.left)) (c.args.fuel - 1) c.count_below-b.result =
    subst (λ (l : List ℕ). CountsParts (body_in c.args.kids.now) l (c.args.fuel - 1) c.count_below-b.result) c.rest-others.ensures (c.count_below-b.ensures.counted (omega arith)) in
    count-many (body_in c.args.kids.now) (members c.args.left) c.args.fuel c.first-i.result c.count_below-a.result c.count_below-b.result (tail (members c.args.left)) f (c.count_below-a.ensures.counted (omega arith)) others few c.if-a-b-ge64.true

pub returns-clause-counted : goal.returns-clause-counted
returns-clause-counted t c few =
    let f = first-is c.args.left c.first-i.result c.ranges.left.fits c.if-left-eq0.false c.first-i.ensures in
    let others : CountsParts (body_in c.args.kids.now) (tail (members c.args.left)) (c.args.fuel - 1) c.count_below-b.result =
    subst (λ (l : List ℕ). CountsParts (body_in c.args.kids.now) l (c.args.fuel - 1) c.count_below-b.result) c.rest-others.ensures (c.count_below-b.ensures.counted (omega arith)) in
    count-part (body_in c.args.kids.now) (members c.args.left) c.args.fuel c.first-i.result c.count_below-a.result c.count_below-b.result (tail (members c.args.left)) f (c.count_below-a.ensures.counted (omega arith)) others

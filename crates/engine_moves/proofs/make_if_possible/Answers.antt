-- `make_if_possible` meets its contract: the target is among those of the actor, or the move cannot be made. Assumes nothing.
use mathlib.Core.Bool.{true, false, true≢false}
use mathlib.Core.Path.{◌≡◌, refl, sym, ◌∙◌}
use lib.ListN.{get_or}
use Rattle.theory_closures.specs.Closure.{closure_move}
use Rattle.engine_states.specs.Represents.{bound_in}
use Rattle.engine_targets.specs.Targets.{is_some}
use Rattle.engine_state_arrays.specs.Lent.{own_state}
use Rattle.engine_moves.proofs.Trying.{lent-homes, lent-targets}
use Rattle.engine_moves.proofs.make_if_possible.Goals as goal

pub returns-then-has-clause-made : goal.returns-then-has-clause-made
returns-then-has-clause-made c = (
  λ e. absurd (true≢false e),
  λ weight spent b few R.
      let can : true ≡ is_some (closure_move (bound_in c.args.script.now (own_state c.args.lent.now.sets c.args.lent.now.numbers)) c.args.a c.args.t b) =
      sym c.if-has.true ∙ c.has.ensures ∙ lent-targets c.args.script.now c.args.lent.now.sets c.args.lent.now.numbers c.requires.2 c.bodies-kids.result c.bodies-kids.ensures (λ i. get_or c.locate-homes.result i 0) c.locate-homes.ensures weight spent b few R c.args.a c.args.t c.targets-aimed.result c.requires.0 c.requires.1 c.targets-aimed.ensures in
      (can, λ e. c.make_move.ensures.made weight spent b few R (lent-homes c.args.script.now c.args.lent.now.sets c.args.lent.now.numbers c.requires.2 c.bodies-kids.result c.bodies-kids.ensures (λ i. get_or c.locate-homes.result i 0) c.locate-homes.ensures weight spent b few R, sym can)),
)

pub returns-clause-made : goal.returns-clause-made
returns-clause-made c = (
  λ e. refl,
  λ weight spent b few R.
      let cannot : false ≡ is_some (closure_move (bound_in c.args.script.now (own_state c.args.lent.now.sets c.args.lent.now.numbers)) c.args.a c.args.t b) =
      sym c.if-has.false ∙ c.has.ensures ∙ lent-targets c.args.script.now c.args.lent.now.sets c.args.lent.now.numbers c.requires.2 c.bodies-kids.result c.bodies-kids.ensures (λ i. get_or c.locate-homes.result i 0) c.locate-homes.ensures weight spent b few R c.args.a c.args.t c.targets-aimed.result c.requires.0 c.requires.1 c.targets-aimed.ensures in
      (cannot, λ e. absurd (true≢false (sym e))),
)

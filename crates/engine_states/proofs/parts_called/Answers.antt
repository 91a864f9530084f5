-- `parts_called` meets its contract: the parts below i that have that name in the array. Assumes nothing.
use mathlib.Core.Path.{refl, ap, ◌∙◌}
use Rattle.base_sets.specs.Sets.{members, elem}
use Rattle.base_sets.proofs.Members.{members-empty}
use Rattle.engine_states.proofs.Filling.{upto-none, upto_next, upto_all, called-set}
use Rattle.engine_states.proofs.parts_called.Goals as goal

pub loop-i-init : goal.loop-i-init
loop-i-init c = upto-none _ _ members-empty

pub loop-i-preserved : goal.loop-i-preserved
loop-i-preserved c = upto_next _ _ _ c.loop-i.invariant _ _ refl c.with_if-found.ensures

pub returns : goal.returns
returns c i m = ap (elem i) c.intersection.ensures ∙ called-set c.args.names.now.named c.args.names.now.names c.args.n (members c.loop-i.found) (upto_all _ _ _ c.loop-i.invariant c.loop-i-test.false) i m

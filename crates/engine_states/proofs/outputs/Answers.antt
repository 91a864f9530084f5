-- `outputs` meets its contract: the outputs below i. Assumes nothing.
use lib.ListN.{get_or}
use Rattle.base_sets.proofs.Members.{members-empty}
use Rattle.engine_states.proofs.Filling.{upto-none, upto_next}
use Rattle.engine_states.proofs.outputs.Goals as goal

pub loop-i-init : goal.loop-i-init
loop-i-init c s a o = upto-none _ _ members-empty

pub loop-i-preserved : goal.loop-i-preserved
loop-i-preserved c s a o = upto_next _ _ _ (c.loop-i.invariant s a o) _ _ (c.is_output.ensures s (get_or a c.loop-i.i 0) (get_or o c.loop-i.i 0)) c.with_if-found.ensures

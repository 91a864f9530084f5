-- `actor_of` meets its contract. Assumes nothing.
use mathlib.Core.Path.{refl}
use Rattle.read_messages.specs.Words.{operand}
use Rattle.call_lists.proofs.actor_of.Goals as goal

pub returns : goal.returns
unfolding operand
returns c = refl

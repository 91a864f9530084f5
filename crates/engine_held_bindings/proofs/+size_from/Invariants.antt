-- `engine_held_bindings::size_from` meets its contract. The measure falls with the words, and where there are none, with the
-- messages. Assumes nothing.
use Prim.Native.Nat.{◌+◌, ◌*◌}
use lib.ListN.{length}
use Rattle.engine_held_bindings.proofs.+size_from.Given as goal

abbrev pub decreases-size_from : goal.decreases-size_from
decreases-size_from l = 3 * length l.words.now + l.pending

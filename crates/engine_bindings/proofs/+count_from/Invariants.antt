-- `engine_bindings::count_from` meets its contract. The measure falls with the words, and where there are none, with the
-- messages. Assumes nothing.
use Prim.Native.Nat.{◌+◌, ◌*◌}
use lib.ListN.{length}
use Rattle.engine_bindings.proofs.+count_from.Given as goal

abbrev pub decreases-count_from : goal.decreases-count_from
decreases-count_from l = 3 * length l.words.now + l.pending

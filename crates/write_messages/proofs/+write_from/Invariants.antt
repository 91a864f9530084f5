-- The measure of `write_from`: it falls with the bindings, and then with the words and messages that are left. Assumes nothing.
use Prim.Native.Nat.{◌+◌, ◌*◌}
use lib.ListN.{length}
use Rattle.engine_bindings.proofs.Counting.{rank}
use Rattle.write_messages.proofs.+write_from.Given as goal

abbrev pub decreases-write_from : goal.decreases-write_from
decreases-write_from l = rank (length l.bindings.now) (3 * length l.words.now + l.pending)

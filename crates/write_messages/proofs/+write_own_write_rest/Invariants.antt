-- The measures of `write_own` and `write_rest`: they fall with the bindings, and then with the words and messages that are left.
-- Assumes nothing.
use Prim.Native.Nat.{suc, ◌+◌, ◌*◌}
use lib.ListN.{length}
use Rattle.engine_bindings.proofs.Counting.{rank}
use Rattle.write_messages.proofs.+write_own_write_rest.Given as goal

abbrev pub decreases-write_own : goal.decreases-write_own
decreases-write_own l = rank (length l.bindings.now) 0

abbrev pub decreases-write_rest : goal.decreases-write_rest
decreases-write_rest l = rank (length l.bindings.now) (suc (3 * length l.words.now + l.pending))

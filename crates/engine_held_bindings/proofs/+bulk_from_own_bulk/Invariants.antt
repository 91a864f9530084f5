-- The measures of `bulk_from` and `own_bulk`: they fall with the bindings, and then with the words and messages that are left.
-- Assumes nothing.
use Prim.Native.Nat.{suc, ◌+◌, ◌*◌}
use lib.ListN.{length}
use Rattle.engine_bindings.proofs.Counting.{rank}
use Rattle.engine_held_bindings.proofs.+bulk_from_own_bulk.Given as goal

abbrev pub decreases-bulk_from : goal.decreases-bulk_from
decreases-bulk_from l = rank (length l.bindings.now) (suc (3 * length l.words.now + l.pending))

abbrev pub decreases-own_bulk : goal.decreases-own_bulk
decreases-own_bulk l = rank (length l.bindings.now) 0

-- The measures of the cycle, by the words left, and the loop of `read_body`, which goes from part to part. Assumes nothing.
use Prim.Native.Nat.{◌-◌, ◌+◌, ◌*◌}
use lib.ListN.{length, drop}
use Rattle.read_scripts.proofs.Steps.{BodyLoop}
use Rattle.read_scripts.proofs.+read_body_read_guarded_read_part.Given as goal

abbrev pub invariant-read_body-loop-k : goal.invariant-read_body-loop-k
invariant-read_body-loop-k l = BodyLoop l.s l.at l.nest (drop l.around.first l.around.indices) l.owner l.initial.t l.k l.t

abbrev pub decreases-read_body-loop-k : goal.decreases-read_body-loop-k
decreases-read_body-loop-k l = length l.s - l.k

abbrev pub decreases-read_body : goal.decreases-read_body
decreases-read_body l = 3 * length l.s.now + 2

abbrev pub decreases-read_guarded : goal.decreases-read_guarded
decreases-read_guarded l = 3 * length l.s.now

abbrev pub decreases-read_part : goal.decreases-read_part
decreases-read_part l = 3 * length l.s.now + 1

-- The measures of `count_body` and `count_part`: twice the fuel, and one more for a part. Assumes nothing.
use Prim.Native.Nat.{suc, ◌*◌}
use Rattle.write_counts.proofs.+count_body_count_part.Given as goal

abbrev pub decreases-count_body : goal.decreases-count_body
decreases-count_body l = 2 * l.fuel

abbrev pub decreases-count_part : goal.decreases-count_part
decreases-count_part l = suc (2 * l.fuel)

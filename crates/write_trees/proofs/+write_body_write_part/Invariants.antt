-- The measures of `write_body` and `write_part`: twice the fuel, and one more for a part. Assumes nothing.
use Prim.Native.Nat.{suc, ◌*◌}
use Rattle.write_trees.proofs.+write_body_write_part.Given as goal

abbrev pub decreases-write_body : goal.decreases-write_body
decreases-write_body l = 2 * l.fuel

abbrev pub decreases-write_part : goal.decreases-write_part
decreases-write_part l = suc (2 * l.fuel)

-- `narrow` meets its contract: the first i numbers are copied. Assumes nothing.
use Prim.Native.Nat.{◌%◌}
use lib.ListN.{get_or}
use Rattle.base_arrays.proofs.Copying.{Filling}
use Rattle.base_arrays.proofs.narrow.Given as goal

abbrev pub invariant-loop-i : goal.invariant-loop-i
invariant-loop-i l = Filling (λ j. get_or l.from j 0 % 256) l.i l.r

-- `widen` meets its contract: the first i bytes are copied. Assumes nothing.
use lib.ListN.{get_or}
use Rattle.base_arrays.proofs.Copying.{Filling}
use Rattle.base_arrays.proofs.widen.Given as goal

abbrev pub invariant-loop-i : goal.invariant-loop-i
invariant-loop-i l = Filling (λ j. get_or l.from j 0) l.i l.r

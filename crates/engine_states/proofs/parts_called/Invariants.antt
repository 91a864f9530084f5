-- `parts_called`: the parts below i that have that name in the array. Assumes nothing.
use lib.Dec.{eqb}
use lib.ListN.{get_or}
use Rattle.base_sets.specs.Sets.{members}
use Rattle.engine_states.proofs.Filling.{Upto}
use Rattle.engine_states.proofs.parts_called.Given as goal

abbrev pub invariant-loop-i : goal.invariant-loop-i
invariant-loop-i l = Upto (λ j. eqb (get_or l.names.names j 0) l.n) l.i (members l.found)

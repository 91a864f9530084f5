-- `bindings_from`: the rows below i are read. Assumes nothing.
use mathlib.Core.Path.{◌≡◌}
use lib.ListN.{get_or, length}
use Rattle.engine_state_arrays.proofs.Rows.{Read}
use Rattle.engine_state_arrays.proofs.bindings_from.Given as goal

abbrev pub invariant-loop-i : goal.invariant-loop-i
invariant-loop-i l = record {
  first : l.bindings.first ≡ get_or l.numbers 480 0;
  long : length l.bindings.rows ≡ 32;
  read : Read l.numbers l.from l.i l.bindings.rows;
}

-- `with_bindings`: the rows below i are written, and no number before them. Assumes nothing.
use Prim.Native.Nat.{ℕ, ◌<◌}
use mathlib.Core.Path.{◌≡◌}
use lib.ListN.{get_or, length}
use Rattle.engine_state_arrays.proofs.Rows.{Written}
use Rattle.engine_state_arrays.proofs.with_bindings.Given as goal

abbrev pub invariant-loop-i : goal.invariant-loop-i
invariant-loop-i l = record {
  long : length l.r ≡ 481;
  written : Written l.bindings.rows l.i l.r;
  others : (j : ℕ) → j < 320 → get_or l.r j 0 ≡ get_or l.fn.numbers j 0;
}

-- `name_parts`: the names of the parts below i. Assumes nothing.
use Prim.Native.Nat.{ℕ}
use mathlib.Core.List.{List}
use Rattle.engine_bindings.specs.Bindings.{bindings_in}
use Rattle.theory_machine.specs.Moves.{head_name}
use Rattle.theory_closures.specs.Closure.{view_under}
use Rattle.engine_states.specs.Represents.{heads}
use Rattle.engine_states.proofs.Filling.{Filled}
use Rattle.engine_states.proofs.name_parts.Given as goal

abbrev pub invariant-loop-i : goal.invariant-loop-i
invariant-loop-i l = (offsets : List ℕ) → Filled (λ j. head_name (view_under (bindings_in l.script l.bindings)) (heads l.script l.kinds l.starts offsets j)) l.i l.t.named l.t.names

-- `outputs`: the outputs below i. Assumes nothing.
use Prim.Native.Nat.{ℕ}
use mathlib.Core.List.{List}
use Rattle.base_sets.specs.Sets.{members}
use Rattle.engine_states.specs.Represents.{heads}
use Rattle.engine_states.specs.Seen.{is_output}
use Rattle.engine_states.proofs.Filling.{Upto}
use Rattle.engine_states.proofs.outputs.Given as goal

abbrev pub invariant-loop-i : goal.invariant-loop-i
invariant-loop-i l = (script starts offsets : List ℕ) → Upto (λ j. is_output (heads script l.kinds starts offsets j)) l.i (members l.found)

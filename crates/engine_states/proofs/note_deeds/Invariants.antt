-- `note_deeds`: the names, then what each part below i does. Assumes nothing.
use Prim.Native.Nat.{ℕ, ◌<◌}
use mathlib.Core.Path.{◌≡◌}
use lib.ListN.{get_or}
use Rattle.engine_bindings.specs.Bindings.{bindings_in}
use Rattle.engine_states.specs.Represents.{heads}
use Rattle.engine_states.proofs.Deeds.{Done}
use Rattle.engine_states.proofs.note_deeds.Given as goal

-- the names are those of the table, and the parts below i are done
abbrev pub invariant-loop-i : goal.invariant-loop-i
invariant-loop-i l = record {
  named : l.l.named ≡ l.t.named;
  names : l.l.names ≡ l.t.names;
  done : ((j : ℕ) → get_or l.offsets j 0 < 4294967295) → Done (bindings_in l.script l.bindings) (heads l.script l.kinds l.starts l.offsets) l.i l.l;
}

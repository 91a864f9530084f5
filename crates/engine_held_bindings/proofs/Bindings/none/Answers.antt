-- `engine_held_bindings::Bindings::none` meets its contract: from 32 on there is nothing. Assumes nothing.
use mathlib.Core.Path.{refl}
use native.Mathlib.Omega.{arith}
use Rattle.engine_bindings.specs.Bindings.{bindings_in}
use Rattle.engine_held_bindings.specs.Held.{bindings_of}
use Rattle.engine_held_bindings.proofs.Sizing.{cached-none}
use Rattle.engine_held_bindings.proofs.Bindings.none.Goals as goal

pub returns : goal.returns
unfolding bindings_of bindings_in
returns c script = record { held = record { within = omega arith; cached = cached-none script }; none = refl; room = refl }

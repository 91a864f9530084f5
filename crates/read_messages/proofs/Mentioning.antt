-- Laws of the variables that stand in a message. Assumes nothing.
use Prim.Native.Nat.{ℕ}
use mathlib.Core.Bool.{false}
use mathlib.Core.Path.{◌≡◌}
use native.Mathlib.Omega.{arith}
use lib.Dec.{eqb}
use Rattle.base_slices.proofs.Tests.{by_test}
use Rattle.read_messages.specs.Message.{variable, mentions}

pub mentions-none : (u v : ℕ) → mentions v (variable u) ≡ 0 → eqb u v ≡ false
unfolding mentions
mentions-none u v z = by_test (eqb u v) (λ t. let f : ◌≡◌ {A = ℕ} 1 0 = rw t at z in absurd (omega arith)) (λ t. t)

pub mentions-other : (u v : ℕ) → eqb u v ≡ false → mentions v (variable u) ≡ 0
unfolding mentions
mentions-other u v e = rw e

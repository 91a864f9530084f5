-- The greatest of the numbers that some words say, from the last word on. Assumes nothing.
use Prim.Native.Nat.{ℕ, max}
use mathlib.Core.List.{List, [], ◌∷◌}
use mathlib.Core.Path.{◌≡◌}
use native.Mathlib.Omega.{arith}
use Rattle.std.specs.Prelude.{fold}
use Rattle.read_messages.specs.Words.{greatest_of}

module _ (f : ℕ → ℕ) where
  -- what was the greatest before may come at the end
  before : (g : ℕ) (ws : List ℕ) → fold (λ g w. max g (f w)) g ws ≡ max g (greatest_of f ws)
  before g [] = omega arith
  before g (w ∷ ws) = omega (arith, before (max g (f w)) ws, before (max 0 (f w)) ws)

  -- the same from the last word on, where a definition takes it so
  pub greatest-from : (d : List ℕ → ℕ) → d [] ≡ 0 → ((w : ℕ) (ws : List ℕ) → d (w ∷ ws) ≡ max (f w) (d ws)) → (ws : List ℕ) → greatest_of f ws ≡ d ws
  greatest-from d z s [] = omega arith
  greatest-from d z s (w ∷ ws) = omega (arith, before (max 0 (f w)) ws, greatest-from d z s ws, s w ws)

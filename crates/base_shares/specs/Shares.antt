-- The ways to divide a list in two, counted in binary: the first of the list changes sides at each step, the next at every second one, and so on. Assumes nothing.
use Rattle.std.specs.Prelude.{ℕ, ◌/◌, Bool, true, false, not, List, [], ◌∷◌}
use Rattle.base_sets.specs.Sets.{is_odd}

module _ {A : Type 0} where
  -- x in front of l where the test says so, and l alone where not
  abbrev pub put_if : Bool → A → List A → List A
  put_if true x l = x ∷ l
  put_if false x l = l

  -- share number k of l: those whose digit in k is 1, where the first of l has the last digit
  unfoldable pub picked : List A → ℕ → List A
  picked [] k = []
  picked (x ∷ l) k = put_if (is_odd k) x (picked l (k / 2))

  -- and the others
  unfoldable pub unpicked : List A → ℕ → List A
  unpicked [] k = []
  unpicked (x ∷ l) k = put_if (not (is_odd k)) x (unpicked l (k / 2))

  -- each division with x on the right, then with x on the left
  unfoldable pub spread : A → List (List A × List A) → List (List A × List A)
  spread x [] = []
  spread x (p ∷ t) = (p.0, x ∷ p.1) ∷ (x ∷ p.0, p.1) ∷ spread x t

  -- every division of l in two
  unfoldable pub shares : List A → List (List A × List A)
  shares [] = ([], []) ∷ []
  shares (x ∷ l) = spread x (shares l)

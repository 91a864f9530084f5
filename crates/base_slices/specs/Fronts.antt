-- Arrays that are filled from the end. Assumes nothing: these are definitions.
use Rattle.std.specs.Prelude.{ℕ, ◌+◌, List, ◌∷◌, ◌≡◌, drop}

-- The array `before` is filled from the index `first` on; `after`, from `next` on, has v in front of that.
pub record Fronted (v first : ℕ) (before : List ℕ) (next : ℕ) (after : List ℕ) : Type 0 where
  -- one index more is filled
  pub sooner : next + 1 ≡ first
  -- v stands there, and then what stood before
  pub holds : drop next after ≡ v ∷ drop first before

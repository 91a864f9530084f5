-- The chosen names, with a name put at an index, and the names that SOME tries. Assumes nothing: these are definitions.
use Rattle.std.specs.Prelude.{ℕ, ◌≤◌, ◌<◌, List, ◌≡◌, get_or}
use Rattle.walk_stages.specs.declared.Limits.{Limits}

-- r has the chosen names, with n at the index `at`
pub record ChosenAt (names : List ℕ) (at n : ℕ) (r : List ℕ) : Type 0 where
  -- n stands there
  pub here : get_or r at 0 ≡ n
  -- every other index has the name that it had
  pub elsewhere : (i : ℕ) → (i ≡ at → ⊥) → get_or r i 0 ≡ get_or names i 0

-- what the last name of a SOME is asked with
pub record LastNameAsked (limits : Limits) (somes : ℕ) : Type 0 where
  -- names have 28 bits
  pub small-names : limits.greatest < 268435456
  -- question 10 lets in eight SOMEs at most
  pub few-somes : somes ≤ 8

-- The moves that are still to be tried, in the walk's order: as pairs of an outer number and an inner one, by rising outer number,
-- then inner one. Assumes nothing: these are definitions.
use Rattle.std.specs.Prelude.{ℕ, zero, suc, ◌-◌, ◌≤◌, ◌≡◌, get_or}
use mathlib.Core.List.{List, [], ◌∷◌, ◌++◌, tail}
use Rattle.base_sets.specs.Sets.{members}

-- o with each of them
unfoldable pub paired : (o : ℕ) → List ℕ → List (ℕ × ℕ)
paired o [] = []
paired o (i ∷ l) = (o, i) ∷ paired o l

-- the outer numbers from, from + 1, .., n of them, each with the members of its set
unfoldable pub pairs_from : (inner : List ℕ) → (from n : ℕ) → List (ℕ × ℕ)
pairs_from inner from zero = []
pairs_from inner from (suc n) = paired from (members (get_or inner from 0)) ++ pairs_from inner (suc from) n

-- the outer number before `from` with the members of `rest`, then the outer numbers from `from` on
abbrev pub pairs_left : (inner : List ℕ) → (limit from rest : ℕ) → List (ℕ × ℕ)
pairs_left inner limit from rest = paired (from - 1) (members rest) ++ pairs_from inner from (limit - from)

-- those behind the first of them; where `rest` is empty, all from `from` on
abbrev pub pairs_behind : (inner : List ℕ) → (limit from rest : ℕ) → List (ℕ × ℕ)
pairs_behind inner limit from rest = paired (from - 1) (tail (members rest)) ++ pairs_from inner from (limit - from)

-- inner ones that are left are those of an outer number below the limit, the one before `from`
pub record TurnWithin (limit from rest : ℕ) : Type 0 where
  pub begun : (rest ≡ 0 → ⊥) → 1 ≤ from
  pub low : (rest ≡ 0 → ⊥) → from ≤ limit

-- The turn before `from` with the members of `rest` is the one at the pairs l: there are none where `rest` is empty.
pub record Turns (inner : List ℕ) (limit from rest : ℕ) (l : List (ℕ × ℕ)) : Type 0 where
  pub pairs : l ≡ pairs_left inner limit from rest
  pub within : TurnWithin limit from rest
  pub ends : rest ≡ 0 → l ≡ []

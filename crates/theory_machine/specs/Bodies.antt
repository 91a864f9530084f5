-- Finding parts in a body and rewriting it, by part numbers; `remove_part` goes through the parts as `removed` does through
-- the numbers of a list (base_sets, Sets). Assumes nothing: these are definitions.
use Rattle.std.specs.Prelude.{ℕ, Bool, true, false, cond, eqb}
use Rattle.std.proofs.Math.Option.{Option, none, some}
use Rattle.base_sets.specs.Sets.{elem}
use Rattle.read_scripts.specs.Tree.{Body, close, part, tops}

-- one look-up after another: where one finds nothing, all do
infixl 10 ◌>>=◌
unfoldable pub ◌>>=◌ : {A B : Type 0} → Option A → (A → Option B) → Option B
none >>= k = none
some a >>= k = k a

unfoldable pub check : Bool → Option (Unit {0})
check true = some tt
check false = none

module _ {H : Type 0} where
  -- the body's own part n, not one deeper: its head and the body inside it
  unfoldable pub find_part : ℕ → Body H → Option (H × Body H)
  find_part n close = none
  find_part n (part i h b r) = cond (eqb n i) (some (h, b)) (find_part n r)

  -- the body without its own part n
  unfoldable pub remove_part : ℕ → Body H → Body H
  remove_part n close = close
  remove_part n (part i h b r) = cond (eqb n i) (remove_part n r) (part i h b (remove_part n r))

  -- the body with the head and the inside of its own part n changed
  unfoldable pub alter : ℕ → (H → H) → (Body H → Body H) → Body H → Body H
  alter n f g close = close
  alter n f g (part i h b r) = cond (eqb n i) (part i (f h) (g b) r) (part i h b (alter n f g r))

  -- the part of this body that has part n directly in it
  unfoldable pub holder : ℕ → Body H → Option ℕ
  holder n close = none
  holder n (part i h b r) = cond (elem n (tops b)) (some i) (holder n r)

-- To unfold this is to unfold every definition of this module: for a proof by computation.
unfoldable pub computing : Unit {0}
unfolding ◌>>=◌ check find_part remove_part alter holder elem
computing = tt

-- The homes and the targets that are found in what is lent are those of the closure that it represents. Assumes nothing.
use Prim.Native.Nat.{ℕ, ◌+◌, ◌<◌}
use mathlib.Core.List.{List}
use mathlib.Core.Path.{◌≡◌, subst}
use native.Mathlib.Omega.{arith}
use lib.ListN.{get_or, set}
use Rattle.base_sets.specs.Sets.{members, elem}
use Rattle.read_scripts.specs.Represents.{body_in}
use Rattle.theory_closures.specs.Closure.{Closure, closure_move}
use Rattle.engine_states.specs.Represents.{bound_in, Represents}
use Rattle.engine_states.specs.Searches.{home, Located}
use Rattle.engine_targets.specs.Targets.{is_some, TargetsOf}
use Rattle.engine_targets.proofs.Aiming.{state-homes, state-targets}
use Rattle.base_arrays.specs.Stretches.{stretch}
use Rattle.engine_state_arrays.specs.Lent.{kinds_in, starts_in, own_state, LentReady}
use Rattle.engine_state_arrays.proofs.Standing.{targets-lent}

module _ (script sets numbers : List ℕ) (L : LentReady script sets numbers) (kids : List ℕ) (e : kids ≡ set (stretch 0 65 sets) 64 (get_or sets 64 0)) (p : ℕ → ℕ)
    (Z : Located (members (get_or sets 129 0)) (body_in kids) p) (weight spent : ℕ) (b : Closure) (few : spent + 1 < 4294967295)
    (R : Represents script (kinds_in numbers) (starts_in numbers) weight spent (own_state sets numbers) b) where
  located : Located (members (get_or sets 129 0)) (body_in (own_state sets numbers).kids) p
  located = subst (λ (l : List ℕ). Located (members (get_or sets 129 0)) (body_in l) p) e Z

  pub lent-homes : (i : ℕ) → i < 64 → p i ≡ home (bound_in script (own_state sets numbers)) i b
  lent-homes = state-homes script (kinds_in numbers) (starts_in numbers) weight spent (own_state sets numbers) b L.ready (omega arith) R p located

  pub lent-targets : (a t r : ℕ) → a < 64 → t < 64 → TargetsOf (body_in kids) (get_or numbers (256 + a) 0) (members (get_or sets (65 + a) 0)) p a (members r)
      → elem t (members r) ≡ is_some (closure_move (bound_in script (own_state sets numbers)) a t b)
  lent-targets a t r la lt T =
      state-targets script (kinds_in numbers) (starts_in numbers) weight spent (own_state sets numbers) b L.ready (omega arith) R p located a la (members r)
      (targets-lent sets numbers (get_or sets 64 0) kids e p a (members r) la T)
      t lt

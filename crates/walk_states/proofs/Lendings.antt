-- What the walk's small functions answer: whether a part is called so, and states that are lent and borrowed again. Assumes
-- nothing.
use Prim.Native.Nat.{ℕ, ◌+◌, ◌<◌}
use mathlib.Core.Bool.{true, false}
use mathlib.Core.List.{List}
use mathlib.Core.Path.{◌≡◌, sym, ap, subst}
use native.Mathlib.Omega.{arith}
use lib.Dec.{eqb}
use lib.ListN.{get_or, set, length}
use lib.Seq.{get_or-set_same, get_or-set_other}
use borrow.Author.Tests.{eqb-true, eqb-false}
use Rattle.std.specs.Prelude.{Some}
use Rattle.base_sets.specs.Sets.{members, elem}
use Rattle.theory_machine.specs.Moves.{same_name}
use Rattle.base_slices.proofs.Tests.{by_test}
use Rattle.engine_states.specs.Seen.{name_in}
use Rattle.engine_states.specs.declared.State.{State}
use Rattle.base_arrays.specs.Stretches.{stretch}
use Rattle.base_arrays.proofs.Copying.{get_or-stretch}
use Rattle.walk_states.specs.declared.Step.TheVariants.{Move, Place}

-- a part's name, by the lent numbers
module _ (named : ℕ) (numbers : List ℕ) (i n : ℕ) where
  pub called-named : elem i (members named) ≡ true → i < 64 → eqb (get_or numbers (192 + i) 0) n ≡ same_name (Some n) (name_in named (stretch 192 64 numbers) i)
  unfolding name_in same_name
  called-named e h = rw e (ap (λ (x : ℕ). eqb x n) (sym (get_or-stretch 192 64 i numbers h)))

  pub called-none : elem i (members named) ≡ false → false ≡ same_name (Some n) (name_in named (stretch 192 64 numbers) i)
  unfolding name_in same_name
  called-none e = rw e

-- one more entry of a list that is filled
pub filled_more : (P : ℕ → ℕ → Type 0) (l : List ℕ) (a v : ℕ) → a < length l → ((b : ℕ) → b < a → P b (get_or l b 0)) → P a v → (b : ℕ) → b < a + 1 → P b (get_or (set l a v) b 0)
filled_more P l a v h old new b low =
    by_test (eqb b a)
    (λ t. let e : a ≡ b = sym (eqb-true b a t) in subst (λ (x : ℕ). P x (get_or (set l a v) x 0)) e (subst (P a) (sym (get_or-set_same l a v 0 h)) new))
    (λ t. let n : b ≡ a → ⊥ = eqb-false b a t in subst (P b) (sym (get_or-set_other l a b v 0 n)) (old b (omega arith)))

-- what holds of a state and its part table holds of equal ones
pub carried : (P : List ℕ → List ℕ → State → Type 0) (k k₁ l l₁ : List ℕ) (s s₁ : State) → k₁ ≡ k → l₁ ≡ l → s₁ ≡ s → P k l s → P k₁ l₁ s₁
carried P k k₁ l l₁ s s₁ ek el es p = subst (λ (x : State). P k₁ l₁ x) (sym es) (subst (λ (x : List ℕ). P k₁ x s) (sym el) (subst (λ (x : List ℕ). P x l s) (sym ek) p))

-- a step is one of a kind, and has one actor and target, or one number and name
pub step-moves : (P : ℕ → ℕ → Type 0) (a t b u : ℕ) → Move a t ≡ Move b u → P a t → P b u
step-moves P a t b u e p = let x : a ≡ b = cc in let y : t ≡ u = cc in subst (λ (z : ℕ). P z u) x (subst (P a) y p)

pub step-placing : (P : ℕ → ℕ → Type 0) (i n j m : ℕ) → Place i n ≡ Place j m → P i n → P j m
step-placing P i n j m e p = let x : i ≡ j = cc in let y : n ≡ m = cc in subst (λ (z : ℕ). P z m) x (subst (P i) y p)

pub step-apart : (a t i n : ℕ) → Move a t ≡ Place i n → ⊥
step-apart a t i n e = let z : ◌≡◌ {A = ℕ} 0 1 = cc in omega arith

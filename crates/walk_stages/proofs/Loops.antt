-- Loops that end at the first yes, turn by turn, and answers handed on, by what the engine's walk answers; over any list and
-- any visit. Assumes nothing.
use Prim.Native.Nat.{ℕ, suc, ◌-◌, ◌<◌, ◌≤◌}
use mathlib.Core.Bool.{true, false}
use mathlib.Core.List.{List, [], ◌∷◌}
use mathlib.Core.Path.{◌≡◌, refl, sym, ap, ◌∙◌}
use native.Mathlib.Omega.{arith}
use Rattle.base_sets.specs.Sets.{numbers_from}
use Rattle.theory_decision.specs.Walk.{Count, says, on_yes, on_no, first_yes}
use Rattle.theory_decision.specs.Walk as spec
use Rattle.walk_stages.specs.Visits.{count_of, walked_of}
use Rattle.walk_stages.specs.declared.Counts.{Counts}
use Rattle.walk_stages.specs.declared.Walked.{Walked}
use Rattle.walk_stages.specs.declared.Walked.TheVariants.{Yes, No, Stopped}

-- no No, and no Yes: the other variants of the answer
abbrev pub NotNo : Walked → Type 0
NotNo w = (c : Counts) → w ≡ No c → ⊥

abbrev pub NotYes : Walked → Type 0
NotYes w = (c : Counts) → w ≡ Yes c → ⊥

no-ends : (w : Walked) (k : Count → spec.Walked) → NotNo w → on_no (walked_of w) k ≡ walked_of w
unfolding on_no walked_of
no-ends (Yes c) k h = refl
no-ends (No c) k h = absurd (h c refl)
no-ends (Stopped q p v) k h = refl

yes-ends : (w : Walked) (k : Count → spec.Walked) → NotYes w → on_yes (walked_of w) k ≡ walked_of w
unfolding on_yes walked_of
yes-ends (Yes c) k h = absurd (h c refl)
yes-ends (No c) k h = refl
yes-ends (Stopped q p v) k h = refl

-- w is what the definition answers with x: the walk goes on behind it, or ends with it
module _ (w : Walked) (x : spec.Walked) (e : walked_of w ≡ x) where
  pub no-goes : (k : Count → spec.Walked) (c : Counts) → w ≡ No c → on_no x k ≡ k (count_of c)
  unfolding on_no walked_of
  no-goes k c d = ap (λ (y : spec.Walked). on_no y k) (sym e ∙ ap walked_of d)

  pub no-stops : (k : Count → spec.Walked) → NotNo w → walked_of w ≡ on_no x k
  no-stops k h = sym (ap (λ (y : spec.Walked). on_no y k) (sym e) ∙ no-ends w k h)

  pub yes-goes : (k : Count → spec.Walked) (c : Counts) → w ≡ Yes c → on_yes x k ≡ k (count_of c)
  unfolding on_yes walked_of
  yes-goes k c d = ap (λ (y : spec.Walked). on_yes y k) (sym e ∙ ap walked_of d)

  pub yes-stops : (k : Count → spec.Walked) → NotYes w → walked_of w ≡ on_yes x k
  yes-stops k h = sym (ap (λ (y : spec.Walked). on_yes y k) (sym e) ∙ yes-ends w k h)

no_last : (x : spec.Walked) → on_no x (λ n. says false n) ≡ x
unfolding on_no
no_last (spec.stopped q i v) = refl
no_last (says true n) = refl
no_last (says false n) = refl

-- the turns of a loop
module _ {A : Type 0} (f : A → Count → spec.Walked) where
  pub first-none : (c : Counts) → walked_of (No c) ≡ first_yes f [] (count_of c)
  unfolding first_yes walked_of
  first-none c = refl

  pub first_goes : (a : A) (l : List A) (n : Count) (w : Walked) (c : Counts) → walked_of w ≡ f a n → w ≡ No c → first_yes f (a ∷ l) n ≡ first_yes f l (count_of c)
  unfolding first_yes
  first_goes a l n w c e d = no-goes w (f a n) e (λ n₁. first_yes f l n₁) c d

  pub first_stops : (a : A) (l : List A) (n : Count) (w : Walked) → walked_of w ≡ f a n → NotNo w → walked_of w ≡ first_yes f (a ∷ l) n
  unfolding first_yes
  first_stops a l n w e h = no-stops w (f a n) e (λ n₁. first_yes f l n₁) h

  -- the last turn
  pub first-last : (a : A) (n : Count) → first_yes f (a ∷ []) n ≡ f a n
  unfolding first_yes
  first-last a n = no_last (f a n)

-- a loop from one number on to a limit
pub span-first : (a limit : ℕ) → a < limit → numbers_from a (limit - a) ≡ a ∷ numbers_from (suc a) (limit - suc a)
unfolding numbers_from
span-first a limit h = let e : limit - a ≡ suc (limit - suc a) = omega arith in ap (numbers_from a) e

pub span_none : (a limit : ℕ) → limit ≤ a → numbers_from a (limit - a) ≡ []
unfolding numbers_from
span_none a limit h = let e : limit - a ≡ 0 = omega arith in ap (numbers_from a) e

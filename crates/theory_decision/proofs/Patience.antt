-- Patience changes nothing but where a walk stops for want of it: with more patience a walk that was not stopped by question
-- 18 says the same with the same visits, or stops by question 17 at the same word. Over any space. Assumes nothing.
use Prim.Native.Nat.{ℕ, zero, suc, ◌≤◌}
use mathlib.Core.Bool.{true, false}
use mathlib.Core.List.{List, [], ◌∷◌}
use mathlib.Core.Path.{◌≡◌, refl, ap, ◌∙◌}
use mathlib.Core.Logic.{◌⊎◌, inl, inr}
use mathlib.Core.Option.{Option, none, some}
use native.Mathlib.Omega.{arith}
use lib.Dec.{ltb}
use borrow.Author.Tests.{ltb-true, lt-ltb}
use Rattle.read_rule_words.specs.Rule.{Names, term_name, Rule, truth, negation, either, void, at, beside, some-name, sometime, somewhere, placed, rule_index}
use Rattle.base_slices.proofs.Tests.{by_test}
use Rattle.base_sets.specs.Sets.{numbers_from}
use Rattle.theory_decision.specs.Walk.{Space, Count, Walked, stopped, says, Setting, on_yes, on_no, turned, if_any, first_yes, last_name, look, counted, walk, walk_from}

-- no visits are left: question 18
abbrev pub Tired : Walked → Type 0
Tired w = (i v : ℕ) × (w ≡ stopped 18 i v)

-- the walk v is the walk w, unless w was stopped by question 18
abbrev pub Kept : (w v : Walked) → Type 0
Kept w v = Tired w ⊎ (v ≡ w)

on_no-kept : (w v : Walked) (k l : Count → Walked) → Kept w v → ((n : Count) → Kept (k n) (l n)) → Kept (on_no w k) (on_no v l)
unfolding on_no
on_no-kept w v k l (inl x) f = inl (x.0, x.1, ap (λ (u : Walked). on_no u k) x.2)
on_no-kept (stopped q i n) v k l (inr e) f = inr (ap (λ (u : Walked). on_no u l) e)
on_no-kept (says true n) v k l (inr e) f = inr (ap (λ (u : Walked). on_no u l) e)
on_no-kept (says false n) v k l (inr e) f = elim (f n) [ inl x ↦ inl x | inr d ↦ inr (ap (λ (u : Walked). on_no u l) e ∙ d) ]

on_yes-kept : (w v : Walked) (k l : Count → Walked) → Kept w v → ((n : Count) → Kept (k n) (l n)) → Kept (on_yes w k) (on_yes v l)
unfolding on_yes
on_yes-kept w v k l (inl x) f = inl (x.0, x.1, ap (λ (u : Walked). on_yes u k) x.2)
on_yes-kept (stopped q i n) v k l (inr e) f = inr (ap (λ (u : Walked). on_yes u l) e)
on_yes-kept (says true n) v k l (inr e) f = elim (f n) [ inl x ↦ inl x | inr d ↦ inr (ap (λ (u : Walked). on_yes u l) e ∙ d) ]
on_yes-kept (says false n) v k l (inr e) f = inr (ap (λ (u : Walked). on_yes u l) e)

turned-kept : (w v : Walked) → Kept w v → Kept (turned w) (turned v)
unfolding turned
turned-kept w v (inl x) = inl (x.0, x.1, ap turned x.2)
turned-kept w v (inr e) = inr (ap turned e)

if_any-kept : {S : Type 0} (x : Option S) (f g : S → Walked) (n : Count) → ((c : S) → Kept (f c) (g c)) → Kept (if_any x f n) (if_any x g n)
unfolding if_any
if_any-kept none f g n h = inr refl
if_any-kept (some c) f g n h = h c

first_yes-kept : {A : Type 0} (f g : A → Count → Walked) → ((a : A) (n : Count) → Kept (f a n) (g a n)) → (l : List A) (n : Count) → Kept (first_yes f l n) (first_yes g l n)
unfolding first_yes
first_yes-kept f g h [] n = inr refl
first_yes-kept f g h (a ∷ l) n = on_no-kept (f a n) (g a n) _ _ (h a n) (λ n₁. first_yes-kept f g h l n₁)

-- the same numbers with another patience
abbrev pub with_patience : (patience : ℕ) → Setting → Setting
with_patience p s = record { patience = p; greatest = s.greatest; parts = s.parts }

module _ {S : Type 0} (space : Space S) (s : Setting) (p : ℕ) (more : s.patience ≤ p) where
  -- visits with the one patience and with the other
  abbrev KeptAll : (f g : Names → Rule → S → Count → Walked) → Type 0
  KeptAll f g = (e : Names) (r : Rule) (b : S) (n : Count) → Kept (f e r b n) (g e r b n)

  look-kept : (f g : Names → Rule → S → Count → Walked) → KeptAll f g → KeptAll (look space s f) (look space (with_patience p s) g)
  unfolding look
  look-kept f g h e (truth i) b n = inr refl
  look-kept f g h e (negation i r) b n = turned-kept (f e r b n) (g e r b n) (h e r b n)
  look-kept f g h e (either i r q) b n = on_no-kept (f e r b n) (g e r b n) _ _ (h e r b n) (λ n₁. h e q b n₁)
  look-kept f g h e (void i) b n = inr refl
  look-kept f g h e (at i t r) b n = if_any-kept (space.only (term_name e t) b) _ _ n (λ c. h e r c n)
  look-kept f g h e (beside i r q) b n =
      first_yes-kept _ _ (λ d n₁. on_yes-kept (f e r d.0 n₁) (g e r d.0 n₁) _ _ (h e r d.0 n₁) (λ n₂. h e q d.1 n₂)) (space.divisions b) n
  look-kept f g h e (some-name i r) b n = first_yes-kept _ _ (λ m n₁. h ((i, m) ∷ e) r b n₁) (numbers_from 1 (last_name s e)) n
  look-kept f g h e (sometime i r) b n =
      on_no-kept (f e r b n) (g e r b n) _ _ (h e r b n) (λ n₁. first_yes-kept _ _ (λ c n₂. h e (sometime i r) c n₂) (space.nexts b) n₁)
  look-kept f g h e (somewhere i r) b n =
      on_no-kept (f e r b n) (g e r b n) _ _ (h e r b n) (λ n₁. first_yes-kept _ _ (λ c n₂. h e (somewhere i r) c n₂) (space.insides b) n₁)
  look-kept f g h e (placed i j t r) b n = h e r _ n

  walk_kept : (left depth : ℕ) → KeptAll (walk space s left depth) (walk space (with_patience p s) left depth)
  unfolding walk counted
  walk_kept zero depth e r b n = inr refl
  walk_kept (suc left) depth e r b n = by_test (ltb n.visits s.patience)
      (λ t. let u : ltb n.visits p ≡ true = lt-ltb n.visits p (omega (arith, ltb-true n.visits s.patience t)) in
      rw (t, u) (look-kept _ _ (walk_kept left (suc depth)) e r b (counted space s depth n)))
      (λ t. rw t (inl (rule_index r, n.visits, refl)))

  -- THEOREM: with more patience a walk is the same, unless it was stopped by question 18.
  pub walk-patient : (r : Rule) (b : S) → Kept (walk_from space s r b) (walk_from space (with_patience p s) r b)
  walk-patient r b = walk_kept 256 1 [] r b (record { visits = 0; deepest = 0 })

-- What a walk learns where it stands: of the rule at an index, by the kind of the word there. Assumes nothing.
use Prim.Native.Nat.{ℕ, zero, suc, ◌+◌, ◌-◌, ◌≤◌, ◌<◌}
use mathlib.Core.Bool.{Bool, true, false, ◌||◌, false≢true, and-eq-true_iff}
use mathlib.Core.List.{List, ◌∷◌}
use mathlib.Core.Path.{◌≡◌, refl, sym, ap, ap₂, ◌∙◌, subst}
use native.Mathlib.Omega.{arith}
use lib.Dec.{leb}
use lib.ListN.{get_or, length}
use borrow.Author.Tests.{leb-true}
use Rattle.read_messages.specs.Words.{kind, operand, name_fits, member}
use Rattle.read_rule_words.specs.Rule.{Term, constant, chosen, Rule, truth, negation, either, void, at, beside, some-name, sometime, somewhere, placed, rule_index}
use Rattle.read_rule_words.specs.ReadRule.{is_chosen, term_of, term_bound}
use Rattle.read_rule_words.specs.RuleWords.{term_word}
use Rattle.read_rules.specs.Ruled.{Said, Ruled}
use Rattle.read_rules.specs.declared.RuleTable.{RuleTable}
use Rattle.read_rule_words.specs.declared.RuleTerm.TheVariants.{Constant, Chosen}
use Rattle.read_rule_words.proofs.Words.{constant-told, chosen-told}

module _ (words : List ℕ) (t : RuleTable) (somes : List ℕ) where
  -- the term of the word at the index i
  abbrev term_at : ℕ → Term
  term_at i = term_of (operand (get_or words i 0))

  -- one rule inside, and two
  abbrev Single : (i : ℕ) → (Rule → Rule) → Rule → Type 0
  Single i g r = (q : Rule) × (r ≡ g q) × (rule_index q ≡ i + 1) × Ruled words t somes q

  abbrev Double : (i : ℕ) → (Rule → Rule → Rule) → Rule → Type 0
  Double i g r = (q s : Rule) × (r ≡ g q s) × (rule_index q ≡ i + 1) × Ruled words t somes q × (rule_index s ≡ get_or t.rights i 0) × Ruled words t somes s

  -- The rule r at the index i, whose word has the kind k. A kind above 9 is none of a rule.
  abbrev pub Told : (k i : ℕ) → Rule → Type 0
  Told zero i r = r ≡ truth i
  Told (suc zero) i r = Single i (negation i) r
  Told (suc (suc zero)) i r = Double i (either i) r
  Told (suc (suc (suc zero))) i r = r ≡ void i
  Told (suc (suc (suc (suc zero)))) i r = (q : Rule) × (r ≡ at i (term_at i) q) × (rule_index q ≡ i + 1) × Ruled words t somes q × Said words somes i (term_at i)
  Told (suc (suc (suc (suc (suc zero))))) i r = Double i (beside i) r
  Told (suc (suc (suc (suc (suc (suc zero)))))) i r = (q : Rule) × (r ≡ some-name i q) × (rule_index q ≡ i + 1) × Ruled words t (i ∷ somes) q × (suc (length somes) ≤ 8)
  Told (suc (suc (suc (suc (suc (suc (suc zero))))))) i r = Single i (sometime i) r
  Told (suc (suc (suc (suc (suc (suc (suc (suc zero)))))))) i r = Single i (somewhere i) r
  Told (suc (suc (suc (suc (suc (suc (suc (suc (suc zero))))))))) i r =
      (q : Rule) × (r ≡ placed i (get_or t.placings i 0) (term_at i) q) × (rule_index q ≡ i + 1) × Ruled words t somes q × Said words somes i (term_at i) × (get_or t.placings i 0 < t.count)
  Told (suc (suc (suc (suc (suc (suc (suc (suc (suc (suc k)))))))))) i r = ⊥

  -- of a rule of the kind k
  abbrev Of : Rule → ℕ → Type 0
  Of r k = Told k (rule_index r) r

  told : (r : Rule) → Ruled words t somes r → Told (kind (get_or words (rule_index r) 0)) (rule_index r) r
  unfolding rule_index
  told (truth i) h = subst (Of (truth i)) (sym h.kind) refl
  told (negation i q) h = subst (Of (negation i q)) (sym h.0.kind) (q, refl, h.1, h.2)
  told (either i q s) h = subst (Of (either i q s)) (sym h.0.kind) (q, s, refl, h.1, h.2, h.3, h.4)
  told (void i) h = subst (Of (void i)) (sym h.kind) refl
  told (at i n q) h = subst (Of (at i n q)) (sym h.0.kind) (q, ap (λ (m : Term). at i m q) h.3.term, h.1, h.2, subst (Said words somes i) h.3.term h.3)
  told (beside i q s) h = subst (Of (beside i q s)) (sym h.0.kind) (q, s, refl, h.1, h.2, h.3, h.4)
  told (some-name i q) h = subst (Of (some-name i q)) (sym h.0.kind) (q, refl, h.1, h.2, h.3)
  told (sometime i q) h = subst (Of (sometime i q)) (sym h.0.kind) (q, refl, h.1, h.2)
  told (somewhere i q) h = subst (Of (somewhere i q)) (sym h.0.kind) (q, refl, h.1, h.2)
  told (placed i j n q) h =
      subst (Of (placed i j n q)) (sym h.0.kind)
      (q, ap₂ (λ (k : ℕ) (m : Term). placed i k m q) h.4 h.3.term, h.1, h.2, subst (Said words somes i) h.3.term h.3, subst (λ (k : ℕ). k < t.count) h.4 h.5)

  -- THEOREM: at an index, the word's kind says which rule stands there, and the table where the rules inside it stand.
  pub rule_told : (r : Rule) (i k : ℕ) → Ruled words t somes r → rule_index r ≡ i → kind (get_or words i 0) ≡ k → Told k i r
  rule_told r i k h ei ek =
      subst (λ (x : ℕ). Told x i r) ek (subst (λ (x : ℕ). Told (kind (get_or words x 0)) x r) ei (told r h))

  -- a rule stands in the words
  pub rule-inside : (r : Rule) → Ruled words t somes r → rule_index r < length words
  unfolding rule_index
  rule-inside (truth i) h = h.inside
  rule-inside (negation i q) h = h.0.inside
  rule-inside (either i q s) h = h.0.inside
  rule-inside (void i) h = h.inside
  rule-inside (at i n q) h = h.0.inside
  rule-inside (beside i q s) h = h.0.inside
  rule-inside (some-name i q) h = h.0.inside
  rule-inside (sometime i q) h = h.0.inside
  rule-inside (somewhere i q) h = h.0.inside
  rule-inside (placed i j n q) h = h.0.inside

-- What the term at an index is, by what `term_of` answers of the word there: a name from 1 to 255, or the index of a SOME around.
plain_fits : (n m : ℕ) → (name_fits n || is_chosen n) ≡ true → constant m ≡ term_of n → name_fits m ≡ true
unfolding term_of
plain_fits n m f e = told (is_chosen n) refl (name_fits n) refl
  where
    told : (b : Bool) → is_chosen n ≡ b → (d : Bool) → name_fits n ≡ d → name_fits m ≡ true
    told true t d g = let y : constant m ≡ chosen (n - 134217728) = e ∙ rw t in let z : ◌≡◌ {A = ℕ} 0 1 = cc in absurd (omega arith)
    told false t true g = let y : constant m ≡ constant n = e ∙ rw t in let z : m ≡ n = cc in rw z g
    told false t false g = absurd (false≢true (rw (g, t) at f))

name-between : (n : ℕ) → name_fits n ≡ true → (1 ≤ n) × (n ≤ 255)
unfolding name_fits
name-between n f = let h = (and-eq-true_iff (leb 1 n) (leb n 255)).0 f in (leb-true 1 n h.0, leb-true n 255 h.1)

module _ (words somes : List ℕ) (i : ℕ) (t : Term) (s : Said words somes i t) where
  pub constant-said : (n : ℕ) → Constant n ≡ term_word t → (t ≡ constant n) × (1 ≤ n) × (n ≤ 255)
  constant-said n e =
      let c : t ≡ constant n = constant-told t n e in
      let b = name-between n (plain_fits (operand (get_or words i 0)) n s.fits (sym c ∙ s.term)) in
      (c, b.0, b.1)

  pub chosen-said : (k : ℕ) → Chosen k ≡ term_word t → (t ≡ chosen k) × (member k somes ≡ true)
  unfolding term_bound
  chosen-said k e = let c : t ≡ chosen k = chosen-told t k e in (c, rw c at s.bound)

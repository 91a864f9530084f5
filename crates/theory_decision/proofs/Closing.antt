-- A rule that question 9 lets through mentions only SOMEs around it, and so a name that AT or PLACED looks up is always one
-- that was chosen: `chosen_name` never comes to its end, and what it answers there says nothing. Assumes nothing.
use Prim.Native.Nat.{ℕ}
use mathlib.Core.Bool.{true, false, false≢true}
use mathlib.Core.List.Memᴰ
use mathlib.Core.List.{List, [], ◌∷◌, ◌++◌, map}
use mathlib.Core.Path.{◌≡◌, refl, sym, ap, subst}
use mathlib.Core.Logic.{inl, inr, ◌↔◌}
use lib.Dec.{eqb}
use borrow.Author.Tests.{eqb-true, eqb-false, ne_eqb}
use Rattle.read_messages.specs.Words.{member, operand}
use Rattle.read_messages.specs.Reading.{Cursor, got}
use Rattle.read_messages.specs.Message.{name}
use Rattle.base_slices.proofs.Tests.{by_test}
use Rattle.read_rule_words.specs.Rule.{Term, constant, chosen, Names, chosen_name, term_name, Rule, truth, negation, either, void, at, beside, some-name, sometime, somewhere, placed}
use Rattle.read_rule_words.specs.ReadRule.{term_of, term_bound, read_whole_rule}
use Rattle.read_rule_words.proofs.Cases.{Cases, whole-rule-case}
use Rattle.theory_calculus.specs.Calculus.{Process, ambient, ◌≅◌, Satisfies}
use Rattle.theory_decision.specs.Closed.{TermClosed, RuleClosed, Chosen, TermNamed, RuleNamed}

-- ---- question 9

bound-closed : (somes : List ℕ) (t : Term) → term_bound somes t ≡ true → TermClosed somes t
unfolding term_bound
bound-closed somes (constant n) e = tt
bound-closed somes (chosen i) e = e

abbrev ClosedRule : List ℕ → Cursor → Rule × Cursor → Type 0
ClosedRule somes c p = RuleClosed somes p.0

closed-cases : Cases ClosedRule
closed-cases = record {
  leaves = λ s c q n. (λ k. tt, λ k. tt);
  ones = λ s c q p n h. (λ k. h, λ k. h, λ k. h);
  twos = λ s c q p r n h g. (λ k. (h, g), λ k. (h, g));
  ats = λ s c q p n k o h. (bound-closed s (term_of (operand q.0)) o.bound, h);
  chooses = λ s c q p n k l h. h;
  placings = λ s c q p n k o h. (bound-closed s (term_of (operand q.0)) o.bound, h);
}

-- THEOREM: a rule that is read mentions only SOMEs around it.
pub rule-closed : (n : ℕ) (ws : List ℕ) (p : Rule × Cursor) → read_whole_rule n ws ≡ got p → RuleClosed [] p.0
rule-closed n ws p e = whole-rule-case ClosedRule closed-cases n ws p e

-- ---- the names

-- the SOMEs that have chosen
abbrev pub chosen_by : Names → List ℕ
chosen_by e = map (λ (p : ℕ × ℕ). p.0) e

-- a SOME that has chosen is found
pub chosen_name-chosen : (e : Names) (i : ℕ) → member i (chosen_by e) ≡ true → Chosen e i
unfolding member chosen_name
chosen_name-chosen [] i h = absurd (false≢true h)
chosen_name-chosen (p ∷ e) i h = by_test (eqb p.0 i)
    (λ t. (p.1, Memᴰ.head (ap (λ (k : ℕ). (k, p.1)) (sym (eqb-true p.0 i t))), rw t refl))
    (λ t.
    let d : eqb i p.0 ≡ false = ne_eqb i p.0 (λ z. eqb-false p.0 i t (sym z)) in
    let x = chosen_name-chosen e i (rw d at h) in
    (x.0, Memᴰ.tail x.1, rw t x.2))

term-named : (e : Names) (t : Term) → TermClosed (chosen_by e) t → TermNamed e t
term-named e (constant n) h = tt
term-named e (chosen i) h = chosen_name-chosen e i h

-- THEOREM: where every SOME around has chosen, every name that is looked up was chosen.
pub closed-named : (e : Names) (r : Rule) → RuleClosed (chosen_by e) r → RuleNamed e r
closed-named e (truth i) h = tt
closed-named e (negation i r) h = closed-named e r h
closed-named e (either i r q) h = (closed-named e r h.0, closed-named e q h.1)
closed-named e (void i) h = tt
closed-named e (at i t r) h = (term-named e t h.0, closed-named e r h.1)
closed-named e (beside i r q) h = (closed-named e r h.0, closed-named e q h.1)
closed-named e (some-name i r) h = λ m. closed-named ((i, m) ∷ e) r h
closed-named e (sometime i r) h = closed-named e r h
closed-named e (somewhere i r) h = closed-named e r h
closed-named e (placed i j t r) h = (term-named e t h.0, closed-named e r h.1)

-- THEOREM: so of every rule that is read, from its first word on.
pub rule-named : (n : ℕ) (ws : List ℕ) (p : Rule × Cursor) → read_whole_rule n ws ≡ got p → RuleNamed [] p.0
rule-named n ws p e = closed-named [] p.0 (rule-closed n ws p e)

-- ---- names outside

chosen_name-outside : (e d : Names) (i : ℕ) → member i (chosen_by e) ≡ true → chosen_name e i ≡ chosen_name (e ++ d) i
unfolding member chosen_name
chosen_name-outside [] d i h = absurd (false≢true h)
chosen_name-outside (p ∷ e) d i h = by_test (eqb p.0 i)
    (λ t. rw t refl)
    (λ t. let u : eqb i p.0 ≡ false = ne_eqb i p.0 (λ z. eqb-false p.0 i t (sym z)) in rw t (chosen_name-outside e d i (rw u at h)))

term-outside : (e d : Names) (t : Term) → TermClosed (chosen_by e) t → term_name e t ≡ term_name (e ++ d) t
unfolding term_name
term-outside e d (constant n) h = refl
term-outside e d (chosen i) h = chosen_name-outside e d i h

-- THEOREM: where every SOME around has chosen, names behind those chosen say nothing to the paper's relation: so neither does
-- what `chosen_name` answers at its end.
pub names-outside : (d e : Names) (r : Rule) → RuleClosed (chosen_by e) r → (p : Process) → Satisfies e p r ↔ Satisfies (e ++ d) p r
unfolding Satisfies
names-outside d e (truth i) h p = (λ x. x, λ x. x)
names-outside d e (negation i r) h p = let a = names-outside d e r h p in (λ x y. x (a.1 y), λ x y. x (a.0 y))
names-outside d e (either i r q) h p =
    let a = names-outside d e r h.0 p in
    let b = names-outside d e q h.1 p in
    (λ x. elim x [ inl y ↦ inl (a.0 y) | inr y ↦ inr (b.0 y) ], λ x. elim x [ inl y ↦ inl (a.1 y) | inr y ↦ inr (b.1 y) ])
names-outside d e (void i) h p = (λ x. x, λ x. x)
names-outside d e (at i t r) h p =
    let n : term_name e t ≡ term_name (e ++ d) t = term-outside e d t h.0 in (
      λ x. (x.0, subst (λ (m : ℕ). p ≅ ambient (name m) x.0) n x.1, (names-outside d e r h.1 x.0).0 x.2),
      λ x. (x.0, subst (λ (m : ℕ). p ≅ ambient (name m) x.0) (sym n) x.1, (names-outside d e r h.1 x.0).1 x.2),
    )
names-outside d e (beside i r q) h p = (
  λ x. (x.0, x.1, x.2, (names-outside d e r h.0 x.0).0 x.3, (names-outside d e q h.1 x.1).0 x.4),
  λ x. (x.0, x.1, x.2, (names-outside d e r h.0 x.0).1 x.3, (names-outside d e q h.1 x.1).1 x.4),
)
names-outside d e (some-name i r) h p = (
  λ x. (x.0, x.1, (names-outside d ((i, x.0) ∷ e) r h p).0 x.2),
  λ x. (x.0, x.1, (names-outside d ((i, x.0) ∷ e) r h p).1 x.2),
)
names-outside d e (sometime i r) h p = (λ x. (x.0, x.1, (names-outside d e r h x.0).0 x.2), λ x. (x.0, x.1, (names-outside d e r h x.0).1 x.2))
names-outside d e (somewhere i r) h p = (λ x. (x.0, x.1, (names-outside d e r h x.0).0 x.2), λ x. (x.0, x.1, (names-outside d e r h x.0).1 x.2))
names-outside d e (placed i j t r) h p =
    let n : term_name e t ≡ term_name (e ++ d) t = term-outside e d t h.0 in (
      λ x. subst (λ (m : ℕ). Satisfies (e ++ d) (ambient (name m) p) r) n ((names-outside d e r h.1 (ambient (name (term_name e t)) p)).0 x),
      λ x. (names-outside d e r h.1 (ambient (name (term_name e t)) p)).1 (subst (λ (m : ℕ). Satisfies (e ++ d) (ambient (name m) p) r) (sym n) x),
    )

-- THEOREM: so for every rule that is read, whatever names are taken for chosen before its first word.
pub rule-outside : (n : ℕ) (ws : List ℕ) (q : Rule × Cursor) → read_whole_rule n ws ≡ got q → (d : Names) (p : Process) → Satisfies [] p q.0 ↔ Satisfies d p q.0
rule-outside n ws q e d p = names-outside d [] q.0 (rule-closed n ws q e) p

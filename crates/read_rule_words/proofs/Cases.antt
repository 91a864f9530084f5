-- What holds of every rule that is read: shown by a case for each kind of rule. Assumes nothing.
use Prim.Native.Nat.{ℕ, zero, suc, ◌+◌, ◌≤◌}
use mathlib.Core.List.{List, [], ◌∷◌}
use mathlib.Core.Bool.{true, ◌&&◌, ◌||◌, and-eq-true_iff}
use mathlib.Core.Path.{◌≡◌, refl}
use lib.Dec.{leb}
use lib.ListN.{length}
use borrow.Author.Tests.{leb-true}
use Rattle.read_messages.specs.Words.{kind, operand, name_fits}
use Rattle.read_messages.specs.Reading.{Cursor, cursor, got, ask, next_word, next_part, is_empty}
use Rattle.read_messages.proofs.Readings.{refuse≢got, bind_all, got-all, ask-inv, Next, next}
use Rattle.read_rule_words.specs.Rule.{Rule, truth, negation, either, void, at, beside, some-name, sometime, somewhere, placed}
use Rattle.read_rule_words.specs.ReadRule.{RuleKind, TRUE, NOT, OR, VOID, AT, BESIDE, SOME, SOMETIME, SOMEWHERE, PLACED, OTHER, rule_kind, is_chosen, term_of, operand_fits, term_bound, bound, somes_with, one_rule, two_rules, rule_from, read_rule, read_whole_rule}
use Rattle.read_rule_words.proofs.Words.{kind-told}

-- what is known of the operand of AT and PLACED: it fits, and its SOME is around
pub record Operand (somes : List ℕ) (w : ℕ) : Type 0 where
  pub fits : (name_fits (operand w) || is_chosen (operand w)) ≡ true
  pub bound : term_bound somes (term_of (operand w)) ≡ true

-- The cases of a claim C about rules that are read: `somes` are the SOMEs around, c is the cursor at the rule's word w, with d
-- behind it, and p is what was read with the cursor behind it.
pub record Cases (C : List ℕ → Cursor → Rule × Cursor → Type 0) : Type 0 where
  pub leaves : (somes : List ℕ) (c : Cursor) (q : ℕ × Cursor) → Next c q
      → (kind q.0 ≡ 0 → C somes c (truth c.index, q.1)) × (kind q.0 ≡ 3 → C somes c (void c.index, q.1))
  pub ones : (somes : List ℕ) (c : Cursor) (q : ℕ × Cursor) (p : Rule × Cursor) → Next c q → C somes q.1 p
      → (kind q.0 ≡ 1 → C somes c (negation c.index p.0, p.1)) × (kind q.0 ≡ 7 → C somes c (sometime c.index p.0, p.1))
      × (kind q.0 ≡ 8 → C somes c (somewhere c.index p.0, p.1))
  pub twos : (somes : List ℕ) (c : Cursor) (q : ℕ × Cursor) (p r : Rule × Cursor) → Next c q → C somes q.1 p → C somes p.1 r
      → (kind q.0 ≡ 2 → C somes c (either c.index p.0 r.0, r.1)) × (kind q.0 ≡ 5 → C somes c (beside c.index p.0 r.0, r.1))
  pub ats : (somes : List ℕ) (c : Cursor) (q : ℕ × Cursor) (p : Rule × Cursor) → Next c q → kind q.0 ≡ 4 → Operand somes q.0 → C somes q.1 p
      → C somes c (at c.index (term_of (operand q.0)) p.0, p.1)
  pub chooses : (somes : List ℕ) (c : Cursor) (q : ℕ × Cursor) (p : Rule × Cursor) → Next c q → kind q.0 ≡ 6 → suc (length somes) ≤ 8 → C (c.index ∷ somes) q.1 p
      → C somes c (some-name c.index p.0, p.1)
  pub placings : (somes : List ℕ) (c : Cursor) (q : ℕ × Cursor) (p : Rule × Cursor) → Next c q → kind q.0 ≡ 9 → Operand somes q.0 → C somes (next_part q.1) p
      → C somes c (placed c.index q.1.number (term_of (operand q.0)) p.0, p.1)

module _ (C : List ℕ → Cursor → Rule × Cursor → Type 0) (cases : Cases C) where
  -- a rule by the kind of its word
  module _ (f around : ℕ) (somes : List ℕ) (c : Cursor) (q : ℕ × Cursor) (n : Next c q) (read : (a : List ℕ) (d : Cursor) (p : Rule × Cursor) → read_rule f (suc around) a d ≡ got p → C a d p) where
    one-case : (g : Rule → Rule) (a : List ℕ) (d : Cursor) → ((p : Rule × Cursor) → C a d p → C somes c (g p.0, p.1)) → (p : Rule × Cursor) → one_rule g (read_rule f (suc around) a) d ≡ got p → C somes c p
    unfolding one_rule
    one-case g a d h = bind_all (C somes c) (read_rule f (suc around) a d) _ (λ p e. got-all (C somes c) _ (h p (read a d p e)))

    two-case : (g : Rule → Rule → Rule) → ((p r : Rule × Cursor) → C somes q.1 p → C somes p.1 r → C somes c (g p.0 r.0, r.1)) → (p : Rule × Cursor) → two_rules g (read_rule f (suc around) somes) q.1 ≡ got p → C somes c p
    unfolding two_rules
    two-case g h =
        bind_all (C somes c) (read_rule f (suc around) somes q.1) _
        (λ p e. bind_all (C somes c) (read_rule f (suc around) somes p.1) _ (λ r d. got-all (C somes c) _ (h p r (read somes q.1 p e) (read somes p.1 r d))))

    from-case : (k : RuleKind) → rule_kind q.0 ≡ k → operand_fits k (operand q.0) ≡ true → bound somes k (operand q.0) ≡ true → somes_with k (length somes) ≤ 8
        → (p : Rule × Cursor) → rule_from (read_rule f (suc around)) k (term_of (operand q.0)) c.index somes q.1 ≡ got p → C somes c p
    unfolding rule_from operand_fits bound somes_with
    from-case TRUE e x y z = got-all (C somes c) _ ((cases.leaves somes c q n).0 (kind-told q.0 TRUE e))
    from-case NOT e x y z = one-case (negation c.index) somes q.1 (λ p h. (cases.ones somes c q p n h).0 (kind-told q.0 NOT e))
    from-case OR e x y z = two-case (either c.index) (λ p r h g. (cases.twos somes c q p r n h g).0 (kind-told q.0 OR e))
    from-case VOID e x y z = got-all (C somes c) _ ((cases.leaves somes c q n).1 (kind-told q.0 VOID e))
    from-case AT e x y z = one-case (at c.index (term_of (operand q.0))) somes q.1 (λ p h. cases.ats somes c q p n (kind-told q.0 AT e) (record { fits = x; bound = y }) h)
    from-case BESIDE e x y z = two-case (beside c.index) (λ p r h g. (cases.twos somes c q p r n h g).1 (kind-told q.0 BESIDE e))
    from-case SOME e x y z = one-case (some-name c.index) (c.index ∷ somes) q.1 (λ p h. cases.chooses somes c q p n (kind-told q.0 SOME e) z h)
    from-case SOMETIME e x y z = one-case (sometime c.index) somes q.1 (λ p h. (cases.ones somes c q p n h).1 (kind-told q.0 SOMETIME e))
    from-case SOMEWHERE e x y z = one-case (somewhere c.index) somes q.1 (λ p h. (cases.ones somes c q p n h).2 (kind-told q.0 SOMEWHERE e))
    from-case PLACED e x y z = one-case (placed c.index q.1.number (term_of (operand q.0))) somes (next_part q.1) (λ p h. cases.placings somes c q p n (kind-told q.0 PLACED e) (record { fits = x; bound = y }) h)
    from-case OTHER e x y z = λ p d. refuse≢got d

  -- THEOREM: the cases are all.
  pub rule-case : (f around : ℕ) (somes : List ℕ) (c : Cursor) (p : Rule × Cursor) → read_rule f around somes c ≡ got p → C somes c p
  unfolding read_rule
  rule-case zero around somes c = λ p e. refuse≢got e
  rule-case (suc f) around somes c =
      bind_all (C somes c) (next_word 11 c) _
      (λ q e₁. bind_all (C somes c) (ask 8 c.index (operand_fits (rule_kind q.0) (operand q.0))) _
      (λ u₂ e₂. bind_all (C somes c) (ask 9 c.index (bound somes (rule_kind q.0) (operand q.0))) _
      (λ u₃ e₃. bind_all (C somes c) (ask 10 c.index (leb around 64 && leb (somes_with (rule_kind q.0) (length somes)) 8)) _
      (λ u₄ e₄. from-case f around somes c q (next 11 c q e₁) (rule-case f (suc around)) (rule_kind q.0) refl (ask-inv 8 _ _ u₂ e₂) (ask-inv 9 _ _ u₃ e₃)
      (leb-true (somes_with (rule_kind q.0) (length somes)) 8 ((and-eq-true_iff (leb around 64) _).0 (ask-inv 10 _ _ u₄ e₄)).1)))))

  -- and so of every whole rule that is read
  pub whole-rule-case : (n : ℕ) (ws : List ℕ) (p : Rule × Cursor) → read_whole_rule n ws ≡ got p → C [] (cursor 0 0 ws) p
  unfolding read_whole_rule
  whole-rule-case n ws =
      bind_all (C [] (cursor 0 0 ws)) (ask 7 0 (leb 1 (length ws) && leb (length ws) 256)) _
      (λ _ _. bind_all (C [] (cursor 0 0 ws)) (read_rule (length ws) 0 [] (cursor 0 0 ws)) _
      (λ q e. bind_all (C [] (cursor 0 0 ws)) (ask 11 q.1.index (is_empty q.1.left)) _
      (λ _ _. bind_all (C [] (cursor 0 0 ws)) (ask 12 0 (leb (n + q.1.number) 64)) _
      (λ _ _. got-all (C [] (cursor 0 0 ws)) q (rule-case (length ws) 0 [] (cursor 0 0 ws) q e)))))

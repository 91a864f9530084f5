-- Where the reader of rules refuses: at a place that is at most 256. Assumes nothing.
use Prim.Native.Nat.{ℕ, zero, suc, ◌+◌, ◌≤◌}
use mathlib.Core.Bool.{◌&&◌, and-eq-true_iff}
use mathlib.Core.List.{List, [], ◌∷◌}
use mathlib.Core.Path.{◌≡◌}
use native.Mathlib.Omega.{arith}
use lib.Dec.{leb}
use lib.ListN.{length}
use borrow.Author.Tests.{leb-true}
use Rattle.read_messages.specs.Words.{operand}
use Rattle.read_messages.specs.Reading.{Cursor, cursor, got, ask, next_word, next_part, is_empty}
use Rattle.read_messages.proofs.Readings.{ask-inv}
use Rattle.read_messages.proofs.Places.{Within, bind-within, ask-within, Ends, ends_on, next-within, next-ends}
use Rattle.read_rule_words.specs.Rule.{Term, Rule, negation, either, at, beside, some-name, sometime, somewhere, placed}
use Rattle.read_rule_words.specs.ReadRule.{RuleKind, TRUE, NOT, OR, VOID, AT, BESIDE, SOME, SOMETIME, SOMEWHERE, PLACED, OTHER, rule_kind, term_of, operand_fits, bound, somes_with, Reader, one_rule, two_rules, rule_from, read_rule, read_whole_rule}
use Rattle.read_rules.proofs.Laws.{RuleRead, rule-read}

-- a rule, by the rules inside it
module _ (x : ℕ) (read : Reader) (h : (a : List ℕ) (c : Cursor) (p : Rule × Cursor) → read a c ≡ got p → RuleRead a c p)
    (w : (a : List ℕ) (c : Cursor) → Ends x c → Within x (read a c)) where
  one-within : (g : Rule → Rule) (a : List ℕ) (c : Cursor) → Ends x c → Within x (one_rule g (read a) c)
  unfolding one_rule
  one-within g a c l = bind-within x (read a c) _ (w a c l) (λ p e. tt)

  two-within : (g : Rule → Rule → Rule) (a : List ℕ) (c : Cursor) → Ends x c → Within x (two_rules g (read a) c)
  unfolding two_rules
  two-within g a c l =
      bind-within x (read a c) _ (w a c l)
      (λ p e. bind-within x (read a p.1) _ (w a p.1 (ends_on x c p.1 (h a c p e).advances l)) (λ q d. tt))

  from-within : (k : RuleKind) (t : Term) (i : ℕ) (a : List ℕ) (c : Cursor) → i ≤ x → Ends x c → Within x (rule_from read k t i a c)
  unfolding rule_from
  from-within TRUE t i a c j l = tt
  from-within NOT t i a c j l = one-within (negation i) a c l
  from-within OR t i a c j l = two-within (either i) a c l
  from-within VOID t i a c j l = tt
  from-within AT t i a c j l = one-within (at i t) a c l
  from-within BESIDE t i a c j l = two-within (beside i) a c l
  from-within SOME t i a c j l = one-within (some-name i) (i ∷ a) c l
  from-within SOMETIME t i a c j l = one-within (sometime i) a c l
  from-within SOMEWHERE t i a c j l = one-within (somewhere i) a c l
  from-within PLACED t i a c j l = one-within (placed i c.number t) a (next_part c) l
  from-within OTHER t i a c j l = j

-- a rule is refused where the words end or sooner
read-within : (x f around : ℕ) (somes : List ℕ) (c : Cursor) → Ends x c → Within x (read_rule f around somes c)
unfolding read_rule
read-within x zero around somes c l = omega arith
read-within x (suc f) around somes c l =
    bind-within x (next_word 11 c) _ (next-within x 11 c l)
    (λ q e. bind-within x (ask 8 c.index (operand_fits (rule_kind q.0) (operand q.0))) _ (ask-within x 8 c.index _ (omega arith))
    (λ _ _. bind-within x (ask 9 c.index (bound somes (rule_kind q.0) (operand q.0))) _ (ask-within x 9 c.index _ (omega arith))
    (λ _ _. bind-within x (ask 10 c.index (leb around 64 && leb (somes_with (rule_kind q.0) (length somes)) 8)) _ (ask-within x 10 c.index _ (omega arith))
    (λ _ _. from-within x (read_rule f (suc around)) (rule-read f (suc around)) (read-within x f (suc around)) (rule_kind q.0) (term_of (operand q.0)) c.index somes q.1 (omega arith) (next-ends x 11 c q e l)))))

-- THEOREM: a rule is refused at a place that is at most 256.
pub rule-within : (n : ℕ) (ws : List ℕ) → Within 256 (read_whole_rule n ws)
unfolding read_whole_rule
rule-within n ws =
    bind-within 256 (ask 7 0 (leb 1 (length ws) && leb (length ws) 256)) _ (ask-within 256 7 0 _ (omega arith))
    (λ u e₁.
    let few : length ws ≤ 256 = leb-true (length ws) 256 ((and-eq-true_iff (leb 1 (length ws)) _).0 (ask-inv 7 0 _ u e₁)).1 in
    bind-within 256 (read_rule (length ws) 0 [] (cursor 0 0 ws)) _ (read-within 256 (length ws) 0 [] (cursor 0 0 ws) (omega arith))
    (λ q e. bind-within 256 (ask 11 q.1.index (is_empty q.1.left)) _
    (ask-within 256 11 q.1.index _ (omega (arith, (rule-read (length ws) 0 [] (cursor 0 0 ws) q e).advances.within)))
    (λ _ _. bind-within 256 (ask 12 0 (leb (n + q.1.number) 64)) _ (ask-within 256 12 0 _ (omega arith)) (λ _ _. tt))))

-- How a rule is read from words: questions 7 to 12 (document 01, "Questions at the door").
-- Assumes nothing: these are definitions.
use Rattle.std.specs.Prelude.{ℕ, zero, suc, ◌+◌, ◌-◌, Bool, true, false, ◌&&◌, ◌||◌, cond, List, [], ◌∷◌, get_or, length, leb, eqb}
use Rattle.read_messages.specs.Words.{kind, operand, name_fits, member}
use Rattle.read_messages.specs.Reading.{Cursor, cursor, Reading, refuse, got, ◌>>=◌, ask, next_word, next_part, is_empty}
use Rattle.read_rule_words.specs.Rule.{Term, constant, chosen, Rule, truth, negation, either, void, at, beside, some-name, sometime, somewhere, placed}

pub data RuleKind : Type 0 where
  TRUE NOT OR VOID AT BESIDE SOME SOMETIME SOMEWHERE PLACED OTHER : RuleKind

-- "Rule words in prefix order: 0 TRUE, 1 NOT, 2 OR, 3 VOID, 4 AT, 5 BESIDE, 6 SOME, 7 SOMETIME, 8 SOMEWHERE, 9 PLACED"
unfoldable pub rule_kind : ℕ → RuleKind
rule_kind w = get_or (TRUE ∷ NOT ∷ OR ∷ VOID ∷ AT ∷ BESIDE ∷ SOME ∷ SOMETIME ∷ SOMEWHERE ∷ PLACED ∷ []) (kind w) OTHER

-- "with bit 27 set the index of a SOME"
unfoldable pub is_chosen : ℕ → Bool
is_chosen n = leb 134217728 n

unfoldable pub term_of : ℕ → Term
term_of n = cond (is_chosen n) (chosen (n - 134217728)) (constant n)

-- question 8: "Does it fit (variable: any index)?"
unfoldable pub operand_fits : RuleKind → (operand : ℕ) → Bool
operand_fits TRUE n = eqb n 0
operand_fits NOT n = eqb n 0
operand_fits OR n = eqb n 0
operand_fits VOID n = eqb n 0
operand_fits AT n = name_fits n || is_chosen n
operand_fits BESIDE n = eqb n 0
operand_fits SOME n = eqb n 0
operand_fits SOMETIME n = eqb n 0
operand_fits SOMEWHERE n = eqb n 0
operand_fits PLACED n = name_fits n || is_chosen n
operand_fits OTHER n = false

unfoldable pub term_bound : (somes : List ℕ) → Term → Bool
term_bound somes (constant n) = true
term_bound somes (chosen i) = member i somes

-- question 9: "Is the variable's SOME around it?", `somes` being the indices of the SOMEs around, innermost first
unfoldable pub bound : (somes : List ℕ) → RuleKind → (operand : ℕ) → Bool
bound somes TRUE n = true
bound somes NOT n = true
bound somes OR n = true
bound somes VOID n = true
bound somes AT n = term_bound somes (term_of n)
bound somes BESIDE n = true
bound somes SOME n = true
bound somes SOMETIME n = true
bound somes SOMEWHERE n = true
bound somes PLACED n = term_bound somes (term_of n)
bound somes OTHER n = true

-- the SOMEs around a word, "counting itself"
unfoldable pub somes_with : RuleKind → ℕ → ℕ
somes_with TRUE n = n
somes_with NOT n = n
somes_with OR n = n
somes_with VOID n = n
somes_with AT n = n
somes_with BESIDE n = n
somes_with SOME n = suc n
somes_with SOMETIME n = n
somes_with SOMEWHERE n = n
somes_with PLACED n = n
somes_with OTHER n = n

abbrev pub Reader : Type 0
Reader = (somes : List ℕ) → Cursor → Reading (Rule × Cursor)

-- one rule, and two
unfoldable pub one_rule : (Rule → Rule) → (read : Cursor → Reading (Rule × Cursor)) → Cursor → Reading (Rule × Cursor)
one_rule f read c = do
  (r, c₁) ← read c
  got (f r, c₁)

unfoldable pub two_rules : (Rule → Rule → Rule) → (read : Cursor → Reading (Rule × Cursor)) → Cursor → Reading (Rule × Cursor)
two_rules f read c = do
  (r, c₁) ← read c
  (q, c₂) ← read c₁
  got (f r q, c₂)

-- the rule whose word at the index i has that kind and term, the cursor behind that word; `read` reads the rules inside it
unfoldable pub rule_from : Reader → RuleKind → Term → (i : ℕ) → (somes : List ℕ) → Cursor → Reading (Rule × Cursor)
rule_from read TRUE t i somes c = got (truth i, c)
rule_from read NOT t i somes c = one_rule (negation i) (read somes) c
rule_from read OR t i somes c = two_rules (either i) (read somes) c
rule_from read VOID t i somes c = got (void i, c)
rule_from read AT t i somes c = one_rule (at i t) (read somes) c
rule_from read BESIDE t i somes c = two_rules (beside i) (read somes) c
rule_from read SOME t i somes c = one_rule (some-name i) (read (i ∷ somes)) c
rule_from read SOMETIME t i somes c = one_rule (sometime i) (read somes) c
rule_from read SOMEWHERE t i somes c = one_rule (somewhere i) (read somes) c
rule_from read PLACED t i somes c = one_rule (placed i c.number t) (read somes) (next_part c)
rule_from read OTHER t i somes c = refuse 8 i

-- The rule at the cursor, `around` rules around it. The cursor's number counts the PLACED words. `fuel` bounds the recursion:
-- as many as there are words left is enough, and more changes nothing.
unfoldable pub read_rule : (fuel around : ℕ) → Reader
read_rule zero around somes c = refuse 11 c.index
read_rule (suc f) around somes c = do
  (w, c₁) ← next_word 11 c
  _ ← ask 8 c.index (operand_fits (rule_kind w) (operand w))
  _ ← ask 9 c.index (bound somes (rule_kind w) (operand w))
  _ ← ask 10 c.index (leb around 64 && leb (somes_with (rule_kind w) (length somes)) 8)
  rule_from (read_rule f (suc around)) (rule_kind w) (term_of (operand w)) c.index somes c₁

-- Questions 7 to 12, n being the script's parts: the rule, and the cursor behind it, whose number is that of its PLACED words.
unfoldable pub read_whole_rule : (n : ℕ) → List ℕ → Reading (Rule × Cursor)
read_whole_rule n ws = do
  _ ← ask 7 0 (leb 1 (length ws) && leb (length ws) 256)
  (r, c) ← read_rule (length ws) 0 [] (cursor 0 0 ws)
  _ ← ask 11 c.index (is_empty c.left)
  _ ← ask 12 0 (leb (n + c.number) 64)
  got (r, c)

-- To unfold this is to unfold every definition of this module: for a proof by computation.
unfoldable pub computing : Unit {0}
unfolding rule_kind is_chosen term_of operand_fits term_bound bound somes_with one_rule two_rules rule_from read_rule read_whole_rule
computing = tt

-- Rules (document 01, "The rule and its walk"). Assumes nothing: these are definitions.
use Rattle.std.specs.Prelude.{ℕ, suc, ◌≤◌, max, ◌&&◌, ◌||◌, cond, List, [], ◌∷◌, eqb, ltb}
use Rattle.read_messages.specs.Words.{kind, operand}

-- "The operand of AT and PLACED is a name 1 to 255, or with bit 27 set the index of a SOME around it."
pub data Term : Type 0 where
  constant : ℕ → Term
  chosen : ℕ → Term

-- "0 TRUE, 1 NOT, 2 OR, 3 VOID, 4 AT, 5 BESIDE, 6 SOME, 7 SOMETIME, 8 SOMEWHERE, 9 PLACED; 2 and 5 take two rules, 1, 4, 6
-- to 9 one." Each has its word's index first; PLACED has then its rank among the PLACED words, from 0.
pub data Rule : Type 0 where
  truth : ℕ → Rule
  negation : ℕ → Rule → Rule
  either : ℕ → Rule → Rule → Rule
  void : ℕ → Rule
  at : ℕ → Term → Rule → Rule
  beside : ℕ → Rule → Rule → Rule
  some-name : ℕ → Rule → Rule
  sometime : ℕ → Rule → Rule
  somewhere : ℕ → Rule → Rule
  placed : ℕ → ℕ → Term → Rule → Rule

-- the index of a rule's own word
unfoldable pub rule_index : Rule → ℕ
rule_index (truth i) = i
rule_index (negation i r) = i
rule_index (either i r q) = i
rule_index (void i) = i
rule_index (at i t r) = i
rule_index (beside i r q) = i
rule_index (some-name i r) = i
rule_index (sometime i r) = i
rule_index (somewhere i r) = i
rule_index (placed i j t r) = i

-- the names chosen so far: the index of each SOME around, innermost first, with its name
abbrev pub Names : Type 0
Names = List (ℕ × ℕ)

unfoldable pub chosen_name : Names → ℕ → ℕ
chosen_name [] i = 0
chosen_name (p ∷ ps) i = cond (eqb p.0 i) p.1 (chosen_name ps i)

-- the name that AT or PLACED says
unfoldable pub term_name : Names → Term → ℕ
term_name e (constant n) = n
term_name e (chosen i) = chosen_name e i

-- the plain operand of a word of AT or PLACED, 0 for any other
unfoldable pub rule_name : ℕ → ℕ
rule_name w = cond ((eqb (kind w) 4 || eqb (kind w) 9) && ltb (operand w) 134217728) (operand w) 0

-- "the greatest name in .. rule (0 if none)"
unfoldable pub greatest_rule_name : List ℕ → ℕ
greatest_rule_name [] = 0
greatest_rule_name (w ∷ ws) = max (rule_name w) (greatest_rule_name ws)

-- "The j-th PLACED word (from 0) makes part n + j": the PLACED words in a rule are m or later, and those inside another are
-- later than that
abbrev pub Later : (m : ℕ) → Rule → Type 0
Later m (truth i) = Unit {0}
Later m (negation i r) = Later m r
Later m (either i r q) = Later m r × Later m q
Later m (void i) = Unit {0}
Later m (at i t r) = Later m r
Later m (beside i r q) = Later m r × Later m q
Later m (some-name i r) = Later m r
Later m (sometime i r) = Later m r
Later m (somewhere i r) = Later m r
Later m (placed i j t r) = (m ≤ j) × Later (suc j) r

-- To unfold this is to unfold every definition of this module: for a proof by computation.
unfoldable pub computing : Unit {0}
unfolding rule_index chosen_name term_name rule_name greatest_rule_name
computing = tt

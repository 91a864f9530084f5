-- What the readers of rules ask and answer, and the rule table that they fill, as a function of the rule that the words are
-- read as. Assumes nothing: these are definitions.
use Rattle.std.specs.Prelude.{ℕ, ◌+◌, ◌≤◌, ◌<◌, List, length, set, replicate, Result, Ok}
use Rattle.read_messages.specs.Reading.{Cursor, Reading, refuse, got, refusal_at}
use Rattle.read_messages.specs.declared.Refusal.{Refusal}
use Rattle.read_rule_words.specs.Rule.{Rule, truth, negation, either, void, at, beside, some-name, sometime, somewhere, placed, rule_index}
use Rattle.read_rules.specs.declared.RuleTable.{RuleTable}
use Rattle.read_rules.specs.declared.RuleScan.{RuleScan}

-- no rule
abbrev pub vacant : RuleTable
vacant = record { rights = replicate 256 0; placings = replicate 256 0; count = 0 }

-- the right rule of the OR or BESIDE at the index i starts at the index k
abbrev pub turned : (i k : ℕ) → RuleTable → RuleTable
turned i k t = record { rights = set t.rights i k; placings = t.placings; count = t.count }

-- "The j-th PLACED word (from 0)" is the one at the index i
abbrev pub entered : (i j : ℕ) → RuleTable → RuleTable
entered i j t = record { rights = t.rights; placings = set t.placings i j; count = t.count + 1 }

-- the table after a rule was read
unfoldable pub tabulate : Rule → RuleTable → RuleTable
tabulate (truth i) t = t
tabulate (negation i r) t = tabulate r t
tabulate (either i r q) t = tabulate q (turned i (rule_index q) (tabulate r t))
tabulate (void i) t = t
tabulate (at i n r) t = tabulate r t
tabulate (beside i r q) t = tabulate q (turned i (rule_index q) (tabulate r t))
tabulate (some-name i r) t = tabulate r t
tabulate (sometime i r) t = tabulate r t
tabulate (somewhere i r) t = tabulate r t
tabulate (placed i j n r) t = tabulate r (entered i j t)

-- What the readers of the code answer.
unfoldable pub scanned : RuleTable → Reading (Rule × Cursor) → Result RuleScan Refusal
scanned t (refuse q i) = refusal_at q i
scanned t (got p) = Ok (record { next = p.1.index; table = tabulate p.0 t })

unfoldable pub table_of : Reading (Rule × Cursor) → Result RuleTable Refusal
table_of (refuse q i) = refusal_at q i
table_of (got p) = Ok (tabulate p.0 vacant)

-- what the reader of rules is called with: the words, the first of which has the index `at`, so many rules around them, the
-- index from which on the array has the SOMEs around, and so many PLACED words before
pub record Readable (words : List ℕ) (at around first count : ℕ) : Type 0 where
  -- a rule has at most 256 words
  pub few : at + length words ≤ 256
  -- question 10 lets in at most 64 rules around a word, and is still to ask
  pub shallow : around ≤ 65
  -- the SOMEs around stand in an array of 8
  pub somes : first ≤ 8
  -- the PLACED words are among the words
  pub fewer : count ≤ at

-- what a PLACED word is entered with: its index, and so many PLACED words before it
pub record Enterable (at count : ℕ) : Type 0 where
  -- a rule has at most 256 words
  pub inside : at < 256
  -- the PLACED words before it are fewer: its placing is one byte
  pub fewer : count < 256

-- To unfold this is to unfold every definition of this module: for a proof by computation.
unfoldable pub computing : Unit {0}
unfolding tabulate scanned table_of
computing = tt

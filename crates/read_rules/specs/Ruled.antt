-- How the rule's words and the rule table represent the rule that was read: what a walk that stands at a word's index may
-- know of the rule there. The law that they do is in proofs/Tabled.antt. Assumes nothing: these are definitions.
use Rattle.std.specs.Prelude.{ℕ, suc, ◌+◌, ◌≤◌, ◌<◌, true, ◌||◌, List, [], ◌∷◌, ◌≡◌, get_or, length, Result, Ok}
use Rattle.read_messages.specs.Words.{kind, operand, name_fits}
use Rattle.read_messages.specs.Reading.{Cursor, got}
use Rattle.read_messages.specs.declared.Refusal.{Refusal}
use Rattle.read_rule_words.specs.Rule.{Term, Rule, truth, negation, either, void, at, beside, some-name, sometime, somewhere, placed, rule_index}
use Rattle.read_rule_words.specs.ReadRule.{is_chosen, term_of, term_bound, read_whole_rule}
use Rattle.read_rules.specs.RuleTable.{table_of}
use Rattle.read_rules.specs.declared.RuleTable.{RuleTable}

module _ (words : List ℕ) where
  -- "a word's top 4 bits are its kind": the word at the index i has the kind k
  pub record Worded (k i : ℕ) : Type 0 where
    pub inside : i < length words
    pub kind : kind (get_or words i 0) ≡ k

  -- "The operand of AT and PLACED is a name 1 to 255, or with bit 27 set the index of a SOME around it": t is the term of the
  -- word at the index i
  pub record Said (somes : List ℕ) (i : ℕ) (t : Term) : Type 0 where
    pub term : t ≡ term_of (operand (get_or words i 0))
    pub fits : (name_fits (operand (get_or words i 0)) || is_chosen (operand (get_or words i 0))) ≡ true
    pub bound : term_bound somes t ≡ true

  -- "in prefix order": the rule stands at its index, the first rule inside it behind its word, and the second where the table
  -- says; `somes` are the SOMEs around it.
  abbrev pub Ruled : RuleTable → (somes : List ℕ) → Rule → Type 0
  Ruled t somes (truth i) = Worded 0 i
  Ruled t somes (negation i r) = Worded 1 i × (rule_index r ≡ i + 1) × Ruled t somes r
  Ruled t somes (either i r q) = Worded 2 i × (rule_index r ≡ i + 1) × Ruled t somes r × (rule_index q ≡ get_or t.rights i 0) × Ruled t somes q
  Ruled t somes (void i) = Worded 3 i
  Ruled t somes (at i n r) = Worded 4 i × (rule_index r ≡ i + 1) × Ruled t somes r × Said somes i n
  Ruled t somes (beside i r q) = Worded 5 i × (rule_index r ≡ i + 1) × Ruled t somes r × (rule_index q ≡ get_or t.rights i 0) × Ruled t somes q
  Ruled t somes (some-name i r) = Worded 6 i × (rule_index r ≡ i + 1) × Ruled t (i ∷ somes) r × (suc (length somes) ≤ 8)
  Ruled t somes (sometime i r) = Worded 7 i × (rule_index r ≡ i + 1) × Ruled t somes r
  Ruled t somes (somewhere i r) = Worded 8 i × (rule_index r ≡ i + 1) × Ruled t somes r
  Ruled t somes (placed i j n r) = Worded 9 i × (rule_index r ≡ i + 1) × Ruled t somes r × Said somes i n × (j ≡ get_or t.placings i 0) × (j < t.count)

-- the table and the words hold the whole rule p .0, beside a script of n parts
pub record Tabled (n : ℕ) (words : List ℕ) (t : RuleTable) (p : Rule × Cursor) : Type 0 where
  pub few : length words ≤ 256
  pub room : n + t.count ≤ 64
  pub counted : t.count ≡ p.1.number
  pub first : rule_index p.0 ≡ 0
  pub ruled : Ruled words t [] p.0

-- what the reader of the whole rule answers, beside a script of n parts
pub record Answers (n : ℕ) (words : List ℕ) (r : Result RuleTable Refusal) : Type 0 where
  -- the refusal or the table is that of the definition
  pub answer : r ≡ table_of (read_whole_rule n words)
  -- the table of a rule that is accepted, and the words, hold that rule
  pub table : (p : Rule × Cursor) (t : RuleTable) → read_whole_rule n words ≡ got p → r ≡ Ok t → Tabled n words t p

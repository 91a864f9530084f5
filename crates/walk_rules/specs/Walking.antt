-- What the whole walk asks of what it is lent, a rule and its table in one array, and the moves that lead to a yes.
-- Assumes nothing: these are definitions.
use Rattle.std.specs.Prelude.{ℕ, ◌+◌, ◌≤◌, ◌<◌, List, [], ◌≡◌, length, get_or, take}
use Rattle.read_messages.specs.Words.{kind}
use Rattle.read_messages.specs.Reading.{Cursor}
use Rattle.read_scripts.specs.Tree.{times_in}
use Rattle.read_rule_words.specs.Rule.{Rule, sometime, Later}
use Rattle.read_rules.specs.Ruled.{Tabled}
use Rattle.read_rules.specs.declared.RuleTable.{RuleTable}
use Rattle.theory_closures.specs.Closure.{Closure}
use Rattle.engine_states.specs.Represents.{Ready, Represents}
use Rattle.engine_states.specs.declared.State.{State}
use Rattle.walk_stages.specs.Visits.{machine_of}
use Rattle.walk_stages.specs.declared.Counts.{Counts}
use Rattle.walk_stages.specs.declared.Limits.{Limits}
use Rattle.walk_stages.specs.declared.Walked.{Walked}
use Rattle.walk_stages.specs.declared.Walked.TheVariants.{Yes}
use Rattle.walk_itineraries.specs.Leading.{LeadsTo}

-- no more parts and no greater names than those of a call, and a state of which what is kept is right
pub record RuleWalkable (script kinds starts : List ℕ) (s : State) (limits : Limits) : Type 0 where
  -- the script's parts, and with them those of the rule's PLACED words
  pub few-parts : limits.parts ≤ 64
  pub few-numbers : limits.limit ≤ 64
  -- names have 28 bits
  pub small-names : limits.greatest < 268435456
  pub ready : Ready script kinds starts s

-- The array `program` has the first i of a rule's words from 0 on (0 behind its last), of the starts of its right rules from
-- 256 on, and of the placings of its PLACED words from 512 on.
pub record Loading (words rights placings program : List ℕ) (i : ℕ) : Type 0 where
  pub long : length program ≡ 768
  pub word : (j : ℕ) → j < i → get_or program j 0 ≡ get_or words j 0
  pub right : (j : ℕ) → j < i → get_or program (256 + j) 0 ≡ get_or rights j 0
  pub number : (j : ℕ) → j < i → get_or program (512 + j) 0 ≡ get_or placings j 0

-- The moves that are counted and stand in the list, where r is what the whole walk answers.
pub record Routed (words : List ℕ) (table : RuleTable) (script kinds starts : List ℕ) (s : State) (limits : Limits) (r : Walked) (count : ℕ) (list : List ℕ) : Type 0 where
  -- no more than the list has room for
  pub few : count ≤ 256
  pub array : length list ≡ 256
  -- none where the rule's first word is not SOMETIME
  pub others : (kind (get_or words 0 0) ≡ 7 → ⊥) → count ≡ 0
  -- Where it is, and says yes: for every rule and every closure that the whole walk is asked of, they lead to a closure on which
  -- a visit of the inner rule says yes.
  pub moves : (weight spent : ℕ) (b : Closure) (p : Rule × Cursor) → Tabled limits.parts words table p → Later 0 p.0 → limits.limit ≡ limits.parts + table.count
      → Represents script kinds starts weight spent s b → weight ≤ limits.parts → ((i : ℕ) → limits.parts ≤ i → times_in i b ≡ 0) → spent + 256 < 4294967295
      → (q : Rule) → p.0 ≡ sometime 0 q → (n : Counts) → r ≡ Yes n → LeadsTo limits [] q (machine_of script s b) (take count list)

-- An itinerary with the yes (document 02, Req 01): what a call leaves in the list that it is lent. Not the walk: moves of the
-- plain machine, and the paper's own relation. Assumes nothing: these are definitions.
use Rattle.std.specs.Prelude.{ℕ, ◌≤◌, List, [], ◌++◌, ◌≡◌, length, get_or, drop}
use Rattle.read_messages.specs.Words.{kind}
use Rattle.theory_machine.specs.PlainMachine.{Machine}
use Rattle.read_rule_words.specs.Rule.{Rule, sometime}
use Rattle.theory_calculus.specs.Calculus.{Satisfies}
use Rattle.theory_calculus.specs.TreeProcess.{process}
use Rattle.theory_call.specs.Call.{Call, completed, run, parts_of}
use Rattle.theory_call.specs.Standing.{Standing}

-- "moves that lead from the standing tree to one that meets the inner rule": each word is answered by yes to questions 15 and
-- 16, n being the script's parts, and the process of the tree that they leave satisfies the rule by the paper's own relation
pub record Leads (n : ℕ) (m : Machine) (inner : Rule) (moves : List ℕ) : Type 0 where
  pub end : Machine
  pub made : run n 0 moves m ≡ completed end
  pub meets : Satisfies [] (process end.tree) inner

-- "the rule's first word is SOMETIME"
abbrev pub FirstSometime : Call → Type 0
FirstSometime c = kind (get_or c.rule 0 0) ≡ 7

-- "the call also fills a lent list with moves": so many as are counted, and "words behind the moves keep their content".
-- "Which such list is given is free": the moves are left open, and only what is said here holds of them.
pub record Itinerary (c : Call) (count : ℕ) (after : List ℕ) : Type 0 where
  pub standing : Standing c
  pub inner : Rule
  pub first : standing.rule.0 ≡ sometime 0 inner
  pub moves : List ℕ
  pub leads : Leads (parts_of standing.start) standing.machine inner moves
  pub counted : count ≡ length moves
  pub few : count ≤ 256
  pub written : after ≡ moves ++ drop count c.list

-- "the count is 0 and the list unwritten"
pub record Unlisted (c : Call) (count : ℕ) (after : List ℕ) : Type 0 where
  pub none : count ≡ 0
  pub unwritten : after ≡ c.list

-- What a call answers as the count and leaves in the list, `yes` being that its verdict is yes: "When the rule's first word is
-- SOMETIME and the verdict is yes", an itinerary; "In every other case the count is 0 and the list unwritten".
pub record Listed (c : Call) (yes : Type 0) (count : ℕ) (after : List ℕ) : Type 0 where
  pub shown : yes → FirstSometime c → Itinerary c count after
  pub others : ¬ (yes × FirstSometime c) → Unlisted c count after

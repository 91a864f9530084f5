-- What the call's functions hand on: a script and a rule that are read, with the tables that hold them, the state that
-- stands when the walk begins, that it can be walked and written, what the walk says, and what the call then comes to. Assumes nothing: these
-- are definitions.
use Rattle.std.specs.Prelude.{ℕ, ◌+◌, ◌≤◌, List, ◌≡◌, length, get_or, take}
use Rattle.read_messages.specs.Words.{kind}
use Rattle.read_messages.specs.Reading.{Cursor, got}
use Rattle.read_scripts.specs.Script.{Script, read_script}
use Rattle.read_scripts.specs.Represents.{Tabled}
use Rattle.read_scripts.specs.declared.Table.{Table}
use Rattle.read_rule_words.specs.Rule.{Rule, sometime}
use Rattle.read_rule_words.specs.ReadRule.{read_whole_rule}
use Rattle.read_rules.specs.Ruled as rules
use Rattle.read_rules.specs.declared.RuleTable.{RuleTable}
use Rattle.theory_closures.specs.Closure.{Closure, ClosureMachine, unfold_machine}
use Rattle.engine_states.specs.Represents.{bound_in, Ready, Represents}
use Rattle.engine_states.specs.declared.State.{State}
use Rattle.write_heads.specs.Heads.{Scripted}
use Rattle.theory_decision.specs.Walk.{walk_from}
use Rattle.theory_decision.specs.Walk as spec
use Rattle.theory_decision.specs.ClosureWalk.{closure_space}
use Rattle.theory_call.specs.Call.{Call, asking, terms, walked, start_of, setting}
use Rattle.theory_call.specs.ClosureCall.{completed, closure_run, begun}
use Rattle.theory_call.specs.Itinerary.{Leads}
use Rattle.walk_stages.specs.Visits.{walked_of}
use Rattle.walk_stages.specs.declared.Counts.{Counts}
use Rattle.walk_stages.specs.declared.Walked.{Walked}
use Rattle.walk_stages.specs.declared.Walked.TheVariants.{Yes}
use Rattle.call_answers.specs.Answering.{answer_of, call_of}
use Rattle.call_answers.specs.declared.Answer.{Answer}
use Rattle.call_itineraries.specs.Showing.{Listable}
use Rattle.checker.specs.declared.Request.{Request}

-- what a call is lent, by the request and the buffers
abbrev pub call_by : Request → (buffer list : List ℕ) → Call
call_by r buffer list = call_of r.script.now r.moves.now r.rule.now r.patience buffer list

-- the script is read, and the table holds it
pub record ScriptHeld (script : List ℕ) (t : Table) : Type 0 where
  pub read : Script × Cursor
  pub reads : read_script script ≡ got read
  pub tabled : Tabled script t read.0

-- the rule is read beside n parts, and the table holds it
pub record RuleHeld (n : ℕ) (words : List ℕ) (t : RuleTable) : Type 0 where
  pub read : Rule × Cursor
  pub reads : read_whole_rule n words ≡ got read
  pub tabled : rules.Tabled n words t read

-- questions 1 to 12 are answered by yes
pub record BothHeld (script words : List ℕ) (parts : Table) (table : RuleTable) : Type 0 where
  -- the script is read, and its table holds it
  pub held : ScriptHeld script parts
  -- the rule is read beside the script's parts, and its table holds it
  pub ruled : RuleHeld parts.count words table

-- questions 1 to 14 and 21 are answered by yes
pub record Entered (script moves words : List ℕ) (patience : ℕ) (list : List ℕ) (parts : Table) (table : RuleTable) : Type 0 where
  -- script and rule are read, and their tables hold them
  pub both : BothHeld script words parts table
  -- the patience, the number of moves and the list's length fit
  pub asked : asking (terms patience (length moves) (length list)) ≡ got tt

-- questions 1 to 16 and 21 are answered by yes, and the state represents the machine that the moves leave
pub record StateHeld (script moves words : List ℕ) (patience : ℕ) (list : List ℕ) (parts : Table) (table : RuleTable) (s : State) : Type 0 where
  pub entered : Entered script moves words patience list parts table
  pub machine : ClosureMachine
  pub runs : closure_run parts.count 0 moves (begun entered.both.held.read.0) ≡ completed machine
  pub represents : Represents script parts.kinds parts.starts parts.count (length moves) s machine.tree
  pub bound : bound_in script s ≡ machine.bindings

-- the state can be written
pub record Writable (script kinds starts : List ℕ) (s : State) : Type 0 where
  -- what is counted with its bindings is right, and what is kept of its parts
  pub ready : Ready script kinds starts s
  -- the parts' messages stand in the script, and no action has too many items spent
  pub scripted : Scripted starts s.offsets

-- the state can be walked with the rule, and written
pub record Walkable (script : List ℕ) (parts : Table) (table : RuleTable) (s : State) : Type 0 where
  -- it can be written
  pub writable : Writable script parts.kinds parts.starts s
  -- the parts that PLACED words make have numbers behind the script's
  pub room : parts.count + table.count ≤ 64

-- What the walk says on the machine that stands, w, and how many words it found that lead on from there.
pub record WalkSays {script moves words : List ℕ} {patience : ℕ} {list : List ℕ} {parts : Table} {table : RuleTable} {s : State} (S : StateHeld script moves words patience list parts table s) (w : Walked) (count : ℕ)
    (found : List ℕ) : Type 0 where
  -- it says what the walk's definition says, with whatever buffer the call is lent
  pub says : (buffer : List ℕ)
      → walked_of w ≡ walk_from (closure_space (S.entered.both.held.read.1.number + S.entered.both.ruled.read.1.number))
      (setting (call_of script moves words patience buffer list) (start_of script S.entered.both.held.read)) S.entered.both.ruled.read.0 S.machine
  pub few : count ≤ 256
  pub array : length found ≡ 256
  -- a yes to SOMETIME: they lead to where the inner rule is met
  pub leads : (q : Rule) → S.entered.both.ruled.read.0 ≡ sometime 0 q → (n : Counts) → w ≡ Yes n
      → Leads S.entered.both.held.read.1.number (unfold_machine S.machine) q (take count found)
  -- where the rule's first word is another, none is counted
  pub others : (kind (get_or words 0 0) ≡ 7 → ⊥) → count ≡ 0

-- the state can be written, and the list has room for so many of the words found
pub record Concludable (script : List ℕ) (parts : Table) (s : State) (count : ℕ) (found list : List ℕ) : Type 0 where
  pub writable : Writable script parts.kinds parts.starts s
  pub listable : Listable count found list

-- For every list of so many moves and every closure that the state represents: the answer, with the buffer as it is at exit,
-- is what the call comes to where the walk, on the machine that stands, says v.
pub record ComesTo (script kinds starts : List ℕ) (s : State) (moves : ℕ) (before after : List ℕ) (r : Answer) (v : spec.Walked) : Type 0 where
  pub ends : (made rule : List ℕ) (patience : ℕ) (list : List ℕ) (weight spent : ℕ) (b : Closure) → moves ≡ length made → Represents script kinds starts weight spent s b
      → answer_of r after ≡ walked (call_of script made rule patience before list) (unfold_machine (record { tree = b; bindings = bound_in script s })) v

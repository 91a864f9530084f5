-- What the functions of the walk answer, by what they are lent: the rule's words and table as one array, a state and its part
-- table as two, and the names chosen so far. Assumes nothing: these are definitions.
use Rattle.std.specs.Prelude.{ℕ, suc, ◌+◌, ◌-◌, ◌≤◌, ◌<◌, true, false, cond, List, [], ◌∷◌, ◌≡◌, ltb, get_or, length}
use Rattle.read_messages.specs.Words.{kind, member}
use Rattle.read_scripts.specs.Tree.{times_in}
use Rattle.read_scripts.specs.Represents.{body_in}
use Rattle.read_rule_words.specs.Rule.{Later, Term, constant, chosen, Names, chosen_name, Rule, beside, rule_index}
use Rattle.read_messages.specs.Reading.{Cursor}
use Rattle.read_rules.specs.Ruled.{Ruled, Tabled}
use Rattle.read_rules.specs.declared.RuleTable.{RuleTable}
use Rattle.theory_closures.specs.Closure.{Closure, ClosureMachine}
use Rattle.engine_states.specs.Represents.{heads, bound_in, Ready, Represents}
use Rattle.engine_states.specs.declared.State.{State}
use Rattle.engine_state_arrays.specs.Lent.{Small, kinds_in, starts_in, state_in}
use Rattle.theory_decision.specs.Walk.{Count, Setting, on_yes, look, walk, walk_from}
use Rattle.theory_decision.specs.Walk as spec
use Rattle.theory_decision.specs.ClosureWalk.{closure_space}
use Rattle.walk_stages.specs.Pieces.{Divides}
use Rattle.walk_stages.specs.declared.Counts.{Counts}
use Rattle.walk_stages.specs.declared.Limits.{Limits}
use Rattle.walk_stages.specs.declared.Walked.{Walked}
use Rattle.walk_stages.specs.declared.Walked.TheVariants.{Yes, No, Stopped}

-- the counts and answers of the engine, by document 01's numbers
abbrev pub count_of : Counts → Count
count_of c = record { visits = c.visits; deepest = c.deepest }

unfoldable pub walked_of : Walked → spec.Walked
walked_of (Yes c) = spec.says true (count_of c)
walked_of (No c) = spec.says false (count_of c)
walked_of (Stopped q p v) = spec.stopped q p v

abbrev pub setting_of : Limits → Setting
setting_of l = record { patience = l.patience; greatest = l.greatest; parts = l.parts }

-- the indices of the SOMEs around, innermost first
abbrev pub indices : Names → List ℕ
indices [] = []
indices (p ∷ e) = p.0 ∷ indices e

-- `chosen` has at a SOME's index the name chosen for it; every name is one that SOME tries
pub record Chosen (greatest : ℕ) (e : Names) (chosen : List ℕ) (somes : ℕ) : Type 0 where
  pub number : length e ≡ somes
  pub names : (i : ℕ) → member i (indices e) ≡ true → (i < 256) × (chosen_name e i ≡ get_or chosen i 0) × (get_or chosen i 0 ≤ greatest + somes)

-- What holds where the engine visits the rule q, at a word's index, on the state s, with `left` depths left: s represents
-- the closure b, all of whose numbers are below n + from, and no PLACED word in q is earlier than `from`.
pub record Stage (words : List ℕ) (table : RuleTable) (script kinds starts : List ℕ) (limits : Limits) (chosen : List ℕ) (somes left : ℕ) (s : State) (index : ℕ)
    (weight spent from : ℕ) (e : Names) (q : Rule) (b : Closure) : Type 0 where
  pub ready : Ready script kinds starts s
  pub represents : Represents script kinds starts weight spent s b
  pub slack : spent + left < 4294967295
  pub below : (i : ℕ) → limits.parts + from ≤ i → times_in i b ≡ 0
  pub light : weight ≤ limits.parts + from
  pub within : limits.parts + from ≤ limits.limit
  pub limited : limits.limit ≡ limits.parts + table.count
  pub few : limits.limit ≤ 64
  pub greatest : limits.greatest < 268435456
  pub short : length words ≤ 256
  pub ruled : Ruled words table (indices e) q
  pub stood : rule_index q ≡ index
  pub later : Later from q
  pub named : Chosen limits.greatest e chosen somes

-- the machine whose tree is b
abbrev pub machine_of : (script : List ℕ) → State → Closure → ClosureMachine
machine_of script s b = record { tree = b; bindings = bound_in script s }

-- the name that a term says, by the names chosen so far
unfoldable pub name_said : (names : List ℕ) → Term → ℕ
name_said names (constant n) = n
name_said names (chosen i) = cond (ltb i 256) (get_or names i 0) 0

-- The lent arrays hold a state of which the bindings are counted, and what is kept of the parts is right.
pub record Lendable (script sets numbers : List ℕ) (top : ℕ) : Type 0 where
  pub sets-long : length sets ≡ 131
  pub numbers-long : length numbers ≡ 481
  pub small : Small numbers
  pub ready : Ready script (kinds_in numbers) (starts_in numbers) (state_in sets numbers top)

-- What a visit asks of what it is lent: no more SOMEs around than question 10 lets in, no more parts and no greater names than
-- those of a call, and a state.
pub record Visitable (script sets numbers : List ℕ) (top somes : ℕ) (limits : Limits) : Type 0 where
  pub few-somes : somes ≤ 8
  pub few-numbers : limits.limit ≤ 64
  pub few-parts : limits.parts ≤ 64
  pub small-names : limits.greatest < 268435456
  pub state : Lendable script sets numbers top

-- `program` has the rule's words, from 256 on the starts of right rules, and from 512 on the places among the PLACED words
pub record Loaded (program words : List ℕ) (table : RuleTable) : Type 0 where
  pub word : (i : ℕ) → i < length words → get_or program i 0 ≡ get_or words i 0
  pub right : (i : ℕ) → i < 256 → get_or program (256 + i) 0 ≡ get_or table.rights i 0
  pub number : (i : ℕ) → i < 256 → get_or program (512 + i) 0 ≡ get_or table.placings i 0

-- A rule and a closure that stand where the engine visits, with `left` depths left.
pub record Scene (program script sets numbers chosen : List ℕ) (top somes left index : ℕ) (limits : Limits) : Type 0 where
  pub words : List ℕ
  pub table : RuleTable
  pub weight : ℕ
  pub spent : ℕ
  pub from : ℕ
  pub names : Names
  pub rule : Rule
  pub tree : Closure
  pub loaded : Loaded program words table
  pub stage : Stage words table script (kinds_in numbers) (starts_in numbers) limits chosen somes left (state_in sets numbers top) index weight spent from names rule tree

-- the closure beside the bindings that are lent
abbrev pub here : (script sets numbers : List ℕ) (top : ℕ) → Closure → ClosureMachine
here script sets numbers top b = machine_of script (state_in sets numbers top) b

-- a visit with `left` depths left, this one counted
abbrev pub visits : Limits → (left : ℕ) → Names → Rule → ClosureMachine → Count → spec.Walked
visits limits left e q m n = walk (closure_space limits.limit) (setting_of limits) left (257 - left) e q m n

module _ (program script sets numbers chosen : List ℕ) (top somes left index : ℕ) (limits : Limits) (c : Counts) (r : Walked) where
  -- r is what the walk's definition answers at that visit
  abbrev pub Visits : Type 0
  Visits = (X : Scene program script sets numbers chosen top somes left index limits) → walked_of r ≡ visits limits left X.names X.rule (here script sets numbers top X.tree) (count_of c)

  -- r is what it answers behind the count of a visit to a word of that kind, with `left` depths left below it
  abbrev pub Looks : (k : ℕ) → Type 0
  Looks k =
      (X : Scene program script sets numbers chosen top somes (suc left) index limits) → kind (get_or program index 0) ≡ k
      → walked_of r ≡ look (closure_space limits.limit) (setting_of limits) (visits limits left) X.names X.rule (here script sets numbers top X.tree) (count_of c)

  -- "left with the share, on yes right with the rest"
  abbrev pub Splits : (share : ℕ) → Type 0
  Splits share =
      (X : Scene program script sets numbers chosen top somes (suc left) index limits) (q p : Rule) (d : Closure × Closure) → X.rule ≡ beside index q p
      → Divides (body_in (state_in sets numbers top).kids) (heads script (kinds_in numbers) (starts_in numbers) (state_in sets numbers top).offsets) X.tree top share d
      → walked_of r ≡ on_yes (visits limits left X.names q (here script sets numbers top d.0) (count_of c)) (λ n. visits limits left X.names p (here script sets numbers top d.1) n)

-- r is what the whole walk answers, for every rule that the words and the table hold and every closure that the state
-- represents, all of whose parts are the script's
abbrev pub Walks : (words : List ℕ) (table : RuleTable) (script kinds starts : List ℕ) → State → Limits → Walked → Type 0
Walks words table script kinds starts s limits r =
    (weight spent : ℕ) (b : Closure) (p : Rule × Cursor) → Tabled limits.parts words table p → Later 0 p.0 → limits.limit ≡ limits.parts + table.count
    → Represents script kinds starts weight spent s b → weight ≤ limits.parts → ((i : ℕ) → limits.parts ≤ i → times_in i b ≡ 0) → spent + 256 < 4294967295
    → walked_of r ≡ walk_from (closure_space limits.limit) (setting_of limits) p.0 (machine_of script s b)

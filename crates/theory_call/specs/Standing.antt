-- What a call's yes or no is about (demand 2), what its moves are in the paper's calculus, what is read again of the tree that
-- it writes, and what the moves keep to (demand 3's weight and bound). Not the walk: the script and the rule as read, and the
-- tree that stands after the moves. Assumes nothing: these are definitions.
use Rattle.std.specs.Prelude.{ℕ, ◌≤◌, true, false, List, [], ◌≡◌, ◌⊎◌, ◌↔◌, length, take}
use Rattle.read_messages.specs.Reading.{Cursor, refuse, got}
use Rattle.read_scripts.specs.Script.{Script, read_script}
use Rattle.read_scripts.specs.Measures.{moves_bound}
use Rattle.read_scripts.specs.Tree.{parts}
use Rattle.theory_machine.specs.PlainMachine.{Machine, weight_of}
use Rattle.read_rule_words.specs.Rule.{Rule}
use Rattle.theory_calculus.specs.Satisfaction.{Sat}
use Rattle.theory_calculus.specs.Calculus.{Process, ◌≅◌, Satisfies}
use Rattle.theory_calculus.specs.TreeProcess.{process}
use Rattle.theory_calculus.specs.Written.{written, Steps}
use Rattle.theory_call.specs.Call.{Call, Verdict, accepted, refused, completed, run, begun, Start, parts_of, starting, door}
use Rattle.theory_call.specs.Call as call
use Rattle.theory_call.specs.Nesting.{nesting}

-- what stands when the walk begins: the questions 1 to 6 give the start, 7 to 14 and 21 the rule, 15 and 16 the machine
pub record Standing (c : Call) : Type 0 where
  pub start : Start
  pub rule : Rule × Cursor
  pub machine : Machine
  pub starts : starting c ≡ got start
  pub enters : door c start ≡ got rule
  pub moves-made : run (parts_of start) 0 c.moves start.machine ≡ completed machine

-- the tree that stands meets the rule, read on normal forms
abbrev pub Meets : (c : Call) → Standing c → Type 0
Meets c s = Sat (parts_of s.start) [] s.rule.0 s.machine.tree

-- the process of the tree that stands satisfies the rule, by the paper's own relation
abbrev pub Holds : (c : Call) → Standing c → Type 0
Holds c s = Satisfies [] (process s.machine.tree) s.rule.0

-- demand 2: yes only where the process that stands satisfies the rule, no only where it does not
unfoldable pub Decides : (c : Call) → Verdict → Type 0
Decides c (accepted true) = (s : Standing c) × Holds c s
Decides c (accepted false) = (s : Standing c) × ¬ Holds c s
Decides c (refused q i) = Unit {0}

-- the machine after the first k moves of the list
abbrev pub After : (c : Call) → Script × Cursor → ℕ → Machine → Type 0
After c p k m = run p.1.number 0 (take k c.moves) (begun p.0) ≡ completed m

-- the first k moves of the list are made and are k reductions of the paper's, one after the other: they lead from the script
-- as it is written to a process that is, up to structural congruence, the process of the tree that then stands
pub record Reduced (c : Call) (p : Script × Cursor) (k : ℕ) (m : Machine) : Type 0 where
  pub within : k ≤ length c.moves
  pub made : After c p k m
  pub last : Process
  pub steps : Steps k (written p.0) last
  pub congruent : last ≅ process m.tree

-- so of the whole list, k moves, which leads to what stands when the walk begins
pub record ReducedWhole (c : Call) (k : ℕ) : Type 0 where
  pub standing : Standing c
  pub chain : Reduced c standing.start.read k standing.machine
  pub whole : k ≡ length c.moves

-- An answer's verdict and moves, in the paper's terms. Yes: the whole list leads from the script as written to a process that
-- satisfies the rule; no: to one that does not; refused: what was made of the list, "the moves made are those before it", is a
-- chain of reductions too.
unfoldable pub Reduces : (c : Call) → Verdict → (moves : ℕ) → Type 0
Reduces c (accepted true) k = (x : ReducedWhole c k) × Satisfies [] x.chain.last x.standing.rule.0
Reduces c (accepted false) k = (x : ReducedWhole c k) × ¬ Satisfies [] x.chain.last x.standing.rule.0
Reduces c (refused q i) k = (p : Script × Cursor) → read_script c.script ≡ got p → (m : Machine) × Reduced c p k m

-- words that are read again, where questions 1 to 6 let them in, as a script that says, as it is written, the process of a
-- machine's tree up to structural congruence
abbrev pub ReadAs : List ℕ → Machine → Type 0
ReadAs ws m = (q : Script × Cursor) → read_script ws ≡ got q → written q.0 ≅ process m.tree

-- words for which of the questions 1 to 6 only two can be answered by no: "1. Has the script 1 to 1,024 words?" and "4. Is
-- nesting at most 64?"
abbrev pub LetIn : List ℕ → Type 0
LetIn ws = (q i : ℕ) → read_script ws ≡ refuse q i → (q ≡ 1) ⊎ (q ≡ 4)

-- "The tree is written in the script's form": the words of a tree that stands before the first move or after any say, read
-- again, the process of that tree
unfoldable pub Returns : Call → Type 0
Returns c = (p : Script × Cursor) → read_script c.script ≡ got p → (k : ℕ) (m : Machine) → After c p k m → ReadAs (call.standing_words m) m

-- and only questions 1 and 4 can refuse them
unfoldable pub Readmits : Call → Type 0
Readmits c = (p : Script × Cursor) → read_script c.script ≡ got p → (k : ℕ) (m : Machine) → After c p k m → LetIn (call.standing_words m)

-- and they are let in just where there are at most 1,024 and their nesting is at most 64
unfoldable pub Admits : Call → Type 0
Admits c = (p : Script × Cursor) → read_script c.script ≡ got p → (k : ℕ) (m : Machine) → After c p k m
    → ((q : Script × Cursor) × (read_script (call.standing_words m) ≡ got q)) ↔ ((length (call.standing_words m) ≤ 1024) × (nesting m.tree ≤ 64))

-- and so of the words that a call leaves in the buffer where it is accepted: they say the process that stands
unfoldable pub Returned : (c : Call) → Verdict → (left : List ℕ) → Type 0
Returned c (accepted a) ws = (s : Standing c) × ReadAs ws s.machine
Returned c (refused q i) ws = Unit {0}

unfoldable pub Readmitted : Verdict → (left : List ℕ) → Type 0
Readmitted (accepted a) ws = LetIn ws
Readmitted (refused q i) ws = Unit {0}

-- the weight, "the parts in the tree plus twice the receipts made", is at most the script's parts, before the first move and
-- after each
unfoldable pub WeightHolds : Call → Type 0
WeightHolds c = (p : Script × Cursor) → read_script c.script ≡ got p → (k : ℕ) (m : Machine) → After c p k m → weight_of m ≤ parts p.0

-- and so of the weight that a call answers, refused or not
unfoldable pub WeightBounded : (script : List ℕ) (weight : ℕ) → Type 0
WeightBounded ws w = (p : Script × Cursor) → read_script ws ≡ got p → w ≤ parts p.0

-- both, of a call that answers this weight
pub record Weighed (c : Call) (weight : ℕ) : Type 0 where
  pub each : WeightHolds c
  pub told : WeightBounded c.script weight

-- the bound, r + a × s ^ (r + 1): "The bound counts the moves made, in a refused call too"; here of every beginning of a list
-- that is made
abbrev pub BoundHolds : Call → Type 0
BoundHolds c = (p : Script × Cursor) → read_script c.script ≡ got p → (k : ℕ) (m : Machine) → k ≤ length c.moves → After c p k m → k ≤ moves_bound p.0

-- and so of the moves that a call answers, refused or not
unfoldable pub MovesBounded : (script : List ℕ) (moves : ℕ) → Type 0
MovesBounded ws n = (p : Script × Cursor) → read_script ws ≡ got p → n ≤ moves_bound p.0

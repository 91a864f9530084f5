-- The whole call (document 01, "Questions at the door" and "What demand 3 compares"): the questions in their order, the
-- moves, the walk, and what is answered and written. Assumes nothing: these are definitions.
use Rattle.std.specs.Prelude.{ℕ, suc, ◌+◌, ◌/◌, ◌%◌, max, min, Bool, ◌&&◌, cond, List, [], ◌∷◌, ◌++◌, length, take, drop, leb, ltb, eqb}
use Rattle.std.proofs.Math.Option.{Option, none, some}
use Rattle.read_messages.specs.Words.{kind, operand}
use Rattle.read_messages.specs.Reading.{Cursor, Reading, refuse, got, ◌>>=◌, ask}
use Rattle.read_messages.specs.Message.{Message}
use Rattle.read_scripts.specs.Script.{Script, read_script, started}
use Rattle.read_script_words.specs.ScriptWords.{greatest_name}
use Rattle.theory_machine.specs.Moves.{MoveMade}
use Rattle.theory_machine.specs.PlainMachine.{move, Machine, weight_of}
use Rattle.theory_written_trees.specs.Write.{write}
use Rattle.read_rule_words.specs.Rule.{Rule, greatest_rule_name}
use Rattle.read_rule_words.specs.ReadRule.{read_whole_rule}
use Rattle.theory_decision.specs.Walk.{Count, Walked, stopped, says, Setting, walk_from}
use Rattle.theory_decision.specs.PlainWalk.{plain_space}

-- what a call is lent: "script, moves, rule, patience and the buffer as it was", and the list for an itinerary (document 02,
-- Req 01: "the plain machine is lent what a call gains")
pub record Call : Type 0 where
  pub script : List ℕ
  pub moves : List ℕ
  pub rule : List ℕ
  pub patience : ℕ
  pub buffer : List ℕ
  pub list : List ℕ

-- yes or no, or number and place
pub data Verdict : Type 0 where
  accepted : Bool → Verdict
  refused : (question place : ℕ) → Verdict

-- "An accepted call gives yes or no, moves, visits, deepest .. weight, words .. and writes the tree at the buffer's start"
pub record Answer : Type 0 where
  pub verdict : Verdict
  pub moves : ℕ
  pub visits : ℕ
  pub deepest : ℕ
  pub weight : ℕ
  pub words : ℕ
  pub buffer : List ℕ

-- the words of an answer at the buffer's start
abbrev pub left_by : Answer → List ℕ
left_by a = take a.words a.buffer

-- "A refused one gives number, place, moves and visits made (0 if none); deepest, weight and words are 0, and the buffer
-- isn't written."
unfoldable pub refusal : (question place moves visits : ℕ) → List ℕ → Answer
refusal q i m v b = record { verdict = refused q i; moves = m; visits = v; deepest = 0; weight = 0; words = 0; buffer = b }

-- a list of moves stops by question 15 or 16 at a place, or is made
pub data Ran : Type 0 where
  halted : (question place : ℕ) → Ran
  completed : Machine → Ran

-- "A move word has kind 1, the actor in bits 8 to 15, the target in bits 0 to 7, the rest zero."
abbrev pub actor : ℕ → ℕ
actor w = operand w / 256

abbrev pub target : ℕ → ℕ
target w = operand w % 256

-- question 15: "Is it a move word, both numbers below n?"
unfoldable pub move_fits : (n : ℕ) → ℕ → Bool
move_fits n w = eqb (kind w) 1 && (ltb (operand w) 65536 && (ltb (actor w) n && ltb (target w) n))

-- the machine after a move that was made
abbrev pub after_move : Machine → MoveMade (List Message) → Machine
after_move m s = record { tree = s.body; receipts = m.receipts + length s.news }

-- question 16: "Can the plain machine make it now?", and what follows if it can
unfoldable pub if_made : (place : ℕ) → Machine → Option (MoveMade (List Message)) → (Machine → Ran) → Ran
if_made i m none k = halted 16 i
if_made i m (some s) k = k (after_move m s)

-- "Each word of the list, in turn, is asked its questions on the tree that the moves before it left": i is the index of the
-- first word
unfoldable pub run : (n i : ℕ) → List ℕ → Machine → Ran
run n i [] m = completed m
run n i (w ∷ ws) m = cond (move_fits n w) (if_made i m (move (actor w) (target w) m.tree) (λ l. run n (suc i) ws l)) (halted 15 i)

-- "Its tree starts as the script's, with no receipt made."
abbrev pub begun : Script → Machine
begun b = record { tree = started b; receipts = 0 }

-- the words of the standing tree
abbrev pub standing_words : Machine → List ℕ
standing_words m = write [] 0 m.tree

-- question 19: "Does the tree that stands after the moves fit the output buffer, of which no more than the first 2^28 words
-- count?"
abbrev pub roomy : Call → Machine → Bool
roomy c m = leb (length (standing_words m)) (min (length c.buffer) 268435456)

-- what a call answers that is accepted; "words behind it keep their content"
abbrev pub accepting : Call → Machine → Bool → Count → Answer
accepting c m a n = record {
  verdict = accepted a;
  moves = length c.moves;
  visits = n.visits;
  deepest = n.deepest;
  weight = weight_of m;
  words = length (standing_words m);
  buffer = standing_words m ++ drop (length (standing_words m)) c.buffer;
}

unfoldable pub finish : Call → Machine → Bool → Count → Answer
finish c m a n = cond (roomy c m) (accepting c m a n) (refusal 19 0 (length c.moves) n.visits c.buffer)

-- after the walk
unfoldable pub walked : Call → Machine → Walked → Answer
walked c m (stopped q i v) = refusal q i (length c.moves) v c.buffer
walked c m (says a n) = finish c m a n

-- Where a call goes on from question 7: the words of the script (for G), the script as read, the machine that stands, and how
-- many moves led to it along its line.
pub record Start : Type 0 where
  pub words : List ℕ
  pub read : Script × Cursor
  pub machine : Machine
  pub made : ℕ

-- n, the script's parts
abbrev pub parts_of : Start → ℕ
parts_of s = s.read.1.number

-- the script's own start: no move is made
abbrev pub start_of : (words : List ℕ) → Script × Cursor → Start
start_of ws p = record { words = ws; read = p; machine = begun p.0; made = 0 }

-- "G the greatest name in script and rule (0 if none)"
abbrev pub setting : Call → Start → Setting
setting c s = record { patience = c.patience; greatest = max (greatest_name s.words) (greatest_rule_name c.rule); parts = parts_of s }

-- what the walk says of a machine; the parts of the rule's PLACED words are numbered from n on
abbrev pub walked_on : Call → Start → Rule × Cursor → Machine → Walked
walked_on c s r m = walk_from (plain_space (parts_of s + r.1.number)) (setting c s) r.0 m.tree

-- after the moves
unfoldable pub rule_run : Call → Start → Rule × Cursor → Ran → Answer
rule_run c s r (halted q i) = refusal q i i 0 c.buffer
rule_run c s r (completed m) = walked c m (walked_on c s r m)

-- Questions 1 to 6.
unfoldable pub starting : Call → Reading Start
starting c = do
  p ← read_script c.script
  got (start_of c.script p)

-- A question that asks nothing but numbers: its number, its place, and whether it is answered by yes.
pub record Question : Type 0 where
  pub number : ℕ
  pub place : ℕ
  pub yes : Bool

abbrev pub question : (number place : ℕ) → Bool → Question
question q i t = record { number = q; place = i; yes = t }

-- "The first no ends the call with its number and place."
unfoldable pub asking : List Question → Reading (Unit {0})
asking [] = got tt
asking (q ∷ qs) = ask q.number q.place q.yes >>= λ u. asking qs

-- Those that are asked between the rule and the first move, in their order: "13. Patience 1 to 16,777,216?" "14. At most 4,096
-- moves?" "The list buffer must hold 256 words"; "A buffer too short is refused with 21 at 0, asked after 14."
abbrev pub terms : (patience moves list : ℕ) → List Question
terms p k l =
    question 13 0 (leb 1 p && leb p 16777216)
    ∷ question 14 0 (leb k 4096)
    ∷ question 21 0 (leb 256 l)
    ∷ []

-- Questions 7 to 14 and 21 in their order.
unfoldable pub door : Call → Start → Reading (Rule × Cursor)
door c s = do
  r ← read_whole_rule (parts_of s) c.rule
  _ ← asking (terms c.patience (s.made + length c.moves) (length c.list))
  got r

-- behind the door
unfoldable pub opened : Call → Start → Reading (Rule × Cursor) → Answer
opened c s (refuse q i) = refusal q i 0 0 c.buffer
opened c s (got r) = rule_run c s r (run (parts_of s) 0 c.moves s.machine)

-- From question 7 on.
unfoldable pub onward : Call → Start → Answer
onward c s = opened c s (door c s)

unfoldable pub begins : Call → Reading Start → Answer
begins c (refuse q i) = refusal q i 0 0 c.buffer
begins c (got s) = onward c s

-- What the plain machine answers.
unfoldable pub answer : Call → Answer
answer c = begins c (starting c)

-- To unfold this is to unfold every definition of this module: for a proof by computation.
unfoldable pub computing : Unit {0}
unfolding refusal move_fits if_made run finish walked rule_run starting asking door opened onward begins answer
computing = tt

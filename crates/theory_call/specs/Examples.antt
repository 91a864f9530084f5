-- The starred examples of document 01, as one table and one theorem: each row is a call, the whole answer, its buffer
-- included, and the bound on the moves that the script allows. Both buffers are lent with the word 7 throughout. Assumes nothing.
use Rattle.std.specs.Prelude.{ℕ, ◌-◌, Bool, true, false, List, [], ◌∷◌, ◌++◌, map, ◌≡◌, refl, replicate}
use Rattle.read_messages.specs.Words
use Rattle.read_messages.specs.Reading
use Rattle.read_messages.specs.Reading.{Cursor, Reading, refuse, got}
use Rattle.read_messages.specs.Message
use Rattle.read_messages.specs.ReadMessage
use Rattle.read_script_words.specs.ScriptWords
use Rattle.read_scripts.specs.Tree
use Rattle.read_scripts.specs.Script
use Rattle.read_scripts.specs.Script.{Script, read_script}
use Rattle.read_scripts.specs.Measures
use Rattle.read_scripts.specs.Measures.{moves_bound}
use Rattle.theory_machine.specs.Bodies
use Rattle.theory_machine.specs.Moves
use Rattle.theory_machine.specs.PlainMachine
use Rattle.theory_written_trees.specs.Write
use Rattle.read_rule_words.specs.Rule
use Rattle.read_rule_words.specs.ReadRule
use Rattle.theory_decision.specs.Walk
use Rattle.theory_decision.specs.PlainWalk
use Rattle.theory_call.specs.Call.{Call, Answer, accepted, refused, answer}
use Rattle.theory_call.specs.Call

abbrev pub row : List ℕ → List ℕ → List ℕ → ℕ → Call
row s m r p = record { script = s; moves = m; rule = r; patience = p; buffer = replicate 12 7; list = replicate 256 7 }

abbrev pub gives : Bool → (moves visits deepest weight words : ℕ) → List ℕ → Answer
gives a m v d w n b = record { verdict = accepted a; moves = m; visits = v; deepest = d; weight = w; words = n; buffer = b ++ replicate (12 - n) 7 }

abbrev pub refuses : (question place moves visits : ℕ) → Answer
refuses q i m v = record { verdict = refused q i; moves = m; visits = v; deepest = 0; weight = 0; words = 0; buffer = replicate 12 7 }

abbrev W : List ℕ
W = 0x10000000 ∷ 0x80000001 ∷ 0x20000000 ∷ 0xA0000000 ∷ 0x80000002 ∷ 0x00000000 ∷ 0x00000000 ∷ 0x10000000 ∷ 0x80000002 ∷ 0x00000000 ∷ 0x00000000 ∷ []

abbrev no_words : List ℕ
no_words = 0 ∷ []

abbrev only_one : List ℕ
only_one = 0x10000000 ∷ 0x80000001 ∷ 0 ∷ 0 ∷ []

abbrev one_two : List ℕ
one_two = 0x10000000 ∷ 0x80000001 ∷ 0x10000000 ∷ 0x80000002 ∷ 0 ∷ 0 ∷ 0 ∷ []

abbrev sent : List ℕ
sent = 0x40000000 ∷ 0xE0000000 ∷ 0xA0000000 ∷ 0x80000002 ∷ 0xB0000000 ∷ 0x80000002 ∷ 0x30000000 ∷ 0x10000000 ∷ 0x80000001 ∷ 0x20000000 ∷ 0x90000006 ∷ 0 ∷ 0 ∷ 0 ∷ 0x10000000 ∷ 0x80000002 ∷ 0 ∷ 0 ∷ []

abbrev guarded : List ℕ
guarded = 0x40000000 ∷ 0xD0000000 ∷ 0x30000000 ∷ 0x20000000 ∷ 0x90000002 ∷ 0x10000000 ∷ 0x80000001 ∷ 0 ∷ 0 ∷ 0 ∷ 0 ∷ []

abbrev pub table : List (Call × Answer × ℕ)
table =
    (row no_words [] (0x30000000 ∷ []) 100, gives true 0 1 1 0 1 no_words, 0)
    ∷ (row no_words [] (0x50000000 ∷ 0x30000000 ∷ 0x30000000 ∷ []) 100, gives true 0 3 2 0 1 no_words, 0)
    ∷ (row only_one [] (0x30000000 ∷ []) 100, gives false 0 1 1 1 4 only_one, 0)
    ∷ (row only_one [] (0x40000001 ∷ 0x30000000 ∷ []) 100, gives true 0 2 2 1 4 only_one, 0)
    ∷ (row only_one [] (0x50000000 ∷ 0x30000000 ∷ 0x30000000 ∷ []) 100, gives false 0 4 2 1 4 only_one, 0)
    ∷ (row only_one [] (0x60000000 ∷ 0x48000000 ∷ 0x00000000 ∷ []) 100, gives true 0 3 3 1 4 only_one, 0)
    ∷ (row only_one [] (0x60000000 ∷ 0x10000000 ∷ 0x48000000 ∷ 0x00000000 ∷ []) 100, gives true 0 6 4 1 4 only_one, 0)
    ∷ (row one_two [] (0x80000000 ∷ 0x40000002 ∷ 0x30000000 ∷ []) 100, gives true 0 5 4 2 7 one_two, 0)
    ∷ (row W [] (0x70000000 ∷ 0x40000002 ∷ 0x40000001 ∷ 0x30000000 ∷ []) 100, gives true 0 6 5 3 11 W, 1)
    ∷ (row W [] (0x70000000 ∷ 0x40000002 ∷ 0x40000001 ∷ 0x30000000 ∷ []) 5, refuses 18 3 0 5, 1)
    ∷ (row W (0x10000102 ∷ []) (0x40000002 ∷ 0x40000001 ∷ 0x30000000 ∷ []) 9, gives true 1 3 3 2 7 (0x10000000 ∷ 0x80000002 ∷ 0x10000000 ∷ 0x80000001 ∷ 0 ∷ 0 ∷ 0 ∷ []), 1)
    ∷ (row W (0x10000102 ∷ 0x10000102 ∷ []) (0x40000002 ∷ 0x40000001 ∷ 0x30000000 ∷ []) 9, refuses 16 1 1 0, 1)
    ∷ (row sent (0x10000100 ∷ 0x10000304 ∷ 0x10000304 ∷ []) (0 ∷ []) 1, gives true 3 1 1 4 7 (0x10000000 ∷ 0x80000001 ∷ 0 ∷ 0x10000000 ∷ 0x80000002 ∷ 0 ∷ 0 ∷ []), 5)
    ∷ (row guarded (0x10000100 ∷ []) (0 ∷ []) 1, gives true 1 1 1 3 4 only_one, 2)
    ∷ []

-- the bound of a script, r + a × s ^ (r + 1); 0 where the script is refused
abbrev pub bound_read : Reading (Script × Cursor) → ℕ
bound_read (refuse q i) = 0
bound_read (got p) = moves_bound p.0

-- what the definitions answer to a row's call, and what the row says
abbrev answered : Call × Answer × ℕ → Answer × ℕ
answered e = (answer e.0, bound_read (read_script e.0.script))

abbrev told : Call × Answer × ℕ → Answer × ℕ
told e = (e.1, e.2)

-- THEOREM: every row of the table is what the definitions answer.
pub examples : map answered table ≡ map told table
unfolding Words.computing Reading.computing Message.computing ReadMessage.computing ScriptWords.computing Tree.computing Script.computing Measures.computing Bodies.computing Moves.computing PlainMachine.computing Write.computing Rule.computing ReadRule.computing Walk.computing PlainWalk.computing Call.computing
examples = refl

-- Worked readings, by computation: the script W of document 01, and a reading for each of the questions 1 to 6.
use Rattle.std.specs.Prelude.{ℕ, zero, suc, List, [], ◌∷◌, map, ◌≡◌, refl, replicate}
use Rattle.read_messages.specs.Words
use Rattle.read_messages.specs.Reading
use Rattle.read_messages.specs.Reading.{Reading, refuse, got, cursor}
use Rattle.read_messages.specs.ReadMessage
use Rattle.read_messages.specs.Message.{name, enter, empty_message}
use Rattle.read_messages.specs.Message
use Rattle.read_script_words.specs.ScriptWords.{greatest_name}
use Rattle.read_script_words.specs.ScriptWords
use Rattle.read_scripts.specs.Tree.{Head, ambient, action, receipt, close, part}
use Rattle.read_scripts.specs.Tree
use Rattle.read_scripts.specs.Script.{Written, Script, read_script, started}
use Rattle.read_scripts.specs.Script
use Rattle.read_scripts.specs.Measures.{moves_bound}
use Rattle.read_scripts.specs.Measures

abbrev W : List ℕ
W = 0x10000000 ∷ 0x80000001 ∷ 0x20000000 ∷ 0xA0000000 ∷ 0x80000002 ∷ 0x00000000 ∷ 0x00000000 ∷ 0x10000000 ∷ 0x80000002 ∷ 0x00000000 ∷ 0x00000000 ∷ []

abbrev written : ℕ → Head Message.Message → Written
written i h = record { index = i; head = h }

abbrev W-script : Script
W-script =
    part 0 (written 0 (ambient (name 1))) (part 1 (written 2 (action (enter (name 2)))) close close)
    (part 2 (written 7 (ambient (name 2))) close close)

reads-W : read_script W ≡ got (W-script, cursor 11 3 [])
unfolding Words.computing Reading.computing ReadMessage.computing ScriptWords.computing Tree.computing Script.computing
reads-W = refl

-- the bound of W is 0 + 1 × 1 ^ 1, and its greatest name 2
W-bound : moves_bound W-script ≡ 1
unfolding Tree.computing Measures.computing Message.computing
W-bound = refl

W-greatest : greatest_name W ≡ 2
unfolding ScriptWords.computing Words.computing
W-greatest = refl

-- so many receipts, one beside another, and the CLOSE
abbrev receipts : ℕ → List ℕ
receipts zero = 0 ∷ []
receipts (suc n) = 0x30000000 ∷ 0 ∷ receipts n

-- what a reading refuses: question and place
abbrev refusals : List (List ℕ × Reading (Script × Reading.Cursor))
refusals =
    ([], refuse 1 0)
    ∷ (0x10000001 ∷ 0x80000001 ∷ 0 ∷ 0 ∷ [], refuse 2 0)
    ∷ (0x10000000 ∷ 0x10000000 ∷ 0 ∷ 0 ∷ [], refuse 2 1)
    ∷ (0x40000000 ∷ 0x90000000 ∷ 0 ∷ [], refuse 3 1)
    ∷ (0x30000000 ∷ 0x40000000 ∷ 0x90000000 ∷ 0 ∷ 0x40000000 ∷ 0x90000000 ∷ 0 ∷ [], refuse 3 5)
    ∷ (0x10000000 ∷ 0x80000001 ∷ [], refuse 5 2)
    ∷ (0x10000000 ∷ [], refuse 5 1)
    ∷ (0 ∷ 0xFFFFFFFF ∷ [], refuse 5 1)
    ∷ (replicate 66 0x30000000, refuse 4 65)
    ∷ (receipts 65, refuse 6 0)
    ∷ []

refused-rightly : map (λ (e : List ℕ × Reading (Script × Reading.Cursor)). read_script e.0) refusals ≡ map (λ (e : List ℕ × Reading (Script × Reading.Cursor)). e.1) refusals
unfolding Words.computing Reading.computing ReadMessage.computing ScriptWords.computing Tree.computing Script.computing
refused-rightly = refl

-- an action whose message has no items is gone from the start, and under a receipt it stays

abbrev empty-actions : Script
empty-actions =
    part 0 (written 0 (action empty_message)) (part 1 (written 2 (ambient (name 1))) close close)
    (part 2 (written 6 (receipt 6)) (part 3 (written 7 (action empty_message)) close close) close)

settles : started empty-actions ≡ part 1 (ambient (name 1)) close (part 2 (receipt 6) (part 3 (action []) close close) close)
unfolding Tree.computing Script.computing Message.computing
settles = refl

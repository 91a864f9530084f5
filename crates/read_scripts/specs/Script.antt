-- How a script is read from words: questions 1 to 6 (document 01, "Questions at the door"); and the plain machine's tree that
-- it begins as. Assumes nothing: these are definitions.
use Rattle.std.specs.Prelude.{ℕ, zero, suc, ◌&&◌, cond, List, [], ◌∷◌, length, leb, eqb, Option, Some, None}
use Rattle.read_messages.specs.Reading.{Cursor, cursor, Reading, refuse, got, ◌>>=◌, ask, next_word, next_part, is_empty}
use Rattle.read_messages.specs.Message.{Message, items}
use Rattle.read_messages.specs.ReadMessage.{read_message}
use Rattle.read_scripts.specs.Tree.{Head, ambient, action, receipt, output, Body, close, part, map_heads, Plain, PlainHead, settle}
use Rattle.read_script_words.specs.ScriptWords.{part_word, part_fits}
use Rattle.read_script_words.specs.declared.PartWord.{PartWord}
use Rattle.read_script_words.specs.declared.PartWord.TheVariants.{Close, Ambient, Action, Receipt, Output}

-- A part as it is written: the index of its word, and what it is, an action being its message.
pub record Written : Type 0 where
  pub index : ℕ
  pub head : Head Message

abbrev pub Script : Type 0
Script = Body Written

-- a message and then a body; `written` says what the part is by its message
abbrev pub guarded_from :
    (written : Message → Head Message)
    (message : Cursor → Reading (Message × Cursor)) (inside : List ℕ → Cursor → Reading (Script × Cursor))
    → (around : List ℕ) (i : ℕ) → Cursor → Reading ((Written × Script) × Cursor)
guarded_from written message inside around i c = do
  (m, c₁) ← message c
  (b, c₂) ← inside around c₁
  got ((record { index = i; head = written m }, b), c₂)

-- The part at the index `i` and the body inside it, the cursor behind its word. `message` and `inside` read its message and
-- its body, `around` being the receipts around it.
unfoldable pub part_from :
    (message : Cursor → Reading (Message × Cursor)) (inside : List ℕ → Cursor → Reading (Script × Cursor))
    → (around : List ℕ) → Option PartWord → (i : ℕ) → Cursor → Reading ((Written × Script) × Cursor)
part_from message inside around (Some Ambient) i c = guarded_from ambient message inside around i c
part_from message inside around (Some Action) i c = guarded_from action message inside around i c
part_from message inside around (Some Receipt) i c = do
  (b, c₁) ← inside (i ∷ around) c
  got ((record { index = i; head = receipt i }, b), c₁)
part_from message inside around (Some Output) i c = do
  (m, c₁) ← message c
  got ((record { index = i; head = output m }, close), c₁)
part_from message inside around (Some Close) i c = refuse 2 i
part_from message inside around None i c = refuse 2 i

-- CLOSE ends a body; before any other word there is a part, and then the rest
unfoldable pub or_close : Option PartWord → Cursor → Reading (Script × Cursor) → Reading (Script × Cursor)
or_close (Some Close) c parts = got (close, c)
or_close (Some Ambient) c parts = parts
or_close (Some Action) c parts = parts
or_close (Some Receipt) c parts = parts
or_close (Some Output) c parts = parts
or_close None c parts = parts

-- "A body is parts up to one CLOSE": the body at the cursor, its words having the nesting `nest`. `fuel` bounds the
-- recursion: as many as there are words left is enough, and more changes nothing.
unfoldable pub read_body : (fuel nest : ℕ) (around : List ℕ) → Cursor → Reading (Script × Cursor)
read_body zero nest around c = refuse 5 c.index
read_body (suc f) nest around c = do
  (w, c₁) ← next_word 5 c
  _ ← ask 2 c.index (part_fits (part_word w))
  _ ← ask 4 c.index (leb nest 64)
  or_close (part_word w) c₁ (do
    (p, c₂) ← part_from (read_message f nest around) (read_body f (suc nest)) around (part_word w) c.index (next_part c₁)
    (r, c₃) ← read_body f nest around c₂
    got (part c.number p.0 p.1 r, c₃))

-- Questions 1 to 6: the script's tree, and the cursor behind it, whose number is the number of its parts.
unfoldable pub read_script : List ℕ → Reading (Script × Cursor)
read_script ws = do
  _ ← ask 1 0 (leb 1 (length ws) && leb (length ws) 1024)
  (b, c) ← read_body (length ws) 0 [] (cursor 0 0 ws)
  _ ← ask 5 c.index (is_empty c.left)
  _ ← ask 6 0 (leb c.number 64)
  got (b, c)

-- "An action is held as its items."
unfoldable pub head_with_items : Head Message → PlainHead
head_with_items (ambient m) = ambient m
head_with_items (action m) = action (items m)
head_with_items (receipt v) = receipt v
head_with_items (output m) = output m

-- the plain machine's tree at the start: "this is so from the start"
unfoldable pub with_items : Script → Plain
with_items b = map_heads (λ w. head_with_items w.head) b

unfoldable pub started : Script → Plain
started b = settle (with_items b)

-- what a guarded part of that kind is: 1 AMB, 2 ACT
abbrev pub guarded_head : ℕ → Message → Head Message
guarded_head k m = cond (eqb k 1) (ambient m) (action m)

-- To unfold this is to unfold every definition of this module: for a proof by computation.
unfoldable pub computing : Unit {0}
unfolding part_from or_close read_body read_script head_with_items with_items started
computing = tt

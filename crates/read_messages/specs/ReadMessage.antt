-- How a message is read from words: questions 2, 3, 4 and 5 (document 01, "Questions at the door").
-- Assumes nothing: these are definitions.
use Rattle.std.specs.Prelude.{ℕ, zero, suc, ◌+◌, ◌≤◌, Bool, true, false, cond, List, leb, eqb, length, Result, Ok}
use Rattle.read_messages.specs.Words.{kind, operand, name_fits, member}
use Rattle.read_messages.specs.Reading.{Cursor, Reading, refuse, got, ◌>>=◌, ask, next_word, refusal_at}
use Rattle.read_messages.specs.Message.{Message, name, variable, enter, exit, opens, empty_message, path}
use Rattle.read_messages.specs.declared.MessageWord.{MessageWord}
use Rattle.read_messages.specs.declared.MessageWord.TheVariants.{Name, Variable, Enter, Exit, Open, Empty, Path, Unfit}
use Rattle.read_messages.specs.declared.Arity.{Arity}
use Rattle.read_messages.specs.declared.Arity.TheVariants.{Leaf, One, Two}
use Rattle.read_messages.specs.declared.Refusal.{Refusal}

-- "the low 28 its operand, zero unless stated"
abbrev pub if_zero : ℕ → MessageWord → MessageWord
if_zero o w = cond (eqb o 0) w Unfit

-- "8 NAME, operand 1 to 255; 9 VAR, operand the index of a REC .. A IN, B EXIT, C OPEN .. D EMPTY; E PATH"
abbrev pub message_kind : (kind operand : ℕ) → MessageWord
message_kind k o =
    cond (eqb k 8) (cond (name_fits o) (Name o) Unfit)
    (cond (eqb k 9) (Variable o)
    (cond (eqb k 10) (if_zero o Enter)
    (cond (eqb k 11) (if_zero o Exit)
    (cond (eqb k 12) (if_zero o Open)
    (cond (eqb k 13) (if_zero o Empty)
    (cond (eqb k 14) (if_zero o Path) Unfit))))))

unfoldable pub message_word : ℕ → MessageWord
message_word w = message_kind (kind w) (operand w)

-- question 2: "Does this word's kind and operand fit (VAR: any operand)?"
unfoldable pub word_fits : MessageWord → Bool
word_fits (Name n) = true
word_fits (Variable v) = true
word_fits Enter = true
word_fits Exit = true
word_fits Open = true
word_fits Empty = true
word_fits Path = true
word_fits Unfit = false

-- question 3: "Does VAR name a REC around it?", `around` being the indices of the receipts around, innermost first
unfoldable pub bound : (around : List ℕ) → MessageWord → Bool
bound around (Name n) = true
bound around (Variable v) = member v around
bound around Enter = true
bound around Exit = true
bound around Open = true
bound around Empty = true
bound around Path = true
bound around Unfit = true

-- The message that begins with such a word, the cursor behind that word. `read` reads a message that stands in it.
unfoldable pub message_from : (read : Cursor → Reading (Message × Cursor)) → MessageWord → Cursor → Reading (Message × Cursor)
message_from read (Name n) c = got (name n, c)
message_from read (Variable v) c = got (variable v, c)
message_from read Enter c = do
  (m, c₁) ← read c
  got (enter m, c₁)
message_from read Exit c = do
  (m, c₁) ← read c
  got (exit m, c₁)
message_from read Open c = do
  (m, c₁) ← read c
  got (opens m, c₁)
message_from read Empty c = got (empty_message, c)
message_from read Path c = do
  (m, c₁) ← read c
  (k, c₂) ← read c₁
  got (path m k, c₂)
message_from read Unfit c = refuse 2 c.index

-- The message at the cursor, its first word having the nesting `nest`. `fuel` bounds the recursion: as many as there are
-- words left is enough, and more changes nothing.
unfoldable pub read_message : (fuel nest : ℕ) (around : List ℕ) → Cursor → Reading (Message × Cursor)
read_message zero nest around c = refuse 5 c.index
read_message (suc f) nest around c = do
  (w, c₁) ← next_word 5 c
  _ ← ask 2 c.index (word_fits (message_word w))
  _ ← ask 3 c.index (bound around (message_word w))
  _ ← ask 4 c.index (leb nest 64)
  message_from (read_message f (suc nest) around) (message_word w) c₁

-- how many messages stand in the message that begins with such a word, which question 2 let pass
unfoldable pub follow : MessageWord → Arity
follow (Name n) = Leaf
follow (Variable v) = Leaf
follow Enter = One
follow Exit = One
follow Open = One
follow Empty = Leaf
follow Path = Two
follow Unfit = Leaf

-- What `ask_message` of the code answers of a word at that place: the first of the questions 2, 3 and 4 that is answered by
-- no, or how many messages follow.
unfoldable pub asked : (place nest : ℕ) (around : List ℕ) → MessageWord → Result Arity Refusal
asked i nest around m =
    cond (word_fits m) (cond (bound around m) (cond (leb nest 64) (Ok (follow m)) (refusal_at 4 i)) (refusal_at 3 i)) (refusal_at 2 i)

-- what the reader of a message is called with: the words, the first of which has the index `at` and the nesting `nest`
pub record MessageReadable (words : List ℕ) (at nest : ℕ) : Type 0 where
  -- a script has at most 1,024 words
  pub few : at + length words ≤ 1024
  -- question 4 lets in a nesting of at most 64, and is still to ask
  pub shallow : nest ≤ 65

-- To unfold this is to unfold every definition of this module: for a proof by computation.
unfoldable pub computing : Unit {0}
unfolding message_word word_fits bound message_from read_message follow asked
computing = tt

-- What words spell, from the right: a total function, so that a message can be named by the index of its first word.
-- That a message which was read is the one that its words spell is a law (proofs/Spells.antt). Assumes nothing.
use Rattle.std.specs.Prelude.{ℕ, List, [], ◌∷◌, drop}
use Rattle.read_messages.specs.Message.{Message, name, variable, enter, exit, opens, empty_message, path}
use Rattle.read_messages.specs.ReadMessage.{message_word}
use Rattle.read_messages.specs.declared.MessageWord.{MessageWord}
use Rattle.read_messages.specs.declared.MessageWord.TheVariants.{Name, Variable, Enter, Exit, Open, Empty, Path, Unfit}

-- the first message of a row, empty where there is none
unfoldable pub top_message : List Message → Message
top_message [] = empty_message
top_message (m ∷ ms) = m

-- a word in front of words that spell the messages of the row
unfoldable pub push : MessageWord → List Message → List Message
push (Name n) s = name n ∷ s
push (Variable v) s = variable v ∷ s
push Enter s = enter (top_message s) ∷ drop 1 s
push Exit s = exit (top_message s) ∷ drop 1 s
push Open s = opens (top_message s) ∷ drop 1 s
push Empty s = empty_message ∷ s
push Path s = path (top_message s) (top_message (drop 1 s)) ∷ drop 2 s
push Unfit s = empty_message ∷ s

-- The messages that the words spell, one behind another; a word of no message represents an empty one.
unfoldable pub spelled : List ℕ → List Message
spelled [] = []
spelled (w ∷ ws) = push (message_word w) (spelled ws)

-- the message at the first of the words
unfoldable pub message_at : List ℕ → Message
message_at ws = top_message (spelled ws)

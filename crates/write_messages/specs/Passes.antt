-- What one pass over the words of messages writes, word by word and item by item.
-- Assumes nothing: these are definitions.
use Rattle.std.specs.Prelude.{ℕ, ◌-◌, cond, List, [], ◌∷◌, ◌++◌, leb}
use Rattle.read_messages.specs.Words.{word}
use Rattle.read_messages.specs.Message.{Message}
use Rattle.read_messages.specs.declared.MessageWord.{MessageWord}
use Rattle.read_messages.specs.declared.MessageWord.TheVariants.{Name, Variable, Enter, Exit, Open, Empty, Path, Unfit}
use Rattle.theory_closures.specs.Resolve.{resolve}
use Rattle.theory_written_trees.specs.Write.{Indices, new_index, write_message}

-- the words of the messages, one behind another, each after the bindings
unfoldable pub all_written : Indices → List (ℕ × Message) → List Message → List ℕ
all_written ix σ [] = []
all_written ix σ (m ∷ ms) = write_message ix (resolve σ m) ++ all_written ix σ ms

-- the word that is written for a word of a message, if that is no variable with a binding
unfoldable pub plain_word : Indices → MessageWord → ℕ
plain_word ix (Name n) = word 8 n
plain_word ix (Variable v) = word 9 (new_index ix v)
plain_word ix Enter = word 10 0
plain_word ix Exit = word 11 0
plain_word ix Open = word 12 0
plain_word ix Empty = word 13 0
plain_word ix Path = word 14 0
plain_word ix Unfit = word 13 0

-- "several as PATH item rest": PATH, if more than one item is still to be written
unfoldable pub link : (left : ℕ) → List ℕ
link l = cond (leb l 1) [] (word 14 0 ∷ [])

-- the words of the items, where `left` items are still to be written, these first
unfoldable pub strung : Indices → (left : ℕ) → List Message → List ℕ
strung ix l [] = []
strung ix l (m ∷ ms) = (link l ++ write_message ix m) ++ strung ix (l - 1) ms

-- What one pass over the words of messages goes by: the first word, what it has of its own, and what stands behind it.
-- Words that end too early are read as if EMPTY stood behind them, as they are spelled.
-- Assumes nothing: these are definitions.
use Rattle.std.specs.Prelude.{ℕ, zero, suc, ◌+◌, ◌*◌, ◌≤◌, ◌<◌, List, [], ◌∷◌, ◌++◌, ◌≡◌, length, drop}
use Rattle.read_messages.specs.Message.{Message, name, variable, enter, exit, opens, items}
use Rattle.read_messages.specs.Spelling.{top_message, spelled}
use Rattle.read_messages.specs.declared.MessageWord.{MessageWord}
use Rattle.read_messages.specs.declared.MessageWord.TheVariants.{Name, Variable, Enter, Exit, Open, Empty, Path, Unfit}
use Rattle.engine_message_words.specs.Words.{first_word}
use Rattle.theory_closures.specs.Resolve.{resolve}
use Rattle.engine_bindings.specs.declared.Behind.{Behind}

-- the first so many of the messages; where there are not so many, empty ones
unfoldable pub firsts : ℕ → List Message → List Message
firsts zero s = []
firsts (suc p) s = top_message s ∷ firsts p (drop 1 s)

-- the items of the messages, one after another, each after the bindings
unfoldable pub all_items : List (ℕ × Message) → List Message → List Message
all_items σ [] = []
all_items σ (m ∷ ms) = items (resolve σ m) ++ all_items σ ms

-- the items that a word has of its own, after the bindings, `behind` being what is spelled behind it
unfoldable pub word_items : List (ℕ × Message) → MessageWord → (behind : List Message) → List Message
word_items σ (Name n) s = name n ∷ []
word_items σ (Variable v) s = items (resolve σ (variable v))
word_items σ Enter s = enter (resolve σ (top_message s)) ∷ []
word_items σ Exit s = exit (resolve σ (top_message s)) ∷ []
word_items σ Open s = opens (resolve σ (top_message s)) ∷ []
word_items σ Empty s = []
word_items σ Path s = []
word_items σ Unfit s = []

-- the items that the first of the words has of its own
unfoldable pub own_items : List (ℕ × Message) → (words : List ℕ) → List Message
own_items σ ws = word_items σ (first_word ws) (spelled (drop 1 ws))

-- r words are the first `pending` messages of the words
pub record Skipped (words : List ℕ) (pending r : ℕ) : Type 0 where
  -- there are no more of them than words
  pub within : r ≤ length words
  -- behind them stands what is spelled behind those messages
  pub behind : spelled (drop r words) ≡ drop pending (spelled words)

-- where a pass over the items of the first `pending` messages of the words stands behind the first word's own items
pub record Passed (words : List ℕ) (pending : ℕ) (r : Behind) : Type 0 where
  -- no more messages and words are left than there were
  pub room : r.left + length (drop r.used words) ≤ pending + length words
  -- and less is left: fewer words, or, where there are none, fewer messages
  pub less : 3 * length (drop r.used words) + r.left < 3 * length words + pending
  -- the items are those that the word has of its own, and then those that are left
  pub split : (σ : List (ℕ × Message)) → all_items σ (firsts pending (spelled words)) ≡ own_items σ words ++ all_items σ (firsts r.left (spelled (drop r.used words)))

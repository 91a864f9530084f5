-- The words that messages are written with: of a message, of an action's items, and of items with one PATH each; that what
-- is kept of them with the bindings is right; and what the functions ask that count them. Assumes nothing: these are definitions.
use Rattle.std.specs.Prelude.{ℕ, suc, ◌+◌, ◌^◌, ◌<◌, min, List, [], ◌∷◌, length}
use Rattle.read_messages.specs.Message.{Message, name, variable, enter, exit, opens, empty_message, path, items}
use Rattle.read_messages.specs.declared.MessageWord.{MessageWord}
use Rattle.read_messages.specs.declared.MessageWord.TheVariants.{Name, Variable, Enter, Exit, Open, Empty, Path, Unfit}
use Rattle.theory_closures.specs.Resolve.{resolve}
use Rattle.engine_message_words.specs.declared.Binding.{Binding}
use Rattle.engine_bindings.specs.Bindings.{bindings_in}
use Rattle.engine_bindings.specs.Measures.{Kept, Counted}
use Rattle.engine_bindings.specs.Passes.{own_items}

-- the number of words that a message is written with
unfoldable pub message_size : Message → ℕ
message_size (name n) = 1
message_size (variable v) = 1
message_size (enter m) = suc (message_size m)
message_size (exit m) = suc (message_size m)
message_size (opens m) = suc (message_size m)
message_size empty_message = 1
message_size (path m k) = suc (message_size m + message_size k)

-- the number of words that an action's items are written with: "several as PATH item rest; none as one EMPTY"
unfoldable pub items_size : List Message → ℕ
items_size [] = 1
items_size (m ∷ []) = message_size m
items_size (m ∷ (k ∷ ks)) = suc (message_size m + items_size (k ∷ ks))

-- the words of the items, and one PATH for each: a sum, so that it can be counted from any item on
unfoldable pub bulk : List Message → ℕ
bulk [] = 0
bulk (m ∷ ms) = suc (message_size m) + bulk ms

-- no more than 2^32 - 2: the words of an action's items are one less than their bulk, which stops at 2^32 - 1
unfoldable pub capped_items : ℕ → ℕ
capped_items n = min n 4294967294

abbrev pub item_bulk : Message → ℕ
item_bulk m = bulk (items m)

-- the words that the messages are written with, each after the bindings
unfoldable pub all_sizes : List (ℕ × Message) → List Message → ℕ
all_sizes σ [] = 0
all_sizes σ (m ∷ ms) = message_size (resolve σ m) + all_sizes σ ms

-- the words that a word is written with itself, after the bindings
unfoldable pub own_size : List (ℕ × Message) → MessageWord → ℕ
own_size σ (Name n) = 1
own_size σ (Variable v) = message_size (resolve σ (variable v))
own_size σ Enter = 1
own_size σ Exit = 1
own_size σ Open = 1
own_size σ Empty = 1
own_size σ Path = 1
own_size σ Unfit = 1

-- the number of words is kept with each binding
abbrev pub Sized : (script : List ℕ) → List Binding → Type 0
Sized script bs = Kept message_size (λ (b : Binding). b.size) script bs

-- the three counts that are kept with the bindings are right
pub record Cached (script : List ℕ) (bindings : List Binding) : Type 0 where
  pub counted : Counted script bindings
  pub sized : Sized script bindings
  pub bulked : Kept item_bulk (λ (b : Binding). b.bulk) script bindings

-- what is asked where the bulk of the items that a word has of its own is counted from an offset on
pub record OwnAsked (script words : List ℕ) (offset : ℕ) (bindings : List Binding) : Type 0 where
  -- what is kept with the bindings is right
  pub cached : Cached script bindings
  -- the offset is no count that stopped
  pub below : offset < 4294967295
  -- the word has an item there
  pub within : offset < length (own_items (bindings_in script bindings) words)

-- and where it is that of the items of the messages that are pending
pub record PendingAsked (script words : List ℕ) (pending offset : ℕ) (bindings : List Binding) : Type 0 where
  -- the messages and the words can be counted together
  pub room : pending + length words < 2 ^ 64
  -- what is kept with the bindings is right
  pub cached : Cached script bindings
  -- the offset is no count that stopped
  pub below : offset < 4294967295

-- and where it is that of a message's items, or the words are counted that these are written with
pub record ItemWordsAsked (script : List ℕ) (offset : ℕ) (bindings : List Binding) : Type 0 where
  -- what is kept with the bindings is right
  pub cached : Cached script bindings
  -- the offset is no count that stopped
  pub below : offset < 4294967295

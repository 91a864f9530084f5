-- What the writers of messages and of items ask of what they are lent. Assumes nothing: these are definitions.
use Rattle.std.specs.Prelude.{ℕ, ◌+◌, ◌^◌, ◌≤◌, ◌<◌, List, ◌≡◌, length}
use Rattle.read_messages.specs.declared.MessageWord.{MessageWord}
use Rattle.read_messages.specs.declared.MessageWord.TheVariants.{Name}
use Rattle.engine_message_words.specs.declared.Binding.{Binding}
use Rattle.engine_bindings.specs.Bindings.{bindings_in}
use Rattle.engine_bindings.specs.Measures.{Counted}
use Rattle.engine_bindings.specs.Passes.{own_items}
use Rattle.write_messages.specs.declared.Receipt.{Receipt}
use Rattle.write_messages.specs.Indices.{Indexed}

-- where a word of a message is to be written that is no variable with a binding
pub record PlainWordAsked (m : MessageWord) (receipts : List Receipt) : Type 0 where
  -- the receipts' indices fit
  pub indexed : Indexed receipts
  -- a name is at most 255
  pub small : (n : ℕ) → m ≡ Name n → n ≤ 255

-- where the first `pending` messages of the words are to be written
pub record MessagesAsked (words : List ℕ) (pending : ℕ) (receipts : List Receipt) : Type 0 where
  -- the messages and the words can be counted together
  pub room : pending + length words < 2 ^ 64
  -- the receipts' indices fit
  pub indexed : Indexed receipts

-- where items are to be written, from the offset on
pub record ItemsAsked (script : List ℕ) (offset : ℕ) (bindings : List Binding) (receipts : List Receipt) (out : List ℕ) : Type 0 where
  -- the counts that are kept with the bindings are right
  pub counted : Counted script bindings
  -- the receipts' indices fit
  pub indexed : Indexed receipts
  -- no count of items that fit the buffer stops
  pub small : offset + length out < 4294967295

-- and where they are those that the first of the words has of its own
pub record OwnItemsAsked (script words : List ℕ) (offset : ℕ) (bindings : List Binding) (receipts : List Receipt) (out : List ℕ) : Type 0 where
  -- what is asked where any items are to be written
  pub asked : ItemsAsked script offset bindings receipts out
  -- the word has an item there
  pub within : offset < length (own_items (bindings_in script bindings) words)

-- and where they are those of the first `pending` messages of the words
pub record PendingItemsAsked (script words : List ℕ) (pending offset : ℕ) (bindings : List Binding) (receipts : List Receipt) (out : List ℕ) : Type 0 where
  -- the messages and the words can be counted together
  pub room : pending + length words < 2 ^ 64
  -- what is asked where any items are to be written
  pub asked : ItemsAsked script offset bindings receipts out

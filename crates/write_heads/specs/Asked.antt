-- What the writers of a part's head ask of what they are lent. Assumes nothing: these are definitions.
use Rattle.std.specs.Prelude.{ℕ, ◌+◌, ◌<◌, List, length}
use Rattle.engine_message_words.specs.declared.Binding.{Binding}
use Rattle.engine_bindings.specs.Measures.{Counted}
use Rattle.write_messages.specs.Asked.{ItemsAsked}
use Rattle.write_messages.specs.declared.Receipt.{Receipt}
use Rattle.write_heads.specs.Around.{Right}
use Rattle.write_heads.specs.declared.Around.{Around}

-- where the receipts around a part's body are to be held, the part's word having the index
pub record AroundAsked (around : Around) (start index : ℕ) : Type 0 where
  -- the receipts around the part are held right
  pub right : Right around
  -- there is room for one more
  pub room : 0 < around.first
  -- the index fits an operand
  pub small : index < 268435456
  -- the part is none that PLACED made
  pub placed : start < 65536

-- where a part's message is to be written
pub record LabelAsked (script : List ℕ) (start offset : ℕ) (bindings : List Binding) (receipts : List Receipt) (out : List ℕ) : Type 0 where
  -- what is asked where any items are to be written
  pub asked : ItemsAsked script offset bindings receipts out
  -- the part is none that PLACED made
  pub placed : start < 65536

-- where the words in front of a part's body are to be written
pub record HeadAsked (script : List ℕ) (start offset : ℕ) (bindings : List Binding) (around : Around) (out : List ℕ) : Type 0 where
  -- the counts that are kept with the bindings are right
  pub counted : Counted script bindings
  -- the receipts around are held right
  pub right : Right around
  -- the part is none that PLACED made
  pub placed : start < 65536
  -- no count of items that fit the buffer stops
  pub small : offset + length out < 4294967295

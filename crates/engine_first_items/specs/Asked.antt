-- What the search for an item asks of what it is lent. Assumes nothing: these are definitions.
use Rattle.std.specs.Prelude.{ℕ, ◌<◌, List, length}
use Rattle.engine_message_words.specs.declared.Binding.{Binding}
use Rattle.engine_bindings.specs.Measures.{Counted}
use Rattle.engine_first_items.specs.declared.Search.{Search}

-- where the search s is to go on at a variable whose binding is the k-th
pub record VariableAsked (s : Search) (k : ℕ) : Type 0 where
  -- a message is pending
  pub some : 0 < s.pending
  -- there is such a binding
  pub bound : k < length s.bindings.now

-- where the first item from the offset on is to be found
pub record ItemAsked (script : List ℕ) (offset : ℕ) (bindings : List Binding) : Type 0 where
  -- the counts that are kept with the bindings are right
  pub counted : Counted script bindings
  -- the offset is no count that stopped
  pub below : offset < 4294967295

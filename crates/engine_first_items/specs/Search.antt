-- Where a search for an item stands. Assumes nothing: these are definitions.
use Rattle.std.specs.Prelude.{ℕ, ◌+◌, ◌-◌, ◌≤◌, ◌<◌, ◌≡◌, List, drop}
use Rattle.engine_message_words.specs.Words.{binding_at}
use Rattle.engine_message_words.specs.declared.Binding.{Binding}
use Rattle.engine_first_items.specs.declared.Search.{Search}

-- the search s stands before the words ws, with p messages pending and o items ahead, under the bindings bs
pub record Stands (s : Search) (ws : List ℕ) (p o : ℕ) (bs : List Binding) : Type 0 where
  pub words : s.words.now ≡ ws
  pub pending : s.pending ≡ p
  pub ahead : s.ahead ≡ o
  pub bindings : s.bindings.now ≡ bs

-- r is how the search s goes on at a variable whose binding is the k-th
pub record AtVariable (s : Search) (script : List ℕ) (k : ℕ) (r : Search) : Type 0 where
  -- in the message of that binding, under the older ones, where the item is in it
  pub inside : s.ahead < (binding_at s.bindings.now k).count → Stands r (drop (binding_at s.bindings.now k).source script) 1 s.ahead (drop (k + 1) s.bindings.now)
  -- behind the variable, where it is not
  pub past : (binding_at s.bindings.now k).count ≤ s.ahead → Stands r (drop 1 s.words.now) (s.pending - 1) (s.ahead - (binding_at s.bindings.now k).count) s.bindings.now

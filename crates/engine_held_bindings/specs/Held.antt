-- The bindings as they are held: an array of 32 rows, filled from the end, so that those from `first` on are newest first.
-- Assumes nothing: these are definitions.
use Rattle.std.specs.Prelude.{ℕ, ◌-◌, ◌≤◌, ◌<◌, List, [], ◌∷◌, ◌≡◌, drop}
use Rattle.read_messages.specs.Message.{Message}
use Rattle.read_messages.specs.Spelling.{message_at}
use Rattle.theory_closures.specs.Resolve.{resolve}
use Rattle.base_slices.specs.Sums.{capped}
use Rattle.engine_message_words.specs.declared.Binding.{Binding}
use Rattle.engine_bindings.specs.Bindings.{bindings_in}
use Rattle.engine_bindings.specs.Measures.{item_count}
use Rattle.engine_held_bindings.specs.Sizes.{item_bulk, Cached}
use Rattle.engine_held_bindings.specs.Sizes as sizes
use Rattle.engine_held_bindings.specs.declared.Bindings.{Bindings}

-- what is counted of a message is kept in r
pub record Measures (m : Message) (r : Binding) : Type 0 where
  pub count : r.count ≡ capped (item_count m)
  pub size : r.size ≡ capped (sizes.message_size m)
  pub bulk : r.bulk ≡ capped (item_bulk m)

-- r is the binding of the variable to the message at a word of the script, where the others are older
pub record NewBinding (script : List ℕ) (bindings : List Binding) (v at : ℕ) (r : Binding) : Type 0 where
  pub variable : r.variable ≡ v
  pub source : r.source ≡ at
  pub measures : Measures (resolve (bindings_in script bindings) (message_at (drop at script))) r

-- the bindings that are held, as bindings of variables to messages
unfoldable pub bindings_of : (script : List ℕ) → Bindings → List (ℕ × Message)
bindings_of script b = bindings_in script (drop b.first b.rows)

-- there is no more than fits, and what is kept with the bindings is right
pub record BindingsHeld (script : List ℕ) (b : Bindings) : Type 0 where
  pub within : b.first ≤ 32
  pub cached : Cached script (drop b.first b.rows)

-- what is asked where one more is to be bound
pub record BindAsked (script : List ℕ) (b : Bindings) : Type 0 where
  -- the bindings are held right
  pub held : BindingsHeld script b
  -- there is room for one more
  pub room : 0 < b.first

-- no bindings are held
pub record NoneHeld (script : List ℕ) (b : Bindings) : Type 0 where
  -- what is kept with them is right
  pub held : BindingsHeld script b
  -- there are none
  pub none : bindings_of script b ≡ []
  -- there is room for 32
  pub room : b.first ≡ 32

-- r holds the bindings that b holds, and one more, of the message at a word of the script
pub record OneMore (script : List ℕ) (b : Bindings) (v at : ℕ) (r : Bindings) : Type 0 where
  -- what is kept with them is right
  pub held : BindingsHeld script r
  -- the new binding comes first
  pub bindings : bindings_of script r ≡ (v, message_at (drop at script)) ∷ bindings_of script b
  -- there is room for one less
  pub room : r.first ≡ b.first - 1

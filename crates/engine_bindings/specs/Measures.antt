-- What is kept with the bindings: a count of each message, taken when it was bound, as of its items. The counts stop at
-- 2^32 - 1. Assumes nothing: these are definitions.
use Rattle.std.specs.Prelude.{ℕ, ◌<◌, List, [], ◌∷◌, ◌≡◌, length}
use Rattle.read_messages.specs.Message.{Message, items}
use Rattle.base_slices.specs.Sums.{capped}
use Rattle.engine_message_words.specs.Words.{binding_at}
use Rattle.engine_message_words.specs.declared.Binding.{Binding}
use Rattle.engine_bindings.specs.Bindings.{binding_message}

abbrev pub item_count : Message → ℕ
item_count m = length (items m)

-- what is kept with each binding in that field is the count of its message under the older bindings
pub record Kept (count : Message → ℕ) (value : Binding → ℕ) (script : List ℕ) (bindings : List Binding) : Type 0 where
  pub right : (k : ℕ) → k < length bindings → value (binding_at bindings k) ≡ capped (count (binding_message script bindings k))

-- the number of items is kept with each binding
abbrev pub Counted : (script : List ℕ) → List Binding → Type 0
Counted script bs = Kept item_count (λ (b : Binding). b.count) script bs

-- The same bindings with other sources, one for each as long as there are sources. Counts may fit the messages at some of these
-- and not at others.
unfoldable pub with_sources : (sources : List ℕ) → List Binding → List Binding
with_sources [] bs = bs
with_sources (s ∷ ss) [] = []
with_sources (s ∷ ss) (b ∷ bs) = record { variable = b.variable; source = s; count = b.count; size = b.size; bulk = b.bulk } ∷ with_sources ss bs

-- A message under bindings. A binding is a receipt's variable and the message that the receipt was given.
-- Assumes nothing: this is a definition.
use Rattle.std.specs.Prelude.{ℕ, List, [], ◌∷◌}
use Rattle.read_messages.specs.Message.{Message, substitute}

-- The message after the bindings, newest first: a message that was received lies in the scope of the older bindings, so
-- the newest is substituted first and what it brings in meets the older ones.
unfoldable pub resolve : List (ℕ × Message) → Message → Message
resolve [] m = m
resolve (b ∷ σ) m = resolve σ (substitute b.0 b.1 m)

-- What the engine's bindings are bindings of: variables, and messages in the script. Assumes nothing: these are definitions.
use Rattle.std.specs.Prelude.{ℕ, ◌+◌, ◌-◌, cond, List, map, ltb, drop}
use Rattle.read_messages.specs.Message.{Message, name}
use Rattle.read_messages.specs.Spelling.{message_at}
use Rattle.theory_closures.specs.Resolve.{resolve}
use Rattle.engine_message_words.specs.Words.{binding_at}
use Rattle.engine_message_words.specs.declared.Binding.{Binding}

-- the bindings, newest first, each of its variable to the message that begins at its source in the script
unfoldable pub bindings_in : (script : List ℕ) → List Binding → List (ℕ × Message)
bindings_in script bs = map (λ (b : Binding). (b.variable, message_at (drop b.source script))) bs

-- the message of the binding at that index, after the older bindings
abbrev pub binding_message : (script : List ℕ) → List Binding → (k : ℕ) → Message
binding_message script bs k = resolve (bindings_in script (drop (k + 1) bs)) (message_at (drop (binding_at bs k).source script))

-- The message that a part starts with: at a word of the script, or, from 65536 on, a name given directly (a part that
-- PLACED made). No binding changes a name.
unfoldable pub message_of : (script : List ℕ) → (start : ℕ) → Message
message_of script start = cond (ltb start 65536) (message_at (drop start script)) (name (start - 65536))

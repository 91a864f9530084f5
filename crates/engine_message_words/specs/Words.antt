-- The first word of a message: how it begins the message, what it is by itself, and where it is bound. Words that end too
-- early are read as if EMPTY stood behind them, as they are spelled. Assumes nothing: these are definitions.
use Rattle.std.specs.Prelude.{ℕ, ◌+◌, List, [], ◌∷◌, ◌==◌, get_or, position, Option, Some, None}
use Rattle.read_messages.specs.ReadMessage.{message_word}
use Rattle.read_messages.specs.declared.MessageWord.{MessageWord}
use Rattle.read_messages.specs.declared.MessageWord.TheVariants.{Name, Variable, Enter, Exit, Open, Empty, Path, Unfit}
use Rattle.read_messages.specs.Message.{Named}
use Rattle.read_messages.specs.declared.First.{First}
use Rattle.read_messages.specs.declared.First.TheVariants.{Enter as AskEnter, Exit as AskExit, Open as AskOpen, Other}
use Rattle.engine_message_words.specs.declared.Binding.{Binding}
use Rattle.engine_message_words.specs.declared.Shape.{Shape}

-- the first of the words
unfoldable pub first_word : List ℕ → MessageWord
first_word [] = Empty
first_word (w ∷ ws) = message_word w

-- How a word begins a message: how many items it is of its own if it is no variable with a binding, how many messages
-- behind it are closed in such an item, and how many stand open, as those of PATH, whose items are their own.
abbrev pub shape_with : (items closed opened : ℕ) → Shape
shape_with i c o = record { items = i; closed = c; opened = o }

unfoldable pub shape_of : MessageWord → Shape
shape_of (Name n) = shape_with 1 0 0
shape_of (Variable v) = shape_with 1 0 0
shape_of Enter = shape_with 1 1 0
shape_of Exit = shape_with 1 1 0
shape_of Open = shape_with 1 1 0
shape_of Empty = shape_with 0 0 0
shape_of Path = shape_with 0 0 2
shape_of Unfit = shape_with 0 0 0

-- how many messages stand in a message that begins with such a word
abbrev pub arity_of : MessageWord → ℕ
arity_of m = (shape_of m).closed + (shape_of m).opened

-- the binding at that index, and past the end one of zeros
abbrev pub binding_at : List Binding → ℕ → Binding
binding_at bs k = get_or bs k (record { variable = 0; source = 0; count = 0; size = 0; bulk = 0 })

-- the index of the newest binding of a variable, if it has one
unfoldable pub newest_binding : List Binding → ℕ → Option ℕ
newest_binding bs v = position (λ (b : Binding). b.variable == v) bs

-- the index of the newest binding of a word, if it is a variable that has one
unfoldable pub bound_at : MessageWord → List Binding → Option ℕ
bound_at (Name n) bs = None
bound_at (Variable v) bs = newest_binding bs v
bound_at Enter bs = None
bound_at Exit bs = None
bound_at Open bs = None
bound_at Empty bs = None
bound_at Path bs = None
bound_at Unfit bs = None

-- the name that a message is whose first word is no variable with a binding
unfoldable pub plain_name : MessageWord → Named
plain_name (Name n) = Some n
plain_name (Variable v) = None
plain_name Enter = None
plain_name Exit = None
plain_name Open = None
plain_name Empty = None
plain_name Path = None
plain_name Unfit = None

-- the first item that such a word is, `inside` being the name that the message behind it is
unfoldable pub plain_item : MessageWord → (inside : Named) → First
plain_item (Name n) i = Other
plain_item (Variable v) i = Other
plain_item Enter i = AskEnter i
plain_item Exit i = AskExit i
plain_item Open i = AskOpen i
plain_item Empty i = Other
plain_item Path i = Other
plain_item Unfit i = Other

-- Messages (document 01, "The script and its messages"): what they are, their items, what a name is, and substitution.
-- Assumes nothing: these are definitions.
use Rattle.std.specs.Prelude.{ℕ, ◌+◌, cond, List, [], ◌∷◌, ◌++◌, eqb, Option, Some, None}
use Rattle.read_messages.specs.declared.First.{First}
use Rattle.read_messages.specs.declared.First.TheVariants.{Nothing, Enter, Exit, Open, Other}

-- NAME, VAR with the index of its REC, IN, EXIT and OPEN of a message, EMPTY, PATH of two
pub data Message : Type 0 where
  name : ℕ → Message
  variable : ℕ → Message
  enter exit opens : Message → Message
  empty_message : Message
  path : Message → Message → Message

-- "A message's leaves are what remains when its PATHs are opened; the inside of A, B, C isn't opened. Leaves apart from
-- EMPTY are its items."
unfoldable pub items : Message → List Message
items (name n) = name n ∷ []
items (variable v) = variable v ∷ []
items (enter m) = enter m ∷ []
items (exit m) = exit m ∷ []
items (opens m) = opens m ∷ []
items empty_message = []
items (path m k) = items m ++ items k

-- the name that a message is, or none
abbrev pub Named : Type 0
Named = Option ℕ

-- "A message is a name only if it is one NAME word". Everything that asks for a name asks it here.
unfoldable pub name_of : Message → Named
name_of (name n) = Some n
name_of (variable v) = None
name_of (enter m) = None
name_of (exit m) = None
name_of (opens m) = None
name_of empty_message = None
name_of (path m k) = None

-- what an item asks: "IN, EXIT or OPEN of a name m"
unfoldable pub asks : Message → First
asks (name n) = Other
asks (variable v) = Other
asks (enter m) = Enter (name_of m)
asks (exit m) = Exit (name_of m)
asks (opens m) = Open (name_of m)
asks empty_message = Other
asks (path m k) = Other

-- the first of an action's items
unfoldable pub first_item : List Message → First
first_item [] = Nothing
first_item (i ∷ is) = asks i

-- "each of its VARs becomes the whole message": r for each variable v
unfoldable pub substitute : (v : ℕ) → Message → Message → Message
substitute v r (name n) = name n
substitute v r (variable u) = cond (eqb u v) r (variable u)
substitute v r (enter m) = enter (substitute v r m)
substitute v r (exit m) = exit (substitute v r m)
substitute v r (opens m) = opens (substitute v r m)
substitute v r empty_message = empty_message
substitute v r (path m k) = path (substitute v r m) (substitute v r k)

-- "(where it is itself an item of an action, the message's items)": an action's items with r for each variable v
unfoldable pub substitute_items : (v : ℕ) → Message → List Message → List Message
substitute_items v r [] = []
substitute_items v r (m ∷ ms) = items (substitute v r m) ++ substitute_items v r ms

-- how often a variable stands in a message
unfoldable pub mentions : ℕ → Message → ℕ
mentions v (name n) = 0
mentions v (variable u) = cond (eqb u v) 1 0
mentions v (enter m) = mentions v m
mentions v (exit m) = mentions v m
mentions v (opens m) = mentions v m
mentions v empty_message = 0
mentions v (path m k) = mentions v m + mentions v k

-- To unfold this is to unfold every definition of this module: for a proof by computation.
unfoldable pub computing : Unit {0}
unfolding items name_of asks first_item substitute substitute_items mentions
computing = tt

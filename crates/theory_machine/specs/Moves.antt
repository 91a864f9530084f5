-- The moves (document 01, "The plain machine"), over any way of holding actions: the plain machine, which holds their
-- items, and the closures, which hold an offset into a message, are two instances. Assumes nothing: these are definitions.
use Rattle.std.specs.Prelude.{ℕ, Bool, true, false, not, ◌&&◌, cond, List, [], ◌∷◌, eqb, Some, None}
use Rattle.std.proofs.Math.Option.{Option, none, some, or_else}
use Rattle.read_messages.specs.Message.{Message}
use Rattle.read_messages.specs.Message.{Named}
use Rattle.read_scripts.specs.Tree.{Head, ambient, action, receipt, output, Body, close, part, put, merge_parts}
use Rattle.theory_machine.specs.Bodies.{◌>>=◌, check, find_part, remove_part, alter, holder}
use Rattle.read_messages.specs.declared.First.{First}
use Rattle.read_messages.specs.declared.First.TheVariants.{Nothing, Enter, Exit, Open, Other}

-- How a machine reads what its heads hold: `A` is what an action is held as.
pub record View (A : Type 0) : Type 0 where
  pub named : Message → Named  -- the name that an ambient's message is
  pub first : A → First  -- the first item of an action
  pub spent : A → A  -- "The item is spent."
  pub delivered : (v : ℕ) → Message → Body (Head A) → Body (Head A)  -- what a receipt's body becomes

-- whether there is a name
unfoldable pub is_named : Named → Bool
is_named (Some n) = true
is_named None = false

abbrev pub is_that : ℕ → Named → Bool
is_that n (Some m) = eqb m n
is_that n None = false

-- whether both are names, and the same
unfoldable pub same_name : Named → Named → Bool
same_name (Some n) y = is_that n y
same_name None y = false

-- "an ACT whose first item is IN, EXIT or OPEN of a name m": m, of the one asked for
unfoldable pub to_enter : First → Named
to_enter Nothing = None
to_enter (Enter n) = n
to_enter (Exit n) = None
to_enter (Open n) = None
to_enter Other = None

unfoldable pub to_exit : First → Named
to_exit Nothing = None
to_exit (Enter n) = None
to_exit (Exit n) = n
to_exit (Open n) = None
to_exit Other = None

unfoldable pub to_open : First → Named
to_open Nothing = None
to_open (Enter n) = None
to_open (Exit n) = None
to_open (Open n) = n
to_open Other = None

-- what a move comes to: the new body, and the variable and message of the receipt that it made, if it made one
pub record MoveMade (A : Type 0) : Type 0 where
  pub body : Body (Head A)
  pub news : List (ℕ × Message)

module _ {A : Type 0} where
  -- a receipt's variable, an output's message
  unfoldable pub variable_of : Head A → Option ℕ
  variable_of (ambient m) = none
  variable_of (action a) = none
  variable_of (receipt v) = some v
  variable_of (output m) = none

  unfoldable pub message_of : Head A → Option Message
  message_of (ambient m) = none
  message_of (action a) = none
  message_of (receipt v) = none
  message_of (output m) = some m

  abbrev pub quiet : Body (Head A) → MoveMade A
  quiet b = record { body = b; news = [] }

  -- the move made inside a larger body
  unfoldable pub onward : (Body (Head A) → Body (Head A)) → Option (MoveMade A) → Option (MoveMade A)
  onward w none = none
  onward w (some m) = some (record { body = w m.body; news = m.news })

module _ {A : Type 0} (view : View A) where
  -- the name of a part: only ambients have one
  unfoldable pub head_name : Head A → Named
  head_name (ambient m) = view.named m
  head_name (action a) = None
  head_name (receipt v) = None
  head_name (output m) = None

  unfoldable pub first_of : Head A → First
  first_of (ambient m) = Nothing
  first_of (action a) = view.first a
  first_of (receipt v) = Nothing
  first_of (output m) = Nothing

  unfoldable pub spent_head : Head A → Head A
  spent_head (ambient m) = ambient m
  spent_head (action a) = action (view.spent a)
  spent_head (receipt v) = receipt v
  spent_head (output m) = output m

  -- the body with the first item of its own part a spent
  abbrev pub spend : ℕ → Body (Head A) → Body (Head A)
  spend a b = alter a spent_head (λ s. s) b

  -- "IN: the AMB p directly around the actor is named; the target is another AMB named m in the same body as p; p goes
  -- into it."
  unfoldable pub enter_move : (actor target : ℕ) → Body (Head A) → Option (MoveMade A)
  enter_move a t b = do
    (g, _) ← find_part t b
    p ← holder a b
    (h, inside) ← find_part p b
    (f, _) ← find_part a inside
    _ ← check (not (eqb p t) && (is_named (head_name h) && same_name (to_enter (first_of f)) (head_name g)))
    some (quiet (alter t (λ e. e) (put p h (spend a inside)) (remove_part p b)))

  -- "EXIT: the target is the AMB named m directly around p, p named; p comes out beside it."
  unfoldable pub exit_move : (actor target : ℕ) → Body (Head A) → Option (MoveMade A)
  exit_move a t b = do
    (g, room) ← find_part t b
    p ← holder a room
    (h, inside) ← find_part p room
    (f, _) ← find_part a inside
    _ ← check (is_named (head_name h) && same_name (to_exit (first_of f)) (head_name g))
    some (quiet (put p h (spend a inside) (alter t (λ e. e) (remove_part p) b)))

  -- "OPEN: the target is an AMB named m in the actor's own body; it goes, its body stays."
  unfoldable pub open_move : (actor target : ℕ) → Body (Head A) → Option (MoveMade A)
  open_move a t b = do
    (g, inside) ← find_part t b
    (f, _) ← find_part a b
    _ ← check (same_name (to_open (first_of f)) (head_name g))
    some (quiet (spend a (merge_parts inside (remove_part t b))))

  -- "The actor is a REC, the target an OUT in the same body: both go, the receipt's body stands there"
  unfoldable pub receive_move : (actor target : ℕ) → Body (Head A) → Option (MoveMade A)
  receive_move a t b = do
    (g, _) ← find_part t b
    (h, inside) ← find_part a b
    v ← variable_of h
    m ← message_of g
    some (record { body = merge_parts (view.delivered v m inside) (remove_part t (remove_part a b)); news = (v, m) ∷ [] })

  -- the move (a, t), where its target stands in this very body
  unfoldable pub move_here : (actor target : ℕ) → Body (Head A) → Option (MoveMade A)
  move_here a t b = or_else (open_move a t b) (or_else (receive_move a t b) (or_else (enter_move a t b) (exit_move a t b)))

  -- "It needs every AMB around its actor to have a name, and its parts to stand under no ACT or REC": a rewriting g made
  -- inside a named ambient of the body, or deeper inside named ambients
  unfoldable pub inside : (Body (Head A) → Option (MoveMade A)) → Body (Head A) → Option (MoveMade A)
  inside g close = none
  inside g (part i h b r) =
      or_else (onward (λ c. part i h c r) (cond (is_named (head_name h)) (or_else (g b) (inside g b)) none))
      (onward (λ q. part i h b q) (inside g r))

  -- here, or inside
  abbrev pub anywhere : (Body (Head A) → Option (MoveMade A)) → Body (Head A) → Option (MoveMade A)
  anywhere g b = or_else (g b) (inside g b)

-- To unfold this is to unfold every definition of this module: for a proof by computation.
unfoldable pub computing : Unit {0}
unfolding is_named same_name to_enter to_exit to_open variable_of message_of onward head_name first_of spent_head enter_move exit_move open_move receive_move move_here inside or_else
computing = tt

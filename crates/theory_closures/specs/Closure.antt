-- The closure machine (document 01, "The engine keeps closures (004): message once, newest binding first, an offset into each
-- action"): the same moves as the plain machine's, on a tree whose messages are the script's, beside the bindings; the plain
-- tree that a closure represents; and the closure that a script begins with. Assumes nothing: these are definitions.
use Rattle.std.specs.Prelude.{ℕ, suc, Bool, false, List, [], ◌∷◌, ◌++◌, length, drop, leb}
use Rattle.std.proofs.Math.Option.{Option, none, some}
use Rattle.read_messages.specs.Message.{Message, items, name_of, first_item}
use Rattle.read_scripts.specs.Tree.{Head, ambient, action, receipt, output, Body, map_heads, settle_by, PlainHead, Plain}
use Rattle.read_scripts.specs.Script.{Script}
use Rattle.theory_closures.specs.Resolve.{resolve}
use Rattle.theory_machine.specs.Moves.{View, MoveMade, move_here, anywhere}
use Rattle.theory_machine.specs.PlainMachine.{Machine}

-- an action as it is held: how many of its items are spent, and its message
pub record Action : Type 0 where
  pub offset : ℕ
  pub message : Message

abbrev pub ClosureHead : Type 0
ClosureHead = Head Action

abbrev pub Closure : Type 0
Closure = Body ClosureHead

-- the bindings, newest first
abbrev pub Bindings : Type 0
Bindings = List (ℕ × Message)

-- the items of an action that are not spent
unfoldable pub items_left : Bindings → Action → List Message
items_left σ a = drop a.offset (items (resolve σ a.message))

-- one more item is spent
abbrev pub spent_one : Action → Action
spent_one a = record { offset = suc a.offset; message = a.message }

-- how the heads are read under the bindings; a receipt's body stays as it stands, its binding being news
abbrev pub view_under : Bindings → View Action
view_under σ = record { named = λ m. name_of (resolve σ m); first = λ a. first_item (items_left σ a); spent = spent_one; delivered = λ v m b. b }

-- an action whose items are all spent
unfoldable pub all_spent : Bindings → ClosureHead → Bool
all_spent σ (ambient m) = false
all_spent σ (action a) = leb (length (items (resolve σ a.message))) a.offset
all_spent σ (receipt v) = false
all_spent σ (output m) = false

abbrev pub settle_under : Bindings → Closure → Closure
settle_under σ b = settle_by (all_spent σ) b

-- what a move comes to is settled under the bindings that then hold
unfoldable pub settled_under : Bindings → Option (MoveMade Action) → Option (MoveMade Action)
settled_under σ none = none
settled_under σ (some m) = some (record { body = settle_under (m.news ++ σ) m.body; news = m.news })

-- the closure after the move (a, t), where the machine can make it
unfoldable pub closure_move : Bindings → (actor target : ℕ) → Closure → Option (MoveMade Action)
closure_move σ a t b = settled_under σ (anywhere (view_under σ) (move_here (view_under σ) a t) b)

-- The plain tree that a closure represents.
unfoldable pub unfold_head : Bindings → ClosureHead → PlainHead
unfold_head σ (ambient m) = ambient (resolve σ m)
unfold_head σ (action a) = action (items_left σ a)
unfold_head σ (receipt v) = receipt v
unfold_head σ (output m) = output (resolve σ m)

unfoldable pub unfolded : Bindings → Closure → Plain
unfolded σ b = map_heads (unfold_head σ) b

-- a receipt that was made, as the plain machine tells it: with the message that was received
abbrev pub plain_news : Bindings → Bindings → Bindings
plain_news σ [] = []
plain_news σ (p ∷ l) = (p.0, resolve σ p.1) ∷ plain_news σ l

-- what the plain machine makes of the same move
unfoldable pub unfolded_move : Bindings → MoveMade Action → MoveMade (List Message)
unfolded_move σ m = record { body = unfolded (m.news ++ σ) m.body; news = plain_news σ m.news }

-- the closure machine, and the plain machine that it represents: the receipts made are the bindings
pub record ClosureMachine : Type 0 where
  pub tree : Closure
  pub bindings : Bindings

unfoldable pub unfold_machine : ClosureMachine → Machine
unfold_machine m = record { tree = unfolded m.bindings m.tree; receipts = length m.bindings }

-- the closure that a script begins with, before it is settled: each message as it stands, nothing spent
unfoldable pub whole_head : Head Message → ClosureHead
whole_head (ambient m) = ambient m
whole_head (action m) = action (record { offset = 0; message = m })
whole_head (receipt v) = receipt v
whole_head (output m) = output m

unfoldable pub closure_of : Script → Closure
closure_of b = map_heads (λ w. whole_head w.head) b

-- The plain machine (document 01): "It keeps the tree of parts, each with its number, and the receipts made."
-- Assumes nothing: these are definitions.
use Rattle.std.specs.Prelude.{ℕ, ◌+◌, ◌*◌, List, [], ◌∷◌}
use Rattle.std.proofs.Math.Option.{Option, none, some}
use Rattle.read_messages.specs.Message.{Message, name_of, first_item, substitute, substitute_items}
use Rattle.read_scripts.specs.Tree.{ambient, action, receipt, output, map_heads, parts, PlainHead, Plain, settle}
use Rattle.theory_machine.specs.Moves.{View, MoveMade, move_here, anywhere}

-- the items behind the first
unfoldable pub rest : List Message → List Message
rest [] = []
rest (i ∷ is) = is

-- "each of its VARs becomes the whole message (where it is itself an item of an action, the message's items)"
unfoldable pub substitute_head : (v : ℕ) → Message → PlainHead → PlainHead
substitute_head v m (ambient n) = ambient (substitute v m n)
substitute_head v m (action is) = action (substitute_items v m is)
substitute_head v m (receipt u) = receipt u
substitute_head v m (output n) = output (substitute v m n)

unfoldable pub substitute_body : (v : ℕ) → Message → Plain → Plain
substitute_body v m b = map_heads (substitute_head v m) b

abbrev pub plain : View (List Message)
plain = record { named = name_of; first = first_item; spent = rest; delivered = substitute_body }

abbrev pub settled : MoveMade (List Message) → MoveMade (List Message)
settled m = record { body = settle m.body; news = m.news }

unfoldable pub settled_by : Option (MoveMade (List Message)) → Option (MoveMade (List Message))
settled_by none = none
settled_by (some m) = some (settled m)

-- the tree after the move (a, t), where the machine can make it
unfoldable pub move : (actor target : ℕ) → Plain → Option (MoveMade (List Message))
move a t b = settled_by (anywhere plain (move_here plain a t) b)

-- the machine: the tree of parts, and the receipts made
pub record Machine : Type 0 where
  pub tree : Plain
  pub receipts : ℕ

-- "Weight is the parts in the tree plus twice the receipts made."
unfoldable pub weight_of : Machine → ℕ
weight_of m = parts m.tree + 2 * m.receipts

-- To unfold this is to unfold every definition of this module: for a proof by computation.
unfoldable pub computing : Unit {0}
unfolding rest substitute_head substitute_body settled_by move weight_of
computing = tt

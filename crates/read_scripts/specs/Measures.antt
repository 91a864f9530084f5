-- What document 01's bound counts in a script. Assumes nothing: these are definitions.
use Rattle.std.specs.Prelude.{ℕ, suc, ◌+◌, ◌*◌, ◌^◌, length}
use Rattle.read_messages.specs.Message.{Message, items}
use Rattle.read_scripts.specs.Tree.{Head, ambient, action, receipt, output, total_over, greatest}
use Rattle.read_scripts.specs.Script.{Script}

-- "In the bound, receipts and actions are the script's RECs and ACTs"
abbrev pub is_receipt : Head Message → ℕ
is_receipt (ambient m) = 0
is_receipt (action m) = 0
is_receipt (receipt v) = 1
is_receipt (output m) = 0

abbrev pub is_action : Head Message → ℕ
is_action (ambient m) = 0
is_action (action m) = 1
is_action (receipt v) = 0
is_action (output m) = 0

unfoldable pub receipts_in : Script → ℕ
receipts_in b = total_over (λ i w. is_receipt w.head) b

unfoldable pub actions_in : Script → ℕ
actions_in b = total_over (λ i w. is_action w.head) b

-- "items are those of its parts' messages as read, a VAR counting as one"
abbrev pub items_of : Head Message → ℕ
items_of (ambient m) = length (items m)
items_of (action m) = length (items m)
items_of (receipt v) = 0
items_of (output m) = length (items m)

unfoldable pub most_items : Script → ℕ
most_items b = greatest (λ i w. items_of w.head) b

-- the bound on the moves made: r + a × s ^ (r + 1)
unfoldable pub moves_bound : Script → ℕ
moves_bound b = receipts_in b + actions_in b * most_items b ^ suc (receipts_in b)

-- To unfold this is to unfold every definition of this module: for a proof by computation.
unfoldable pub computing : Unit {0}
unfolding receipts_in actions_in most_items moves_bound
computing = tt

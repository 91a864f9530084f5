-- The nesting of the words that a tree is written with (document 01, "The script and its messages"), by the tree alone and not
-- by any reading of words. Assumes nothing: these are definitions.
use Rattle.std.specs.Prelude.{ℕ, suc, max}
use Rattle.read_messages.specs.Message.{Message, name, variable, enter, exit, opens, empty_message, path}
use Rattle.read_scripts.specs.Tree.{ambient, action, receipt, output, close, part, PlainHead, Plain}
use Rattle.theory_written_trees.specs.Write.{one_message}

-- "the number of words A, B, C, E whose message it stands in": of a message's words the greatest, the first word's being 0
unfoldable pub message_nesting : Message → ℕ
message_nesting (name n) = 0
message_nesting (variable v) = 0
message_nesting (enter m) = suc (message_nesting m)
message_nesting (exit m) = suc (message_nesting m)
message_nesting (opens m) = suc (message_nesting m)
message_nesting empty_message = 0
message_nesting (path m k) = suc (max (message_nesting m) (message_nesting k))

-- "the number of bodies of kinds 1 to 3 it stands in" besides: of a part's words the greatest, the part's own word's being 0
-- and `inside` the greatest in its body, if it has one
unfoldable pub part_nesting : PlainHead → (inside : ℕ) → ℕ
part_nesting (ambient m) inside = max (message_nesting m) (suc inside)
part_nesting (action is) inside = max (message_nesting (one_message is)) (suc inside)
part_nesting (receipt v) inside = suc inside
part_nesting (output m) inside = message_nesting m

-- of the words of a tree the greatest; "a CLOSE stands in the body it ends"
unfoldable pub nesting : Plain → ℕ
nesting close = 0
nesting (part k h b r) = max (part_nesting h (nesting b)) (nesting r)

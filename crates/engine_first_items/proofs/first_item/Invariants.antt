-- `engine_first_items::first_item` meets its contract: the search always stands where the same item is found. Assumes nothing.
use lib.ListN.{drop}
use Rattle.read_messages.specs.Message.{items, first_item}
use Rattle.read_messages.specs.Spelling.{message_at}
use Rattle.theory_closures.specs.Resolve.{resolve}
use Rattle.engine_bindings.specs.Bindings.{bindings_in}
use Rattle.engine_first_items.proofs.Searching.{Finding, turns}
use Rattle.engine_first_items.proofs.first_item.Given as goal

abbrev pub invariant-loop-s : goal.invariant-loop-s
invariant-loop-s l = Finding l.script (first_item (drop l.offset (items (resolve (bindings_in l.script l.bindings) (message_at (drop l.at l.script)))))) l.s

abbrev pub decreases-loop-s : goal.decreases-loop-s
decreases-loop-s l = turns l.s

-- `engine_bindings::item_count` meets its contract. Assumes nothing.
use borrow.Author.Rules.{rules}
use Rattle.engine_bindings.proofs.Passing.{part_room}
use Rattle.engine_bindings.proofs.Counting.{count-one}
use Rattle.engine_bindings.proofs.item_count.Goals as goal

pub count_from-requires : goal.count_from-requires
count_from-requires c = search (part_room, rules)

pub returns : goal.returns
returns c = search (count-one, rules)

-- `engine_held_bindings::size_from` meets its contract. The measure falls with the words, and where there are none, with the
-- messages. Assumes nothing.
use borrow.Author.Rules.{rules}
use Rattle.engine_held_bindings.proofs.Sizing.{none-size, pass_fits, pass-room, pass-less, sizes-sum}
use Rattle.engine_held_bindings.proofs.+size_from.Goals as goal

pub returns-then-pending-eq0 : goal.returns-then-pending-eq0
returns-then-pending-eq0 t c script ok = search (none-size, rules)

pub overflow_add-pending : goal.overflow_add-pending
overflow_add-pending t c = search (pass_fits, rules)

pub size_from-requires : goal.size_from-requires
size_from-requires t c = search (pass-less, pass-room, rules)

pub returns : goal.returns
returns t c script ok = search (sizes-sum, rules)

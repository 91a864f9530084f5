-- `engine_bindings::count_from` meets its contract. The measure falls with the words, and where there are none, with the
-- messages. Assumes nothing.
use borrow.Author.Rules.{rules}
use Rattle.engine_bindings.proofs.Counting.{no_items_lem, count-sum, own-count}
use Rattle.engine_bindings.proofs.Passing.{none-pending}
use Rattle.engine_bindings.proofs.+count_from.Goals as goal

pub returns-then-pending-eq0 : goal.returns-then-pending-eq0
returns-then-pending-eq0 t c script ok = search (no_items_lem, none-pending, rules)

pub returns : goal.returns
returns t c script ok = search (count-sum, own-count, rules)

-- `engine_bindings::skip` meets its contract. The measure is how many words are left. Assumes nothing.
use borrow.Author.Rules.{rules}
use Rattle.engine_bindings.proofs.Passing.{skip-none, skip-fits, skip-some, skip-room, tail-less}
use Rattle.engine_bindings.proofs.+skip.Goals as goal

pub returns-then-words-eq0 : goal.returns-then-words-eq0
returns-then-words-eq0 t c = search (skip-none, rules)

pub overflow_add-pending : goal.overflow_add-pending
overflow_add-pending t c = search (skip-fits, rules)

pub skip-requires : goal.skip-requires
skip-requires t c = search (tail-less, skip-room, rules)

pub returns : goal.returns
returns t c = search (skip-some, rules)

-- `engine_bindings::after_own` meets its contract. Assumes nothing.
use borrow.Author.Rules.{rules}
use Rattle.engine_bindings.proofs.Passing.{left-fits, closed-room, passed_first}
use Rattle.engine_bindings.proofs.after_own.Goals as goal

pub skip-requires : goal.skip-requires
skip-requires c = search (closed-room, rules)

pub overflow_add-result-2 : goal.overflow_add-result-2
overflow_add-result-2 c = search (left-fits _ _ c.requires.some _ _ c.first_word.ensures c.shape_of-s.ensures, rules)

pub returns : goal.returns
returns c = search (passed_first, rules)

-- `engine_held_bindings::own_size` meets its contract. Assumes nothing.
use borrow.Author.Rules.{rules}
use Rattle.engine_held_bindings.proofs.Sizing.{size-bound, size-unbound}
use Rattle.engine_held_bindings.proofs.own_size.Goals as goal

pub returns-in-Some : goal.returns-in-Some
returns-in-Some c script ok = search (size-bound, rules)

pub returns-in-None : goal.returns-in-None
returns-in-None c script ok = search (size-unbound, rules)

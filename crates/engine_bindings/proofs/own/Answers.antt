-- `engine_bindings::own` meets its contract: a variable with a binding has the items that were counted of its message, another
-- word those that it is itself. Assumes nothing.
use borrow.Author.Rules.{rules}
use Rattle.engine_bindings.proofs.Counting.{own-bound, own-unbound}
use Rattle.engine_bindings.proofs.own.Goals as goal

pub returns-in-Some : goal.returns-in-Some
returns-in-Some c script sources ok = search (own-bound, rules)

pub returns-in-None : goal.returns-in-None
returns-in-None c script sources ok = search (own-unbound, rules)

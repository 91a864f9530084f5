-- `engine_bindings::name_of` meets its contract. The measure is how many bindings are left. Assumes nothing.
use borrow.Author.Rules.{rules}
use Rattle.std.proofs.lemmas.List.{take_rest}
use Rattle.engine_bindings.proofs.Passing.{name-bound, name-unbound}
use Rattle.engine_bindings.proofs.+name_of.Goals as goal

pub returns-in-Some : goal.returns-in-Some
returns-in-Some t c = search (name-bound, take_rest, rules)

pub returns-in-None : goal.returns-in-None
returns-in-None t c = search (name-unbound, rules)

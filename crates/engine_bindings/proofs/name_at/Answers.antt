-- `engine_bindings::name_at` meets its contract: a name given directly stays under every binding. Assumes nothing.
use borrow.Author.Rules.{rules}
use Rattle.engine_bindings.proofs.Bindings.{name-word, name-given}
use Rattle.engine_bindings.proofs.name_at.Goals as goal

pub returns-then-start-lt-FIRST_NAME : goal.returns-then-start-lt-FIRST_NAME
returns-then-start-lt-FIRST_NAME c = search (name-word, rules)

pub returns : goal.returns
returns c = search (name-given, rules)

-- `engine_held_bindings::bulk_of` meets its contract. Assumes nothing.
use borrow.Author.Rules.{rules}
use Rattle.engine_held_bindings.proofs.Sizing.{bulk-one}
use Rattle.engine_held_bindings.proofs.bulk_of.Goals as goal

pub returns : goal.returns
returns c = search (bulk-one, rules)

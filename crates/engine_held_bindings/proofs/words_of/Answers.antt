-- `engine_held_bindings::words_of` meets its contract. Assumes nothing.
use borrow.Author.Rules.{rules}
use Rattle.engine_held_bindings.proofs.Sizing.{size-one}
use Rattle.engine_held_bindings.proofs.words_of.Goals as goal

pub returns : goal.returns
returns c = search (size-one, rules)

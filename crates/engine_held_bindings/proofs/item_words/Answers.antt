-- `engine_held_bindings::item_words` meets its contract: an action's items are written with one word less than their bulk, and
-- none of them with one word. Assumes nothing.
use borrow.Author.Rules.{rules}
use Rattle.engine_held_bindings.proofs.Sizing.{words-none, words-some}
use Rattle.engine_held_bindings.proofs.item_words.Goals as goal

pub returns-then-b-eq0 : goal.returns-then-b-eq0
returns-then-b-eq0 c = search (words-none, rules)

pub returns-else-b-eq0 : goal.returns-else-b-eq0
returns-else-b-eq0 c = search (words-some, rules)

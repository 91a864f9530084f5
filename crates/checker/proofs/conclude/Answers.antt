-- `conclude` meets its contract: the answer with the tree, and the itinerary behind it. Assumes nothing.
use Rattle.checker.proofs.Concluding.{shows-gives}
use borrow.Author.Rules.{rules}
use Rattle.checker.proofs.conclude.Goals as goal

pub returns : goal.returns
returns c made rule patience table S e W = search (shows-gives, rules)

-- `finish` meets its contract: the writer says whether the tree fits. Assumes nothing.
use Rattle.checker.proofs.Ending.{finishes-refused, finishes-words}
use borrow.Author.Rules.{rules}
use Rattle.checker.proofs.finish.Goals as goal

pub returns-in-Err : goal.returns-in-Err
returns-in-Err c = search (finishes-refused, rules)

pub returns-in-Ok : goal.returns-in-Ok
returns-in-Ok c = search (finishes-words, rules)

-- `count_head` meets its contract, kind by kind. Assumes nothing.
use Rattle.write_counts.proofs.Counting.{count-action, count-receipt, count-message}
use borrow.Author.Rules.{rules}
use Rattle.write_counts.proofs.count_head.Goals as goal

pub returns-in-2 : goal.returns-in-2
returns-in-2 c ix = search (count-action, rules)

pub returns-in-3 : goal.returns-in-3
returns-in-3 c ix = count-receipt _ _ _ _ ix _ c.in-3.is

pub returns-in_default : goal.returns-in_default
returns-in_default c ix = search (count-message, rules)

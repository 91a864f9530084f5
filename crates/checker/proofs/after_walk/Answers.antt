-- `after_walk` meets its contract: a stop is a refusal. Assumes nothing.
use Rattle.checker.proofs.Ending.{walks-yes, walks-no, walks-stopped}
use borrow.Author.Rules.{rules}
use Rattle.checker.proofs.after_walk.Goals as goal

pub returns-in-Yes : goal.returns-in-Yes
returns-in-Yes c = search (walks-yes, rules)

pub returns-in-No : goal.returns-in-No
returns-in-No c = search (walks-no, rules)

pub returns-in-Stopped : goal.returns-in-Stopped
returns-in-Stopped c = search (walks-stopped, rules)

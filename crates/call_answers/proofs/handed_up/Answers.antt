-- `handed_up` meets its contract. Assumes nothing.
use Rattle.call_answers.proofs.Refusals.{by-refusal, by-none}
use borrow.Author.Rules.{rules}
use Rattle.call_answers.proofs.handed_up.Goals as goal

pub returns-in-Err : goal.returns-in-Err
returns-in-Err c = search (by-refusal, rules)

pub returns-in-Ok : goal.returns-in-Ok
returns-in-Ok c = search (by-none, rules)

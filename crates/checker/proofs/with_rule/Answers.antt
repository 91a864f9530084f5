-- `with_rule` meets its contract: questions 13 and 14 let the call in, or refuse it. Assumes nothing.
use Rattle.call_answers.proofs.Terms.{asked-so}
use Rattle.call_answers.proofs.Refusals.{handed}
use Rattle.checker.proofs.Calling.{says-terms}
use borrow.Author.Rules.{rules}
use Rattle.checker.proofs.with_rule.Goals as goal

pub returns-in-Err : goal.returns-in-Err
returns-in-Err c = search (handed, says-terms, rules)

pub with_terms-requires : goal.with_terms-requires
with_terms-requires c = search (asked-so, rules)

-- `with_script` meets its contract: questions 7 to 12. Assumes nothing.
use Rattle.call_answers.proofs.Refusals.{handed}
use Rattle.read_rules.proofs.Tabled.{rule-refuses}
use Rattle.checker.proofs.Calling.{rule-held, says-rule}
use borrow.Author.Rules.{rules}
use Rattle.checker.proofs.with_script.Goals as goal

pub returns-in-Err : goal.returns-in-Err
returns-in-Err c = search (handed, says-rule, rule-refuses, rules)

pub with_rule-requires : goal.with_rule-requires
with_rule-requires c = search (rule-held, rules)

-- `read_rule_words::greatest_rule_name` meets its contract. Assumes nothing.
use Rattle.std.proofs.Common.{rules, ◌∙◌}
use Rattle.read_rule_words.specs.Rule.{rule_name}
use Rattle.read_rule_words.proofs.Words.{names-greatest}
use Rattle.read_rule_words.proofs.greatest_rule_name.Goals as goal

pub returns : goal.returns
returns c = c.greatest.ensures rule_name (λ w r e. search rules) ∙ names-greatest c.args.rule.now

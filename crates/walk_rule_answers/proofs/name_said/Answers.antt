-- `name_said` meets its contract: a name, or the one chosen. Assumes nothing.
use mathlib.Core.Path.{◌≡◌, ◌∙◌}
use lib.ListN.{get_or}
use Rattle.walk_rule_answers.proofs.Said.{said-constant, said-chosen}
use borrow.Author.Rules.{rules}
use Rattle.walk_rule_answers.proofs.name_said.Goals as goal

pub returns-in-Constant : goal.returns-in-Constant
returns-in-Constant c = search (said-constant, rules)

pub returns-in-Chosen : goal.returns-in-Chosen
returns-in-Chosen c =
    let e : c.unwrap_or.result ≡ get_or c.args.chosen.now c.in-Chosen.i 0 = search rules in
    e ∙ said-chosen _ _ c.in-Chosen.i _ c.in-Chosen.is c.term_of-t.ensures c.told-chosen

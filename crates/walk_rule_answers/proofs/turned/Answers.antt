-- `turned` meets its contract, case by case. Assumes nothing.
use mathlib.Core.Path.{◌≡◌, sym, ap, ◌∙◌}
use Rattle.walk_stages.specs.Visits.{walked_of}
use Rattle.theory_decision.specs.Walk as spec
use Rattle.walk_stages.specs.declared.Walked.{Walked}
use borrow.Author.Rules.{rules}
use Rattle.walk_rule_answers.proofs.turned.Goals as goal

turned_as : (r w y : Walked) → w ≡ y → walked_of r ≡ spec.turned (walked_of y) → walked_of r ≡ spec.turned (walked_of w)
turned_as r w y e f = f ∙ sym (ap (λ (z : Walked). spec.turned (walked_of z)) e)

pub returns-in-Yes : goal.returns-in-Yes
unfolding walked_of spec.turned
returns-in-Yes c = search (turned_as, rules)

pub returns-in-No : goal.returns-in-No
unfolding walked_of spec.turned
returns-in-No c = search (turned_as, rules)

pub returns-in-Stopped : goal.returns-in-Stopped
unfolding walked_of spec.turned
returns-in-Stopped c = search (turned_as, rules)

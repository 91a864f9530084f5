-- `walk_rule` meets its contract: the rule is loaded, the state lent, and the first word visited. Assumes nothing.
use native.Mathlib.Omega.{arith}
use Rattle.walk_rules.proofs.Begun.{first-visitable, whole-walk, none-routed, led-walk, led-routed}
use borrow.Author.Rules.{rules}
use Rattle.walk_rules.proofs.walk_rule.Goals as goal

pub lead-requires : goal.lead-requires
lead-requires c = search (first-visitable, rules)

pub returns-then-program-eq-SOMETIME : goal.returns-then-program-eq-SOMETIME
returns-then-program-eq-SOMETIME c = record { walked = search (led-walk, rules); routed = search (led-routed, rules) }

pub visit-walked-requires : goal.visit-walked-requires
visit-walked-requires c = (omega arith, search (first-visitable, rules))

pub returns : goal.returns
returns c = record { walked = search (whole-walk, rules); routed = search (none-routed, rules) }

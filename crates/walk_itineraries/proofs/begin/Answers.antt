-- `begin` meets its contract: it stops, or the inner rule is visited. Assumes nothing.
use borrow.Author.Rules.{rules}
use Rattle.walk_stages.proofs.Members.{deep-visits, over-visits}
use Rattle.walk_itineraries.proofs.Guiding.{begins-stopped, begins-inner}
use Rattle.walk_itineraries.proofs.begin.Goals as goal

pub returns-then-left-eq0 : goal.returns-then-left-eq0
returns-then-left-eq0 c = search (begins-stopped, deep-visits, rules)

pub returns-then-walk-visits : goal.returns-then-walk-visits
returns-then-walk-visits c = search (begins-stopped, over-visits, rules)

pub returns : goal.returns
returns c = search (begins-inner, rules)

-- `with_itinerary` meets its contract: a yes is shown with its moves, another answer with none. Assumes nothing.
use Rattle.call_itineraries.proofs.Shown.{shows-yes, shows-none}
use mathlib.Core.Logic.{inl, inr}
use borrow.Author.Rules.{rules}
use Rattle.call_itineraries.proofs.with_itinerary.Goals as goal

pub returns-in-Yes : goal.returns-in-Yes
returns-in-Yes c = search (shows-yes, rules)

pub returns-in-No : goal.returns-in-No
returns-in-No c = shows-none _ _ _ _ (inl c.in-No.is)

pub returns-in-Refused : goal.returns-in-Refused
returns-in-Refused c = shows-none _ _ _ _ (inr (_, c.in-Refused.is))

-- `said` meets its contract. Assumes nothing.
use mathlib.Core.Path.{sym, ap}
use Rattle.theory_call.specs.Call.{accepted}
use Rattle.call_answers.specs.Answering.{verdict_of}
use Rattle.call_answers.proofs.said.Goals as goal

pub returns-then-yes : goal.returns-then-yes
unfolding verdict_of
returns-then-yes c = ap accepted (sym c.if-yes.true)

pub returns-else-yes : goal.returns-else-yes
unfolding verdict_of
returns-else-yes c = ap accepted (sym c.if-yes.false)

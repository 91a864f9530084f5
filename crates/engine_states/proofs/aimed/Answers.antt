-- `aimed` meets its contract: no part has no name. Assumes nothing.
use mathlib.Core.Path.{sym, ap, ◌∙◌}
use Rattle.read_messages.specs.Message.{Named}
use Rattle.base_sets.specs.Sets.{elem}
use Rattle.base_sets.proofs.Members.{members-empty}
use Rattle.theory_machine.specs.Moves.{same_name}
use Rattle.engine_states.specs.Seen.{name_in}
use Rattle.engine_states.proofs.aimed.Goals as goal

pub returns-in-Some : goal.returns-in-Some
unfolding same_name elem
returns-in-Some c i m = c.parts_called.ensures i m ∙ ap (λ (x : Named). same_name x (name_in c.args.names.now.named c.args.names.now.names i)) (sym c.in-Some.is)

pub returns-in-None : goal.returns-in-None
unfolding same_name elem
returns-in-None c i m = ap (elem i) members-empty ∙ ap (λ (x : Named). same_name x (name_in c.args.names.now.named c.args.names.now.names i)) (sym c.in-None.is)

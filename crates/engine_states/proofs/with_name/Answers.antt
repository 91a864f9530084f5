-- `with_name` meets its contract. Assumes nothing.
use mathlib.Core.Bool.{cond}
use mathlib.Core.Path.{◌≡◌, refl, sym, ap, ◌∙◌}
use lib.Dec.{eqb}
use lib.ListN.{length}
use Rattle.read_messages.specs.Message.{Named}
use Rattle.engine_states.specs.Seen.{name_in}
use native.Mathlib.Omega.{arith}
use Rattle.engine_states.proofs.Filling.{name-added, no-name-added}
use borrow.Author.Rules.{rules}
use Rattle.engine_states.proofs.with_name.Goals as goal

pub returns-in-Some : goal.returns-in-Some
returns-in-Some c j = let l : length c.args.t.names ≡ 64 = search rules in name-added c.args.t.named _ c.args.t.names _ c.args.i c.requires.1 _ (omega (arith, c.requires.0)) c.with.ensures refl j ∙ ap (λ (x : Named). cond (eqb j c.args.i) x (name_in c.args.t.named c.args.t.names j)) (sym c.in-Some.is)

pub returns-in_default : goal.returns-in_default
returns-in_default c j = no-name-added c.args.t.named _ c.args.t.names _ c.args.i c.requires.1 refl refl j ∙ ap (λ (x : Named). cond (eqb j c.args.i) x (name_in c.args.t.named c.args.t.names j)) (sym c.in_default.is)

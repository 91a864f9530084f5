-- `aimed_within` meets its contract: a home of 65 or more is no body. Assumes nothing.
use native.Mathlib.Omega.{arith}
use Rattle.base_sets.specs.Sets.{members, elem}
use Rattle.read_scripts.specs.Represents.{body_in}
use Rattle.engine_targets.proofs.Aiming.{within_none, within_both}
use Rattle.engine_targets.proofs.aimed_within.Goals as goal

pub returns-then-p-ge65 : goal.returns-then-p-ge65
returns-then-p-ge65 c t = within_none (body_in c.args.kids.now) c.args.p 0 t (elem t (members c.args.aim)) c.if-p-ge65.true

pub returns : goal.returns
returns c t = within_both (body_in c.args.kids.now) c.args.p 0 t (members c.args.aim) (members c.intersection.result) (omega (arith, c.if-p-ge65.false)) c.intersection.ensures

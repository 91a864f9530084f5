-- `aimed_beside` meets its contract: nothing stands beside the top. Assumes nothing.
use native.Mathlib.Omega.{arith}
use lib.ListN.{get_or}
use Rattle.base_sets.specs.Sets.{members, elem}
use Rattle.read_scripts.specs.Represents.{body_in}
use Rattle.engine_targets.proofs.Aiming.{beside_none, beside-others}
use Rattle.engine_targets.proofs.aimed_beside.Goals as goal

pub returns-then-p-ge64 : goal.returns-then-p-ge64
returns-then-p-ge64 c t = beside_none (body_in c.args.kids.now) c.args.p (get_or c.args.homes.now c.args.p 0) t (elem t (members c.args.aim)) c.if-p-ge64.true

pub returns : goal.returns
returns c t = beside-others (body_in c.args.kids.now) c.args.p (get_or c.args.homes.now c.args.p 0) t (members c.aimed_within.result) (members c.without.result) (elem t (members c.args.aim)) (omega (arith, c.if-p-ge64.false)) (c.aimed_within.ensures t) c.without.ensures

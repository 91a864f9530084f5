-- `aimed_around` meets its contract: nothing is around the top, nor a part around what stands there. Assumes nothing.
use native.Mathlib.Omega.{arith}
use lib.ListN.{get_or}
use Rattle.base_sets.specs.Sets.{members, elem}
use Rattle.engine_targets.proofs.Aiming.{around-top, around-none, around-one}
use Rattle.engine_targets.proofs.aimed_around.Goals as goal

pub returns-then-p-ge64 : goal.returns-then-p-ge64
returns-then-p-ge64 c t = around-top c.args.p (get_or c.args.homes.now c.args.p 0) t (elem t (members c.args.aim)) c.if-p-ge64.true

pub returns-then-q-ge64 : goal.returns-then-q-ge64
returns-then-q-ge64 c t = around-none c.args.p (get_or c.args.homes.now c.args.p 0) t (elem t (members c.args.aim)) (omega (arith, c.if-p-ge64.false)) c.if-q-ge64.true

pub returns : goal.returns
returns c t = around-one c.args.p (get_or c.args.homes.now c.args.p 0) t (members c.args.aim) (members c.single.result) (members c.intersection.result) (omega (arith, c.if-p-ge64.false)) (omega (arith, c.if-q-ge64.false)) c.single.ensures c.intersection.ensures

-- `name_parts` meets its contract: the names of the parts below i. Assumes nothing.
use mathlib.Core.List.{[]}
use native.Mathlib.Omega.{arith}
use lib.ListN.{get_or}
use Rattle.base_sets.proofs.Members.{members-empty}
use Rattle.engine_states.proofs.Filling.{filled_none, filled_next, not_named}
use Rattle.engine_states.proofs.name_parts.Goals as goal

pub loop-i-init : goal.loop-i-init
loop-i-init c o = filled_none _ _ _ members-empty

pub with_name-t-requires : goal.with_name-t-requires
with_name-t-requires c = (c.loop-i-test.true, not_named c.loop-i.t.named c.loop-i.t.names c.loop-i.i ((c.loop-i.invariant []).beyond c.loop-i.i (omega arith)))

pub loop-i-preserved : goal.loop-i-preserved
loop-i-preserved c o = filled_next _ c.loop-i.i c.loop-i.t.named _ c.loop-i.t.names _ _ (c.loop-i.invariant o) (c.part_name-name.ensures (get_or o c.loop-i.i 0)) c.with_name-t.ensures

pub returns : goal.returns
returns c o i m = (c.loop-i.invariant o).below i (omega (arith, c.loop-i-test.false))

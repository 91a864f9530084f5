-- `write_label` meets its contract, kind by kind. Assumes nothing.
use native.Mathlib.Omega.{arith}
use Rattle.write_messages.proofs.Lending.{wrote_none, wrote_as}
use Rattle.write_heads.proofs.Heads.{label-action, label-receipt, label-message}
use Rattle.write_heads.proofs.write_label.Goals as goal

pub returns-in-2 : goal.returns-in-2
returns-in-2 c = wrote_as (label-action _ _ _ _ _ _ c.wide-at.ensures c.in-2.is) c.write_items.ensures

pub returns-in-3 : goal.returns-in-3
returns-in-3 c = wrote_none (label-receipt _ _ _ _ _ _ c.in-3.is)

pub returns-in_default : goal.returns-in_default
returns-in_default c = wrote_as (label-message _ _ _ _ _ _ c.wide-at.ensures (omega arith) (omega arith) c.requires.placed) c.write_message.ensures

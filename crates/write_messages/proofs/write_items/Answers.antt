-- `write_items` meets its contract: no items are one EMPTY, several are strung. Assumes nothing.
use native.Mathlib.Omega.{arith}
use Rattle.read_messages.specs.Words.{word}
use Rattle.engine_bindings.proofs.Passing.{one-message}
use Rattle.write_messages.proofs.Lending.{wrote_as, wrote-if}
use Rattle.write_messages.proofs.Items.{items-none, items-some}
use Rattle.write_messages.proofs.write_items.Goals as goal

pub returns-then-n-offset : goal.returns-then-n-offset
unfolding word
returns-then-n-offset c = wrote_as (items-none _ _ _ _ c.item_count-n.ensures c.if-n-offset.true (omega (arith, c.requires.small))) c.write_word.ensures

pub returns : goal.returns
returns c = wrote-if (λ i. items-some _ _ _ _ c.item_count-n.ensures c.if-n-offset.false (one-message _ c.tail.ensures) (omega (arith, i, c.requires.small))) c.write_rest.ensures

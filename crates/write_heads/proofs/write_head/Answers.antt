-- `write_head` meets its contract: the part's word, and its message behind it. Assumes nothing.
use mathlib.Core.Path.{ap}
use native.Mathlib.Omega.{arith}
use Rattle.write_messages.specs.Indices.{indices_in}
use Rattle.write_heads.specs.Around.{indices_of}
use Rattle.write_messages.proofs.Lending.{wrote_as, wrote-more}
use Rattle.write_heads.proofs.Heads.{head-label}
use Rattle.write_heads.proofs.write_head.Goals as goal

pub returns : goal.returns
unfolding indices_of
returns c =
    wrote_as (head-label _ _ _ (c.head_word.ensures _ _ _) (ap indices_in c.receipts_in-receipts.ensures))
    (wrote-more (record { long = omega arith; within = c.write_word-m.ensures.within; kept = omega arith }) c.write_word-m.ensures c.write_label.ensures)

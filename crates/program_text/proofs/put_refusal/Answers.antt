-- `put_refusal` meets its contract. Assumes nothing.
use Rattle.program_text.specs.Text.{refusal_text}
use Rattle.program_digits.proofs.Putting.{puts-more}
use Rattle.program_digits.proofs.Numbers.{puts-twenty}
use Rattle.program_text.proofs.put_refusal.Goals as goal
use borrow.Author.Rules.{rules}

pub returns : goal.returns
unfolding refusal_text
returns c =
    puts-more (puts-more (puts-more (puts-more c.put_bytes-a.ensures (puts-twenty _ (search rules) c.put_decimal-b.ensures)) c.put_bytes-c.ensures) (puts-twenty _ (search rules) c.put_decimal-d.ensures)) c.put_byte.ensures

-- `put_counts` meets its contract. Assumes nothing.
use Rattle.program_text.specs.Text.{counts_text}
use Rattle.program_digits.proofs.Putting.{puts-more}
use Rattle.program_text.proofs.put_counts.Goals as goal

pub returns : goal.returns
unfolding counts_text
returns c =
    puts-more (puts-more (puts-more (puts-more (puts-more c.put_count-b.ensures c.put_count-c.ensures) c.put_count-d.ensures) c.put_count-e.ensures) c.put_count-f.ensures) c.put_byte.ensures

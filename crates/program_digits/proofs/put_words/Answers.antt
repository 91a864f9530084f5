-- `put_words` meets its contract: the words so far are put. Assumes nothing.
use Rattle.program_digits.specs.Digits.{lines}
use Rattle.program_digits.proofs.Putting.{puts_none}
use Rattle.program_digits.proofs.Numbers.{puts-line}
use borrow.Author.Rules.{rules}
use Rattle.program_digits.proofs.put_words.Goals as goal

pub loop-w-init : goal.loop-w-init
unfolding lines
loop-w-init c = puts_none

pub loop-w-preserved : goal.loop-w-preserved
loop-w-preserved c = search (puts-line, rules)

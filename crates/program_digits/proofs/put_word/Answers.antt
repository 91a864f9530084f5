-- `put_word` meets its contract. Assumes nothing.
use Rattle.program_digits.specs.Digits.{line}
use Rattle.program_digits.proofs.Putting.{puts-more}
use borrow.Author.Rules.{rules}
use Rattle.program_digits.proofs.put_word.Goals as goal

pub returns : goal.returns
unfolding line
returns c = search (puts-more, rules)

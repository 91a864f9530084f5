-- `put_decimal` meets its contract. The measure is the number. Assumes nothing.
use borrow.Author.Rules.{rules}
use Rattle.program_digits.proofs.Numbers.{puts-digit, puts-decimal}
use Rattle.program_digits.proofs.+put_decimal.Goals as goal

pub returns-then-n-lt10 : goal.returns-then-n-lt10
returns-then-n-lt10 t c k h = search (puts-digit, rules)

pub returns : goal.returns
returns t c = search (puts-decimal, rules)

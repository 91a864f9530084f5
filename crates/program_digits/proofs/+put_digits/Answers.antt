-- `put_digits` meets its contract. The measure is how many digits are left. Assumes nothing.
use borrow.Author.Rules.{rules}
use Rattle.program_digits.proofs.Putting.{puts_none, puts-as}
use Rattle.program_digits.proofs.Numbers.{hex-none, puts-hexadecimal}
use Rattle.program_digits.proofs.+put_digits.Goals as goal

pub returns-then-digits-eq0 : goal.returns-then-digits-eq0
returns-then-digits-eq0 t c = puts-as (hex-none _ _ c.if-digits-eq0.true) puts_none

pub returns : goal.returns
returns t c = search (puts-hexadecimal, rules)

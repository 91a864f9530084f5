-- `put_digits` meets its contract. The measure is how many digits are left. Assumes nothing.
use Rattle.program_digits.proofs.+put_digits.Given as goal

abbrev pub decreases-put_digits : goal.decreases-put_digits
decreases-put_digits l = l.digits

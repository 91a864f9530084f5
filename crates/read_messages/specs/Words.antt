-- Words of 32 bits (document 01, opening): a word's top 4 bits are its kind, the low 28 its operand.
-- Assumes nothing: these are definitions.
use Rattle.std.specs.Prelude.{ℕ, ◌+◌, ◌*◌, ◌/◌, ◌%◌, Bool, ◌&&◌, List, leb, eqb, fold, max}
use Rattle.std.specs.List.{list_any}

unfoldable pub kind : ℕ → ℕ
kind w = w / 268435456

unfoldable pub operand : ℕ → ℕ
operand w = w % 268435456

-- the word of that kind and operand
unfoldable pub word : ℕ → ℕ → ℕ
word k n = 268435456 * k + n

-- "NAME, operand 1 to 255"; the plain operand of AT and PLACED too
unfoldable pub name_fits : ℕ → Bool
name_fits n = leb 1 n && leb n 255

-- whether a number is in a list
unfoldable pub member : ℕ → List ℕ → Bool
member n ms = list_any (λ m. eqb n m) ms

-- the greatest of the numbers that the words say, 0 where there is none
abbrev pub greatest_of : (ℕ → ℕ) → List ℕ → ℕ
greatest_of f ws = fold (λ g w. max g (f w)) 0 ws

-- To unfold this is to unfold every definition of this module: for a proof by computation.
unfoldable pub computing : Unit {0}
unfolding kind operand word name_fits member
computing = tt

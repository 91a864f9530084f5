-- Numbers and words as text, as bytes in ASCII, and a piece put into a text. Assumes nothing: these are definitions.
use Rattle.std.specs.Prelude.{ℕ, zero, suc, ◌+◌, ◌/◌, ◌%◌, ◌≤◌, cond, List, [], ◌∷◌, ◌++◌, ◌≡◌, ltb, length, take}

-- a hexadecimal digit: 0 to 9, then A to F
unfoldable pub digit : ℕ → ℕ
digit d = cond (ltb d 10) (48 + d) (55 + d)

-- the last k digits of a number in base sixteen
unfoldable pub hexadecimal : (k n : ℕ) → List ℕ
hexadecimal zero n = []
hexadecimal (suc k) n = hexadecimal k (n / 16) ++ (digit (n % 16) ∷ [])

-- "A word is printed as eight upper-case hexadecimal digits"; "each line ends in a newline"
unfoldable pub line : ℕ → List ℕ
line w = hexadecimal 8 w ++ (10 ∷ [])

-- "the tree's words one a line"
unfoldable pub lines : List ℕ → List ℕ
lines [] = []
lines (w ∷ ws) = line w ++ lines ws

-- a number in base ten, without zeros in front, of at most k digits
unfoldable pub decimal_by : (k n : ℕ) → List ℕ
decimal_by zero n = []
decimal_by (suc k) n = cond (ltb n 10) ((48 + n) ∷ []) (decimal_by k (n / 10) ++ ((48 + n % 10) ∷ []))

-- twenty digits hold every number of 64 bits
abbrev pub decimal : ℕ → List ℕ
decimal n = decimal_by 20 n

-- A piece is put into a text at an index, and the next index is behind it. Where the text has no room for it, nothing is
-- said but that the text is as long as before.
pub record Puts (old new : List ℕ) (at next : ℕ) (piece : List ℕ) : Type 0 where
  pub kept : length new ≡ length old
  pub put : at + length piece ≤ length old → (next ≡ at + length piece) × (take next new ≡ take at old ++ piece)

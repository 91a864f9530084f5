-- Laws of sums that stop at 2^32 - 1. Assumes nothing.
use Prim.Native.Nat.{ℕ, ◌+◌, ◌≤◌, ◌<◌}
use mathlib.Core.Path.{◌≡◌}
use native.Mathlib.Omega.{arith}
use Rattle.base_slices.specs.Sums.{capped}

pub capped-sum : (a b : ℕ) {x o r t : ℕ} → x ≡ a + b → o ≡ capped a → r ≡ capped b → t ≡ capped (o + r) → t ≡ capped x
unfolding capped
capped-sum a b e p q s = omega arith

-- below what is kept is below the count
pub below-count : (n o c : ℕ) → c ≡ capped n → o < c → o < n
unfolding capped
below-count n o c e h = omega arith

-- what is kept is the count where an offset is as large
pub whole-count : (n o c : ℕ) → c ≡ capped n → c ≤ o → o < 4294967295 → c ≡ n
unfolding capped
whole-count n o c e h p = omega arith

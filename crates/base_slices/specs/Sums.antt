-- Sums that stop at 2^32 - 1. Assumes nothing: these are definitions.
use Rattle.std.specs.Prelude.{ℕ, min}

-- no more than 2^32 - 1
unfoldable pub capped : ℕ → ℕ
capped n = min n 4294967295

-- The words that bytes spell. Assumes nothing: these are definitions.
use Rattle.std.specs.Prelude.{ℕ, zero, suc, ◌+◌, ◌*◌, List, [], ◌∷◌, drop, get_or}

-- the little-endian word at the start of some bytes
abbrev pub word_of : List ℕ → ℕ
word_of s = (get_or s 0 0 + 256 * get_or s 1 0) + 65536 * (get_or s 2 0 + 256 * get_or s 3 0)

-- so many words
unfoldable pub words_of : ℕ → List ℕ → List ℕ
words_of zero s = []
words_of (suc n) s = word_of s ∷ words_of n (drop 4 s)

-- The program's input, and what it replies. Assumes nothing: these are definitions.
use Rattle.std.specs.Prelude.{ℕ, ◌/◌, ◌%◌, cond, ◌&&◌, List, leb, eqb, length, take, ◌≡◌, ◌≤◌}
use Rattle.program_words.specs.Words.{words_of}
use Rattle.program_text.specs.Text.{unfit_text}
use Rattle.program_replies.specs.Reply.{words_reply}

-- the first n of some bytes are n bytes
abbrev pub IsPrefixLen : ℕ → List ℕ → Type 0
IsPrefixLen n s = (n ≤ length s) × (n ≡ length (take n s))

-- What the program writes for the bytes that it reads: "little-endian words", at most 24,576 bytes.
unfoldable pub reply : List ℕ → List ℕ
reply s = cond (leb (length s) 24576 && eqb (length s % 4) 0) (words_reply (words_of (length s / 4) s)) unfit_text

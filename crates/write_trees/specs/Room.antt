-- Whether the written tree fits the buffer that is lent (document 01, question 19), what is then answered, and the buffer
-- after the call. Assumes nothing: these are definitions.
use Rattle.std.specs.Prelude.{ℕ, min, cond, List, ◌≡◌, leb, length, Result, Ok, Err}
use Rattle.read_messages.specs.declared.Refusal.{Refusal}
use Rattle.write_messages.specs.Buffer.{over}

-- question 19: "the output buffer, of which no more than the first 2^28 words count"
unfoldable pub room : (buffer : List ℕ) → ℕ
room buffer = min (length buffer) 268435456

-- "19, place 0"
abbrev pub unfit : Refusal
unfit = record { question = 19; place = 0 }

-- "19. Does the tree that stands after the moves fit the output buffer .. 19, place 0."; where it does, "words (of the
-- written tree)"
unfoldable pub answered : (words buffer : List ℕ) → Result ℕ Refusal
answered ws buffer = cond (leb (length ws) (room buffer)) (Ok (length ws)) (Err unfit)

-- the buffer after the call: written where the tree fits; else "the buffer isn't written"
unfoldable pub buffered : (words buffer : List ℕ) → List ℕ
buffered ws buffer = cond (leb (length ws) (room buffer)) (over ws buffer) buffer

-- what the writer of a tree answers, the tree being written with these words, and what it leaves of the buffer
pub record Fitted (words before after : List ℕ) (r : Result ℕ Refusal) : Type 0 where
  pub said : r ≡ answered words before
  pub left : after ≡ buffered words before

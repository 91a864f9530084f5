-- Where words come to stand in a buffer that is lent (document 01, "An accepted call .. writes the tree at the buffer's
-- start; words behind it keep their content"). Assumes nothing: these are definitions.
use Rattle.std.specs.Prelude.{ℕ, ◌≤◌, List, ◌++◌, ◌≡◌, length, drop}

-- the buffer with the words at its start: "words behind it keep their content"
unfoldable pub over : (words buffer : List ℕ) → List ℕ
over ws buffer = ws ++ drop (length ws) buffer

-- the words stand at the start of the buffer, which was `before` and is `after`, and r is their number
pub record Front (words before after : List ℕ) (r : ℕ) : Type 0 where
  pub number : r ≡ length words
  pub content : after ≡ over words before

-- what a writer does that is lent the buffer `before`, leaves `after` and answers r: it says no more words than there are;
-- where the words fit they are written, and r is their number
pub record Wrote (words before after : List ℕ) (r : ℕ) : Type 0 where
  pub within : r ≤ length before
  pub right : length words ≤ length before → Front words before after r

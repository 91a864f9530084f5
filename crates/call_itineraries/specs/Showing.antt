-- What is left in the list that a call is lent, and counted of it. Assumes nothing: these are definitions.
use Rattle.std.specs.Prelude.{ℕ, ◌≤◌, true, List, ◌++◌, ◌≡◌, length, take, drop}
use Rattle.theory_call.specs.Call.{accepted}
use Rattle.call_answers.specs.Answering.{verdict_of, answer_of}
use Rattle.call_answers.specs.declared.Answer.{Answer}

-- so many of the array's words are moves, and the list has room for them
pub record Listable (count : ℕ) (moves list : List ℕ) : Type 0 where
  pub few : count ≤ 256
  pub array : length moves ≡ 256
  pub room : 256 ≤ length list

-- r is the answer a with so many of the moves as its itinerary, where it is yes; "In every other case the count is 0 and the
-- list unwritten"
pub record ShowsMoves (a : Answer) (count : ℕ) (moves before : List ℕ) (r : Answer) (after : List ℕ) : Type 0 where
  -- all but the count stays
  pub same : (out : List ℕ) → answer_of r out ≡ answer_of a out
  pub counted : verdict_of a.verdict ≡ accepted true → r.count ≡ count
  -- "words behind the moves keep their content"
  pub written : verdict_of a.verdict ≡ accepted true → after ≡ take count moves ++ drop count before
  pub uncounted : ¬ (verdict_of a.verdict ≡ accepted true) → r.count ≡ 0
  pub unwritten : ¬ (verdict_of a.verdict ≡ accepted true) → after ≡ before

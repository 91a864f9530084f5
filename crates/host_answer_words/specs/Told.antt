-- The nine words of an answer. Assumes nothing: these are definitions.
use Rattle.std.specs.Prelude.{ℕ, ◌^◌, ◌≤◌, ◌<◌, true, false, List, [], ◌∷◌, length}
use Rattle.theory_call.specs.Call.{Verdict, accepted, refused, Answer}
use Rattle.call_answers.specs.Answering.{verdict_of}
use Rattle.call_answers.specs.declared.Answer as engine

-- what is said: 0 for a refusal, 1 for no, 2 for yes
unfoldable pub said_of : Verdict → ℕ
said_of (accepted true) = 2
said_of (accepted false) = 1
said_of (refused q i) = 0

-- number and place of a refusal, 0 where there is none
unfoldable pub question_of : Verdict → ℕ
question_of (accepted a) = 0
question_of (refused q i) = q

unfoldable pub place_of : Verdict → ℕ
place_of (accepted a) = 0
place_of (refused q i) = i

-- the nine words of an answer: what is said; number; place; moves; visits; deepest; weight; words; the count of an itinerary's
-- moves
unfoldable pub told : Answer → (count : ℕ) → List ℕ
told a count =
    said_of a.verdict
    ∷ question_of a.verdict
    ∷ place_of a.verdict
    ∷ a.moves
    ∷ a.visits
    ∷ a.deepest
    ∷ a.weight
    ∷ a.words
    ∷ count
    ∷ []

-- the answer can be told in words
pub record Tellable (a : engine.Answer) (words : List ℕ) : Type 0 where
  -- there is room for nine
  pub room : 9 ≤ length words
  -- the place has 32 bits
  pub place : place_of (verdict_of a.verdict) < 2 ^ 32
  -- so has the number of moves
  pub moves : a.moves < 2 ^ 32
  -- the weight
  pub weight : a.weight < 2 ^ 32
  -- and the itinerary's count
  pub count : a.count < 2 ^ 32

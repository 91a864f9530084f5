-- What the call for C and Rust does with the buffers that it is lent, for the nine words of an answer and for the tree; and what
-- the words that it wrote promise: demand 2, the moves as reductions, the tree read again. Assumes nothing: these are
-- definitions.
use Rattle.std.specs.Prelude.{ℕ, Bool, true, false, cond, List, ◌++◌, ◌≡◌, length, get_or, take, drop, leb}
use Rattle.theory_call.specs.Call.{Call, accepted, refused, answer}
use Rattle.theory_call.specs.Standing.{Standing, Holds, Reduces, Returned, Readmitted, WeightHolds, WeightBounded}
use Rattle.host_answer_words.specs.Told.{told}

-- whether there is room for the nine words
abbrev pub has_room : List ℕ → Bool
has_room told = leb 9 (length told)

-- what the call returns: 1, or 0 where there is no room and nothing is done
abbrev pub returned : List ℕ → ℕ
returned told = cond (has_room told) 1 0

-- the ninth word of the answer: the count of an itinerary's moves, which document 02 leaves free (theory_call, Itinerary: `Listed`
-- says what holds of it)
abbrev pub count_told : List ℕ → ℕ
count_told words = get_or words 8 0

-- the words of the answer's buffer after the call, the ninth being the count; those behind it stay
abbrev pub answered : Call → (count : ℕ) → List ℕ → List ℕ
answered c count words = cond (has_room words) (told (answer c) count ++ drop 9 words) words

-- demand 2, of the first word of an answer that is told: 2 only where the process that stands satisfies the rule, 1 only
-- where it does not
pub record Decided (c : Call) (said : ℕ) : Type 0 where
  pub yes : said ≡ 2 → (s : Standing c) × Holds c s
  pub no : said ≡ 1 → (s : Standing c) × ¬ Holds c s

-- the moves in the paper's terms, of the first word and the fourth: 2 only where the whole list leads from the script as
-- written to a process that satisfies the rule, 1 only where it leads to one that does not; and by 0 too the moves made are a
-- chain of reductions
pub record ReducedBy (c : Call) (said moves : ℕ) : Type 0 where
  pub yes : said ≡ 2 → Reduces c (accepted true) moves
  pub no : said ≡ 1 → Reduces c (accepted false) moves
  pub unanswered : said ≡ 0 → (q i : ℕ) → Reduces c (refused q i) moves

-- the weight, before the first move and after each; and, where the call returns 1, of the seventh word
pub record WeighedBy (c : Call) (r weight : ℕ) : Type 0 where
  pub each : WeightHolds c
  pub told : r ≡ 1 → WeightBounded c.script weight

-- the words at the output buffer's start, as many as the eighth word of the answer says
abbrev pub tree_words : (words out : List ℕ) → List ℕ
tree_words words out = take (get_or words 7 0) out

-- where the first word is 2 or 1, the tree that is left there is read again as the process that stands
pub record ReturnedBy (c : Call) (said : ℕ) (tree : List ℕ) : Type 0 where
  pub yes : said ≡ 2 → Returned c (accepted true) tree
  pub no : said ≡ 1 → Returned c (accepted false) tree

-- and only questions 1 and 4 can refuse it
pub record ReadmittedBy (said : ℕ) (tree : List ℕ) : Type 0 where
  pub yes : said ≡ 2 → Readmitted (accepted true) tree
  pub no : said ≡ 1 → Readmitted (accepted false) tree

-- the words of the output buffer after the call
abbrev pub buffer_after : Call → List ℕ → List ℕ
buffer_after c words = cond (has_room words) (answer c).buffer c.buffer

-- What patience and the lent buffers can't change of an answer. Assumes nothing: these are definitions.
use Rattle.std.specs.Prelude.{ℕ, ◌≤◌, Bool, List, ◌++◌, ◌≡◌, ◌⊎◌, length, drop}
use Rattle.theory_call.specs.Call.{Call, Verdict, accepted, refused, Answer, left_by, answer}

-- calls that ask the same of the same script; patience and buffers are each one's own
pub record Alike (c d : Call) : Type 0 where
  pub script : c.script ≡ d.script
  pub moves : c.moves ≡ d.moves
  pub rule : c.rule ≡ d.rule

-- the same answer, given in another buffer: its tree "at the buffer's start; words behind it keep their content"
abbrev pub onto : (buffer : List ℕ) → Answer → Answer
onto b a = record {
  verdict = a.verdict;
  moves = a.moves;
  visits = a.visits;
  deepest = a.deepest;
  weight = a.weight;
  words = a.words;
  buffer = left_by a ++ drop a.words b;
}

-- two accepted calls that are alike answer alike, whatever the patience and the buffers of each: yes or no, moves, visits,
-- deepest, weight, words and the tree that is written
unfoldable pub Steadfast : Call → Type 0
Steadfast c = (d : Call) → Alike c d → (a b : Bool) → (answer c).verdict ≡ accepted a → (answer d).verdict ≡ accepted b → answer d ≡ onto d.buffer (answer c)

-- refused for want of patience or of room: by question 13, 18, 19 or 21
abbrev pub Wanting : Verdict → Type 0
Wanting (accepted a) = ⊥
Wanting (refused q i) = (q ≡ 13) ⊎ (q ≡ 18) ⊎ (q ≡ 19) ⊎ (q ≡ 21)

-- as much patience, of what question 13 allows, and as much room, or more
pub record NoLess (c d : Call) : Type 0 where
  pub patience : c.patience ≤ d.patience
  pub allowed : d.patience ≤ 16777216
  pub room : length c.buffer ≤ length d.buffer
  pub list-room : length c.list ≤ length d.list

-- more patience and more room change an answer only where it was refused for want of them
unfoldable pub Lasting : Call → Type 0
Lasting c = (d : Call) → Alike c d → NoLess c d → Wanting (answer c).verdict ⊎ (answer d ≡ onto d.buffer (answer c))

-- the same call with another patience
abbrev pub with_patience : (patience : ℕ) → Call → Call
with_patience p c = record { script = c.script; moves = c.moves; rule = c.rule; patience = p; buffer = c.buffer; list = c.list }

-- more patience never changes a yes or no, nor anything else that is told with it
unfoldable pub Patient : Call → Type 0
Patient c = (p : ℕ) → c.patience ≤ p → p ≤ 16777216 → (a : Bool) → (answer c).verdict ≡ accepted a → answer (with_patience p c) ≡ answer c

-- `tell` meets its contract: nine stores one after another. Assumes nothing.
use Prim.Native.Nat.{ℕ, ◌≤◌}
use mathlib.Core.List.{List, ◌++◌}
use mathlib.Core.Path.{◌≡◌}
use lib.ListN.{length, set, drop}
use lib.Seq.{sets-eq}
use Rattle.call_answers.specs.Answering.{verdict_of, answer_of}
use Rattle.call_answers.specs.declared.Answer.{Answer}
use Rattle.host_answer_words.specs.Told.{said_of, question_of, place_of, told}
use borrow.Author.Rules.{rules}
use Rattle.host_answer_words.proofs.tell.Goals as goal

stored : (a : Answer) (words buffer : List ℕ) (x y z : ℕ) → 9 ≤ length words → x ≡ said_of (verdict_of a.verdict) → y ≡ question_of (verdict_of a.verdict) → z ≡ place_of (verdict_of a.verdict)
    → set (set (set (set (set (set (set (set (set words 0 x) 1 y) 2 z) 3 a.moves) 4 a.visits) 5 a.deepest) 6 a.weight) 7 a.words) 8 a.count ≡ told (answer_of a buffer) a.count ++ drop 9 words
unfolding told answer_of
stored a words buffer x y z l e f g = rw (e, f, g) (sets-eq (told (answer_of a buffer) a.count) words 0 l)

pub returns : goal.returns
returns c buffer = search (stored, rules)

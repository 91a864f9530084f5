-- What the call for C hands on of the call, with room for the answer and without; and that an answer's numbers fit words.
-- Assumes nothing.
use Prim.Native.Nat.{ℕ, ◌^◌, ◌≤◌, ◌<◌}
use mathlib.Core.Bool.{true, false}
use mathlib.Core.List.{List, ◌++◌}
use mathlib.Core.Path.{◌≡◌, refl, sym, ap, ◌∙◌, subst}
use mathlib.Core.Logic.{inl, inr}
use native.Mathlib.Omega.{arith}
use lib.ListN.{length, drop, get_or}
use borrow.Author.Tests.{le-leb, lt-leb}
use Rattle.theory_call.specs.Call.{Call, Verdict, accepted, refused, Answer, left_by, answer}
use Rattle.call_answers.specs.Answering.{verdict_of, answer_of}
use Rattle.call_answers.specs.declared.Answer as engine
use Rattle.theory_call.specs.Standing.{Decides, Reduces, Returned, Readmitted, MovesBounded}
use Rattle.theory_call.specs.Itinerary.{Listed}
use Rattle.theory_call.proofs.Verdicts.{yes-or-not, decides}
use Rattle.theory_call.proofs.Itineraries.{listed-few}
use Rattle.theory_call.proofs.ClosureRuns.{moves-bounded}
use Rattle.theory_call.proofs.Runs.{weight-holds}
use Rattle.theory_call.proofs.Reducing.{reduces}
use Rattle.theory_call.proofs.Leaving as leaving
use Rattle.theory_call.proofs.Small.{PlaceWithin, Small, answer-small, weight-bounded}
use Rattle.host_answer_words.specs.Told.{said_of, place_of, told, Tellable}
use Rattle.host_answer_words.specs.Buffers.{returned, answered, buffer_after, Decided, WeighedBy, ReducedBy, ReturnedBy, ReadmittedBy, tree_words, count_told}

-- what is kept to where the call returns r, given words for its answer, and leaves these, and those in the output buffer and in
-- the list
abbrev pub Keeps : Call → (r : ℕ) → (given words out list : List ℕ) → Type 0
Keeps c r given words out list =
    (r ≡ 0 → words ≡ given)
    × ((r ≡ 0 → out ≡ c.buffer)
    × ((r ≡ 0 → list ≡ c.list)
    × ((r ≡ 1 → Decided c (get_or words 0 0))
    × ((r ≡ 1 → MovesBounded c.script (get_or words 3 0))
    × (WeighedBy c r (get_or words 6 0)
    × ((r ≡ 1 → ReducedBy c (get_or words 0 0) (get_or words 3 0))
    × ((r ≡ 1 → ReturnedBy c (get_or words 0 0) (tree_words words out))
    × ((r ≡ 1 → ReadmittedBy (get_or words 0 0) (tree_words words out)) × (r ≡ 1 → Listed c (get_or words 0 0 ≡ 2) (count_told words) list)))))))))

one≢none : {B : Type 0} → ◌≡◌ {A = ℕ} 0 1 → B
one≢none e = absurd (let z : ⊥ = omega arith in z)

-- no room: nothing is done
pub short : (c : Call) (words : List ℕ) → length words < 9
    → (0 ≡ returned words) × ((words ≡ answered c (count_told words) words) × ((c.buffer ≡ buffer_after c words) × Keeps c 0 words words c.buffer c.list))
short c words l =
    let none : Keeps c 0 words words c.buffer c.list =
    (λ e. refl, (λ e. refl, (λ e. refl, (one≢none, (one≢none, (record { each = weight-holds c; told = one≢none }, (one≢none, (one≢none, (one≢none, one≢none))))))))) in
    rw (lt-leb 9 (length words) l) (refl, (refl, (refl, none)))

-- what the first word says of a verdict
said-yes : (v : Verdict) → said_of v ≡ 2 → v ≡ accepted true
unfolding said_of
said-yes (accepted true) e = refl
said-yes (accepted false) e = absurd (let z : ⊥ = omega arith in z)
said-yes (refused q i) e = absurd (let z : ⊥ = omega arith in z)

said-no : (v : Verdict) → said_of v ≡ 1 → v ≡ accepted false
unfolding said_of
said-no (accepted true) e = absurd (let z : ⊥ = omega arith in z)
said-no (accepted false) e = refl
said-no (refused q i) e = absurd (let z : ⊥ = omega arith in z)

said-none : (v : Verdict) → said_of v ≡ 0 → (q : ℕ) × (i : ℕ) × (v ≡ refused q i)
unfolding said_of
said-none (accepted true) e = absurd (let z : ⊥ = omega arith in z)
said-none (accepted false) e = absurd (let z : ⊥ = omega arith in z)
said-none (refused q i) e = (q, i, refl)

module _ (c : Call) where
  -- what holds of every verdict that the call's is, holds by the first word
  by-yes : (P : Verdict → Type 0) → ((v : Verdict) → (answer c).verdict ≡ v → P v) → said_of (answer c).verdict ≡ 2 → P (accepted true)
  by-yes P f e = f (accepted true) (said-yes (answer c).verdict e)

  by-no : (P : Verdict → Type 0) → ((v : Verdict) → (answer c).verdict ≡ v → P v) → said_of (answer c).verdict ≡ 1 → P (accepted false)
  by-no P f e = f (accepted false) (said-no (answer c).verdict e)

  decided : Decided c (said_of (answer c).verdict)
  unfolding Decides
  decided = record { yes = by-yes (Decides c) (decides c); no = by-no (Decides c) (decides c) }

  reduced : ReducedBy c (said_of (answer c).verdict) (answer c).moves
  unfolding Reduces
  reduced =
      let P : Verdict → Type 0 = λ v. Reduces c v (answer c).moves in
      let all : (v : Verdict) → (answer c).verdict ≡ v → P v = λ v e. reduces c v (answer c).moves e refl in
      record { yes = by-yes P all; no = by-no P all; unanswered = λ e q i. let (k, j, x) = said-none (answer c).verdict e in all (refused k j) x }

  returning : ReturnedBy c (said_of (answer c).verdict) (left_by (answer c))
  returning =
      let P : Verdict → Type 0 = λ v. Returned c v (left_by (answer c)) in
      let all : (v : Verdict) → (answer c).verdict ≡ v → P v = λ v e. leaving.returned c v (left_by (answer c)) e refl in
      record { yes = by-yes P all; no = by-no P all }

  readmitted : ReadmittedBy (said_of (answer c).verdict) (left_by (answer c))
  readmitted =
      let P : Verdict → Type 0 = λ v. Readmitted v (left_by (answer c)) in
      let all : (v : Verdict) → (answer c).verdict ≡ v → P v = λ v e. leaving.readmitted c v (left_by (answer c)) e refl in
      record { yes = by-yes P all; no = by-no P all }

-- the itinerary, by the first word
listed-said : (c : Call) (v : Verdict) (k : ℕ) (list : List ℕ) → Listed c (v ≡ accepted true) k list → Listed c (said_of v ≡ 2) k list
unfolding said_of
listed-said c v k list L = record { shown = λ e. L.shown (said-yes v e); others = λ n. L.others (λ p. n (ap said_of p.0, p.1)) }

-- the words of an answer and of the tree keep to it, and the list to its count
told-keeps : (c : Call) (given rest list : List ℕ) (k : ℕ) → Listed c ((answer c).verdict ≡ accepted true) k list → Keeps c 1 given (told (answer c) k ++ rest) (answer c).buffer list
unfolding told
told-keeps c given rest list k L = (
  λ e. one≢none (sym e),
  (λ e. one≢none (sym e), (λ e. one≢none (sym e), (λ e. decided c, (λ e. moves-bounded c, (record { each = weight-holds c; told = λ e. weight-bounded c }, (λ e. reduced c, (λ e. returning c, (λ e. readmitted c, λ e. listed-said c (answer c).verdict k list L)))))))),
)

count-is : (a : Answer) (k : ℕ) (rest : List ℕ) → k ≡ count_told (told a k ++ rest)
unfolding told
count-is a k rest = refl

-- room: what the call gives is told
pub told-whole : (c : Call) (words : List ℕ) (r : engine.Answer) (out list : List ℕ) {exit : List ℕ} → answer_of r out ≡ answer c → Listed c (verdict_of r.verdict ≡ accepted true) r.count list → 9 ≤ length words → exit ≡ told (answer_of r out) r.count ++ drop 9 words
    → (1 ≡ returned words) × ((exit ≡ answered c (count_told exit) words) × ((out ≡ buffer_after c words) × Keeps c 1 words exit out list))
unfolding answer_of
told-whole c words r out list {exit} e G l t =
    let x : exit ≡ told (answer c) r.count ++ drop 9 words = t ∙ ap (λ (a : Answer). told a r.count ++ drop 9 words) e in
    let y : exit ≡ told (answer c) (count_told exit) ++ drop 9 words =
    x ∙ ap (λ (k : ℕ). told (answer c) k ++ drop 9 words) (count-is (answer c) r.count (drop 9 words) ∙ ap count_told (sym x)) in
    let b : out ≡ (answer c).buffer = ap (λ (a : Answer). a.buffer) e in
    let v : verdict_of r.verdict ≡ (answer c).verdict = ap (λ (a : Answer). a.verdict) e in
    let L : Listed c ((answer c).verdict ≡ accepted true) r.count list = subst (λ (u : Verdict). Listed c (u ≡ accepted true) r.count list) v G in
    let k : Keeps c 1 words exit (answer c).buffer list = subst (λ (ws : List ℕ). Keeps c 1 words ws (answer c).buffer list) (sym x) (told-keeps c words (drop 9 words) list r.count L) in
    (rw (le-leb 9 (length words) l) refl, (rw (le-leb 9 (length words) l) y, (rw (le-leb 9 (length words) l) b, subst (λ (o : List ℕ). Keeps c 1 words exit o list) (sym b) k)))

-- place, moves, weight and count of a call's answer are words
place-fits : (v : Verdict) → PlaceWithin 4096 v → place_of v < 2 ^ 32
unfolding place_of
place-fits (accepted a) h = omega arith
place-fits (refused q i) h = omega arith

pub tellable : (c : Call) (r : engine.Answer) (out list words : List ℕ) → answer_of r out ≡ answer c → Listed c (verdict_of r.verdict ≡ accepted true) r.count list → 9 ≤ length words → Tellable r words
unfolding answer_of
tellable c r out list words e L l =
    let s : Small (answer_of r out) = subst Small (sym e) (answer-small c) in
    let few : r.count ≤ 256 = listed-few c (verdict_of r.verdict ≡ accepted true) (yes-or-not (verdict_of r.verdict) inl inr) r.count list L in
    record { room = l; place = place-fits (verdict_of r.verdict) s.place; moves = omega (arith, s.moves); weight = omega (arith, s.weight); count = omega (arith, few) }

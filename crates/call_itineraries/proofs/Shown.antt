-- What is shown with a yes, and that nothing is with another answer. Assumes nothing.
use Prim.Native.Nat.{ℕ}
use mathlib.Core.Bool.{true, false}
use mathlib.Core.List.{List, ◌++◌}
use mathlib.Core.Logic.{◌⊎◌, inl, inr}
use mathlib.Core.Path.{◌≡◌, refl, sym, ap, ◌∙◌}
use native.Mathlib.Omega.{arith}
use lib.ListN.{take, drop}
use Rattle.read_messages.specs.declared.Refusal.{Refusal}
use Rattle.theory_call.specs.Call.{accepted, refused}
use Rattle.theory_call.specs.Call as plain
use Rattle.call_answers.specs.Answering.{verdict_of, answer_of}
use Rattle.call_answers.specs.declared.Answer.{Answer}
use Rattle.call_answers.specs.declared.Verdict.{Verdict}
use Rattle.call_answers.specs.declared.Verdict.TheVariants.{Yes, No, Refused}
use Rattle.call_itineraries.specs.Showing.{ShowsMoves}

-- the answer with that count
abbrev pub with_count : Answer → ℕ → Answer
with_count a n = record { verdict = a.verdict; moves = a.moves; visits = a.visits; deepest = a.deepest; weight = a.weight; words = a.words; count = n }

abbrev number_of : plain.Verdict → ℕ
number_of (accepted true) = 0
number_of (accepted false) = 1
number_of (refused q i) = 1

-- another verdict is no yes
abbrev pub Another : Verdict → Type 0
Another v = (v ≡ No) ⊎ ((r : Refusal) × (v ≡ Refused r))

no-yes : (v : Verdict) → Another v → verdict_of v ≡ accepted true → ⊥
unfolding verdict_of
no-yes v (inl n) e = let z : ◌≡◌ {A = ℕ} 1 0 = sym (ap (λ u. number_of (verdict_of u)) n) ∙ ap number_of e in (let o : ⊥ = omega arith in o)
no-yes v (inr (r, n)) e = let z : ◌≡◌ {A = ℕ} 1 0 = sym (ap (λ u. number_of (verdict_of u)) n) ∙ ap number_of e in (let o : ⊥ = omega arith in o)

module _ (a : Answer) (count : ℕ) (moves before : List ℕ) where
  pub shows-yes : (after : List ℕ) → a.verdict ≡ Yes → after ≡ take count moves ++ drop count before → ShowsMoves a count moves before (with_count a count) after
  unfolding verdict_of answer_of
  shows-yes after e w =
      let y : verdict_of a.verdict ≡ accepted true = ap verdict_of e in
      record { same = λ out. refl; counted = λ z. refl; written = λ z. w; uncounted = λ n. absurd (n y); unwritten = λ n. absurd (n y) }

  pub shows-none : Another a.verdict → ShowsMoves a count moves before (with_count a 0) before
  unfolding answer_of
  shows-none n =
      let no : verdict_of a.verdict ≡ accepted true → ⊥ = no-yes a.verdict n in
      record { same = λ out. refl; counted = λ y. absurd (no y); written = λ y. absurd (no y); uncounted = λ n. refl; unwritten = λ n. refl }

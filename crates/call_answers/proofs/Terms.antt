-- Questions 13, 14 and 21: what the code's tests find, and what their answers say. Assumes nothing.
use Prim.Native.Nat.{ℕ, ◌≤◌, ◌<◌}
use mathlib.Core.Bool.{true, false, ◌&&◌, true≢false}
use mathlib.Core.List.{List, [], ◌∷◌, ◌++◌}
use mathlib.Core.Logic.{◌⊎◌, inl, inr}
use mathlib.Core.Path.{◌≡◌, refl, sym, ap, ◌∙◌}
use native.Mathlib.Omega.{arith}
use lib.Dec.{leb}
use borrow.Author.Tests.{le-leb, lt-leb}
use Rattle.read_messages.specs.Reading.{Reading, refuse, got}
use Rattle.std.specs.Prelude.{Result, Ok, Err, is_ok}
use Rattle.read_messages.specs.declared.Refusal.{Refusal}
use Rattle.theory_call.specs.Call.{Question, question, asking, terms}
use Rattle.theory_call.proofs.Asking.{AllYes, asking-yes, asking-no}
use Rattle.call_answers.specs.Answering.{asked_of}

abbrev Answered : Type 0
Answered = Result (Unit {0}) Refusal

abbrev no : ℕ → Answered
no q = Err (record { question = q; place = 0 })

abbrev pub Asked : (patience moves list : ℕ) → Answered
Asked p k l = asked_of (asking (terms p k l))

-- what is answered where all before it are answered by yes and this one by no; where all are answered by yes
refused-by : (ps : List Question) (q : Question) (qs : List Question) → AllYes ps → q.yes ≡ false → Err (record { question = q.number; place = q.place }) ≡ asked_of (asking (ps ++ q ∷ qs))
unfolding asked_of
refused-by ps q qs h e = sym (ap asked_of (asking-no ps q qs h e))

all_by : (qs : List Question) → AllYes qs → Ok tt ≡ asked_of (asking qs)
unfolding asked_of
all_by qs h = sym (ap asked_of (asking-yes qs h))

module _ (p k l : ℕ) where
  calm : (p ≡ 0 → ⊥) → p ≤ 16777216 → (leb 1 p && leb p 16777216) ≡ true
  calm n h = let m : 1 ≤ p = omega arith in rw (le-leb 1 p m, le-leb p 16777216 h)

  pub no-patience : (p ≡ 0) ⊎ ((p ≡ 0 → ⊥) × 16777216 < p) → no 13 ≡ Asked p k l
  no-patience (inl e) = let n : p < 1 = omega arith in refused-by [] (question 13 0 (leb 1 p && leb p 16777216)) _ tt (rw (lt-leb 1 p n) refl)
  no-patience (inr (n, h)) = let m : 1 ≤ p = omega arith in refused-by [] (question 13 0 (leb 1 p && leb p 16777216)) _ tt (rw (le-leb 1 p m, lt-leb p 16777216 h) refl)

  pub too_many : (p ≡ 0 → ⊥) → p ≤ 16777216 → 4096 < k → no 14 ≡ Asked p k l
  too_many n h m = refused-by (question 13 0 (leb 1 p && leb p 16777216) ∷ []) (question 14 0 (leb k 4096)) _ (calm n h, tt) (lt-leb k 4096 m)

  pub too_short : (p ≡ 0 → ⊥) → p ≤ 16777216 → k ≤ 4096 → l < 256 → no 21 ≡ Asked p k l
  too_short n h m s = refused-by (question 13 0 (leb 1 p && leb p 16777216) ∷ question 14 0 (leb k 4096) ∷ []) (question 21 0 (leb 256 l)) _ (calm n h, (le-leb k 4096 m, tt)) (lt-leb 256 l s)

  pub entered : (p ≡ 0 → ⊥) → p ≤ 16777216 → k ≤ 4096 → 256 ≤ l → Ok tt ≡ Asked p k l
  entered n h m s = all_by (terms p k l) (calm n h, (le-leb k 4096 m, (le-leb 256 l s, tt)))

-- ---- what is known from the answer

pub ok≢err : {T E B : Type 0} {x : T} {e : E} → ◌≡◌ {A = Result T E} (Ok x) (Err e) → B
ok≢err p = absurd (true≢false (ap is_ok p))

pub asked-refused : (x : Reading (Unit {0})) (r : Refusal) → asked_of x ≡ Err r → x ≡ refuse r.question r.place
unfolding asked_of
asked-refused (refuse p j) r e = let a : p ≡ r.question = cc in let b : j ≡ r.place = cc in λ k. refuse (a k) (b k)
asked-refused (got u) r e = ok≢err e

asked-all : (x : Reading (Unit {0})) (u : Unit {0}) → asked_of x ≡ Ok u → x ≡ got tt
unfolding asked_of
asked-all (refuse q i) u e = ok≢err (sym e)
asked-all (got u) v e = refl

pub asked-so : (p k l : ℕ) (u : Unit {0}) (x : Answered) → x ≡ Asked p k l → x ≡ Ok u → asking (terms p k l) ≡ got tt
asked-so p k l u x e d = asked-all (asking (terms p k l)) u (sym e ∙ d)

-- The questions that ask nothing but numbers, one behind another: all are answered by yes, or the first no ends the call.
-- Assumes nothing.
use Prim.Native.Nat.{ℕ}
use mathlib.Core.Bool.{Bool, true, false, ◌&&◌, and-eq-true_iff}
use mathlib.Core.List.{List, [], ◌∷◌, ◌++◌}
use mathlib.Core.Path.{◌≡◌, refl, ◌∙◌}
use lib.Dec.{leb}
use borrow.Author.Tests.{leb-true}
use Rattle.read_messages.specs.Reading.{refuse, got, ask}
use Rattle.read_messages.proofs.Readings.{bind_inv, bind-got, bind-refuse, ask-inv, ask-yes, ask-no}
use Rattle.read_messages.proofs.Places.{Within, bind-within, ask-within}
use Rattle.theory_call.specs.Call.{Question, asking}

-- all are answered by yes
abbrev pub AllYes : List Question → Type 0
AllYes [] = Unit {0}
AllYes (q ∷ qs) = (q.yes ≡ true) × AllYes qs

pub asking-inv : (qs : List Question) (u : Unit {0}) → asking qs ≡ got u → AllYes qs
unfolding asking
asking-inv [] u e = tt
asking-inv (q ∷ qs) u e = let (v, x, y) = bind_inv (ask q.number q.place q.yes) (λ w. asking qs) u e in (ask-inv q.number q.place q.yes v x, asking-inv qs u y)

pub asking-yes : (qs : List Question) → AllYes qs → asking qs ≡ got tt
unfolding asking
asking-yes [] h = refl
asking-yes (q ∷ qs) h = bind-got (ask q.number q.place q.yes) (λ u. asking qs) tt (ask-yes q.number q.place q.yes h.0) ∙ asking-yes qs h.1

-- the first no
pub asking-no : (ps : List Question) (q : Question) (qs : List Question) → AllYes ps → q.yes ≡ false → asking (ps ++ q ∷ qs) ≡ refuse q.number q.place
unfolding asking
asking-no [] q qs h e = bind-refuse (ask q.number q.place q.yes) (λ u. asking qs) q.number q.place (ask-no q.number q.place q.yes e)
asking-no (p ∷ ps) q qs h e = bind-got (ask p.number p.place p.yes) (λ u. asking (ps ++ q ∷ qs)) tt (ask-yes p.number p.place p.yes h.0) ∙ asking-no ps q qs h.1 e

-- no place is above n: a test, so that it is computed of a list, however many questions it has
abbrev pub none_above : (n : ℕ) → List Question → Bool
none_above n [] = true
none_above n (q ∷ qs) = leb q.place n && none_above n qs

pub asking-within : (n : ℕ) (qs : List Question) → none_above n qs ≡ true → Within n (asking qs)
unfolding asking
asking-within n [] e = tt
asking-within n (q ∷ qs) e =
    let (low, others) = (and-eq-true_iff (leb q.place n) (none_above n qs)).0 e in
    bind-within n (ask q.number q.place q.yes) (λ u. asking qs) (ask-within n q.number q.place q.yes (leb-true q.place n low)) (λ u e. asking-within n qs others)

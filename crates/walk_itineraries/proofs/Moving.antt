-- One move more before those of a list: its word, its place in the list, and the closure machine's run. Assumes nothing.
use Prim.Native.Nat.{ℕ, suc, ◌+◌, ◌*◌, ◌≤◌, ◌<◌}
use mathlib.Core.Bool.{Bool, true, cond}
use mathlib.Core.List.{List, ◌∷◌}
use mathlib.Core.Option.{Option, some}
use mathlib.Core.Path.{◌≡◌, refl, ap, ap₂, ◌∙◌}
use native.Mathlib.Omega.{arith}
use lib.ListN.{set, length}
use lib.Seq.{get_or-set_same, get_or-set_other}
use borrow.Author.Tests.{eq-eqb, lt-ltb}
use Rattle.read_messages.specs.Words.{kind, operand, word}
use Rattle.read_rule_words.specs.Rule.{Names, Rule}
use Rattle.theory_machine.specs.Moves.{MoveMade}
use Rattle.theory_closures.specs.Closure.{Action, ClosureMachine, closure_move}
use Rattle.base_arrays.specs.Stretches.{stretch_or, stretch}
use Rattle.base_arrays.proofs.Copying.{stretch-same}
use Rattle.theory_call.specs.Call.{actor, target, move_fits}
use Rattle.theory_call.specs.ClosureCall.{halted, after_move, if_made, closure_run}
use Rattle.walk_stages.specs.declared.Limits.{Limits}
use Rattle.walk_itineraries.specs.Leading.{move_word, LeadsTo}

-- ---- the word

module _ (a t : ℕ) (la : a < 64) (lt : t < 64) where
  kind-is : kind (move_word a t) ≡ 1
  unfolding kind word
  kind-is = omega arith

  operand-is : operand (move_word a t) ≡ a * 256 + t
  unfolding operand word
  operand-is = omega arith

  actor-is : actor (move_word a t) ≡ a
  actor-is = omega (arith, operand-is)

  target_is : target (move_word a t) ≡ t
  target_is = omega (arith, operand-is)

  -- question 15 is answered by yes
  word_fits_lem : (n : ℕ) → a < n → t < n → move_fits n (move_word a t) ≡ true
  unfolding move_fits
  word_fits_lem n ha ht =
      let small : operand (move_word a t) < 65536 = omega (arith, operand-is) in
      let low : actor (move_word a t) < n = omega (arith, actor-is) in
      let lower : target (move_word a t) < n = omega (arith, target_is) in
      rw (eq-eqb (kind (move_word a t)) 1 kind-is, lt-ltb (operand (move_word a t)) 65536 small, lt-ltb (actor (move_word a t)) n low, lt-ltb (target (move_word a t)) n lower)

-- what is written for the move is its word
pub noted : (a t at : ℕ) (l : List ℕ) → set l at (268435456 + a * 256 + t) ≡ set l at (move_word a t)
unfolding word
noted a t at l = let e : 268435456 + a * 256 + t ≡ move_word a t = omega arith in ap (set l at) e

-- ---- its place in the list

-- THEOREM: a word that is put before a stretch makes one that is one longer.
pub stretch-before : (at k w : ℕ) (l : List ℕ) → at < length l → stretch at (suc k) (set l at w) ≡ w ∷ stretch (suc at) k l
unfolding stretch_or
stretch-before at k w l h =
    ap₂ (λ (x : ℕ) (xs : List ℕ). x ∷ xs) (get_or-set_same l at w 0 h)
    (stretch-same (suc at) k (set l at w) l (λ j g m. get_or-set_other l at j w 0 (λ e. omega arith)))

-- ---- the run

run-first : (n i w : ℕ) (ws : List ℕ) (m : ClosureMachine)
    → closure_run n i (w ∷ ws) m ≡ cond (move_fits n w) (if_made i m (closure_move m.bindings (actor w) (target w) m.tree) (λ l. closure_run n (suc i) ws l)) (halted 15 i)
unfolding closure_run
run-first n i w ws m = refl

run_on : (n i w : ℕ) (ws : List ℕ) (m : ClosureMachine) (s : MoveMade Action) → move_fits n w ≡ true → closure_move m.bindings (actor w) (target w) m.tree ≡ some s
    → closure_run n i (w ∷ ws) m ≡ closure_run n (suc i) ws (after_move m s)
unfolding if_made
run_on n i w ws m s fits e =
    run-first n i w ws m
    ∙ ap (λ (b : Bool). cond b (if_made i m (closure_move m.bindings (actor w) (target w) m.tree) (λ l. closure_run n (suc i) ws l)) (halted 15 i)) fits
    ∙ ap (λ (x : Option (MoveMade Action)). if_made i m x (λ l. closure_run n (suc i) ws l)) e

-- THEOREM: where moves lead on from a move that is made, it and they lead there.
pub leads-before : (limits : Limits) (names : Names) (q : Rule) (m : ClosureMachine) (a t : ℕ) (s : MoveMade Action) (ws : List ℕ)
    → closure_move m.bindings a t m.tree ≡ some s → a < limits.parts → t < limits.parts → limits.parts ≤ 64 → LeadsTo limits names q (after_move m s) ws → LeadsTo limits names q m (move_word a t ∷ ws)
leads-before limits names q m a t s ws e ha ht few D =
    let la : a < 64 = omega arith in
    let lt : t < 64 = omega arith in
    let is : closure_move m.bindings (actor (move_word a t)) (target (move_word a t)) m.tree ≡ some s =
    ap₂ (λ (x : ℕ) (y : ℕ). closure_move m.bindings x y m.tree) (actor-is a t la lt) (target_is a t la lt) ∙ e in
    record {
      end = D.end;
      made = λ i. run_on limits.parts i (move_word a t) ws m s (word_fits_lem a t la lt limits.parts ha ht) is ∙ D.made (suc i);
      left = D.left;
      first = D.first;
      last = D.last;
      meets = D.meets;
    }

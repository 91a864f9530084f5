-- IN in one body that is held: what the definition makes of it, and the sets and heads that hold it. Assumes nothing.
use Prim.Native.Nat.{ℕ, ◌+◌, ◌≤◌}
use mathlib.Core.Bool.{Bool, true, false, not, ◌&&◌}
use mathlib.Core.List.{List}
use mathlib.Core.Option.{Option, none, some}
use mathlib.Core.Path.{◌≡◌, refl, sym, ap, ◌∙◌}
use native.Mathlib.Omega.{arith}
use lib.Dec.{eqb}
use borrow.Author.Tests.{ne_eqb}
use Rattle.std.specs.Prelude.{None}
use Rattle.base_sets.specs.Sets.{elem, inserted, removed}
use Rattle.read_scripts.specs.Tree.{one_if, tops, times_in, put}
use Rattle.read_scripts.specs.Represents.{Held}
use Rattle.theory_machine.specs.Bodies.{◌>>=◌, check, find_part, remove_part, alter, holder}
use Rattle.theory_machine.specs.Moves.{MoveMade, quiet, spent_head, spend, is_named, same_name, to_enter, first_of, head_name, enter_move}
use Rattle.read_scripts.proofs.Numbers.{own-times}
use Rattle.theory_machine.proofs.Sums.{remove_part-exact, find-remove_part}
use Rattle.theory_closures.specs.Closure.{Action, ClosureHead, Closure, Bindings, view_under}
use Rattle.engine_states.proofs.Holding.{numbers_total, tops-put, tops-remove_part, tops-alter, in-times, numbers-differ, frame, held-remove_part, held-put, held-alter, Found, found_in, not_found, holder-is, holder-inv}
use Rattle.engine_states.proofs.Focus.{Change}
use Rattle.engine_states.proofs.Spending.{Spent, held-spend}
use Rattle.engine_targets.specs.Targets.{may_enter}

pub enter-needs : (σ : Bindings) (a t : ℕ) (b : Closure) → elem t (tops b) ≡ false → enter_move (view_under σ) a t b ≡ none
unfolding enter_move ◌>>=◌
enter-needs σ a t b e = rw (not_found t b e)

module _ (σ : Bindings) (k : ℕ → List ℕ) (w : ℕ → ClosureHead) (a t : ℕ) (here : Closure) (held : Held k w here) (stands : elem t (tops here) ≡ true) where
  abbrev There : Found k w t here
  There = found_in k w t here held stands

  pub enter-alone : holder a here ≡ none → enter_move (view_under σ) a t here ≡ none
  unfolding enter_move ◌>>=◌
  enter-alone e = rw (There.found, e)

  module _ (p : ℕ) (beside : elem p (tops here) ≡ true) (holds : elem a (k p) ≡ true) where
    abbrev Mover : Found k w p here
    Mover = found_in k w p here held beside

    within : elem a (tops Mover.room) ≡ true
    within = ap (elem a) (sym Mover.own) ∙ holds

    abbrev Actor : Found k w a Mover.room
    Actor = found_in k w a Mover.room Mover.held within

    abbrev allowed : Bool
    allowed = not (eqb p t) && (is_named (head_name (view_under σ) (w p)) && may_enter σ (w a) (w t))

    abbrev remaining : Closure
    remaining = remove_part p here

    abbrev inner : Closure
    inner = spend (view_under σ) a Mover.room

    abbrev pub entered : MoveMade Action
    entered = quiet (alter t (λ e. e) (put p (w p) inner) remaining)

    module _ (once : (j : ℕ) → times_in j here ≤ 1) where
      pub enter-not : allowed ≡ false → enter_move (view_under σ) a t here ≡ none
      unfolding enter_move ◌>>=◌ check
      enter-not e = rw (There.found, holder-is k w a p here held (once a) beside holds, Mover.found, Actor.found, e)

      pub enter-is : allowed ≡ true → enter_move (view_under σ) a t here ≡ some entered
      unfolding enter_move ◌>>=◌ check
      enter-is e = rw (There.found, holder-is k w a p here held (once a) beside holds, Mover.found, Actor.found, e)

    -- the part p goes from the body of b into that of t, and the actor's first item is spent
    module _ (once : (j : ℕ) → times_in j here ≤ 1) (g : Closure → Option (MoveMade Action)) (needs : (s : Closure) → elem t (tops s) ≡ false → g s ≡ none)
        (b : ℕ) (own : k b ≡ tops here) (apart : times_in b here ≡ 0) (k' : ℕ → List ℕ) (w' : ℕ → ClosureHead) (spent : Spent σ w w' a)
        (bodies : (i : ℕ) → (i ≡ b → ⊥) → (i ≡ t → ⊥) → k i ≡ k' i) (two : p ≡ t → ⊥) where
      -- sums over the parts
      whole : (v : ℕ → ℕ) → numbers_total v here ≡ v p + (numbers_total v Mover.room + numbers_total v remaining)
      whole v = remove_part-exact (λ i h. v i) p here (w p, Mover.room) (once p) Mover.found

      t-left : find_part t remaining ≡ some (w t, There.room)
      t-left = find-remove_part t p here (ne_eqb t p (λ e. two (sym e))) ∙ There.found

      t-once : times_in t remaining ≤ 1
      t-once = omega (arith, whole (λ i. one_if (eqb t i)), once t)

      rest : (v : ℕ → ℕ) → numbers_total v remaining ≡ v t + (numbers_total v There.room + numbers_total v (remove_part t remaining))
      rest v = remove_part-exact (λ i h. v i) t remaining (w t, There.room) t-once t-left

      -- the parts that a sum tells apart
      same_body : (i : ℕ) → 1 ≤ times_in i here → (i ≡ t → ⊥) → k i ≡ k' i
      same_body i m n = bodies i (numbers-differ i b here m apart) n

      same_head : (i : ℕ) → times_in i Mover.room ≡ 0 → w i ≡ w' i
      same_head i z = spent.others i (λ e. numbers-differ a i Mover.room (in-times a Mover.room within) z (sym e))

      held_inner : Held k' w' inner
      held_inner = held-spend σ k k' w w' a Mover.room spent Mover.held within (omega (arith, whole (λ j. one_if (eqb a j)), once a))
          (λ i m. same_body i (omega (arith, whole (λ j. one_if (eqb i j))))
          (numbers-differ i t Mover.room m (omega (arith, whole (λ j. one_if (eqb t j)), rest (λ j. one_if (eqb t j)), once t, own-times t))))

      held-room : Held k' w' (put p (w p) inner There.room)
      held-room = held-put k' w' p (w p) inner There.room
          (sym (same_body p (in-times p here beside) two) ∙ Mover.own ∙ sym (tops-alter a (spent_head (view_under σ)) (λ s. s) Mover.room))
          (sym (same_head p (omega (arith, whole (λ j. one_if (eqb p j)), once p, own-times p))))
          held_inner
          (frame k k' w w' There.room There.held
          (λ i m. (
            same_body i (omega (arith, whole (λ j. one_if (eqb i j)), rest (λ j. one_if (eqb i j))))
                (numbers-differ i t There.room m (omega (arith, whole (λ j. one_if (eqb t j)), rest (λ j. one_if (eqb t j)), once t, own-times t))),
            same_head i (omega (arith, whole (λ j. one_if (eqb i j)), rest (λ j. one_if (eqb i j)), once i)),
          )))

      pub enter-change : k' b ≡ removed p (k b) → k' t ≡ inserted p (k t) → Change σ k w t g needs b here k' w' entered
      enter-change loses gains = record {
        own = loses ∙ ap (removed p) own ∙ sym (tops-remove_part p here) ∙ sym (tops-alter t (λ e. e) (put p (w p) inner) remaining);
        held = held-alter k k' w w' t (λ e. e) (put p (w p) inner) remaining There.room t-left t-once (held-remove_part k w p here held)
            (λ i m. (
              same_body i (omega (arith, whole (λ j. one_if (eqb i j)), rest (λ j. one_if (eqb i j))))
                  (numbers-differ i t (remove_part t remaining) m (omega (arith, rest (λ j. one_if (eqb t j)), t-once, own-times t))),
              same_head i (omega (arith, whole (λ j. one_if (eqb i j)), rest (λ j. one_if (eqb i j)), once i)),
            ))
            (gains ∙ ap (inserted p) There.own ∙ sym (tops-put p (w p) inner There.room))
            (sym (same_head t (omega (arith, whole (λ j. one_if (eqb t j)), rest (λ j. one_if (eqb t j)), once t, own-times t))))
            held-room;
        head = same_head b (omega (arith, whole (λ j. one_if (eqb b j)), apart));
        rest = λ i n z. (
          bodies i n (λ e. numbers-differ t i here (in-times t here stands) z (sym e)),
          same_head i (omega (arith, whole (λ j. one_if (eqb i j)))),
        );
      }

  -- where the actor's first item is no IN of a name
  pub enter-never : ((j : ℕ) → times_in j here ≤ 1) → to_enter (first_of (view_under σ) (w a)) ≡ None → enter_move (view_under σ) a t here ≡ none
  unfolding same_name
  enter-never once e = pick (holder a here) refl
    where
      never : (x y : Bool) → (x && (y && false)) ≡ false
      never true true = refl
      never true false = refl
      never false y = refl

      pick : (o : Option ℕ) → holder a here ≡ o → enter_move (view_under σ) a t here ≡ none
      pick none q = enter-alone q
      pick (some p) q = let i = holder-inv k w a p here held q in enter-not p i.0 i.1 once (rw e (never (not (eqb p t)) (is_named (head_name (view_under σ) (w p)))))

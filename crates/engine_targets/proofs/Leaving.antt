-- EXIT in one body that is held: what the definition makes of it, and the sets and heads that hold it. Assumes nothing.
use Prim.Native.Nat.{ℕ, ◌+◌, ◌≤◌}
use mathlib.Core.Bool.{true, false, ◌&&◌}
use mathlib.Core.List.{List}
use mathlib.Core.Option.{Option, none, some}
use mathlib.Core.Path.{◌≡◌, sym, ap, ◌∙◌}
use native.Mathlib.Omega.{arith}
use lib.Dec.{eqb}
use Rattle.base_sets.specs.Sets.{elem, inserted, removed}
use Rattle.read_scripts.specs.Tree.{one_if, tops, times_in, put}
use Rattle.read_scripts.specs.Represents.{Held}
use Rattle.theory_machine.specs.Bodies.{◌>>=◌, check, remove_part, alter}
use Rattle.theory_machine.specs.Moves.{MoveMade, quiet, spent_head, spend, is_named, head_name, exit_move}
use Rattle.read_scripts.proofs.Numbers.{own-times}
use Rattle.theory_machine.proofs.Sums.{remove_part-exact}
use Rattle.theory_closures.specs.Closure.{Action, ClosureHead, Closure, Bindings, view_under}
use Rattle.engine_states.proofs.Holding.{numbers_total, tops-put, tops-remove_part, tops-alter, in-times, numbers-differ, frame, held-remove_part, held-put, held-alter, Found, found_in, not_found, holder-is}
use Rattle.engine_states.proofs.Focus.{Change}
use Rattle.engine_states.proofs.Spending.{Spent, held-spend}
use Rattle.engine_targets.specs.Targets.{may_exit}

pub exit-needs : (σ : Bindings) (a t : ℕ) (b : Closure) → elem t (tops b) ≡ false → exit_move (view_under σ) a t b ≡ none
unfolding exit_move ◌>>=◌
exit-needs σ a t b e = rw (not_found t b e)

module _ (σ : Bindings) (k : ℕ → List ℕ) (w : ℕ → ClosureHead) (a t : ℕ) (here : Closure) (held : Held k w here) (stands : elem t (tops here) ≡ true)
    (p : ℕ) (inside : elem p (k t) ≡ true) (holds : elem a (k p) ≡ true) where
  abbrev There : Found k w t here
  There = found_in k w t here held stands

  abbrev on-top : elem p (tops There.room) ≡ true
  on-top = ap (elem p) (sym There.own) ∙ inside

  abbrev Mover : Found k w p There.room
  Mover = found_in k w p There.room There.held on-top

  within : elem a (tops Mover.room) ≡ true
  within = ap (elem a) (sym Mover.own) ∙ holds

  abbrev Actor : Found k w a Mover.room
  Actor = found_in k w a Mover.room Mover.held within

  abbrev inner : Closure
  inner = spend (view_under σ) a Mover.room

  abbrev remaining : Closure
  remaining = alter t (λ e. e) (remove_part p) here

  abbrev pub exited : MoveMade Action
  exited = quiet (put p (w p) inner remaining)

  -- sums over the parts
  module _ (once : (j : ℕ) → times_in j here ≤ 1) where
    whole : (v : ℕ → ℕ) → numbers_total v here ≡ v t + (numbers_total v There.room + numbers_total v (remove_part t here))
    whole v = remove_part-exact (λ i h. v i) t here (w t, There.room) (once t) There.found

    each : (v : ℕ → ℕ) → numbers_total v There.room ≡ v p + (numbers_total v Mover.room + numbers_total v (remove_part p There.room))
    each v = remove_part-exact (λ i h. v i) p There.room (w p, Mover.room) (omega (arith, whole (λ i. one_if (eqb p i)), once p)) Mover.found

    pub exit-is : (is_named (head_name (view_under σ) (w p)) && may_exit σ (w a) (w t)) ≡ true → exit_move (view_under σ) a t here ≡ some exited
    unfolding exit_move ◌>>=◌ check
    exit-is e = rw (There.found, holder-is k w a p There.room There.held (omega (arith, whole (λ i. one_if (eqb a i)), once a)) on-top holds, Mover.found, Actor.found, e)

    -- the part p goes from the body of t into that of b, and the actor's first item is spent
    module _ (g : Closure → Option (MoveMade Action)) (needs : (s : Closure) → elem t (tops s) ≡ false → g s ≡ none)
        (b : ℕ) (own : k b ≡ tops here) (apart : times_in b here ≡ 0) (k' : ℕ → List ℕ) (w' : ℕ → ClosureHead) (spent : Spent σ w w' a)
        (bodies : (i : ℕ) → (i ≡ t → ⊥) → (i ≡ b → ⊥) → k i ≡ k' i) where
      -- the parts that a sum tells apart
      same_body : (i : ℕ) → 1 ≤ times_in i here → (i ≡ t → ⊥) → k i ≡ k' i
      same_body i m n = bodies i n (numbers-differ i b here m apart)

      in-room : (i : ℕ) → 1 ≤ times_in i There.room → k i ≡ k' i
      in-room i m = same_body i (omega (arith, whole (λ j. one_if (eqb i j)))) (numbers-differ i t There.room m (omega (arith, whole (λ j. one_if (eqb t j)), once t, own-times t)))

      same_head : (i : ℕ) → times_in i Mover.room ≡ 0 → w i ≡ w' i
      same_head i z = spent.others i (λ e. numbers-differ a i Mover.room (in-times a Mover.room within) z (sym e))

      held_inner : Held k' w' inner
      held_inner = held-spend σ k k' w w' a Mover.room spent Mover.held within (omega (arith, whole (λ j. one_if (eqb a j)), each (λ j. one_if (eqb a j)), once a))
          (λ i m. in-room i (omega (arith, each (λ j. one_if (eqb i j)))))

      held-left : Held k' w' (remove_part p There.room) → k' t ≡ removed p (k t) → Held k' w' remaining
      held-left rest loses = held-alter k k' w w' t (λ e. e) (remove_part p) here There.room There.found (once t) held
          (λ i m. (
            same_body i (omega (arith, whole (λ j. one_if (eqb i j)))) (numbers-differ i t (remove_part t here) m (omega (arith, whole (λ j. one_if (eqb t j)), once t, own-times t))),
            same_head i (omega (arith, whole (λ j. one_if (eqb i j)), each (λ j. one_if (eqb i j)), once i)),
          ))
          (loses ∙ ap (removed p) There.own ∙ sym (tops-remove_part p There.room))
          (sym (same_head t (omega (arith, whole (λ j. one_if (eqb t j)), each (λ j. one_if (eqb t j)), once t, own-times t))))
          rest

      held-rest : Held k' w' (remove_part p There.room)
      held-rest = frame k k' w w' (remove_part p There.room) (held-remove_part k w p There.room There.held)
          (λ i m. (
            in-room i (omega (arith, each (λ j. one_if (eqb i j)))),
            same_head i (omega (arith, whole (λ j. one_if (eqb i j)), each (λ j. one_if (eqb i j)), once i)),
          ))

      pub exit-change : k' t ≡ removed p (k t) → k' b ≡ inserted p (k b) → Change σ k w t g needs b here k' w' exited
      exit-change loses gains = record {
        own = gains ∙ ap (inserted p) (own ∙ sym (tops-alter t (λ e. e) (remove_part p) here)) ∙ sym (tops-put p (w p) inner remaining);
        held = held-put k' w' p (w p) inner remaining
            (sym (in-room p (in-times p There.room on-top)) ∙ Mover.own ∙ sym (tops-alter a (spent_head (view_under σ)) (λ s. s) Mover.room))
            (sym (same_head p (omega (arith, whole (λ j. one_if (eqb p j)), each (λ j. one_if (eqb p j)), once p, own-times p))))
            held_inner
            (held-left held-rest loses);
        head = same_head b (omega (arith, whole (λ j. one_if (eqb b j)), each (λ j. one_if (eqb b j)), apart));
        rest = λ i n z. (
          bodies i (λ e. numbers-differ t i here (in-times t here stands) z (sym e)) n,
          same_head i (omega (arith, whole (λ j. one_if (eqb i j)), each (λ j. one_if (eqb i j)))),
        );
      }

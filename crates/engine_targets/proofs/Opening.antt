-- OPEN and the receipt in one body that is held: what the definitions make of it, and the sets and heads that hold it.
-- Assumes nothing.
use Prim.Native.Nat.{ℕ, ◌≤◌}
use mathlib.Core.Bool.{true, false}
use mathlib.Core.List.{List, [], ◌∷◌}
use mathlib.Core.Option.{Option, none, some}
use mathlib.Core.Path.{◌≡◌, sym, ap, ◌∙◌}
use native.Mathlib.Omega.{arith}
use lib.Dec.{eqb}
use borrow.Author.Tests.{ne_eqb}
use Rattle.read_messages.specs.Message.{Message}
use Rattle.std.specs.Prelude.{None}
use Rattle.base_sets.specs.Sets.{elem, removed, joined}
use Rattle.base_sets.proofs.Lists.{elem-remove, elem-joined}
use Rattle.read_scripts.specs.Tree.{receipt, output, one_if, tops, times_in, merge_parts}
use Rattle.read_scripts.specs.Represents.{Held}
use Rattle.theory_machine.specs.Bodies.{◌>>=◌, check, remove_part}
use Rattle.theory_machine.specs.Moves.{MoveMade, quiet, variable_of, message_of, spent_head, spend, same_name, to_open, first_of, open_move, receive_move}
use Rattle.base_slices.proofs.Tests.{by_test, or_right}
use Rattle.theory_machine.proofs.Sums.{find-total, merge-total}
use Rattle.theory_closures.specs.Closure.{Action, ClosureHead, Closure, Bindings, view_under}
use Rattle.engine_states.proofs.Holding.{tops-remove_part, tops-merge, tops-alter, in-times, numbers-differ, frame, held-remove_part, held-merge, Found, found_in, not_found}
use Rattle.engine_states.proofs.Focus.{Change}
use Rattle.engine_states.proofs.Moving.{Shrinks, fewer}
use Rattle.engine_states.proofs.Spending.{Spent, held-spend}
use Rattle.engine_targets.specs.Targets.{may_open}

-- ---- where there is no move

pub open-needs : (σ : Bindings) (a t : ℕ) (b : Closure) → elem t (tops b) ≡ false → open_move (view_under σ) a t b ≡ none
unfolding open_move ◌>>=◌
open-needs σ a t b e = rw (not_found t b e)

pub receive-needs : (σ : Bindings) (a t : ℕ) (b : Closure) → elem t (tops b) ≡ false → receive_move (view_under σ) a t b ≡ none
unfolding receive_move ◌>>=◌
receive-needs σ a t b e = rw (not_found t b e)

module _ (σ : Bindings) (k : ℕ → List ℕ) (w : ℕ → ClosureHead) (a t : ℕ) (here : Closure) (held : Held k w here) (stands : elem t (tops here) ≡ true) where
  abbrev There : Found k w t here
  There = found_in k w t here held stands

  pub open-alone : elem a (tops here) ≡ false → open_move (view_under σ) a t here ≡ none
  unfolding open_move ◌>>=◌
  open-alone e = rw (There.found, not_found a here e)

  pub receive-alone : elem a (tops here) ≡ false → receive_move (view_under σ) a t here ≡ none
  unfolding receive_move ◌>>=◌
  receive-alone e = rw (There.found, not_found a here e)

  module _ (beside : elem a (tops here) ≡ true) where
    abbrev A : Found k w a here
    A = found_in k w a here held beside

    pub open-not : may_open σ (w a) (w t) ≡ false → open_move (view_under σ) a t here ≡ none
    unfolding open_move ◌>>=◌ check
    open-not e = rw (There.found, A.found, e)

    -- ---- OPEN
    abbrev merged : Closure
    merged = merge_parts There.room (remove_part t here)

    abbrev pub opened : MoveMade Action
    opened = quiet (spend (view_under σ) a merged)

    pub open_is : may_open σ (w a) (w t) ≡ true → open_move (view_under σ) a t here ≡ some opened
    unfolding open_move ◌>>=◌ check
    open_is e = rw (There.found, A.found, e)

    -- ---- the receipt
    abbrev pub received : (v : ℕ) (m : Message) → MoveMade Action
    received v m = record { body = merge_parts A.room (remove_part t (remove_part a here)); news = (v, m) ∷ [] }

    pub receive-is : (v : ℕ) (m : Message) → w a ≡ receipt v → w t ≡ output m → receive_move (view_under σ) a t here ≡ some (received v m)
    unfolding receive_move ◌>>=◌ variable_of message_of
    receive-is v m ea et = rw (There.found, A.found, ea, et)

    module _ (g : Closure → Option (MoveMade Action)) (needs : (s : Closure) → elem t (tops s) ≡ false → g s ≡ none)
        (b : ℕ) (own : k b ≡ tops here) (apart : times_in b here ≡ 0) (once : (j : ℕ) → times_in j here ≤ 1)
        (k' : ℕ → List ℕ) (w' : ℕ → ClosureHead) (bodies : (i : ℕ) → (i ≡ b → ⊥) → k i ≡ k' i) where
      -- the body of a number that stands here is as it was
      stays : (i : ℕ) → 1 ≤ times_in i here → k i ≡ k' i
      stays i l = bodies i (numbers-differ i b here l apart)

      -- both go, the receipt's body comes
      pub receive-change : (v : ℕ) (m : Message) → Shrinks here (received v m) → k' b ≡ joined (k a) (removed t (removed a (k b))) → ((i : ℕ) → w i ≡ w' i)
          → Change σ k w t g needs b here k' w' (received v m)
      receive-change v m l joins heads = record {
        own = joins ∙ (λ j. joined (A.own j) (removed t (removed a (own j)))) ∙ (λ j. joined (tops A.room) (removed t (sym (tops-remove_part a here) j)))
            ∙ ap (joined (tops A.room)) (sym (tops-remove_part t (remove_part a here))) ∙ sym (tops-merge A.room (remove_part t (remove_part a here)));
        held = frame k k' w w' (merge_parts A.room (remove_part t (remove_part a here)))
            (held-merge k w A.room (remove_part t (remove_part a here)) A.held (held-remove_part k w t (remove_part a here) (held-remove_part k w a here held)))
            (λ i c. (stays i (omega (arith, fewer here (received v m) l (λ j. one_if (eqb i j)))), heads i));
        head = heads b;
        rest = λ i n z. (bodies i n, heads i);
      }

      -- the ambient goes, its body stays, and the actor's first item is spent
      pub open-change : Spent σ w w' a → (a ≡ t → ⊥) → k' b ≡ joined (k t) (removed t (k b)) → Change σ k w t g needs b here k' w' opened
      open-change spent two joins =
          let held_both : Held k w merged = held-merge k w There.room (remove_part t here) There.held (held-remove_part k w t here held) in
          let less : (i : ℕ) → times_in i merged ≤ times_in i here = λ i. omega (arith, merge-total (λ j h. one_if (eqb i j)) There.room (remove_part t here), find-total (λ j h. one_if (eqb i j)) t here (w t, There.room) There.found) in
          let kept : elem a (removed t (tops here)) ≡ true = elem-remove a t (tops here) ∙ rw (ne_eqb t a (λ e. two (sym e))) beside in
          let on-top : elem a (tops merged) ≡ true = ap (elem a) (tops-merge There.room (remove_part t here) ∙ ap (joined (tops There.room)) (tops-remove_part t here)) ∙ elem-joined a (tops There.room) (removed t (tops here)) ∙ or_right (elem a (tops There.room)) (elem a (removed t (tops here))) kept in
          let at_a : 1 ≤ times_in a here = in-times a here beside in
          record {
            own = joins ∙ (λ j. joined (There.own j) (removed t (own j))) ∙ ap (joined (tops There.room)) (sym (tops-remove_part t here)) ∙ sym (tops-merge There.room (remove_part t here))
                ∙ sym (tops-alter a (spent_head (view_under σ)) (λ s. s) merged);
            held = held-spend σ k k' w w' a merged spent held_both on-top (omega (arith, less a, once a)) (λ i l. stays i (omega (arith, less i)));
            head = spent.others b (λ e. numbers-differ a b here at_a apart (sym e));
            rest = λ i n z. (bodies i n, spent.others i (λ e. numbers-differ a i here at_a z (sym e)));
          }

  -- where the actor's first item is no OPEN of a name, and where the actor is no receipt
  pub open-never : to_open (first_of (view_under σ) (w a)) ≡ None → open_move (view_under σ) a t here ≡ none
  unfolding same_name
  open-never e = by_test (elem a (tops here)) (λ i. open-not i (rw e)) (λ i. open-alone i)

  pub receive-never : variable_of (w a) ≡ none → receive_move (view_under σ) a t here ≡ none
  unfolding receive_move ◌>>=◌
  receive-never e = by_test (elem a (tops here)) (λ i. rw (There.found, (found_in k w a here held i).found, e)) (λ i. receive-alone i)

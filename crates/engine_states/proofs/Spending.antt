-- An action of a body whose first item is spent: the heads that differ in that action hold the body that the definition
-- makes. Assumes nothing.
use Prim.Native.Nat.{ℕ, ◌+◌, ◌≤◌}
use mathlib.Core.Bool.{true}
use mathlib.Core.List.{List}
use mathlib.Core.Path.{◌≡◌, sym, ◌∙◌}
use native.Mathlib.Omega.{arith}
use lib.Dec.{eqb}
use Rattle.base_sets.specs.Sets.{elem}
use Rattle.read_scripts.specs.Tree.{one_if, tops, times_in}
use Rattle.read_scripts.specs.Represents.{Held}
use Rattle.theory_machine.specs.Bodies.{remove_part}
use Rattle.theory_machine.specs.Moves.{spent_head, spend}
use Rattle.read_scripts.proofs.Numbers.{own-times}
use Rattle.theory_machine.proofs.Sums.{remove_part-exact}
use Rattle.theory_closures.specs.Closure.{ClosureHead, Closure, Bindings, view_under}
use Rattle.engine_states.proofs.Holding.{in-times, numbers-differ, frame, held-alter, found_in}

-- the heads w' are w with the first item of a spent
pub record Spent (σ : Bindings) (w w' : ℕ → ClosureHead) (a : ℕ) : Type 0 where
  pub spends : w' a ≡ spent_head (view_under σ) (w a)
  pub others : (i : ℕ) → (i ≡ a → ⊥) → w i ≡ w' i

pub held-spend : (σ : Bindings) (k k' : ℕ → List ℕ) (w w' : ℕ → ClosureHead) (a : ℕ) (b : Closure) → Spent σ w w' a → Held k w b → elem a (tops b) ≡ true → times_in a b ≤ 1
    → ((i : ℕ) → 1 ≤ times_in i b → k i ≡ k' i) → Held k' w' (spend (view_under σ) a b)
held-spend σ k k' w w' a b S held stands once bodies =
    let A = found_in k w a b held stands in
    let all : (i : ℕ) → times_in i b ≡ one_if (eqb i a) + (times_in i A.room + times_in i (remove_part a b)) = λ i. remove_part-exact (λ j h. one_if (eqb i j)) a b (w a, A.room) once A.found in
    held-alter k k' w w' a (spent_head (view_under σ)) (λ s. s) b A.room A.found once held
    (λ i l. (bodies i (omega (arith, all i)), S.others i (numbers-differ i a (remove_part a b) l (omega (arith, all a, own-times a)))))
    (sym (bodies a (in-times a b stands)) ∙ A.own)
    S.spends
    (frame k k' w w' A.room A.held (λ i l. (bodies i (omega (arith, all i)), S.others i (numbers-differ i a A.room l (omega (arith, all a, own-times a))))))

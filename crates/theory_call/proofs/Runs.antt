-- Lists of moves: what every move keeps, a list keeps; and the weight. Assumes nothing.
use Prim.Native.Nat.{ℕ, suc, ◌+◌, ◌*◌, ◌≤◌}
use mathlib.Core.List.{List, [], ◌∷◌}
use mathlib.Core.Option.{Option, none, some}
use mathlib.Core.Path.{◌≡◌, refl, subst}
use native.Mathlib.Omega.{arith}
use lib.ListN.{take}
use Rattle.read_messages.specs.Message.{Message}
use Rattle.read_scripts.specs.Tree.{parts, settle, bare}
use Rattle.read_scripts.specs.Script.{Written, Script, head_with_items, with_items, started}
use Rattle.theory_machine.specs.Moves.{MoveMade}
use Rattle.theory_machine.specs.PlainMachine.{move, Machine, weight_of}
use Rattle.base_slices.proofs.Tests.{by_test}
use Rattle.theory_machine.proofs.Sums.{map-total, settle-total, weight}
use Rattle.theory_call.specs.Call.{Call, halted, completed, actor, target, move_fits, after_move, if_made, run, begun}
use Rattle.theory_call.specs.Standing.{WeightHolds}

pub halted≢completed : {B : Type 0} {q i : ℕ} {m : Machine} → halted q i ≡ completed m → B
halted≢completed e = let z : ◌≡◌ {A = ℕ} 0 1 = cc in absurd (let w : ⊥ = omega arith in w)

pub completed-is : {m l : Machine} → completed m ≡ completed l → m ≡ l
completed-is e = cc

-- a move that was made, and the run behind it
pub record Made (n i w : ℕ) (ws : List ℕ) (m l : Machine) : Type 0 where
  pub result : MoveMade (List Message)
  pub makes : move (actor w) (target w) m.tree ≡ some result
  pub goes : run n (suc i) ws (after_move m result) ≡ completed l

made-inv : (n i w : ℕ) (ws : List ℕ) (m l : Machine) (o : Option (MoveMade (List Message))) → move (actor w) (target w) m.tree ≡ o
    → if_made i m o (λ k. run n (suc i) ws k) ≡ completed l → Made n i w ws m l
unfolding if_made
made-inv n i w ws m l none e x = halted≢completed x
made-inv n i w ws m l (some s) e x = record { result = s; makes = e; goes = x }

pub run_step : (n i w : ℕ) (ws : List ℕ) (m l : Machine) → run n i (w ∷ ws) m ≡ completed l → Made n i w ws m l
unfolding run
run_step n i w ws m l e =
    by_test (move_fits n w)
    (λ t. made-inv n i w ws m l (move (actor w) (target w) m.tree) refl (rw t at e))
    (λ t. halted≢completed (rw t at e))

pub run_none : (n i : ℕ) (m l : Machine) → run n i [] m ≡ completed l → m ≡ l
unfolding run
run_none n i m l e = completed-is e

-- THEOREM: what every move keeps, a list of moves keeps.
pub run-keeps : (Q : Machine → Type 0) → ((a t : ℕ) (m : Machine) (s : MoveMade (List Message)) → Q m → move a t m.tree ≡ some s → Q (after_move m s))
    → (n i : ℕ) (ws : List ℕ) (m l : Machine) → Q m → run n i ws m ≡ completed l → Q l
run-keeps Q keep n i [] m l x e = subst Q (run_none n i m l e) x
run-keeps Q keep n i (w ∷ ws) m l x e =
    let s = run_step n i w ws m l e in
    run-keeps Q keep n (suc i) ws (after_move m s.result) l (keep (actor w) (target w) m s.result x s.makes) s.goes

-- the weight does not rise
run-weight : (n i : ℕ) (ws : List ℕ) (m l : Machine) (b : ℕ) → weight_of m ≤ b → run n i ws m ≡ completed l → weight_of l ≤ b
unfolding weight_of
run-weight n i ws m l b h e =
    run-keeps (λ k. parts k.tree + 2 * k.receipts ≤ b) (λ a t k s x y. omega (arith, weight a t k.tree s y)) n i ws m l h e

started-parts : (b : Script) → parts (started b) ≤ parts b
unfolding started with_items settle
started-parts b = omega (arith, settle-total (λ i h. 1) bare (with_items b), map-total (λ i h. 1) (λ (w : Written). head_with_items w.head) b)

begun-weight : (b : Script) → weight_of (begun b) ≤ parts b
unfolding weight_of
begun-weight b = omega (arith, started-parts b)

-- THEOREM: after a list that is made, parts plus twice the receipts made are at most the script's parts.
pub run-weighed : (n : ℕ) (ws : List ℕ) (b : Script) (m : Machine) → run n 0 ws (begun b) ≡ completed m → weight_of m ≤ parts b
run-weighed n ws b m e = run-weight n 0 ws (begun b) m (parts b) (begun-weight b) e

-- THEOREM: and so before the first move of a call and after each.
pub weight-holds : (c : Call) → WeightHolds c
unfolding WeightHolds
weight-holds c p r k m a = run-weighed p.1.number (take k c.moves) p.0 m a

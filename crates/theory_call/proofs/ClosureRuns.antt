-- Lists of moves on closures: the closure machine's run unfolds to the plain machine's, halts at the same question and place,
-- and so no list makes more moves than the script's bound. Assumes nothing.
use Prim.Native.Nat.{ℕ, suc, ◌+◌, ◌^◌, ◌≤◌}
use mathlib.Core.List.{List, [], ◌∷◌, ◌++◌}
use mathlib.Core.Option.{Option, none, some, map}
use mathlib.Core.Path.{◌≡◌, refl, sym, ap, ◌∙◌, subst}
use native.Mathlib.Omega.{arith}
use lib.ListN.{length, length-append, length-take, take}
use Rattle.read_messages.specs.Reading.{Cursor, got}
use Rattle.read_messages.proofs.Readings.{got-inj}
use Rattle.read_scripts.specs.Tree.{Plain}
use Rattle.read_scripts.specs.Script.{Script, read_script}
use Rattle.read_scripts.specs.Measures.{receipts_in, most_items, moves_bound}
use Rattle.theory_machine.specs.Moves.{MoveMade}
use Rattle.theory_machine.specs.PlainMachine.{Machine}
use Rattle.base_slices.proofs.Tests.{by_test}
use Rattle.theory_closures.specs.Closure.{Action, Bindings, closure_move, unfolded, plain_news, unfolded_move, ClosureMachine, unfold_machine}
use Rattle.theory_closures.proofs.Tallies.{tally_of}
use Rattle.theory_closures.proofs.Invariant.{Good, move-good}
use Rattle.theory_closures.proofs.Simulation.{unfold-move}
use Rattle.theory_closures.proofs.Started.{closure-started, started-good}
use Rattle.theory_closures.proofs.Bound.{budget, Bounded, move-costs, started-bounded, started-budget}
use Rattle.theory_call.specs.Call.{Call, Ran, actor, target, move_fits, run, refusal, Start, parts_of, start_of, starting, answer}
use Rattle.theory_call.specs.Call as plain
use Rattle.theory_call.specs.ClosureCall.{ClosureRan, after_move, if_made, closure_run, unfold_ran, begun}
use Rattle.theory_call.specs.Standing.{Standing, BoundHolds, MovesBounded}
use Rattle.theory_call.proofs.Entering.{starting-got}
use Rattle.theory_call.proofs.Answers.{answer-ends}

-- the invariant, of a machine
abbrev pub GoodMachine : ClosureMachine → Type 0
GoodMachine m = Good m.bindings m.tree

as_many : (σ l : Bindings) → length (plain_news σ l) ≡ length l
as_many σ [] = refl
as_many σ (p ∷ l) = ap suc (as_many σ l)

after-unfolded : (m : ClosureMachine) (s : MoveMade Action) → plain.after_move (unfold_machine m) (unfolded_move m.bindings s) ≡ unfold_machine (after_move m s)
unfolding unfold_machine unfolded_move
after-unfolded m s =
    let e : length m.bindings + length (plain_news m.bindings s.news) ≡ length (s.news ++ m.bindings) = omega (arith, as_many m.bindings s.news, length-append s.news m.bindings) in
    ap (λ (k : ℕ). record { tree = unfolded (s.news ++ m.bindings) s.body; receipts = k }) e

-- a move, and what follows it
made-unfolded : (i : ℕ) (m : ClosureMachine) (x : Option (MoveMade Action)) (k : Machine → Ran) (l : ClosureMachine → ClosureRan) →
    ((s : MoveMade Action) → x ≡ some s → k (unfold_machine (after_move m s)) ≡ unfold_ran (l (after_move m s))) →
    plain.if_made i (unfold_machine m) (map (unfolded_move m.bindings) x) k ≡ unfold_ran (if_made i m x l)
unfolding plain.if_made if_made unfold_ran
made-unfolded i m none k l f = refl
made-unfolded i m (some s) k l f = ap k (after-unfolded m s) ∙ f s refl

-- THEOREM: for every list, the run of the unfolded machine is the unfolding of the closure run.
pub run-unfolded : (n i : ℕ) (ws : List ℕ) (m : ClosureMachine) → GoodMachine m → run n i ws (unfold_machine m) ≡ unfold_ran (closure_run n i ws m)
unfolding run closure_run unfold_ran unfold_machine
run-unfolded n i [] m G = refl
run-unfolded n i (w ∷ ws) m G = by_test (move_fits n w)
    (λ t. rw (t, unfold-move m.bindings (actor w) (target w) m.tree G)
    (made-unfolded i m (closure_move m.bindings (actor w) (target w) m.tree) (λ l. run n (suc i) ws l) (λ l. closure_run n (suc i) ws l)
    (λ s e. run-unfolded n (suc i) ws (after_move m s) (move-good m.bindings (actor w) (target w) m.tree s e G))))
    (λ t. rw t)

-- THEOREM: and so for every script that is read.
pub started-unfolded : (ws : List ℕ) (p : Script × Cursor) → read_script ws ≡ got p → (n : ℕ) (moves : List ℕ) →
    run n 0 moves (plain.begun p.0) ≡ unfold_ran (closure_run n 0 moves (begun p.0))
unfolding unfold_machine
started-unfolded ws p e n moves =
    ap (λ (b : Plain). run n 0 moves (record { tree = b; receipts = 0 })) (sym (closure-started p.0)) ∙ run-unfolded n 0 moves (begun p.0) (started-good ws p e)

-- ---- the bound

-- the moves made, of a list of l words from the index i on, are at most x
abbrev pub Paid : (i l x : ℕ) → Ran → Type 0
Paid i l x (plain.halted q j) = j ≤ i + x
Paid i l x (plain.completed m) = l ≤ x

paid-more : (i l x y : ℕ) (r : Ran) → y + 1 ≤ x → Paid (suc i) l y r → Paid i (suc l) x r
paid-more i l x y (plain.halted q j) h p = omega arith
paid-more i l x y (plain.completed m) h p = omega arith

made-paid : (i l x : ℕ) (m : ClosureMachine) (o : Option (MoveMade Action)) (k : ClosureMachine → ClosureRan) →
    ((s : MoveMade Action) → o ≡ some s → Paid i l x (unfold_ran (k (after_move m s)))) → Paid i l x (unfold_ran (if_made i m o k))
unfolding if_made unfold_ran
made-paid i l x m none k f = omega arith
made-paid i l x m (some s) k f = f s refl

module _ (s r n : ℕ) where
  run-paid : (i : ℕ) (ws : List ℕ) (m : ClosureMachine) → Bounded s r m.bindings m.tree → Paid i (length ws) (tally_of (budget (s ^ suc r)) m.tree) (unfold_ran (closure_run n i ws m))
  unfolding closure_run unfold_ran
  run-paid i [] m x = omega arith
  run-paid i (w ∷ ws) m x = by_test (move_fits n w)
      (λ t. rw t (made-paid i (length (w ∷ ws)) (tally_of (budget (s ^ suc r)) m.tree) m (closure_move m.bindings (actor w) (target w) m.tree) (λ l. closure_run n (suc i) ws l)
      (λ k e.
      let (y, c) = move-costs s r m.bindings (actor w) (target w) m.tree k e x in
      paid-more i (length ws) (tally_of (budget (s ^ suc r)) m.tree) (tally_of (budget (s ^ suc r)) k.body) (unfold_ran (closure_run n (suc i) ws (after_move m k))) c (run-paid (suc i) ws (after_move m k) y))))
      (λ t. rw t (omega arith))

paid-within : (i l x y : ℕ) (r : Ran) → x ≤ y → Paid i l x r → Paid i l y r
paid-within i l x y (plain.halted q j) h p = omega arith
paid-within i l x y (plain.completed m) h p = omega arith

-- THEOREM: a list halts at an index that is at most the bound, or is made and has at most so many moves.
pub moves-paid : (ws : List ℕ) (p : Script × Cursor) → read_script ws ≡ got p → (n : ℕ) (moves : List ℕ) →
    Paid 0 (length moves) (moves_bound p.0) (run n 0 moves (plain.begun p.0))
moves-paid ws p e n moves =
    rw (started-unfolded ws p e n moves)
    (paid-within 0 (length moves) (tally_of (budget (most_items p.0 ^ suc (receipts_in p.0))) (begun p.0).tree) (moves_bound p.0) (unfold_ran (closure_run n 0 moves (begun p.0))) (started-budget p.0)
    (run-paid (most_items p.0) (receipts_in p.0) n 0 moves (begun p.0) (started-bounded ws p e)))

-- THEOREM (the bound).
pub bound-holds : (c : Call) → BoundHolds c
bound-holds c p e k m l a =
    let h : Paid 0 (length (take k c.moves)) (moves_bound p.0) (plain.completed m) =
    subst (Paid 0 (length (take k c.moves)) (moves_bound p.0)) a (moves-paid c.script p e p.1.number (take k c.moves)) in
    omega (arith, h, length-take k c.moves)

-- ---- what the call answers

none_made : (n : ℕ) → 0 ≤ n
none_made n = omega arith

so_far : (i n : ℕ) → i ≤ 0 + n → i ≤ n
so_far i n h = omega arith

-- THEOREM: the moves made, in a refused call too, are at most the bound of the script as read.
pub moves-bounded : (c : Call) → MovesBounded c.script (answer c).moves
unfolding MovesBounded refusal
moves-bounded c p e =
    let es : starting c ≡ got (start_of c.script p) = starting-got c p e in
    let paid : Paid 0 (length c.moves) (moves_bound p.0) (run p.1.number 0 c.moves (plain.begun p.0)) = moves-paid c.script p e p.1.number c.moves in
    let at : (s : Start) → starting c ≡ got s → Paid 0 (length c.moves) (moves_bound p.0) (run (parts_of s) 0 c.moves s.machine) =
    λ s d. subst (λ (s : Start). Paid 0 (length c.moves) (moves_bound p.0) (run (parts_of s) 0 c.moves s.machine)) (got-inj (sym es ∙ d)) paid in
    let all : (s : Standing c) → length c.moves ≤ moves_bound p.0 = λ s. subst (Paid 0 (length c.moves) (moves_bound p.0)) s.moves-made (at s.start s.starts) in
    answer-ends c (λ a. a.moves ≤ moves_bound p.0) (record {
      unread = λ q i d. none_made (moves_bound p.0);
      shut = λ s d q i h. none_made (moves_bound p.0);
      stuck = λ s d r h q i x. so_far i (moves_bound p.0) (subst (Paid 0 (length c.moves) (moves_bound p.0)) x (at s d));
      tired = λ s q i v d. all s;
      unfit = λ s a n d l. all s;
      done = λ s a n d l. all s;
    })

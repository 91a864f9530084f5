-- What the plain machine answers to a call, question by question, told by the closure machine's run and walk.
-- Assumes nothing.
use Prim.Native.Nat.{ℕ, suc, ◌+◌}
use mathlib.Core.List.{List, [], ◌∷◌}
use mathlib.Core.Option.{Option, none, some}
use mathlib.Core.Path.{◌≡◌, refl, sym, ap, ◌∙◌, subst}
use Rattle.read_messages.specs.Reading.{Cursor, refuse, got}
use Rattle.read_scripts.specs.Script.{Script, read_script}
use Rattle.theory_machine.specs.Moves.{MoveMade}
use Rattle.base_slices.proofs.Tests.{by_test}
use Rattle.theory_closures.specs.Closure.{Action, closure_move, unfold_machine, ClosureMachine}
use Rattle.theory_closures.proofs.Invariant.{move-good}
use Rattle.theory_closures.proofs.Started.{started-good}
use Rattle.read_rule_words.specs.Rule.{Rule}
use Rattle.theory_decision.specs.Walk.{walk_from}
use Rattle.theory_decision.specs.ClosureWalk.{closure_space}
use Rattle.theory_decision.proofs.Closures.{walk-unfolded}
use Rattle.theory_call.specs.Call.{Call, actor, target, move_fits, refusal, walked, Start, parts_of, start_of, setting, rule_run, door, answer}
use Rattle.theory_call.specs.ClosureCall.{ClosureRan, halted, completed, after_move, if_made, closure_run, unfold_ran, begun}
use Rattle.theory_call.proofs.Entering.{starting-got, starting-refused}
use Rattle.theory_call.proofs.Answers.{answer-unread, answer-shut, answer-run}
use Rattle.theory_call.proofs.ClosureRuns.{GoodMachine, started-unfolded}

-- ---- what a run leaves is good

-- a machine that is left has the property
abbrev pub Leaves : (ClosureMachine → Type 0) → ClosureRan → Type 0
Leaves Q (halted q i) = Unit {0}
Leaves Q (completed m) = Q m

made-good : (i : ℕ) (m : ClosureMachine) (x : Option (MoveMade Action)) (k : ClosureMachine → ClosureRan) → ((s : MoveMade Action) → x ≡ some s → Leaves GoodMachine (k (after_move m s)))
    → Leaves GoodMachine (if_made i m x k)
unfolding if_made
made-good i m none k f = tt
made-good i m (some s) k f = f s refl

pub run-good : (n i : ℕ) (ws : List ℕ) (m : ClosureMachine) → GoodMachine m → Leaves GoodMachine (closure_run n i ws m)
unfolding closure_run
run-good n i [] m G = G
run-good n i (w ∷ ws) m G = by_test (move_fits n w)
    (λ t. rw t (made-good i m (closure_move m.bindings (actor w) (target w) m.tree) (λ l. closure_run n (suc i) ws l)
    (λ s e. run-good n (suc i) ws (after_move m s) (move-good m.bindings (actor w) (target w) m.tree s e G))))
    (λ t. rw t tt)

pub run-leaves-good : (ws : List ℕ) (p : Script × Cursor) → read_script ws ≡ got p → (n : ℕ) (moves : List ℕ) (m : ClosureMachine) → closure_run n 0 moves (begun p.0) ≡ completed m → GoodMachine m
run-leaves-good ws p e n moves m d = subst (Leaves GoodMachine) d (run-good n 0 moves (begun p.0) (started-good ws p e))

-- ---- the questions in their order

module _ (c : Call) where
  pub answers-script : (q i : ℕ) → read_script c.script ≡ refuse q i → answer c ≡ refusal q i 0 0 c.buffer
  answers-script q i e = answer-unread c q i (starting-refused c q i e)

  module _ (p : Script × Cursor) (es : read_script c.script ≡ got p) where
    abbrev s : Start
    s = start_of c.script p

    abbrev n : ℕ
    n = parts_of s

    pub answers-door : (q i : ℕ) → door c s ≡ refuse q i → answer c ≡ refusal q i 0 0 c.buffer
    answers-door q i e = answer-shut c s (starting-got c p es) q i e

    module _ (r : Rule × Cursor) (er : door c s ≡ got r) where
      goes-run : answer c ≡ rule_run c s r (unfold_ran (closure_run n 0 c.moves (begun p.0)))
      goes-run = answer-run c s (starting-got c p es) r er ∙ ap (rule_run c s r) (started-unfolded c.script p es n c.moves)

      pub answers-halted : (q i : ℕ) → closure_run n 0 c.moves (begun p.0) ≡ halted q i → answer c ≡ refusal q i i 0 c.buffer
      unfolding rule_run unfold_ran
      answers-halted q i e = goes-run ∙ rw e

      -- THEOREM: behind the moves, the answer is that of the walk over the closure that they left.
      pub answers-walked : (m : ClosureMachine) → closure_run n 0 c.moves (begun p.0) ≡ completed m
          → answer c ≡ walked c (unfold_machine m) (walk_from (closure_space (n + r.1.number)) (setting c s) r.0 m)
      unfolding rule_run unfold_ran unfold_machine
      answers-walked m e =
          goes-run ∙ rw e
          (ap (walked c (unfold_machine m)) (sym (walk-unfolded (n + r.1.number) (setting c s) r.0 m (run-leaves-good c.script p es n c.moves m e))))

-- The closure machine's list of moves, beside the plain machine's `run`: the same questions at the same places.
-- Assumes nothing: these are definitions.
use Rattle.std.specs.Prelude.{ℕ, suc, cond, List, [], ◌∷◌, ◌++◌}
use Rattle.std.proofs.Math.Option.{Option, none, some}
use Rattle.read_scripts.specs.Script.{Script}
use Rattle.theory_machine.specs.Moves.{MoveMade}
use Rattle.theory_closures.specs.Closure.{Action, settle_under, closure_move, ClosureMachine, unfold_machine, closure_of}
use Rattle.theory_call.specs.Call.{Ran, actor, target, move_fits}
use Rattle.theory_call.specs.Call as plain

pub data ClosureRan : Type 0 where
  halted : (question place : ℕ) → ClosureRan
  completed : ClosureMachine → ClosureRan

-- the machine after a move that was made: its receipt is the newest binding
abbrev pub after_move : ClosureMachine → MoveMade Action → ClosureMachine
after_move m s = record { tree = s.body; bindings = s.news ++ m.bindings }

unfoldable pub if_made : (place : ℕ) → ClosureMachine → Option (MoveMade Action) → (ClosureMachine → ClosureRan) → ClosureRan
if_made i m none k = halted 16 i
if_made i m (some s) k = k (after_move m s)

unfoldable pub closure_run : (n i : ℕ) → List ℕ → ClosureMachine → ClosureRan
closure_run n i [] m = completed m
closure_run n i (w ∷ ws) m =
    cond (move_fits n w) (if_made i m (closure_move m.bindings (actor w) (target w) m.tree) (λ l. closure_run n (suc i) ws l)) (halted 15 i)

-- what the plain machine makes of the same list
unfoldable pub unfold_ran : ClosureRan → Ran
unfold_ran (halted q i) = plain.halted q i
unfold_ran (completed m) = plain.completed (unfold_machine m)

-- the closure machine as a script begins it
abbrev pub begun : Script → ClosureMachine
begun b = record { tree = settle_under [] (closure_of b); bindings = [] }

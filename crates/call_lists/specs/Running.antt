-- What the engine's run of a list of moves asks, how it ends, against the closure machine's run, and the state that it leaves.
-- Assumes nothing: these are definitions.
use Rattle.std.specs.Prelude.{ℕ, ◌+◌, ◌≤◌, ◌<◌, List, ◌≡◌, length, take, Result, Ok, Err}
use Rattle.read_messages.specs.declared.Refusal.{Refusal}
use Rattle.theory_closures.specs.Closure.{Closure}
use Rattle.engine_states.specs.Represents.{bound_in, Represents}
use Rattle.engine_states.specs.declared.State.{State}
use Rattle.engine_state_arrays.specs.Lent.{kinds_in, starts_in, own_state, LentReady}
use Rattle.theory_call.specs.ClosureCall.{ClosureRan, halted, completed, closure_run}

-- how a list of moves ends: all are made, or a question stops it at a place
abbrev pub Ended : Type 0
Ended = Result (Unit {0}) Refusal

-- how a run ends
unfoldable pub ended_of : ClosureRan → Ended
ended_of (halted q i) = Err (record { question = q; place = i })
ended_of (completed m) = Ok tt

-- how many moves of a list are made that ends so: all, or those before the place
abbrev pub made_of : List ℕ → Ended → ℕ
made_of moves (Ok u) = length moves
made_of moves (Err r) = r.place

module _ (script kinds starts : List ℕ) where
  -- the state represents the machine that a run leaves
  abbrev pub Left : State → (weight spent : ℕ) → ClosureRan → Type 0
  Left r weight spent (halted q i) = ⊥
  Left r weight spent (completed m) = Represents script kinds starts weight spent r m.tree × (bound_in script r ≡ m.bindings)

  -- For every closure that s represents, n being the script's parts: the list ends as the closure machine's, and r represents
  -- the machine that the moves made leave. Offsets that fit into 32 bits do after the list.
  abbrev pub Runs : (n : ℕ) (moves : List ℕ) (s : State) → Ended → State → Type 0
  Runs n moves s e r =
      (weight spent : ℕ) (b : Closure) → spent + length moves < 4294967295 → Represents script kinds starts weight spent s b
      → (e ≡ ended_of (closure_run n 0 moves (record { tree = b; bindings = bound_in script s })))
      × Left r weight (spent + made_of moves e) (closure_run n 0 (take (made_of moves e) moves) (record { tree = b; bindings = bound_in script s }))

-- what is lent to the run of a list
pub record Runnable (script sets numbers moves : List ℕ) (parts : ℕ) : Type 0 where
  -- a script has at most 64 parts
  pub few : parts ≤ 64
  -- question 14 lets at most 4,096 moves in
  pub short : length moves ≤ 4096
  -- the arrays hold a state
  pub lends : LentReady script sets numbers

-- what the run of a list leaves of the arrays, and how it ends
pub record ListRan (script sets numbers moves : List ℕ) (parts : ℕ) (sets₁ numbers₁ : List ℕ) (e : Ended) : Type 0 where
  -- the arrays hold a state again
  pub lends : LentReady script sets₁ numbers₁
  -- the kinds of the parts stay
  pub same-kinds : kinds_in numbers₁ ≡ kinds_in numbers
  -- so do their starts
  pub same-starts : starts_in numbers₁ ≡ starts_in numbers
  -- the list ends as the closure machine's, and the state represents the machine that it leaves
  pub runs : Runs script (kinds_in numbers) (starts_in numbers) parts moves (own_state sets numbers) e (own_state sets₁ numbers₁)

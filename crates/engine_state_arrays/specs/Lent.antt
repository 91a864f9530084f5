-- A state and its part table as two arrays, which the walk lends as one in place of twenty: which numbers stand where.
-- Assumes nothing: these are definitions.
use Rattle.std.specs.Prelude.{ℕ, zero, suc, ◌+◌, ◌<◌, List, [], ◌∷◌, ◌≡◌, get_or, set, length}
use Rattle.base_arrays.specs.Stretches.{stretch}
use Rattle.engine_message_words.specs.declared.Binding.{Binding}
use Rattle.engine_held_bindings.specs.declared.Bindings.{Bindings}
use Rattle.engine_states.specs.Represents.{Ready}
use Rattle.engine_states.specs.declared.State.{State}

abbrev pub kinds_in : (numbers : List ℕ) → List ℕ
kinds_in numbers = stretch 0 64 numbers

abbrev pub starts_in : (numbers : List ℕ) → List ℕ
starts_in numbers = stretch 64 64 numbers

-- a row of the bindings is five numbers
abbrev pub row_at : (at : ℕ) (numbers : List ℕ) → Binding
row_at at numbers = record {
  variable = get_or numbers at 0;
  source = get_or numbers (at + 1) 0;
  count = get_or numbers (at + 2) 0;
  size = get_or numbers (at + 3) 0;
  bulk = get_or numbers (at + 4) 0;
}

-- n rows, one behind the other
unfoldable pub rows_at : (at n : ℕ) (numbers : List ℕ) → List Binding
rows_at at zero numbers = []
rows_at at (suc n) numbers = row_at at numbers ∷ rows_at (at + 5) n numbers

abbrev pub bindings_at : (numbers : List ℕ) → Bindings
bindings_at numbers = record { rows = rows_at 320 32 numbers; first = get_or numbers 480 0 }

-- the state, with `top` as the set of its top parts
abbrev pub state_in : (sets numbers : List ℕ) (top : ℕ) → State
state_in sets numbers top = record {
  kids = set (stretch 0 65 sets) 64 top;
  offsets = stretch 128 64 numbers;
  notes = record { named = get_or sets 129 0; names = stretch 192 64 numbers; acts = stretch 256 64 numbers; aims = stretch 65 64 sets; busy = get_or sets 130 0 };
  bindings = bindings_at numbers;
}

-- the state whose top parts are those of entry 64
abbrev pub own_state : (sets numbers : List ℕ) → State
own_state sets numbers = state_in sets numbers (get_or sets 64 0)

-- the kinds and what the parts do first are small numbers
abbrev pub Small : (numbers : List ℕ) → Type 0
Small numbers = (i : ℕ) → i < 64 → (get_or numbers i 0 < 256) × (get_or numbers (256 + i) 0 < 256)

-- the arrays hold a state of which the bindings are counted, and what is kept of the parts is right
pub record LentReady (script sets numbers : List ℕ) : Type 0 where
  pub sets-long : length sets ≡ 131
  pub numbers-long : length numbers ≡ 481
  pub small : Small numbers
  pub ready : Ready script (kinds_in numbers) (starts_in numbers) (own_state sets numbers)

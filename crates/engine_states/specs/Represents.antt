-- How the engine's arrays represent a closure: the part table says what a part is, the state which parts stand where, how
-- many items of each action are spent, and which messages were received. Assumes nothing: these are definitions.
use Rattle.std.specs.Prelude.{ℕ, ◌+◌, ◌*◌, ◌-◌, ◌≤◌, ◌<◌, cond, List, ◌≡◌, eqb, get_or, drop}
use Rattle.read_messages.specs.Spelling.{message_at}
use Rattle.read_scripts.specs.Tree.{ambient, action, receipt, output, tops, parts, times_in}
use Rattle.read_scripts.specs.Represents.{Held, body_in}
use Rattle.engine_bindings.specs.Bindings.{message_of}
use Rattle.engine_held_bindings.specs.Held.{bindings_of}
use Rattle.engine_held_bindings.specs.Held as bindings
use Rattle.engine_held_bindings.specs.declared.Bindings as arrays
use Rattle.theory_closures.specs.Closure.{ClosureHead, Closure, Bindings}
use Rattle.engine_states.specs.Seen.{Seen}
use Rattle.engine_states.specs.declared.State.{State}

-- what a part is, by its kind (1 ambient, 2 action, 3 receipt, else output), its start and how many of its items are spent
unfoldable pub head_of : (script : List ℕ) (kind start offset : ℕ) → ClosureHead
head_of script kind start offset =
    cond (eqb kind 1) (ambient (message_of script start))
    (cond (eqb kind 2) (action (record { offset = offset; message = message_at (drop start script) }))
    (cond (eqb kind 3) (receipt start) (output (message_at (drop start script)))))

abbrev pub heads : (script kinds starts offsets : List ℕ) → ℕ → ClosureHead
heads script kinds starts offsets i = head_of script (get_or kinds i 0) (get_or starts i 0) (get_or offsets i 0)

-- the bindings that the state holds
abbrev pub bound_in : (script : List ℕ) → State → Bindings
bound_in script s = bindings_of script s.bindings

-- what is counted with the bindings is right
abbrev pub Counted : (script : List ℕ) → arrays.Bindings → Type 0
Counted script b = bindings.BindingsHeld script b

-- the same of the state's, and what is kept of the parts is right, as long as no offset is 2^32 - 1
pub record Ready (script kinds starts : List ℕ) (s : State) : Type 0 where
  pub bound : Counted script s.bindings
  pub seen : ((i : ℕ) → get_or s.offsets i 0 < 4294967295) → Seen (bound_in script s) (heads script kinds starts s.offsets) s.notes

-- The state represents the closure: its top parts are those of number 64's body. The parts and twice the bindings are at
-- most `weight`, which is at most 64, and no action has more than `spent` items spent.
pub record Represents (script kinds starts : List ℕ) (weight spent : ℕ) (s : State) (b : Closure) : Type 0 where
  pub top : body_in s.kids 64 ≡ tops b
  pub held : Held (body_in s.kids) (heads script kinds starts s.offsets) b
  pub once : (i : ℕ) → times_in i b ≤ 1
  pub inside : (i : ℕ) → 64 ≤ i → times_in i b ≡ 0
  pub light : weight ≤ 64
  pub weighs : parts b + 2 * (32 - s.bindings.first) ≤ weight
  pub spends : (i : ℕ) → get_or s.offsets i 0 ≤ spent

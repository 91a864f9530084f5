-- `write_state` meets its contract: the arrays of the state are lent to the writer. Assumes nothing.
use Prim.Native.Nat.{ℕ, ◌≤◌}
use mathlib.Core.List.{List, []}
use mathlib.Core.Path.{◌≡◌, sym, transport}
use lib.ListN.{drop}
use native.Mathlib.Omega.{arith}
use Rattle.std.specs.Prelude.{Result}
use Rattle.read_messages.specs.declared.Refusal.{Refusal}
use Rattle.engine_message_words.specs.declared.Binding.{Binding}
use Rattle.engine_bindings.specs.Bindings.{bindings_in}
use Rattle.engine_held_bindings.specs.Held.{bindings_of}
use Rattle.engine_held_bindings.specs.Sizes.{Cached}
use Rattle.theory_closures.specs.Closure.{Closure, unfolded}
use Rattle.read_scripts.specs.Tree.{tops, parts}
use Rattle.read_scripts.specs.Represents.{Held, body_in}
use Rattle.engine_states.specs.Represents.{heads, bound_in, Represents}
use Rattle.engine_states.specs.declared.State.{State}
use Rattle.theory_written_trees.specs.Write.{write}
use Rattle.write_trees.specs.Room.{Fitted}
use Rattle.checker.specs.Calling.{Writable}
use borrow.Author.Rules.{rules}
use Rattle.checker.proofs.write_state.Goals as goal

module _ (script kinds starts : List ℕ) (s : State) (bs : List Binding) (e : bs ≡ drop s.bindings.first s.bindings.rows) where
  lent-cached : Writable script kinds starts s → Cached script bs
  lent-cached W = transport (λ q. Cached script (sym e q)) W.ready.bound.cached

  -- the bindings that are lent are the state's
  lent_fits : (weight spent : ℕ) (b : Closure) (before after : List ℕ) (r : Result ℕ Refusal) → Represents script kinds starts weight spent s b
      → ((b : Closure) → body_in s.kids 64 ≡ tops b → Held (body_in s.kids) (heads script kinds starts s.offsets) b → parts b ≤ 64 → Fitted (write [] 0 (unfolded (bindings_in script bs) b)) before after r)
      → Fitted (write [] 0 (unfolded (bound_in script s) b)) before after r
  unfolding bindings_of
  lent_fits weight spent b before after r R f = transport (λ q. Fitted (write [] 0 (unfolded (bindings_in script (e q)) b)) before after r) (f b R.top R.held (omega (arith, R.weighs, R.light)))

pub write_tree-requires : goal.write_tree-requires
write_tree-requires c = search (lent-cached, rules)

pub returns : goal.returns
returns c weight spent b R = search (lent_fits, rules)

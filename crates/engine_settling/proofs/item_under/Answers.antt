-- `item_under` meets its contract: the rows that count are read out of the numbers. Assumes nothing.
use Prim.Native.Nat.{ℕ}
use mathlib.Core.List.{List}
use mathlib.Core.Path.{◌≡◌, sym, ap, ◌∙◌, subst}
use lib.ListN.{get_or, drop}
use Rattle.engine_message_words.specs.declared.Binding.{Binding}
use Rattle.engine_bindings.specs.Bindings.{bindings_in}
use Rattle.engine_held_bindings.specs.Held.{bindings_of}
use Rattle.theory_machine.specs.Moves.{first_of}
use Rattle.theory_closures.specs.Closure.{view_under}
use Rattle.engine_states.specs.Represents.{head_of}
use Rattle.engine_state_arrays.specs.Lent.{rows_at}
use Rattle.engine_settling.proofs.item_under.Goals as goal

-- the rows that are read are those that are held: f is the first, of which b tells too
held-rows : (n : List ℕ) (f first : ℕ) (rows held : List Binding) → f ≡ get_or n 480 0 → first ≡ get_or n 480 0 → drop f rows ≡ drop f (rows_at 320 32 n) → held ≡ drop first rows
    → held ≡ drop (get_or n 480 0) (rows_at 320 32 n)
held-rows n f first rows held e d r h = h ∙ ap (λ (k : ℕ). drop k rows) (d ∙ sym e) ∙ r ∙ ap (λ (k : ℕ). drop k (rows_at 320 32 n)) e

pub returns : goal.returns
unfolding bindings_of
returns c low =
    let x = c.args in
    let b = c.bindings_from-bindings in
    let e = held-rows x.numbers.now c.wide.result b.result.first b.result.rows c.held.result.now c.wide.ensures b.ensures.0 b.ensures.1 c.held.ensures in
    subst (λ (bs : List Binding). c.part_item.result ≡ first_of (view_under (bindings_in x.script.now bs)) (head_of x.script.now 2 x.start x.offset)) e (c.part_item.ensures low)

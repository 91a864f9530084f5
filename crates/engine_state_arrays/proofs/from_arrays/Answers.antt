-- `from_arrays` meets its contract: each array from where it stands. Assumes nothing.
use Prim.Native.Nat.{ℕ, ◌<◌}
use mathlib.Core.List.{List}
use mathlib.Core.Path.{sym, ◌∙◌, subst}
use lib.ListN.{get_or}
use Rattle.base_arrays.proofs.Copying.{small_of, to_start}
use Rattle.engine_state_arrays.proofs.from_arrays.Goals as goal

pub returns : goal.returns
returns c small =
    let n = c.args.lent.now.numbers in
    let acts = c.narrow.ensures (λ i m. subst (λ (l : List ℕ). get_or l i 0 < 256) (sym (c.stretch-2.ensures 0)) (small_of 256 n (λ j o. (small j o).1) i m)) ∙ c.stretch-2.ensures 0 in
    let kinds = c.narrow-2.ensures (λ i m. subst (λ (l : List ℕ). get_or l i 0 < 256) (sym (c.stretch-4.ensures 0)) (small_of 0 n (to_start n (λ j o. (small j o).0)) i m)) ∙ c.stretch-4.ensures 0 in
    let b = c.bindings_from.ensures in (
      kinds,
      c.stretch-5.ensures 0,
      λ q. record {
        kids = c.bodies.ensures q;
        offsets = c.stretch-6.ensures 0 q;
        notes = record { named = get_or c.args.lent.now.sets 129 0; names = c.stretch.ensures 0 q; acts = acts q; aims = c.stretch-3.ensures 0 q; busy = get_or c.args.lent.now.sets 130 0 };
        bindings = record { rows = b.1 q; first = b.0 q };
      },
    )

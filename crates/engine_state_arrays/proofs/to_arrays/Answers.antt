-- `to_arrays` meets its contract: the three together. Assumes nothing.
use mathlib.Core.Path.{◌≡◌, ◌∙◌}
use native.Mathlib.Omega.{arith}
use lib.ListN.{get_or, set}
use Rattle.base_arrays.specs.Stretches.{stretch}
use Rattle.engine_state_arrays.proofs.Standing.{standing-kids}
use Rattle.base_arrays.proofs.Copying.{small-in, small_of, from_start, to_start}
use Rattle.engine_state_arrays.proofs.to_arrays.Goals as goal

pub returns : goal.returns
returns c =
    let x = c.args in
    let p = c.part_numbers-parts.ensures in
    let w = c.with_bindings-numbers.ensures in
    let s = c.all_sets-sets.ensures in
    let r = c.with_bindings-numbers.result in
    let parts = c.part_numbers-parts.result in
    let kids = x.state.kids in
    let ek : set (stretch 0 65 c.all_sets-sets.result) 64 (get_or c.all_sets-sets.result 64 0) ≡ kids = standing-kids c.all_sets-sets.result ∙ s.0 in record {
      tables = (
        w.others 0 64 (omega arith) ∙ p.tables.0,
        w.others 64 64 (omega arith) ∙ p.tables.1,
        λ i m. (
          from_start r (small-in 0 r (stretch 0 64 parts) (w.others 0 64 (omega arith)) (small_of 0 parts (to_start parts (λ j n. (p.small j n).0)))) i m,
          small-in 256 r (stretch 256 64 parts) (w.others 256 64 (omega arith)) (small_of 256 parts (λ j n. (p.small j n).1)) i m,
        ),
      );
      state = λ q. record {
        kids = ek q;
        offsets = (w.others 128 64 (omega arith) ∙ p.tables.2) q;
        notes = record { named = s.2 q; names = (w.others 192 64 (omega arith) ∙ p.tables.3) q; acts = (w.others 256 64 (omega arith) ∙ p.tables.4) q; aims = s.1 q; busy = s.3 q };
        bindings = w.rows q;
      };
    }

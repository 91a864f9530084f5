-- `all_sets` meets its contract: what is put at a higher index leaves what stands below. Assumes nothing.
use mathlib.Core.Path.{◌≡◌, ◌∙◌}
use native.Mathlib.Omega.{arith}
use lib.ListN.{length, set, replicate}
use lib.Seq.{get_or-set_same, get_or-set_other, lt-length-set}
use Rattle.base_arrays.proofs.Copying.{put-here, put-before, set_before}
use borrow.Author.Rules.{rules}
use Rattle.engine_state_arrays.proofs.all_sets.Goals as goal

pub returns : goal.returns
returns c =
    let a : length c.args.kids ≡ 65 = search rules in
    let b : length c.args.aims ≡ 64 = search rules in
    let n = c.put-2.ensures.kept in (
      set_before 0 65 130 c.args.busy (set c.put-2.new.to 129 c.args.named) (omega arith) ∙ set_before 0 65 129 c.args.named c.put-2.new.to (omega arith)
          ∙ put-before 65 c.args.aims c.put.new.to c.put-2.new.to c.put-2.ensures.put 0 65 (omega arith) ∙ put-here 0 c.args.kids (replicate 131 0) c.put.new.to c.put.ensures.put 65 a,
      set_before 65 64 130 c.args.busy (set c.put-2.new.to 129 c.args.named) (omega arith) ∙ set_before 65 64 129 c.args.named c.put-2.new.to (omega arith)
          ∙ put-here 65 c.args.aims c.put.new.to c.put-2.new.to c.put-2.ensures.put 64 b,
      get_or-set_other (set c.put-2.new.to 129 c.args.named) 130 129 c.args.busy 0 (λ e. let z : ⊥ = omega arith in z) ∙ get_or-set_same c.put-2.new.to 129 c.args.named 0 (omega arith),
      get_or-set_same (set c.put-2.new.to 129 c.args.named) 130 c.args.busy 0 (lt-length-set c.put-2.new.to 129 c.args.named (omega arith)),
    )

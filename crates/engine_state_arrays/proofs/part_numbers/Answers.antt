-- `part_numbers` meets its contract: what is put at a higher index leaves what stands below. Assumes nothing.
use mathlib.Core.Path.{◌≡◌, ◌∙◌}
use native.Mathlib.Omega.{arith}
use lib.ListN.{length, replicate}
use Rattle.base_arrays.specs.Stretches.{stretch}
use Rattle.base_arrays.proofs.Copying.{put-here, put-before, small-in, from_start}
use borrow.Author.Rules.{rules}
use Rattle.engine_state_arrays.proofs.part_numbers.Goals as goal

pub returns : goal.returns
returns c =
    let a : length c.widen-wide_kinds.result ≡ 64 = search rules in
    let b : length c.args.starts ≡ 64 = search rules in
    let d : length c.args.offsets ≡ 64 = search rules in
    let e : length c.args.names ≡ 64 = search rules in
    let f : length c.widen-wide_acts.result ≡ 64 = search rules in
    let kinds : stretch 0 64 c.put-5.new.to ≡ c.widen-wide_kinds.result = put-before 256 c.widen-wide_acts.result c.put-4.new.to c.put-5.new.to c.put-5.ensures.put 0 64 (omega arith)
    ∙ put-before 192 c.args.names c.put-3.new.to c.put-4.new.to c.put-4.ensures.put 0 64 (omega arith)
    ∙ put-before 128 c.args.offsets c.put-2.new.to c.put-3.new.to c.put-3.ensures.put 0 64 (omega arith)
    ∙ put-before 64 c.args.starts c.put.new.to c.put-2.new.to c.put-2.ensures.put 0 64 (omega arith)
    ∙ put-here 0 c.widen-wide_kinds.result (replicate 481 0) c.put.new.to c.put.ensures.put 64 a in
    let acts : stretch 256 64 c.put-5.new.to ≡ c.widen-wide_acts.result = put-here 256 c.widen-wide_acts.result c.put-4.new.to c.put-5.new.to c.put-5.ensures.put 64 f in record {
      tables = (
        kinds ∙ c.widen-wide_kinds.ensures.same,
        put-before 256 c.widen-wide_acts.result c.put-4.new.to c.put-5.new.to c.put-5.ensures.put 64 64 (omega arith)
            ∙ put-before 192 c.args.names c.put-3.new.to c.put-4.new.to c.put-4.ensures.put 64 64 (omega arith)
            ∙ put-before 128 c.args.offsets c.put-2.new.to c.put-3.new.to c.put-3.ensures.put 64 64 (omega arith)
            ∙ put-here 64 c.args.starts c.put.new.to c.put-2.new.to c.put-2.ensures.put 64 b,
        put-before 256 c.widen-wide_acts.result c.put-4.new.to c.put-5.new.to c.put-5.ensures.put 128 64 (omega arith)
            ∙ put-before 192 c.args.names c.put-3.new.to c.put-4.new.to c.put-4.ensures.put 128 64 (omega arith)
            ∙ put-here 128 c.args.offsets c.put-2.new.to c.put-3.new.to c.put-3.ensures.put 64 d,
        put-before 256 c.widen-wide_acts.result c.put-4.new.to c.put-5.new.to c.put-5.ensures.put 192 64 (omega arith)
            ∙ put-here 192 c.args.names c.put-3.new.to c.put-4.new.to c.put-4.ensures.put 64 e,
        acts ∙ c.widen-wide_acts.ensures.same,
      );
      small = λ i m. (from_start c.put-5.new.to (small-in 0 c.put-5.new.to c.widen-wide_kinds.result kinds c.widen-wide_kinds.ensures.bytes) i m, small-in 256 c.put-5.new.to c.widen-wide_acts.result acts c.widen-wide_acts.ensures.bytes i m);
    }

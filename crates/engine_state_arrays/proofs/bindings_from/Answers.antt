-- `bindings_from` meets its contract: from that one on all rows are read. Assumes nothing.
use native.Mathlib.Omega.{arith}
use Rattle.engine_state_arrays.proofs.Rows.{read_all}
use Rattle.engine_state_arrays.proofs.bindings_from.Goals as goal

pub returns : goal.returns
returns c = let I = c.loop-i.invariant in
    (I.first, read_all c.args.numbers.now c.args.from c.loop-i.bindings.rows I.long (λ j l m. I.read j l (omega (arith, c.loop-i-test.false))))

-- `with_bindings` meets its contract: all rows are written, and the first binding behind them. Assumes nothing.
use mathlib.Core.Path.{◌∙◌}
use native.Mathlib.Omega.{arith}
use lib.ListN.{set}
use lib.Seq.{get_or-set_same, get_or-set_other}
use borrow.Author.Rules.{rules}
use Rattle.base_arrays.proofs.Copying.{stretch-same, set_before}
use Rattle.engine_state_arrays.proofs.Rows.{rows-same, written_all}
use Rattle.engine_state_arrays.proofs.with_bindings.Goals as goal

pub returns-clause-rows : goal.returns-clause-rows
returns-clause-rows c =
    let r = c.loop-i.r in
    let first = c.args.bindings.first in
    let rows = rows-same 320 32 (set r 480 first) r (λ j l m. get_or-set_other r 480 j first 0 (λ e. let z : ⊥ = omega arith in z))
    ∙ written_all c.args.bindings.rows r (search rules) (λ j m. c.loop-i.invariant.written j (omega (arith, c.loop-i-test.false))) in
    let at = get_or-set_same r 480 first 0 (omega (arith, c.loop-i.invariant.long)) in
    λ q. record { rows = rows q; first = at q }

pub returns-clause-others : goal.returns-clause-others
returns-clause-others c i n m =
    set_before i n 480 c.args.bindings.first c.loop-i.r (omega arith) ∙ stretch-same i n c.loop-i.r c.args.numbers (λ j l u. c.loop-i.invariant.others j (omega arith))

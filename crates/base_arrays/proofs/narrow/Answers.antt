-- `narrow` meets its contract: the first i numbers are copied. Assumes nothing.
use Rattle.std.proofs.Common.{rules}
use Rattle.base_arrays.proofs.Copying.{filling-none, filling-next, narrowed}
use Rattle.base_arrays.proofs.narrow.Goals as goal

pub loop-i-init : goal.loop-i-init
loop-i-init c = search (rules, filling-none)

pub loop-i-preserved : goal.loop-i-preserved
loop-i-preserved c = search (rules, filling-next)

pub returns : goal.returns
returns c = search (rules, narrowed)

-- `next_turn` meets its contract: the outer number's other inner ones, or the next outer number that has some. Assumes nothing.
use Prim.Native.Nat.{◌-◌}
use Rattle.walk_stages.specs.Order.{pairs_behind}
use Rattle.walk_stages.proofs.Trials.{Seeks}
use Rattle.walk_states.proofs.next_turn.Given as goal

abbrev pub invariant-loop-from : goal.invariant-loop-from
invariant-loop-from l = Seeks l.inner l.limit l.from l.rest (pairs_behind l.inner l.limit l.start l.left)

abbrev pub decreases-loop-from : goal.decreases-loop-from
decreases-loop-from l = l.limit - l.from

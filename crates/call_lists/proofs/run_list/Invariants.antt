-- `run_list` meets its contract: i moves are made. Assumes nothing.
use Prim.Native.Nat.{◌-◌}
use lib.ListN.{length}
use Rattle.call_lists.proofs.Listed.{Turn}
use Rattle.call_lists.proofs.run_list.Given as goal

abbrev pub invariant-loop-i : goal.invariant-loop-i
invariant-loop-i l = Turn l.script l.initial.lent.sets l.initial.lent.numbers l.moves l.parts l.i l.lent.sets l.lent.numbers

abbrev pub decreases-loop-i : goal.decreases-loop-i
decreases-loop-i l = length l.moves - l.i

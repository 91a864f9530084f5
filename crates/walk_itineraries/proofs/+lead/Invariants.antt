-- `lead` meets its contract: how the visit begins, and move by move. The measure is the depths left. Assumes nothing.
use Prim.Native.Nat.{◌-◌, ◌^◌, ◌<◌}
use mathlib.Core.Path.{◌≡◌}
use lib.ListN.{length}
use Rattle.walk_stages.specs.Order.{pairs_left}
use Rattle.walk_stages.proofs.Turns.{Trying}
use Rattle.walk_itineraries.proofs.+lead.Given as goal

abbrev pub decreases-lead : goal.decreases-lead
decreases-lead l = l.spot.left

abbrev pub invariant-loop-turn : goal.invariant-loop-turn
invariant-loop-turn l = record {
  long : length l.list ≡ 256;
  small : l.turn.rest < 2 ^ 64;
  trying : Trying l.walk.program.now l.walk.script.now l.lent.sets l.lent.numbers l.chosen l.spot.top l.spot.somes (l.spot.left - 1) l.spot.at l.walk.limits l.targets l.initial.now l.now l.turn.from l.turn.rest;
}

abbrev pub decreases-loop-turn : goal.decreases-loop-turn
decreases-loop-turn l = length (pairs_left l.targets l.walk.limits.limit l.turn.from l.turn.rest)

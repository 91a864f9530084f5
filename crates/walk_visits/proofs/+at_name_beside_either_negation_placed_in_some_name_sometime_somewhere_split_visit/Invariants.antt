-- The cycle of calls of the walk. The measure is thrice the depths left, with the rank of a member in the cycle: a member that
-- walks a kind of word makes visits with fewer depths left, BESIDE by `split`. Assumes nothing.
use Prim.Native.Nat.{◌+◌, ◌-◌, ◌*◌, ◌^◌, ◌<◌}
use mathlib.Core.Path.{◌≡◌}
use lib.ListN.{length}
use Rattle.base_sets.specs.Sets.{members}
use Rattle.walk_stages.specs.Order.{pairs_left}
use Rattle.walk_stages.proofs.Turns.{Dividing, Naming, Seeking, Trying}
use Rattle.walk_visits.proofs.+at_name_beside_either_negation_placed_in_some_name_sometime_somewhere_split_visit.Given as goal

-- ---- the measures

abbrev pub decreases-at_name : goal.decreases-at_name
decreases-at_name l = 3 * l.spot.left + 2

abbrev pub decreases-beside : goal.decreases-beside
decreases-beside l = 3 * l.spot.left + 2

abbrev pub decreases-either : goal.decreases-either
decreases-either l = 3 * l.spot.left + 2

abbrev pub decreases-negation : goal.decreases-negation
decreases-negation l = 3 * l.spot.left + 2

abbrev pub decreases-placed_in : goal.decreases-placed_in
decreases-placed_in l = 3 * l.spot.left + 2

abbrev pub decreases-some_name : goal.decreases-some_name
decreases-some_name l = 3 * l.spot.left + 2

abbrev pub decreases-sometime : goal.decreases-sometime
decreases-sometime l = 3 * l.spot.left + 2

abbrev pub decreases-somewhere : goal.decreases-somewhere
decreases-somewhere l = 3 * l.spot.left + 2

abbrev pub decreases-split : goal.decreases-split
decreases-split l = 3 * l.spot.left + 1

abbrev pub decreases-visit : goal.decreases-visit
decreases-visit l = 3 * l.spot.left

-- ---- the loops

abbrev pub invariant-beside-loop-share : goal.invariant-beside-loop-share
invariant-beside-loop-share l = (l.share < 2 ^ 64) × Dividing l.walk.program.now l.walk.script.now l.lent.sets l.lent.numbers l.chosen l.spot.top l.spot.somes l.spot.left l.spot.at l.walk.limits l.initial.now l.now l.share

abbrev pub decreases-beside-loop-share : goal.decreases-beside-loop-share
decreases-beside-loop-share l = 2 ^ 64 - l.share

abbrev pub invariant-some_name-loop-n : goal.invariant-some_name-loop-n
invariant-some_name-loop-n l = (l.last ≡ l.walk.limits.greatest + l.spot.somes + 1) × Naming l.walk.program.now l.walk.script.now l.lent.sets l.lent.numbers l.chosen l.spot.top l.spot.somes l.spot.left l.spot.at l.walk.limits l.initial.now l.now l.n

abbrev pub invariant-sometime-loop-turn : goal.invariant-sometime-loop-turn
invariant-sometime-loop-turn l = (l.turn.rest < 2 ^ 64) × Trying l.walk.program.now l.walk.script.now l.lent.sets l.lent.numbers l.chosen l.spot.top l.spot.somes l.spot.left l.spot.at l.walk.limits l.targets l.initial.now l.now l.turn.from l.turn.rest

abbrev pub decreases-sometime-loop-turn : goal.decreases-sometime-loop-turn
decreases-sometime-loop-turn l = length (pairs_left l.targets l.walk.limits.limit l.turn.from l.turn.rest)

abbrev pub invariant-somewhere-loop-rest : goal.invariant-somewhere-loop-rest
invariant-somewhere-loop-rest l = (l.rest < 2 ^ 64) × Seeking l.walk.program.now l.walk.script.now l.lent.sets l.lent.numbers l.chosen l.spot.top l.spot.somes l.spot.left l.spot.at l.walk.limits l.initial.now l.now l.rest

abbrev pub decreases-somewhere-loop-rest : goal.decreases-somewhere-loop-rest
decreases-somewhere-loop-rest l = length (members l.rest)

-- `all_targets` meets its contract: the homes are found once, and each actor below the limit is asked. Assumes nothing.
use Prim.Native.Nat.{ℕ, ◌+◌, ◌-◌, ◌≤◌, ◌<◌}
use mathlib.Core.Path.{◌≡◌}
use lib.ListN.{get_or, length}
use Rattle.base_sets.specs.Sets.{members}
use Rattle.read_scripts.specs.Represents.{body_in}
use Rattle.engine_targets.specs.Targets.{TargetsOf}
use Rattle.walk_states.proofs.all_targets.Given as goal

-- the actors below a are asked
abbrev pub invariant-loop-a : goal.invariant-loop-a
invariant-loop-a l = (l.a ≤ l.limit) × (length l.found ≡ 64) × ((b : ℕ) → b < l.a → TargetsOf (body_in l.kids) (get_or l.lent.numbers (256 + b) 0) (members (get_or l.lent.sets (65 + b) 0)) (λ i. get_or l.homes i 0) b (members (get_or l.found b 0)))

abbrev pub decreases-loop-a : goal.decreases-loop-a
decreases-loop-a l = l.limit - l.a

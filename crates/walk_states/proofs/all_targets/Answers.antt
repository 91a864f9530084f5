-- `all_targets` meets its contract: the homes are found once, and each actor below the limit is asked. Assumes nothing.
use mathlib.Core.List.{List}
use mathlib.Core.Path.{subst}
use native.Mathlib.Omega.{arith}
use Prim.Native.Nat.{ℕ}
use lib.ListN.{get_or}
use Rattle.base_sets.specs.Sets.{members}
use Rattle.read_scripts.specs.Represents.{body_in}
use Rattle.engine_states.specs.Searches.{Located}
use Rattle.engine_state_arrays.proofs.Standing.{targets-lent}
use Rattle.walk_states.proofs.all_targets.Goals as goal

pub returns-clause-homes : goal.returns-clause-homes
returns-clause-homes c =
    let named = members (get_or c.args.lent.now.sets 129 0) in
    subst (λ (b : List ℕ). Located named (body_in b) (λ i. get_or c.put_homes.new.homes i 0)) c.bodies-kids.ensures c.put_homes.ensures

pub returns-clause-targets : goal.returns-clause-targets
returns-clause-targets c a h =
    let x = c.args in
    targets-lent x.lent.now.sets x.lent.now.numbers x.top c.bodies-kids.result c.bodies-kids.ensures (λ i. get_or c.put_homes.new.homes i 0) a
    (members (get_or c.loop-a.found a 0)) (omega (arith, h, c.requires.0)) (c.loop-a.invariant.2 a (omega (arith, c.loop-a-test.false)))

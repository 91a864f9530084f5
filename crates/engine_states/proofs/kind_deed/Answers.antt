-- `kind_deed` meets its contract: an action by its item, and the other kinds. Assumes nothing.
use mathlib.Core.Bool.{false}
use mathlib.Core.Path.{refl, ap}
use native.Mathlib.Omega.{arith}
use borrow.Author.Tests.{ne_eqb}
use Rattle.base_sets.specs.Sets.{members, elem}
use Rattle.base_sets.proofs.Members.{members-empty}
use Rattle.engine_states.specs.Seen.{act_of, aim_of, busy_of}
use Rattle.engine_states.proofs.kind_deed.Goals as goal

pub returns-in-1 : goal.returns-in-1
unfolding act_of aim_of busy_of elem
returns-in-1 c = rw c.in-1.is (refl, λ i m. ap (elem i) members-empty, refl)

pub returns-in-2 : goal.returns-in-2
unfolding act_of aim_of busy_of elem
returns-in-2 c = rw c.in-2.is ((c.item_deed.ensures false).0, λ i m. (c.item_deed.ensures (elem i (members c.args.outs))).1 i m, (c.item_deed.ensures false).2)

pub returns-in-3 : goal.returns-in-3
unfolding act_of aim_of busy_of elem
returns-in-3 c = rw c.in-3.is (refl, λ i m. refl, refl)

pub returns-in_default : goal.returns-in_default
unfolding act_of aim_of busy_of elem
returns-in_default c =
    let not_1 = ne_eqb c.args.kind 1 (λ e. let z : ⊥ = omega arith in z) in
    let not_2 = ne_eqb c.args.kind 2 (λ e. let z : ⊥ = omega arith in z) in
    let not_3 = ne_eqb c.args.kind 3 (λ e. let z : ⊥ = omega arith in z) in
    rw (not_1, not_2, not_3) (refl, λ i m. ap (elem i) members-empty, refl)

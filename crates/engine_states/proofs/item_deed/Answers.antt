-- `item_deed` meets its contract: one line for each kind of item. Assumes nothing.
use mathlib.Core.Path.{refl, ap}
use Rattle.base_sets.specs.Sets.{elem}
use Rattle.base_sets.proofs.Members.{members-empty}
use Rattle.theory_machine.specs.Moves.{same_name}
use Rattle.engine_states.specs.Seen.{item_act, item_name, is_nothing, act_of, aim_of, busy_of}
use Rattle.engine_states.proofs.item_deed.Goals as goal

pub returns-in-Nothing : goal.returns-in-Nothing
unfolding item_act item_name is_nothing act_of aim_of busy_of same_name elem
returns-in-Nothing c o = rw c.in-Nothing.is (refl, λ i m. ap (elem i) members-empty, refl)

pub returns-in-Enter : goal.returns-in-Enter
unfolding item_act item_name is_nothing act_of aim_of busy_of same_name elem
returns-in-Enter c o = rw c.in-Enter.is (refl, c.aimed.ensures, refl)

pub returns-in-Exit : goal.returns-in-Exit
unfolding item_act item_name is_nothing act_of aim_of busy_of same_name elem
returns-in-Exit c o = rw c.in-Exit.is (refl, c.aimed-in-Exit.ensures, refl)

pub returns-in-Open : goal.returns-in-Open
unfolding item_act item_name is_nothing act_of aim_of busy_of same_name elem
returns-in-Open c o = rw c.in-Open.is (refl, c.aimed-in-Open.ensures, refl)

pub returns-in-Other : goal.returns-in-Other
unfolding item_act item_name is_nothing act_of aim_of busy_of same_name elem
returns-in-Other c o = rw c.in-Other.is (refl, λ i m. ap (elem i) members-empty, refl)

-- `base_sets::empty` meets its contract. Assumes nothing.
use Rattle.base_sets.proofs.Members.{members-empty}
use Rattle.base_sets.proofs.empty.Goals as goal

pub returns : goal.returns
returns c = members-empty

-- `base_sets::union` meets its contract. Assumes nothing.
use Rattle.base_sets.proofs.Members.{members-or}
use Rattle.base_sets.proofs.union.Goals as goal

pub returns : goal.returns
returns c = members-or c.args.a c.args.b

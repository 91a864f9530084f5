-- `base_sets::intersection` meets its contract. Assumes nothing.
use Rattle.base_sets.proofs.Members.{members-both}
use Rattle.base_sets.proofs.intersection.Goals as goal

pub returns : goal.returns
returns c = members-both c.args.a c.args.b

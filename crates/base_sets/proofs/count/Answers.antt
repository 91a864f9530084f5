-- `base_sets::count` meets its contract. Assumes nothing.
use Rattle.base_sets.proofs.Members.{members-count}
use Rattle.base_sets.proofs.count.Goals as goal

pub returns : goal.returns
returns c = members-count c.args.m c.ranges.m.fits

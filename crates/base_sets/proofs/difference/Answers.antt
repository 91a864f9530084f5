-- `base_sets::difference` meets its contract. Assumes nothing.
use Rattle.base_sets.proofs.Members.{members-but}
use Rattle.base_sets.proofs.difference.Goals as goal

pub returns : goal.returns
returns c = members-but c.args.a c.args.b c.ranges.b.fits

-- `base_sets::is_empty` meets its contract. Assumes nothing.
use Rattle.base_sets.proofs.Members.{none-test}
use Rattle.base_sets.proofs.is_empty.Goals as goal

pub returns : goal.returns
returns c = none-test c.args.m c.ranges.m.fits

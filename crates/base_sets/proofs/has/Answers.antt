-- `base_sets::has` meets its contract. Assumes nothing.
use mathlib.Core.Path.{sym}
use Rattle.base_sets.specs.Sets.{is_odd, has}
use Rattle.base_sets.proofs.Members.{has-elem}
use Rattle.base_sets.proofs.has.Goals as goal

pub returns : goal.returns
unfolding has is_odd
returns c = sym (has-elem c.args.m c.args.i c.requires)

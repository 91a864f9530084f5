-- `base_sets::single` meets its contract. Assumes nothing.
use mathlib.Core.Path.{ap, ◌∙◌}
use Rattle.base_sets.specs.Sets.{members}
use Rattle.base_sets.proofs.Members.{members-single, bit_is}
use Rattle.base_sets.proofs.single.Goals as goal

pub returns : goal.returns
returns c = ap members (bit_is c.args.i c.requires) ∙ members-single c.args.i c.requires

-- `base_sets::is_single` meets its contract. Assumes nothing.
use mathlib.Core.Path.{ap, ◌∙◌}
use Prim.Native.Nat.{ℕ}
use lib.Dec.{eqb}
use Rattle.base_sets.specs.Sets.{members}
use Rattle.base_sets.proofs.Members.{members-count, one-test}
use Rattle.base_sets.proofs.is_single.Goals as goal

pub returns : goal.returns
returns c = ap (λ (n : ℕ). eqb n 1) (members-count c.args.m c.ranges.m.fits) ∙ one-test (members c.args.m)

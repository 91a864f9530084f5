-- `base_sets::with` meets its contract. Assumes nothing.
use mathlib.Core.Path.{ap, ◌∙◌}
use Prim.Native.Nat.{ℕ}
use lib.Bits.{bit_or}
use Rattle.base_sets.specs.Sets.{members}
use Rattle.base_sets.proofs.Members.{members-with, bit_is}
use Rattle.base_sets.proofs.with.Goals as goal

pub returns : goal.returns
returns c = ap (λ (n : ℕ). members (bit_or c.args.m n)) (bit_is c.args.i c.requires) ∙ members-with c.args.m c.args.i c.requires

-- `base_sets::without` meets its contract. Assumes nothing.
use mathlib.Core.Path.{ap, ◌∙◌}
use Prim.Native.Nat.{ℕ, ◌-◌, ◌^◌}
use lib.Bits.{bit_and}
use Rattle.base_sets.specs.Sets.{members}
use Rattle.base_sets.proofs.Members.{members-without, bit_is, bit-lt}
use Rattle.base_sets.proofs.without.Goals as goal

pub returns : goal.returns
returns c = ap (λ (n : ℕ). members (bit_and c.args.m ((2 ^ 64 - 1) - n))) (bit_is c.args.i c.requires)
    ∙ members-without c.args.m c.args.i (bit-lt c.args.i c.requires)

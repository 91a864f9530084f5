-- `is_called` meets its contract: a part that has a name, and whose name is that one. Assumes nothing.
use mathlib.Core.Path.{sym, ◌∙◌}
use native.Mathlib.Omega.{arith}
use Rattle.walk_states.proofs.Lendings.{called-named, called-none}
use Rattle.walk_states.proofs.is_called.Goals as goal
use Rattle.walk_states.proofs.is_called.Goals.{then-i-lt64, else-i-lt64}

pub returns-then-has : goal.returns-then-has
returns-then-has c h =
    elim c.if-i-lt64.branch [
      | then-i-lt64 w ↦ called-named _ c.args.lent.now.numbers c.args.i c.args.name (sym w.has.ensures ∙ sym w.value-is ∙ c.if-has.true) h
      | else-i-lt64 w ↦ absurd (let z : ⊥ = omega (arith, h, w.if-i-lt64.false) in z)
    ]

pub returns-else-has : goal.returns-else-has
returns-else-has c h =
    elim c.if-i-lt64.branch [
      | then-i-lt64 w ↦ c.if-has.false ∙ called-none _ c.args.lent.now.numbers c.args.i c.args.name (sym w.has.ensures ∙ sym w.value-is ∙ c.if-has.false)
      | else-i-lt64 w ↦ absurd (let z : ⊥ = omega (arith, h, w.if-i-lt64.false) in z)
    ]

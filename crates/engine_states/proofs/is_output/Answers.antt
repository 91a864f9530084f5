-- `is_output` meets its contract: no other kind. Assumes nothing.
use mathlib.Core.Path.{sym}
use native.Mathlib.Omega.{arith}
use Rattle.engine_states.proofs.Deeds.{out-kind, not_out}
use Rattle.engine_states.proofs.is_output.Goals as goal

pub returns-in-1 : goal.returns-in-1
returns-in-1 c s a o = not_out s c.args.kind a o (omega arith) (omega arith)

pub returns-in_default : goal.returns-in_default
returns-in_default c s a o = sym (out-kind s c.args.kind a o (λ e. let z : ⊥ = omega arith in z) (λ e. let z : ⊥ = omega arith in z) (λ e. let z : ⊥ = omega arith in z))

pub returns-in_default-2 : goal.returns-in_default-2
returns-in_default-2 c s a o = sym (out-kind s c.args.kind a o (λ e. let z : ⊥ = omega arith in z) (λ e. let z : ⊥ = omega arith in z) (λ e. let z : ⊥ = omega arith in z))

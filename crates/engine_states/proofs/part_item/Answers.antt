-- `part_item` meets its contract: only actions have items, those of their message from the offset on. Assumes nothing.
use mathlib.Core.Path.{◌∙◌}
use native.Mathlib.Omega.{arith}
use Rattle.engine_bindings.specs.Bindings.{bindings_in}
use Rattle.engine_states.proofs.Heads.{no_item, the-item}
use Rattle.engine_states.proofs.part_item.Goals.{then-kind-ne-ACTION-via-then-kind-ne-ACTION, then-kind-ne-ACTION-via-else-kind-ne-ACTION+then-offset-eq4294967295}
use Rattle.engine_states.proofs.part_item.Goals as goal

pub returns-then-kind-ne-ACTION : goal.returns-then-kind-ne-ACTION
returns-then-kind-ne-ACTION c l = let x = c.args in
    elim c.then-kind-ne-ACTION.branch [
      | then-kind-ne-ACTION-via-then-kind-ne-ACTION w ↦ no_item x.script.now x.kind x.start x.offset (bindings_in x.script.now x.bindings.now) w.if-kind-ne-ACTION.true
      | then-kind-ne-ACTION-via-else-kind-ne-ACTION+then-offset-eq4294967295 w ↦ absurd (let z : ⊥ = omega (arith, w.if-offset-eq4294967295.true) in z)
    ]

pub returns : goal.returns
returns c l = let x = c.args in
    c.first_item.ensures ∙ rw c.wide.ensures (the-item x.script.now x.kind x.start x.offset (bindings_in x.script.now x.bindings.now) c.if-kind-ne-ACTION.false)

-- `part_name` meets its contract: only ambients have a name, that of their message. Assumes nothing.
use mathlib.Core.Path.{◌∙◌}
use Rattle.engine_bindings.specs.Bindings.{bindings_in}
use Rattle.engine_states.proofs.Heads.{no_name, the-name}
use Rattle.engine_states.proofs.part_name.Goals as goal

pub returns-then-kind-ne-AMBIENT : goal.returns-then-kind-ne-AMBIENT
returns-then-kind-ne-AMBIENT c o = let x = c.args in
    no_name x.script.now x.kind x.start o (bindings_in x.script.now x.bindings.now) c.if-kind-ne-AMBIENT.true

pub returns : goal.returns
returns c o = let x = c.args in
    c.name_at.ensures ∙ the-name x.script.now x.kind x.start o (bindings_in x.script.now x.bindings.now) c.if-kind-ne-AMBIENT.false

-- `deed_at` meets its contract: the first item, and what it does. Assumes nothing.
use Rattle.base_sets.specs.Sets.{members, elem}
use Rattle.engine_bindings.specs.Bindings.{bindings_in}
use Rattle.engine_states.specs.Seen.{name_in}
use Rattle.engine_states.proofs.Deeds.{does-is}
use Rattle.engine_states.proofs.deed_at.Goals as goal

pub returns : goal.returns
returns c w m o n = does-is c.args.script.now c.args.kind c.args.start c.args.offset (bindings_in c.args.script.now c.args.bindings.now) w c.part_item-item.result c.kind_deed.result (λ j. elem j (members c.args.outs)) (name_in c.args.names.now.named c.args.names.now.names) (c.part_item-item.ensures m) c.kind_deed.ensures o n

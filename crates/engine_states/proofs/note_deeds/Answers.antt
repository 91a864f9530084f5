-- `note_deeds` meets its contract: the names, then what each part below i does. Assumes nothing.
use mathlib.Core.Path.{◌∙◌}
use Rattle.engine_states.proofs.Deeds.{done_next}
use Rattle.engine_states.proofs.note_deeds.Goals as goal

pub loop-i-preserved : goal.loop-i-preserved
loop-i-preserved c = record {
  named = c.with_deed-l.ensures.names.0 ∙ c.loop-i.invariant.named;
  names = c.with_deed-l.ensures.names.1 ∙ c.loop-i.invariant.names;
  done = λ low. done_next _ _ c.loop-i.i c.loop-i.l c.with_deed-l.result c.deed_at-d.result (c.loop-i.invariant.done low) (c.deed_at-d.ensures _ (low c.loop-i.i) (c.outputs-outs.ensures c.args.script.now c.args.starts.now c.args.offsets.now) (c.name_parts-t.ensures c.args.offsets.now)) c.with_deed-l.ensures.here c.with_deed-l.ensures.others;
}

-- `noted` meets its contract: what is kept is read anew. Assumes nothing.
use mathlib.Core.List.{List}
use mathlib.Core.Path.{refl, subst}
use Rattle.engine_message_words.specs.declared.Binding.{Binding}
use Rattle.engine_bindings.specs.Bindings.{bindings_in}
use Rattle.engine_held_bindings.specs.Held.{bindings_of}
use Rattle.engine_states.specs.Represents.{heads}
use Rattle.engine_states.specs.Seen.{Seen}
use Rattle.engine_states.proofs.noted.Goals as goal

pub returns : goal.returns
unfolding bindings_of
returns c = let x = c.args in record {
  ready = record {
    bound = c.requires;
    seen =
        λ low. subst (λ (bs : List Binding). Seen (bindings_in x.script.now bs) (heads x.script.now x.kinds.now x.starts.now x.offsets) c.note_deeds-notes.result) c.held.ensures (c.note_deeds-notes.ensures low);
  };
  same = (refl, refl, refl);
}

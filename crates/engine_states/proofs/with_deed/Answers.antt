-- `with_deed` meets its contract: one entry of each array, and one member of the set. Assumes nothing.
use mathlib.Core.Path.{◌≡◌, refl}
use native.Mathlib.Omega.{arith}
use lib.ListN.{length, set}
use Rattle.engine_states.specs.declared.PartNotes.{PartNotes}
use Rattle.engine_states.proofs.Deeds.{kept_set, kept-other}
use borrow.Author.Rules.{rules}
use Rattle.engine_states.proofs.with_deed.Goals as goal

pub returns : goal.returns
returns c =
    let x = c.args in
    let m : length x.l.acts ≡ 64 = search rules in
    let n : length x.l.aims ≡ 64 = search rules in
    let r : PartNotes = record { named = x.l.named; names = x.l.names; acts = set x.l.acts x.i x.d.act; aims = set x.l.aims x.i x.d.aim; busy = c.with_if.result } in
    let b = rw c.without.ensures at c.with_if.ensures in
    record {
      here = kept_set x.l r x.i x.d (omega (arith, c.requires)) (omega (arith, c.requires)) refl refl b;
      others = kept-other x.l r x.i x.d refl refl b;
      names = (refl, refl);
    }

-- `receive_part` meets its contract: the state is borrowed, its variable is bound, and it is lent and settled. Assumes nothing.
use mathlib.Core.Path.{◌≡◌, ◌∙◌}
use lib.ListN.{length}
use Rattle.engine_moves.proofs.LentMoves.{lends-bodies, bound-lends, receipt-made}
use borrow.Author.Rules.{rules}
use Rattle.engine_moves.proofs.receive_part.Goals as goal

pub returns : goal.returns
returns c =
    let x = c.args in
    let L = c.requires.3 in
    let y = c.from_arrays-b.ensures L.small in
    let b = c.from_arrays-b.result in
    let z = c.to_arrays.ensures in
    let l = c.to_arrays.result in
    let u = c.settle.ensures in
    let s₂ = c.settle.new.sets in
    let long : length l.sets ≡ 131 = search rules in
    let wide : length l.numbers ≡ 481 = search rules in record {
      lends = lends-bodies x.script.now l.sets s₂ l.numbers (bound-lends x.script.now x.lent.now.sets x.lent.now.numbers l.sets l.numbers s₂ b.kinds b.starts b.state c.received-s.result L y.0 y.1 y.2 long wide z.tables.0 z.tables.1 z.tables.2 z.state c.received-s.ensures.ready) u.kept u.same;
      table = (z.tables.0 ∙ y.0, z.tables.1 ∙ y.1);
      made = receipt-made x.script.now x.lent.now.sets x.lent.now.numbers l.sets l.numbers s₂ b.kinds b.starts b.state c.received-s.result L y.0 y.1 y.2 long wide z.tables.0 z.tables.1 z.tables.2 z.state c.received-s.ensures.ready u.settled x.p x.a x.t c.requires.0 c.received-s.ensures.bound;
    }

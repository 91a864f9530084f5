-- `open_part` meets its contract: the sets are changed, the item is spent, what stands is settled. Assumes nothing.
use mathlib.Core.Path.{refl, ap, ◌∙◌}
use native.Mathlib.Omega.{arith}
use lib.ListN.{get_or, set}
use Rattle.base_sets.specs.Sets.{members, joined}
use Rattle.engine_moves.proofs.LentMoves.{lends-bodies, lends-set, opened}
use Rattle.engine_moves.proofs.open_part.Goals as goal

pub spend-requires : goal.spend-requires
spend-requires c = (c.requires.1, lends-set c.args.script.now c.args.lent.now.sets c.args.lent.now.numbers c.args.p c.union.result c.requires.0 c.requires.3)

pub returns-clause-lends : goal.returns-clause-lends
returns-clause-lends c = lends-bodies c.args.script.now c.spend.new.lent.sets c.settle.new.sets c.spend.new.lent.numbers c.spend.ensures.lends c.settle.ensures.kept c.settle.ensures.same

pub returns-clause-made : goal.returns-clause-made
returns-clause-made c =
    let x = c.args in
    let y = c.spend.ensures in
    let s = x.lent.now.sets in
    let n = x.lent.now.numbers in
    opened x.script.now s n (set s x.p c.union.result) c.spend.new.lent.sets c.spend.new.lent.numbers c.settle.new.sets c.requires.3 y.lends y.table.0 y.table.1 y.same.0 y.same.1 c.settle.ensures.settled x.a c.requires.1 y.raised
    x.p x.t c.union.result c.requires.0 (omega (arith, c.requires.2)) refl (c.union.ensures ∙ ap (joined (members (get_or s x.t 0))) c.without.ensures)

-- `carry` meets its contract: the sets are changed, the item is spent, what stands is settled. Assumes nothing.
use mathlib.Core.Path.{refl}
use lib.ListN.{set}
use Rattle.engine_moves.proofs.LentMoves.{lends-bodies, lends-set, entered, left}
use Rattle.engine_moves.proofs.carry.Goals as goal

pub spend-requires : goal.spend-requires
spend-requires c = let x = c.args in
    let s = x.lent.now.sets in
    let n = x.lent.now.numbers in
    (c.requires.3, lends-set x.script.now (set s x.from c.without.result) n x.into c.with.result c.requires.2 (lends-set x.script.now s n x.from c.without.result c.requires.1 c.requires.4))

pub returns : goal.returns
returns c =
    let x = c.args in
    let L = c.requires.4 in
    let y = c.spend.ensures in
    let z = c.settle.ensures in
    let s = x.lent.now.sets in
    let n = x.lent.now.numbers in
    let s₁ = set (set s x.from c.without.result) x.into c.with.result in
    let s₂ = c.spend.new.lent.sets in
    let n₂ = c.spend.new.lent.numbers in
    let s₃ = c.settle.new.sets in record {
      lends = lends-bodies x.script.now s₂ s₃ n₂ y.lends z.kept z.same;
      table = y.table;
      entered = entered x.script.now s n s₁ s₂ n₂ s₃ L y.lends y.table.0 y.table.1 y.same.0 y.same.1 z.settled x.a c.requires.3 y.raised
          x.p x.from x.into c.without.result c.with.result c.requires.1 c.requires.2 refl c.without.ensures c.with.ensures;
      left = left x.script.now s n s₁ s₂ n₂ s₃ L y.lends y.table.0 y.table.1 y.same.0 y.same.1 z.settled x.a c.requires.3 y.raised
          x.p x.from x.into c.without.result c.with.result c.requires.1 c.requires.2 refl c.without.ensures c.with.ensures;
    }

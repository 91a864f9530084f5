-- `engine_first_items::first_item` meets its contract: the search always stands where the same item is found. Assumes nothing.
use borrow.Author.Rules.{rules}
use mathlib.Core.Path.{refl}
use Rattle.engine_bindings.proofs.Counting.{rank_less}
use Rattle.engine_bindings.proofs.Passing.{behind-less}
use Rattle.engine_first_items.proofs.Searching.{stands-first, finds-none, variable-fewer, variable-stands, stands_here, behind-stands}
use Rattle.engine_first_items.proofs.first_item.Goals as goal

pub loop-s-init : goal.loop-s-init
loop-s-init c = search (stands-first, rules)

pub loop-s-smaller-in-Some : goal.loop-s-smaller-in-Some
loop-s-smaller-in-Some c = search (variable-fewer, rules)

pub loop-s-preserved-in-Some : goal.loop-s-preserved-in-Some
loop-s-preserved-in-Some c = search (variable-stands, rules)

pub returns-then-s-own : goal.returns-then-s-own
returns-then-s-own c = stands_here _ _ _ c.loop-s.invariant c.loop-s-test.true _ c.first_word-m.ensures c.in_default.ensures.newest _ c.shape_of-own.ensures c.if-s-own.true _ c.tail-then-s-own.ensures _ c.name_of.ensures _ c.plain_item.ensures

pub loop-s-smaller : goal.loop-s-smaller
loop-s-smaller c = rank_less _ _ _ _ refl (behind-less _ _ _ c.after_own-b.ensures _ c.tail-s.ensures _ refl)

pub loop-s-preserved : goal.loop-s-preserved
loop-s-preserved c = behind-stands _ _ _ c.loop-s.invariant c.loop-s-test.true _ c.first_word-m.ensures c.in_default.ensures.newest _ c.shape_of-own.ensures c.if-s-own.false c.after_own-b.result c.after_own-b.ensures _ (record { words = c.tail-s.ensures; pending = refl; ahead = refl; bindings = refl })

pub returns : goal.returns
returns c = search (finds-none, rules)

-- `move_fits` meets its contract: the four tests of question 15. Assumes nothing.
use Prim.Native.Nat.{ℕ, ◌/◌, ◌%◌, ◌≤◌, ◌<◌}
use mathlib.Core.Bool.{false}
use mathlib.Core.Path.{◌≡◌, sym}
use lib.Dec.{ltb}
use borrow.Author.Tests.{eq-eqb, ne_eqb, lt-ltb, le-ltb}
use Rattle.read_messages.specs.Words.{kind, operand}
use Rattle.theory_call.specs.Call.{move_fits, actor, target}
use borrow.Author.Rules.{rules}
use Rattle.call_lists.proofs.move_fits.Goals as goal

module _ (parts w : ℕ) (e : w / 268435456 ≡ 1) where
  large : 65536 ≤ w % 268435456 → false ≡ move_fits parts w
  unfolding move_fits kind operand
  large h = sym (rw (eq-eqb _ 1 e, le-ltb _ 65536 h))

  no-actor : (a : ℕ) → w % 268435456 < 65536 → a ≡ actor w → parts ≤ a → false ≡ move_fits parts w
  unfolding move_fits kind operand
  no-actor a h f g = sym (rw (eq-eqb _ 1 e, lt-ltb _ 65536 h, ← f, le-ltb _ _ g))

  by-target : (a t : ℕ) → w % 268435456 < 65536 → a ≡ actor w → a < parts → t ≡ target w → ltb t parts ≡ move_fits parts w
  unfolding move_fits kind operand
  by-target a t h f g i = sym (rw (eq-eqb _ 1 e, lt-ltb _ 65536 h, ← f, lt-ltb _ _ g, ← i))

pub returns-then-w-ne1 : goal.returns-then-w-ne1
unfolding move_fits kind operand
returns-then-w-ne1 c = sym (rw (ne_eqb _ 1 c.if-w-ne1.true))

pub returns-then-w-ge65536 : goal.returns-then-w-ge65536
returns-then-w-ge65536 c = search (large, rules)

pub returns-then-actor_of-parts : goal.returns-then-actor_of-parts
returns-then-actor_of-parts c = search (no-actor, rules)

pub returns : goal.returns
returns c = search (by-target, rules)

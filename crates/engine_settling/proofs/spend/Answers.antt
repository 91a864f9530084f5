-- `spend` meets its contract: the actor alone is read anew. Assumes nothing.
use Prim.Native.Nat.{ℕ, ◌+◌, ◌<◌}
use mathlib.Core.Bool.{Bool, cond}
use mathlib.Core.List.{List}
use mathlib.Core.Path.{◌≡◌, refl, sym, ap, ◌∙◌, subst}
use native.Mathlib.Omega.{arith}
use lib.ListN.{get_or}
use Rattle.base_sets.specs.Sets.{members, elem, removed, inserted}
use Rattle.engine_states.specs.Seen.{name_in, act_of, aim_of, busy_of}
use Rattle.base_arrays.specs.Stretches.{stretch}
use Rattle.base_arrays.proofs.Copying.{get_or-stretch}
use Rattle.engine_state_arrays.proofs.Standing.{spent-kids, kinds_kept, starts-kept, spent-bindings, offsets-raised, spent-lends}
use borrow.Author.Rules.{rules}
use Rattle.engine_settling.proofs.spend.Goals.{then-lent-a-via-then-lent-a, then-lent-a-via-else-lent-a+then-offset}
use Rattle.engine_settling.proofs.spend.Goals as goal

-- a part's kind, in the table and in the numbers
kind-in : (numbers : List ℕ) (a : ℕ) → a < 64 → get_or (stretch 0 64 numbers) a 0 ≡ get_or numbers a 0
kind-in numbers a low = let e : 0 + a ≡ a = omega arith in get_or-stretch 0 64 a numbers low ∙ ap (λ (x : ℕ). get_or numbers x 0) e

pub returns-then-lent-a-clause-raised : goal.returns-then-lent-a-clause-raised
returns-then-lent-a-clause-raised c e l =
    elim c.then-lent-a.branch [
      | then-lent-a-via-then-lent-a w ↦ absurd (w.if-lent-a.true (sym (kind-in c.args.lent.now.numbers c.args.a c.requires.0) ∙ e))
      | then-lent-a-via-else-lent-a+then-offset w ↦ absurd (let z : ⊥ = omega (arith, w.if-offset.true, get_or-stretch 128 64 c.args.a c.args.lent.now.numbers c.requires.0) in z)
    ]

pub returns : goal.returns
returns c =
    let d = c.item_deed-d.result in
    let s = c.args.lent.now.sets in
    let n = c.args.lent.now.numbers in
    let a = c.args.a in
    let low = c.requires.0 in
    let L = c.requires.1 in
    let o = get_or n (128 + a) 0 + 1 in
    let busy = c.with_if.result in
    let item = c.item_under-item.result in
    let eb : members busy ≡ cond d.busy (inserted a (removed a (members (get_or s 130 0)))) (removed a (members (get_or s 130 0))) = c.with_if.ensures ∙ ap (λ (l : List ℕ). cond d.busy (inserted a l) l) c.without.ensures in
    let deed : (p : Bool) → (d.act ≡ act_of 2 item) × ((i : ℕ) → i < 64 → elem i (members d.aim) ≡ aim_of 2 item p (name_in (get_or s 129 0) (stretch 192 64 n) i)) × (d.busy ≡ busy_of 2 item) =
    λ p. subst (λ (l : List ℕ). (d.act ≡ act_of 2 item) × ((i : ℕ) → i < 64 → elem i (members d.aim) ≡ aim_of 2 item p (name_in (get_or s 129 0) l i)) × (d.busy ≡ busy_of 2 item)) (c.stretch.ensures 0) (c.item_deed-d.ensures p) in
    let fits : d.act < 256 = search rules in record {
      lends = spent-lends s n a o d.act d.aim busy low L.sets-long L.numbers-long c.args.script.now L d item c.if-lent-a.false refl refl refl eb fits c.item_under-item.ensures deed;
      table = (kinds_kept s n a o d.act d.aim busy low L.sets-long L.numbers-long, starts-kept s n a o d.act d.aim busy low L.sets-long L.numbers-long);
      same = (spent-kids s n a o d.act d.aim busy low L.sets-long L.numbers-long, spent-bindings s n a o d.act d.aim busy low L.sets-long L.numbers-long);
      raised = λ e l. offsets-raised s n a o d.act d.aim busy low L.sets-long L.numbers-long c.args.script.now L d item c.if-lent-a.false refl refl refl eb fits c.item_under-item.ensures deed;
    }

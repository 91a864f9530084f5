-- What holds of the trees that the checker meets, and is kept by moves, divisions, insides and PLACED. Assumes nothing.
use Prim.Native.Nat.{ℕ, suc, ◌+◌, ◌≤◌}
use mathlib.Core.Bool.{false}
use mathlib.Core.List.{List, [], ◌∷◌, ◌++◌}
use mathlib.Core.Path.{◌≡◌, refl}
use mathlib.Core.Option.{some}
use native.Mathlib.Omega.{arith}
use lib.Dec.{eqb, ltb}
use borrow.Author.Tests.{eqb-true, ne_eqb}
use Rattle.read_messages.specs.Message.{Message, name, variable, enter, exit, opens, empty_message, path, items, substitute_items, mentions}
use Rattle.read_messages.specs.Message as message
use Rattle.read_scripts.specs.Tree.{Head, close, part, one_if, is_ambient, total_over, times_in, put, merge_parts, settle_by, bare, PlainHead, Plain, settle}
use Rattle.theory_machine.specs.Moves.{MoveMade, spent_head}
use Rattle.theory_machine.specs.PlainMachine.{rest, substitute_head, substitute_body, plain, move}
use Rattle.base_slices.proofs.Tests.{by_test}
use Rattle.theory_machine.proofs.Inversion.{move-inv}
use Rattle.theory_machine.proofs.Sums.{map-total, Shrinks, made-total, move-total}
use Rattle.theory_calculus.specs.Satisfaction.{Divided, wrapped}
use Rattle.theory_calculus.specs.Order.{HasPart}
use Rattle.theory_calculus.specs.Calculus.{ambient}
use Rattle.theory_calculus.specs.TreeProcess.{piece, process}
use Rattle.theory_calculus.proofs.Variables.{free}
use Rattle.theory_calculus.proofs.Substitutions.{Closed, closed-cong, closed-both, closed-ambient, reduction-closed}
use Rattle.theory_calculus.proofs.Divisions.{Item, Settled, closed, settled-ambient, SettledPart, ambient-part, action-part, receipt-part, output-part, settled-part, settled-rest, settled-join, settled-inside, divided-settled, divided-congruent}
use Rattle.theory_calculus.proofs.Picks.{part-total, divided-total, part-process, part-settled}
use Rattle.theory_calculus.proofs.Processes.{Distinct, Once, binds, times-shrinks}
use Rattle.theory_calculus.proofs.Reductions.{move-reduces}

-- one where the message is no item
unfoldable pub compound : Message → ℕ
compound (name n) = 0
compound (variable v) = 0
compound (enter m) = 0
compound (exit m) = 0
compound (opens m) = 0
compound empty_message = 1
compound (path m k) = 1

unfoldable pub compounds : List Message → ℕ
compounds [] = 0
compounds (i ∷ is) = compound i + compounds is

-- what an action holds and is no item
unfoldable pub untidy : PlainHead → ℕ
untidy (Head.ambient m) = 0
untidy (Head.action is) = compounds is
untidy (Head.receipt v) = 0
untidy (Head.output m) = 0

compounds-append : (is js : List Message) → compounds (is ++ js) ≡ compounds is + compounds js
unfolding compounds
compounds-append [] js = omega arith
compounds-append (i ∷ is) js = omega (arith, compounds-append is js)

pub compounds-items : (m : Message) → compounds (items m) ≡ 0
unfolding compounds compound items
compounds-items (name n) = refl
compounds-items (variable v) = refl
compounds-items (enter m) = refl
compounds-items (exit m) = refl
compounds-items (opens m) = refl
compounds-items empty_message = refl
compounds-items (path m k) = omega (arith, compounds-append (items m) (items k), compounds-items m, compounds-items k)

compounds-substitute : (v : ℕ) (m : Message) (is : List Message) → compounds (substitute_items v m is) ≡ 0
unfolding compounds substitute_items
compounds-substitute v m [] = refl
compounds-substitute v m (i ∷ is) =
    let j : Message = message.substitute v m i in
    omega (arith, compounds-append (items j) (substitute_items v m is), compounds-items j, compounds-substitute v m is)

compound-item : (i : Message) → compound i ≡ 0 → Item i
unfolding compound items
compound-item (name n) z = refl
compound-item (variable v) z = refl
compound-item (enter m) z = refl
compound-item (exit m) z = refl
compound-item (opens m) z = refl
compound-item empty_message z = absurd (omega arith)
compound-item (path m k) z = absurd (omega arith)

-- a settled tree
put-settled : (k : ℕ) (h : PlainHead) (i b : Plain) → SettledPart h i → Settled b → Settled (put k h i b)
unfolding put
put-settled k h i close w s = settled-join w s
put-settled k h i (part l g c r) w s = by_test (ltb k l) (λ t. rw t (settled-join w s))
    (λ t. by_test (eqb k l) (λ u. rw (t, u) s) (λ u. rw (t, u) (settled-join (settled-part s) (put-settled k h i r w (settled-rest s)))))

merge-settled : (b c : Plain) → Settled b → Settled c → Settled (merge_parts b c)
unfolding merge_parts
merge-settled close c w s = s
merge-settled (part k h b r) c w s = put-settled k h b (merge_parts r c) (settled-part w) (merge-settled r c (settled-rest w) s)

settle_by-settled : (b : Plain) → total_over (λ k h. untidy h) b ≡ 0 → Settled (settle_by bare b)
unfolding settle_by bare is_ambient total_over untidy compounds
settle_by-settled close z = closed
settle_by-settled (part k (Head.ambient m) b r) z = put-settled k (Head.ambient m) (settle_by bare b) (settle_by bare r) (ambient-part (settle_by-settled b (omega arith))) (settle_by-settled r (omega arith))
settle_by-settled (part k (Head.action []) b r) z = merge-settled (settle_by bare b) (settle_by bare r) (settle_by-settled b (omega arith)) (settle_by-settled r (omega arith))
settle_by-settled (part k (Head.action (i ∷ is)) b r) z = put-settled k (Head.action (i ∷ is)) b (settle_by bare r) (action-part (compound-item i (omega arith))) (settle_by-settled r (omega arith))
settle_by-settled (part k (Head.receipt v) b r) z = put-settled k (Head.receipt v) b (settle_by bare r) receipt-part (settle_by-settled r (omega arith))
settle_by-settled (part k (Head.output m) b r) z = put-settled k (Head.output m) b (settle_by bare r) output-part (settle_by-settled r (omega arith))

-- THEOREM: what is settled is settled, where actions hold items.
pub settle-settled : (b : Plain) → total_over (λ k h. untidy h) b ≡ 0 → Settled (settle b)
unfolding settle
settle-settled b z = settle_by-settled b z

-- a sum over heads that a spent item and a delivered message don't make greater
total-less : (u w : PlainHead → ℕ) → ((h : PlainHead) → u h ≤ w h) → (b : Plain) → total_over (λ k h. u h) b ≤ total_over (λ k h. w h) b
unfolding total_over
total-less u w l close = omega arith
total-less u w l (part k h b r) = omega (arith, l h, total-less u w l b, total-less u w l r)

by_heads : (u : PlainHead → ℕ) → ((h : PlainHead) → u (spent_head plain h) ≤ u h) → ((v : ℕ) (m : Message) (h : PlainHead) → u (substitute_head v m h) ≤ u h) → Shrinks plain (λ k h. u h) 0
unfolding substitute_body
by_heads u s l = record {
  spends = λ k h. s h;
  delivers = λ v m b. omega (arith, map-total (λ k h. u h) (substitute_head v m) b, total-less (λ h. u (substitute_head v m h)) u (l v m) b);
  takes = λ k l v m. omega arith;
}

binds-spent : (v : ℕ) (h : PlainHead) → binds v (spent_head plain h) ≤ binds v h
unfolding binds spent_head
binds-spent v (Head.ambient m) = omega arith
binds-spent v (Head.action is) = omega arith
binds-spent v (Head.receipt u) = omega arith
binds-spent v (Head.output m) = omega arith

binds-substitute : (v u : ℕ) (m : Message) (h : PlainHead) → binds v (substitute_head u m h) ≤ binds v h
unfolding binds substitute_head
binds-substitute v u m (Head.ambient n) = omega arith
binds-substitute v u m (Head.action is) = omega arith
binds-substitute v u m (Head.receipt w) = omega arith
binds-substitute v u m (Head.output n) = omega arith

pub binds-shrinks : (v : ℕ) → Shrinks plain (λ k h. binds v h) 0
binds-shrinks v = by_heads (binds v) (binds-spent v) (binds-substitute v)

compounds-rest : (is : List Message) → compounds (rest is) ≤ compounds is
unfolding compounds rest
compounds-rest [] = omega arith
compounds-rest (i ∷ is) = omega arith

untidy-spent : (h : PlainHead) → untidy (spent_head plain h) ≤ untidy h
unfolding untidy spent_head
untidy-spent (Head.ambient m) = omega arith
untidy-spent (Head.action is) = compounds-rest is
untidy-spent (Head.receipt u) = omega arith
untidy-spent (Head.output m) = omega arith

untidy-substitute : (u : ℕ) (m : Message) (h : PlainHead) → untidy (substitute_head u m h) ≤ untidy h
unfolding untidy substitute_head
untidy-substitute u m (Head.ambient n) = omega arith
untidy-substitute u m (Head.action is) = omega (arith, compounds-substitute u m is)
untidy-substitute u m (Head.receipt w) = omega arith
untidy-substitute u m (Head.output n) = omega arith

untidy-shrinks : Shrinks plain (λ k h. untidy h) 0
untidy-shrinks = by_heads untidy untidy-spent untidy-substitute

-- A tree that is settled, its actions held as items, its parts numbered apart and below n, its receipts' variables apart,
-- and no variable free.
pub record Good (n : ℕ) (b : Plain) : Type 0 where
  pub settled : Settled b
  pub itemised : total_over (λ k h. untidy h) b ≡ 0
  pub distinct : Distinct b
  pub below : (k : ℕ) → n ≤ k → times_in k b ≡ 0
  pub once : Once b
  pub unbound : Closed (process b)

-- what is less in every sum is good too
good-less : (n : ℕ) (b c : Plain) → Good n b → Settled c → Closed (process c) → ((f : ℕ → PlainHead → ℕ) → Shrinks plain f 0 → total_over f c ≤ total_over f b) → Good n c
good-less n b c g s o l = record {
  settled = s;
  itemised = omega (arith, l _ untidy-shrinks, g.itemised);
  distinct = λ k. omega (arith, l _ (times-shrinks k), g.distinct k);
  below = λ k h. omega (arith, l _ (times-shrinks k), g.below k h);
  once = λ v. omega (arith, l _ (binds-shrinks v), g.once v);
  unbound = o;
}

moved-settled : (b : Plain) (a t : ℕ) (m : MoveMade (List Message)) → total_over (λ k h. untidy h) b ≡ 0 → move a t b ≡ some m → Settled m.body
moved-settled b a t m z e = let x = move-inv a t b m e in rw x.2 (settle-settled x.0 (omega (arith, made-total plain (λ k h. untidy h) 0 untidy-shrinks a t x.1)))

pub good-move : (n : ℕ) (b : Plain) (a t : ℕ) (m : MoveMade (List Message)) → Good n b → move a t b ≡ some m → Good n m.body
good-move n b a t m g e =
    good-less n b m.body g (moved-settled b a t m g.itemised e) (reduction-closed (move-reduces a t b m g.distinct g.once e) g.unbound)
    (λ f w. omega (arith, move-total f 0 w a t b m e))

pub good-divided : (n : ℕ) (b c d : Plain) → Good n b → Divided b c d → Good n c × Good n d
good-divided n b c d g x =
    let s = divided-settled x g.settled in
    let o = closed-both (process c) (process d) (closed-cong (divided-congruent x) g.unbound) in
    (good-less n b c g s.0 o.0 (λ f w. omega (arith, divided-total f x)), good-less n b d g s.1 o.1 (λ f w. omega (arith, divided-total f x)))

pub good-part : (n : ℕ) (b c i : Plain) (k : ℕ) (m : Message) → Good n b → HasPart b k (Head.ambient m) i c → Good n i
unfolding piece
good-part n b c i k m g p =
    good-less n b i g (settled-inside (part-settled p g.settled))
    (closed-ambient m (process i) (closed-both (ambient m (process i)) (process c) (closed-cong (part-process p) g.unbound)).0) (λ f w. omega (arith, part-total f p))

pub good_placed : (n k j : ℕ) (b : Plain) → Good n b → n ≤ k → Good (suc k) (wrapped k j b)
unfolding total_over untidy binds process piece free mentions
good_placed n k i b g l = record {
  settled = settled-ambient g.settled closed;
  itemised = omega (arith, g.itemised);
  distinct = λ j. apart j;
  below = λ j h. omega (arith, g.below j (omega arith), other j (ne_eqb j k (λ e. omega arith)));
  once = λ v. omega (arith, g.once v);
  unbound = λ v. omega (arith, g.unbound v);
}
  where
    other : (j : ℕ) → eqb j k ≡ false → one_if (eqb j k) ≡ 0
    other j e = rw e

    apart : (j : ℕ) → one_if (eqb j k) + (times_in j b + 0) ≤ 1
    apart j = by_test (eqb j k)
        (λ t. let e : j ≡ k = eqb-true j k t in rw t (omega (arith, g.below j (omega arith))))
        (λ t. rw t (omega (arith, g.distinct j)))

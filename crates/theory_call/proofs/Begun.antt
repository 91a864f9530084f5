-- The tree that a script begins with is good: settled, its parts numbered apart and below the number of parts, its receipts'
-- variables apart, and no variable free; and it represents what is written. Assumes nothing.
use Prim.Native.Nat.{ℕ, ◌+◌, ◌≤◌}
use mathlib.Core.Bool.{cond}
use mathlib.Core.List.{List}
use mathlib.Core.Path.{◌≡◌, refl, sym, subst}
use native.Mathlib.Omega.{arith}
use lib.Dec.{eqb}
use borrow.Author.Tests.{eqb-false, ne_eqb}
use Rattle.read_messages.specs.Reading.{Cursor, got}
use Rattle.read_messages.specs.Message.{Message}
use Rattle.read_scripts.specs.Tree.{Head, close, part, one_if, total_over, parts, times_in, map_heads, bare, settle}
use Rattle.read_scripts.specs.Script.{Written, Script, read_script, head_with_items, with_items, started}
use Rattle.read_scripts.proofs.Numbers.{Range, numbered-range}
use Rattle.read_scripts.proofs.Scopes.{receives, uses, receipts_of, loose_in, script-bound}
use Rattle.read_scripts.proofs.Tabled.{script-tabled, script-number}
use Rattle.base_slices.proofs.Tests.{by_test}
use Rattle.theory_machine.proofs.Sums.{map-total, settle-total}
use Rattle.theory_calculus.specs.Calculus.{Process, action, ◌≅◌}
use Rattle.theory_calculus.specs.TreeProcess.{piece, process}
use Rattle.theory_calculus.specs.Written.{written}
use Rattle.theory_calculus.proofs.Variables.{free}
use Rattle.theory_calculus.proofs.Congruences.{action-items}
use Rattle.theory_calculus.proofs.Substitutions.{free-cong, closed-cong}
use Rattle.theory_calculus.proofs.Processes.{binds, bindings, settle-process}
use Rattle.theory_calculus.proofs.Writings.{started-written}
use Rattle.theory_calculus.proofs.Kept.{Good, compounds-items, untidy, settle-settled}
use Rattle.theory_calculus.specs.Calculus as calculus

-- ---- variables

head-held : (v : ℕ) (h : Head Message) → (binds v (head_with_items h) ≡ one_if (receives v h)) × (untidy (head_with_items h) ≡ 0)
unfolding head_with_items binds untidy
head-held v (Head.ambient m) = (refl, refl)
head-held v (Head.action m) = (refl, compounds-items m)
head-held v (Head.receipt u) = (refl, refl)
head-held v (Head.output m) = (refl, refl)

-- what is held is tidy, and its variables are the script's
none-untidy : (b : Script) → total_over (λ k h. untidy h) (with_items b) ≡ 0
unfolding with_items map_heads total_over
none-untidy close = refl
none-untidy (part k w b r) = omega (arith, (head-held 0 w.head).1, none-untidy b, none-untidy r)

held-bindings : (v : ℕ) (b : Script) → bindings v (with_items b) ≡ receipts_of v b
unfolding with_items map_heads total_over
held-bindings v close = refl
held-bindings v (part k w b r) = omega (arith, (head-held v w.head).0, held-bindings v b, held-bindings v r)

free-piece : (v : ℕ) (h : Head Message) (p : Process) (n : ℕ) → free v p ≤ n → free v (piece (head_with_items h) p) ≤ uses v h + cond (receives v h) 0 n
unfolding head_with_items piece free
free-piece v (Head.ambient m) p n l = omega arith
free-piece v (Head.action m) p n l = omega (arith, free-cong v (action-items m {p = p}))
free-piece v (Head.receipt u) p n l = by_test (eqb u v)
    (λ t. rw t (omega arith))
    (λ t. rw (t, ne_eqb v u (λ e. eqb-false u v t (sym e))) (omega arith))
free-piece v (Head.output m) p n l = omega arith

free-held : (v : ℕ) (b : Script) → free v (process (with_items b)) ≤ loose_in v b
unfolding with_items map_heads process free loose_in
free-held v close = omega arith
free-held v (part k w b r) = omega (arith, free-piece v w.head (process (with_items b)) (loose_in v b) (free-held v b), free-held v r)

-- ---- the tree

-- how often a number stands in the script's tree as it is held
held-range : (ws : List ℕ) (p : Script × Cursor) → read_script ws ≡ got p → (j : ℕ) → Range j 0 (0 + parts p.0) (times_in j (with_items p.0))
unfolding with_items
held-range ws p e j =
    subst (Range j 0 (0 + parts p.0)) (sym (map-total (λ i h. one_if (eqb j i)) (λ (w : Written). head_with_items w.head) p.0)) (numbered-range j 0 p.0 (script-tabled ws p e).numbered)

-- THEOREM: the process of the tree that a script begins with is the script's as it is written, up to structural congruence.
pub script-written : (ws : List ℕ) (p : Script × Cursor) → read_script ws ≡ got p → process (started p.0) ≅ written p.0
script-written ws p e = started-written p.0 (λ j. (held-range ws p e j).once)

-- THEOREM: the tree that a script begins with is good, its numbers below the number of its parts.
pub script-good : (ws : List ℕ) (p : Script × Cursor) → read_script ws ≡ got p → Good p.1.number (started p.0)
unfolding started settle with_items
script-good ws p e =
    let n : p.1.number ≡ parts p.0 = script-number ws p e in
    let held : (j : ℕ) → Range j 0 (0 + parts p.0) (times_in j (with_items p.0)) = held-range ws p e in
    record {
      settled = settle-settled (with_items p.0) (none-untidy p.0);
      itemised = omega (arith, settle-total (λ k h. untidy h) bare (with_items p.0), none-untidy p.0);
      distinct = λ k. omega (arith, settle-total (λ i h. one_if (eqb k i)) bare (with_items p.0), (held k).once);
      below = λ k h. omega (arith, settle-total (λ i h. one_if (eqb k i)) bare (with_items p.0), (held k).over (omega arith));
      once = λ v. omega (arith, settle-total (λ i h. binds v h) bare (with_items p.0), held-bindings v p.0, (script-bound ws p e v).0);
      unbound = closed-cong (calculus.StructSymm (settle-process (with_items p.0) (λ k. (held k).once))) (λ v. omega (arith, free-held v p.0, (script-bound ws p e v).1));
    }

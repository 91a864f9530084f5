-- The closure that a script begins with: it unfolds to the plain machine's tree, and the invariant holds of it.
-- Assumes nothing.
use Prim.Native.Nat.{ℕ, ◌≤◌}
use mathlib.Core.List.{List, []}
use mathlib.Core.Path.{◌≡◌, refl, sym, ap, ◌∙◌}
use native.Mathlib.Omega.{arith}
use lib.Dec.{eqb}
use Rattle.read_messages.specs.Reading.{Cursor, got}
use Rattle.read_messages.specs.Message.{Message}
use Rattle.read_scripts.specs.Tree.{Head, ambient, action, receipt, output, close, part, one_if, total_over, times_in, map_heads, settle}
use Rattle.read_scripts.specs.Script.{Written, Script, read_script, head_with_items, with_items, started}
use Rattle.read_scripts.proofs.Numbers.{numbered-range}
use Rattle.read_scripts.proofs.Scopes.{receives, uses, receipts_of, loose_in, script-bound}
use Rattle.read_scripts.proofs.Tabled.{script-tabled}
use Rattle.theory_closures.specs.Resolve.{resolve}
use Rattle.theory_closures.proofs.Substitution.{New}
use Rattle.theory_machine.proofs.Sums.{map-total}
use Rattle.theory_closures.specs.Closure.{items_left, settle_under, unfold_head, unfolded, whole_head, closure_of}
use Rattle.theory_closures.proofs.Tallies.{tally_of}
use Rattle.theory_closures.proofs.Invariant.{mentions_in, spent_in, receipts, loose, Good, good-settled}
use Rattle.theory_closures.proofs.Simulation.{settle-unfolded}

-- ---- what it unfolds to

held : (h : Head Message) → unfold_head [] (whole_head h) ≡ head_with_items h
unfolding unfold_head whole_head head_with_items items_left resolve
held (ambient m) = refl
held (action m) = refl
held (receipt v) = refl
held (output m) = refl

-- THEOREM: the script's closure unfolds to the tree that the plain machine holds, and settled to the one it starts with.
pub closure-held : (b : Script) → unfolded [] (closure_of b) ≡ with_items b
unfolding unfolded closure_of with_items map_heads
closure-held close = refl
closure-held (part i w b r) = rw (held w.head, closure-held b, closure-held r)

pub closure-started : (b : Script) → unfolded [] (settle_under [] (closure_of b)) ≡ started b
unfolding started
closure-started b = sym (settle-unfolded [] (closure_of b)) ∙ ap settle (closure-held b)

-- ---- variables

head-whole : (v : ℕ) (h : Head Message) → (receives v (whole_head h) ≡ receives v h) × (mentions_in v (whole_head h) ≡ uses v h) × (spent_in (whole_head h) ≡ 0)
unfolding whole_head
head-whole v (ambient m) = (refl, refl, refl)
head-whole v (action m) = (refl, refl, refl)
head-whole v (receipt u) = (refl, refl, refl)
head-whole v (output m) = (refl, refl, refl)

-- nothing is spent in the script's closure, and its variables are the script's
none-spent : (b : Script) → total_over (λ k h. spent_in h) (closure_of b) ≡ 0
unfolding closure_of map_heads total_over
none-spent close = refl
none-spent (part k w b r) = omega (arith, (head-whole 0 w.head).2, none-spent b, none-spent r)

closure-receipts : (v : ℕ) (b : Script) → tally_of (receipts v) (closure_of b) ≡ receipts_of v b
unfolding closure_of map_heads total_over tally_of
closure-receipts v close = refl
closure-receipts v (part k w b r) = rw (head-whole v w.head).0 (omega (arith, closure-receipts v b, closure-receipts v r))

closure-loose : (v : ℕ) (b : Script) → tally_of (loose v) (closure_of b) ≡ loose_in v b
unfolding closure_of map_heads tally_of loose_in
closure-loose v close = refl
closure-loose v (part k w b r) = rw ((head-whole v w.head).0, (head-whole v w.head).1, closure-loose v b, closure-loose v r, none-spent b)

-- THEOREM: the invariant holds of the closure of every script that is read, and of the settled one.
pub script-good : (ws : List ℕ) (p : Script × Cursor) → read_script ws ≡ got p → Good [] (closure_of p.0)
unfolding New
script-good ws p e = record {
  once = λ v. omega (arith, closure-receipts v p.0, (script-bound ws p e v).0);
  apart = λ v n. closure-loose v p.0 ∙ (script-bound ws p e v).1;
  new = λ v n. tt;
}

pub started-good : (ws : List ℕ) (p : Script × Cursor) → read_script ws ≡ got p → Good [] (settle_under [] (closure_of p.0))
started-good ws p e = good-settled [] [] (closure_of p.0) (script-good ws p e)

-- each number stands once in it
pub script-distinct : (ws : List ℕ) (p : Script × Cursor) → read_script ws ≡ got p → (j : ℕ) → times_in j (closure_of p.0) ≤ 1
unfolding closure_of
script-distinct ws p e j = omega (arith, map-total (λ i h. one_if (eqb j i)) (λ (w : Written). whole_head w.head) p.0, (numbered-range j 0 p.0 (script-tabled ws p e).numbered).once)

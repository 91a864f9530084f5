-- What the operations on a tree make of the process that it represents, up to congruence: where no number stands twice, and
-- for substitution where the variable is bound nowhere inside. Assumes nothing.
use Prim.Native.Nat.{ℕ, ◌+◌, ◌≤◌}
use mathlib.Core.Bool.{Bool, true, false, cond, false≢true}
use mathlib.Core.List.{List, [], ◌∷◌}
use mathlib.Core.Path.{◌≡◌, refl, sym, ap, ◌∙◌}
use mathlib.Core.Option.{some}
use native.Mathlib.Omega.{arith}
use lib.Dec.{eqb, ltb}
use borrow.Author.Tests.{eqb-true}
use Rattle.read_messages.specs.Message.{Message, items, substitute_items}
use Rattle.read_messages.specs.Message as message
use Rattle.read_scripts.specs.Tree.{Head, close, part, one_if, is_ambient, total_over, times_in, put, merge_parts, map_heads, settle_by, bare, PlainHead, Plain, settle}
use Rattle.theory_machine.specs.Bodies.{find_part, remove_part, alter}
use Rattle.theory_machine.specs.PlainMachine.{substitute_head, substitute_body, plain}
use Rattle.base_slices.proofs.Tests.{by_test}
use Rattle.read_scripts.proofs.Numbers.{own-times, one_none}
use Rattle.read_scripts.proofs.Scopes.{receives}
use Rattle.theory_machine.proofs.Options.{some_is, none≢some}
use Rattle.theory_machine.proofs.Sums.{remove_part-none, merge-total, settle-total, Shrinks, plain-numbers}
use Rattle.theory_calculus.specs.Calculus.{Process, ◌‖◌, ◌≅◌, StructRefl, StructSymm, StructTrans, StructAmb, StructInput, StructParComm, StructParAssoc, StructZeroPar, substitute}
use Rattle.theory_calculus.specs.TreeProcess.{prefix, piece, process}
use Rattle.theory_calculus.proofs.Variables.{eqb-flip}
use Rattle.theory_calculus.proofs.Congruences.{par-both, par-swap, action-items, prefix-cong, prefix-prefix}

-- no two parts of the tree have one number
abbrev pub Distinct : Plain → Type 0
Distinct b = (j : ℕ) → times_in j b ≤ 1

-- moves don't make a number stand more often
pub times-shrinks : (j : ℕ) → Shrinks plain (λ k h. one_if (eqb j k)) 0
times-shrinks j = plain-numbers (λ k. one_if (eqb j k)) 0 (λ k l. omega arith)

pub piece-cong : (h : PlainHead) {p q : Process} → p ≅ q → piece h p ≅ piece h q
unfolding piece
piece-cong (Head.ambient m) e = StructAmb e
piece-cong (Head.action is) e = prefix-cong is e
piece-cong (Head.receipt v) e = StructInput e
piece-cong (Head.output m) e = StructRefl

pub put-process : (n : ℕ) (g : PlainHead) (i b : Plain) → times_in n b ≡ 0 → process (put n g i b) ≅ piece g (process i) ‖ process b
unfolding put process total_over
put-process n g i close e = StructRefl
put-process n g i (part k h b r) e = by_test (ltb n k) (λ t. rw t StructRefl)
    (λ t. by_test (eqb n k)
    (λ u. absurd (omega (arith, rw u at e)))
    (λ u. rw (t, u) (StructTrans (par-both StructRefl (put-process n g i r (omega arith))) par-swap)))

pub merge-process : (b c : Plain) → ((j : ℕ) → times_in j b + times_in j c ≤ 1) → process (merge_parts b c) ≅ process b ‖ process c
unfolding merge_parts process total_over
merge-process close c d = StructSymm (StructTrans StructParComm StructZeroPar)
merge-process (part k h b r) c d =
    StructTrans (put-process k h b (merge_parts r c) (omega (arith, d k, own-times k, merge-total (λ i g. one_if (eqb k i)) r c)))
    (StructTrans (par-both StructRefl (merge-process r c (λ j. omega (arith, d j)))) (StructSymm StructParAssoc))

module _ (n : ℕ) (F : PlainHead → PlainHead) (G : Plain → Plain) where
  -- the part altered, beside the others
  pub alter-process : (b : Plain) (p : PlainHead × Plain) → times_in n b ≤ 1 → find_part n b ≡ some p → process (alter n F G b) ≅ piece (F p.0) (process (G p.1)) ‖ process (remove_part n b)
  unfolding find_part remove_part alter process total_over
  alter-process close p d e = none≢some e
  alter-process (part k h b r) p d e = by_test (eqb n k)
      (λ t.
      let q : (h, b) ≡ p = some_is (rw t at e) in
      let z : remove_part n r ≡ r = remove_part-none n r (omega (arith, rw t at d)) in
      rw (t, z, ← q) StructRefl)
      (λ t. rw t (StructTrans (par-both StructRefl (alter-process r p (omega arith) (rw t at e))) par-swap))

  -- a part is altered beside others that are put in
  alter-put : (k : ℕ) (h : PlainHead) (s b : Plain) → eqb n k ≡ false → alter n F G (put k h s b) ≡ put k h s (alter n F G b)
  unfolding alter put
  alter-put k h s close d = rw d
  alter-put k h s (part i g c r) d = by_test (ltb k i)
      (λ t. by_test (eqb n i) (λ u. rw (t, d, u, t)) (λ u. rw (t, d, u, t)))
      (λ t. by_test (eqb k i)
      (λ u. let w : eqb n i ≡ false = ap (eqb n) (sym (eqb-true k i u)) ∙ d in rw (t, u, w, t, u))
      (λ u. by_test (eqb n i) (λ w. rw (t, u, w, t, u)) (λ w. rw (t, u, w, t, u) (ap (part i g c) (alter-put k h s r d)))))

  pub alter-merge : (b c : Plain) → times_in n b ≡ 0 → alter n F G (merge_parts b c) ≡ merge_parts b (alter n F G c)
  unfolding merge_parts total_over
  alter-merge close c d = refl
  alter-merge (part k h s r) c d = alter-put k h s (merge_parts r c) (one_none (eqb n k) (omega arith)) ∙ ap (put k h s) (alter-merge r c (omega arith))

alter-nothing : (n : ℕ) (b : Plain) → alter n (λ h. h) (λ s. s) b ≡ b
unfolding alter
alter-nothing n close = refl
alter-nothing n (part k h b r) = by_test (eqb n k) (λ t. rw t) (λ t. rw t (ap (part k h b) (alter-nothing n r)))

-- the part found, beside the others
pub find-process : (n : ℕ) (b : Plain) (p : PlainHead × Plain) → times_in n b ≤ 1 → find_part n b ≡ some p → process b ≅ piece p.0 (process p.1) ‖ process (remove_part n b)
find-process n b p d e = rw (alter-nothing n b) at (alter-process n (λ h. h) (λ s. s) b p d e)

-- an action with no items
bare-inv : (h : PlainHead) → bare h ≡ true → h ≡ Head.action []
unfolding bare
bare-inv (Head.ambient m) e = absurd (false≢true e)
bare-inv (Head.action []) e = refl
bare-inv (Head.action (i ∷ is)) e = absurd (false≢true e)
bare-inv (Head.receipt v) e = absurd (false≢true e)
bare-inv (Head.output m) e = absurd (false≢true e)

bare-process : (h : PlainHead) (p : Process) → bare h ≡ true → piece h p ≡ p
unfolding piece prefix
bare-process h p e = rw (bare-inv h e)

either-process : (t : Bool) (b c : Plain) → process b ≅ process c → process (cond t b c) ≅ process c
either-process true b c e = e
either-process false b c e = StructRefl

settle_by-process : (b : Plain) → Distinct b → process (settle_by bare b) ≅ process b
unfolding settle_by process total_over
settle_by-process close d = StructRefl
settle_by-process (part k h b r) d =
    let x = settle_by-process b (λ j. omega (arith, d j)) in
    let y = settle_by-process r (λ j. omega (arith, d j)) in
    let less : (c : Plain) (j : ℕ) → times_in j (settle_by bare c) ≤ times_in j c = λ c j. settle-total (λ i g. one_if (eqb j i)) bare c in
    by_test (bare h)
    (λ t. rw (t, bare-process h (process b) t) (StructTrans (merge-process (settle_by bare b) (settle_by bare r) (λ j. omega (arith, d j, less b j, less r j))) (par-both x y)))
    (λ t. rw t (StructTrans (put-process k h (cond (is_ambient h) (settle_by bare b) b) (settle_by bare r) (omega (arith, d k, own-times k, less r k)))
    (par-both (piece-cong h (either-process (is_ambient h) (settle_by bare b) b x)) y)))

pub settle-process : (b : Plain) → Distinct b → process (settle b) ≅ process b
unfolding settle
settle-process b d = settle_by-process b d

-- one where the part is a receipt of v
unfoldable pub binds : ℕ → PlainHead → ℕ
binds v h = one_if (receives v h)

-- the receipts of v in the tree
abbrev pub bindings : ℕ → Plain → ℕ
bindings v b = total_over (λ k h. binds v h) b

-- no variable is bound twice
abbrev pub Once : Plain → Type 0
Once b = (v : ℕ) → bindings v b ≤ 1

pub own-binds : (v : ℕ) → binds v (Head.receipt v) ≡ 1
unfolding binds
own-binds v = own-times v

substitute-prefix : (v : ℕ) (m : Message) (is : List Message) (p : Process) {q : Process} → q ≅ substitute v m p → prefix (substitute_items v m is) q ≅ substitute v m (prefix is p)
unfolding prefix substitute_items substitute
substitute-prefix v m [] p h = h
substitute-prefix v m (i ∷ is) p {q} h =
    let j : Message = message.substitute v m i in
    StructTrans (StructSymm (prefix-prefix (items j) (substitute_items v m is) q)) (StructTrans (prefix-cong (items j) (substitute-prefix v m is p h)) (StructSymm (action-items j)))

substitute-piece : (v : ℕ) (m : Message) (h : PlainHead) (p : Process) {q : Process} → binds v h ≡ 0 → q ≅ substitute v m p → piece (substitute_head v m h) q ≅ substitute v m (piece h p)
unfolding piece substitute_head substitute binds
substitute-piece v m (Head.ambient n) p z h = StructAmb h
substitute-piece v m (Head.action is) p z h = substitute-prefix v m is p h
substitute-piece v m (Head.receipt u) p z h = rw (eqb-flip v u (one_none (eqb v u) z)) (StructInput h)
substitute-piece v m (Head.output n) p z h = StructRefl

pub substitute-process : (v : ℕ) (m : Message) (b : Plain) → bindings v b ≡ 0 → process (substitute_body v m b) ≅ substitute v m (process b)
unfolding substitute_body map_heads process substitute total_over
substitute-process v m close z = StructRefl
substitute-process v m (part k h b r) z =
    par-both (substitute-piece v m h (process b) (omega arith) (substitute-process v m b (omega arith))) (substitute-process v m r (omega arith))

-- Settled trees, their shapes, and what is congruent to 0 and to P | Q (000, proposition 3.1) for such a tree. Assumes
-- nothing.
use Prim.Native.Nat.{ℕ, suc, ◌+◌}
use mathlib.Core.List.{List, [], ◌∷◌}
use mathlib.Core.Path.{◌≡◌, refl, sym, ap, subst}
use mathlib.Core.Logic.{inl, inr}
use native.Mathlib.Omega.{arith}
use Rattle.read_messages.specs.Message.{Message, empty_message, items}
use Rattle.read_scripts.specs.Tree.{Head, close, part, PlainHead, Plain}
use Rattle.theory_calculus.specs.Satisfaction.{Divided, nothing, to_left, to_right}
use Rattle.theory_calculus.specs.Calculus.{occurs, Process, 𝟎, ◌‖◌, ◌≅◌, StructRefl, StructSymm, StructTrans, StructParAssoc, StructZeroPar}
use Rattle.theory_calculus.specs.TreeProcess.{prefix, piece, process}
use Rattle.theory_calculus.proofs.Shapes.{Tag, amb, can, hear, say, Shape, no_cells, cell, ◌⧺◌, chain, Same, done, match, same-sym, pick-sum}
use Rattle.theory_calculus.proofs.Congruences.{renamed-own, bound, own, process_shape, sound, complete, BelowAll, highest, top_below, par-both, par-swap}

-- a message that is one item
abbrev pub Item : Message → Type 0
Item i = items i ≡ i ∷ []

-- settled: under no action and no receipt is there an action without items, and the first that one holds is an item
pub data Settled : Plain → Type 0 where
  closed : Settled close
  settled-ambient : {k : ℕ} {m : Message} {b r : Plain} → Settled b → Settled r → Settled (part k (Head.ambient m) b r)
  settled-action : {k : ℕ} {i : Message} {is : List Message} {b r : Plain} → Item i → Settled r → Settled (part k (Head.action (i ∷ is)) b r)
  settled-receipt : {k v : ℕ} {b r : Plain} → Settled r → Settled (part k (Head.receipt v) b r)
  settled-output : {k : ℕ} {m : Message} {b r : Plain} → Settled r → Settled (part k (Head.output m) b r)

pub data SettledPart : PlainHead → Plain → Type 0 where
  ambient-part : {m : Message} {b : Plain} → Settled b → SettledPart (Head.ambient m) b
  action-part : {i : Message} {is : List Message} {b : Plain} → Item i → SettledPart (Head.action (i ∷ is)) b
  receipt-part : {v : ℕ} {b : Plain} → SettledPart (Head.receipt v) b
  output-part : {m : Message} {b : Plain} → SettledPart (Head.output m) b

pub settled-part : {k : ℕ} {h : PlainHead} {b r : Plain} → Settled (part k h b r) → SettledPart h b
settled-part (settled-ambient x y) = ambient-part x
settled-part (settled-action x y) = action-part x
settled-part (settled-receipt y) = receipt-part
settled-part (settled-output y) = output-part

pub settled-rest : {k : ℕ} {h : PlainHead} {b r : Plain} → Settled (part k h b r) → Settled r
settled-rest (settled-ambient x y) = y
settled-rest (settled-action x y) = y
settled-rest (settled-receipt y) = y
settled-rest (settled-output y) = y

pub settled-join : {k : ℕ} {h : PlainHead} {b r : Plain} → SettledPart h b → Settled r → Settled (part k h b r)
settled-join (ambient-part x) y = settled-ambient x y
settled-join (action-part x) y = settled-action x y
settled-join receipt-part y = settled-receipt y
settled-join output-part y = settled-output y

pub settled-inside : {m : Message} {b : Plain} → SettledPart (Head.ambient m) b → Settled b
settled-inside (ambient-part x) = x

-- the cell that a settled part is: its tag and the shape inside it
unfoldable pub tag : ℕ → PlainHead → Tag
tag n (Head.ambient m) = amb m
tag n (Head.action []) = can empty_message
tag n (Head.action (i ∷ is)) = can i
tag n (Head.receipt v) = hear n
tag n (Head.output m) = say m

unfoldable pub core_of : ℕ → PlainHead → Process → Shape
core_of n (Head.ambient m) p = process_shape n own p
core_of n (Head.action []) p = no_cells
core_of n (Head.action (i ∷ is)) p = process_shape n own (prefix is p)
core_of n (Head.receipt v) p = process_shape (suc n) (bound own v n) p
core_of n (Head.output m) p = no_cells

-- the shape of a tree
unfoldable pub flattened : ℕ → Plain → Shape
flattened n b = process_shape n own (process b)

-- a settled part is one cell
one_cell : (n : ℕ) (h : PlainHead) (b : Plain) → SettledPart h b → (p : Process) → process_shape n own (piece h p) ≡ cell (tag n h) (core_of n h p) no_cells
unfolding process_shape tag core_of chain piece prefix
one_cell n (Head.ambient m) b s p = rw (renamed-own m)
one_cell n (Head.action is) b (action-part {i = i} t) p = rw (renamed-own i, t)
one_cell n (Head.receipt v) b s p = refl
one_cell n (Head.output m) b s p = rw (renamed-own m)

flat-part : (n k : ℕ) (h : PlainHead) (b r : Plain) → SettledPart h b → flattened n (part k h b r) ≡ cell (tag n h) (core_of n h (process b)) (flattened n r)
unfolding flattened process process_shape ◌⧺◌
flat-part n k h b r s = ap (λ (u : Shape). u ⧺ process_shape n own (process r)) (one_cell n h b s (process b))

pub settled-flat : (n k : ℕ) (h : PlainHead) (b r : Plain) → Settled (part k h b r) → flattened n (part k h b r) ≡ cell (tag n h) (core_of n h (process b)) (flattened n r)
settled-flat n k h b r s = flat-part n k h b r (settled-part s)

pub flat-close : (n : ℕ) → flattened n close ≡ no_cells
unfolding flattened process process_shape
flat-close n = refl

abbrev IsNil : Shape → Type 0
IsNil no_cells = Unit {0}
IsNil (cell g i r) = ⊥

same-nil : {a b : Shape} → Same a b → IsNil a → IsNil b
same-nil done x = x
same-nil (match p a h) x = absurd x

nil-sum : (s t : Shape) → Same no_cells (s ⧺ t) → Same no_cells s × Same no_cells t
unfolding ◌⧺◌
nil-sum no_cells t h = (done, h)
nil-sum (cell g i r) t h = absurd (same-nil h tt)

module _ (n : ℕ) where
  abbrev Division : Plain → Shape → Shape → Type 0
  Division b s t = (c : Plain) × (d : Plain) × Divided b c d × Same (flattened n c) s × Same (flattened n d) t

  divide-part : (k : ℕ) (h : PlainHead) (b r : Plain) → SettledPart h b → ((s t : Shape) → Same (flattened n r) (s ⧺ t) → Division r s t)
      → (s t : Shape) → Same (cell (tag n h) (core_of n h (process b)) (flattened n r)) (s ⧺ t) → Division (part k h b r) s t
  divide-part k h b r w ih s t (match p a e) = elim (pick-sum s t p) [
    | inl x ↦ let y = ih x.0 t (subst (Same (flattened n r)) x.2 e) in
        (part k h b y.0, y.1, to_left y.2, subst (λ u. Same u s) (sym (flat-part n k h b y.0 w)) (match x.1 a y.3), y.4)
    | inr x ↦ let y = ih s x.0 (subst (Same (flattened n r)) x.2 e) in
        (y.0, part k h b y.1, to_right y.2, y.3, subst (λ u. Same u t) (sym (flat-part n k h b y.1 w)) (match x.1 a y.4))
  ]

  divide : (b : Plain) → Settled b → (s t : Shape) → Same (flattened n b) (s ⧺ t) → Division b s t
  divide close w s t h = unfold flattened process process_shape in (let x = nil-sum s t h in (close, close, nothing, x.0, x.1))
  divide (part k h b r) w s t e =
      divide-part k h b r (settled-part w) (divide r (settled-rest w)) s t (subst (λ u. Same u (s ⧺ t)) (settled-flat n k h b r w) e)

  -- a body that is the same as nothing
  only-nil : (b : Plain) → Settled b → Same (flattened n b) no_cells → b ≡ close
  only-nil close w h = refl
  only-nil (part k h b r) w e = absurd (same-nil (same-sym (subst (λ u. Same u no_cells) (settled-flat n k h b r w) e)) tt)

  pub tag-amb : (h : PlainHead) (m : Message) → tag n h ≡ amb m → h ≡ Head.ambient m
  unfolding tag
  tag-amb (Head.ambient k) m e = cc
  tag-amb (Head.action []) m e = cc
  tag-amb (Head.action (i ∷ is)) m e = cc
  tag-amb (Head.receipt v) m e = cc
  tag-amb (Head.output k) m e = cc

  pub tree-sound : (b : Plain) {p : Process} → process b ≅ p → Same (flattened n b) (process_shape n own p)
  unfolding flattened
  tree-sound b h = sound h n own

  pub tree-complete : (b : Plain) {p : Process} → BelowAll n (process b) → BelowAll n p → Same (flattened n b) (process_shape n own p) → process b ≅ p
  unfolding flattened
  tree-complete b c d h = complete n c d h

divided-occurs : (v : ℕ) {b c d : Plain} → Divided b c d → occurs v (process b) ≡ occurs v (process c) + occurs v (process d)
unfolding process occurs
divided-occurs v nothing = omega arith
divided-occurs v (to_left x) = omega (arith, divided-occurs v x)
divided-occurs v (to_right x) = omega (arith, divided-occurs v x)

-- 000, proposition 3.1: what is congruent to 0, and to P | Q
pub as-nothing : (b : Plain) → Settled b → process b ≅ 𝟎 → b ≡ close
unfolding process_shape
as-nothing b w h = only-nil 0 b w (tree-sound 0 b h)

pub as-both : (b : Plain) → Settled b → (p q : Process) → process b ≅ p ‖ q → (c : Plain) × (d : Plain) × Divided b c d × (process c ≅ p) × (process d ≅ q)
unfolding process_shape
as-both b w p q h =
    let n : ℕ = highest (process b) + (highest p + highest q) in
    let below : BelowAll n (process b) = top_below (process b) n (omega arith) in
    let x = divide n b w (process_shape n own p) (process_shape n own q) (tree-sound n b h) in (
      x.0,
      x.1,
      x.2,
      tree-complete n x.0 (λ v l. omega (arith, below v l, divided-occurs v x.2)) (top_below p n (omega arith)) x.3,
      tree-complete n x.1 (λ v l. omega (arith, below v l, divided-occurs v x.2)) (top_below q n (omega arith)) x.4,
    )

pub divided-congruent : {b c d : Plain} → Divided b c d → process b ≅ process c ‖ process d
unfolding process
divided-congruent nothing = StructSymm StructZeroPar
divided-congruent (to_left x) = StructTrans (par-both StructRefl (divided-congruent x)) (StructSymm StructParAssoc)
divided-congruent (to_right x) = StructTrans (par-both StructRefl (divided-congruent x)) par-swap

pub divided-settled : {b c d : Plain} → Divided b c d → Settled b → Settled c × Settled d
divided-settled nothing w = (closed, closed)
divided-settled (to_left x) w = let y = divided-settled x (settled-rest w) in (settled-join (settled-part w) y.0, y.1)
divided-settled (to_right x) w = let y = divided-settled x (settled-rest w) in (y.0, settled-join (settled-part w) y.1)

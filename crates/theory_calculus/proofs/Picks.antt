-- A part of a body, picked by what it is and not by its number; and what is congruent to an ambient, an action, a receipt or
-- an output beside others (000, proposition 3.1). Assumes nothing.
use Prim.Native.Nat.{ℕ, suc, ◌+◌, ◌≤◌}
use mathlib.Core.List.{List, [], ◌∷◌}
use mathlib.Core.Path.{◌≡◌, refl, sym, ap, ◌∙◌, subst}
use mathlib.Core.Logic.{◌⊎◌, inl, inr}
use native.Mathlib.Omega.{arith}
use Rattle.read_messages.specs.Message.{Message, items}
use Rattle.read_scripts.specs.Tree.{Head, close, part, total_over, PlainHead, Plain}
use Rattle.theory_calculus.specs.Satisfaction.{Divided, nothing, to_left, to_right}
use Rattle.theory_calculus.specs.Order.{HasPart, front, behind}
use Rattle.theory_calculus.specs.Calculus.{occurs, Process, 𝟎, ◌‖◌, ambient, action, input, output, ◌≅◌, StructRefl, StructSymm, StructTrans, StructZeroPar}
use Rattle.theory_calculus.specs.TreeProcess.{prefix, piece, process}
use Rattle.theory_calculus.proofs.Shapes.{Tag, amb, can, hear, say, Shape, no_cells, cell, ◌⧺◌, chain, Pick, here, there, Same, done, match, same-sym}
use Rattle.theory_calculus.proofs.Congruences.{renamed-own, bound, own, process_shape, complete, BelowAll, highest, top_below, par-both, par-swap}
use Rattle.theory_calculus.proofs.Divisions.{Item, Settled, SettledPart, action-part, settled-part, settled-rest, settled-inside, settled-join, tag, core_of, flattened, settled-flat, flat-close, tag-amb, tree-sound, tree-complete, as-nothing}

pub part-total : (f : ℕ → PlainHead → ℕ) {b i c : Plain} {k : ℕ} {h : PlainHead} → HasPart b k h i c → total_over f b ≡ f k h + (total_over f i + total_over f c)
unfolding total_over
part-total f front = refl
part-total f (behind p) = omega (arith, part-total f p)

pub divided-total : (f : ℕ → PlainHead → ℕ) {b c d : Plain} → Divided b c d → total_over f b ≡ total_over f c + total_over f d
unfolding total_over
divided-total f nothing = omega arith
divided-total f (to_left x) = omega (arith, divided-total f x)
divided-total f (to_right x) = omega (arith, divided-total f x)

pub part-divided : {b c d i q : Plain} {k : ℕ} {h : PlainHead} → Divided b c d → HasPart c k h i q → (r : Plain) × HasPart b k h i r × Divided r q d
part-divided {i = i} {q = q} {k = k} {h = h} nothing p = elim p [ ]
part-divided (to_left x) front = (_, front, x)
part-divided (to_left x) (behind p) = let y = part-divided x p in (_, behind y.1, to_left y.2)
part-divided (to_right x) p = let y = part-divided x p in (_, behind y.1, to_right y.2)

-- two parts of one body, in either order
pub part-swap : {b c d i j : Plain} {k l : ℕ} {h g : PlainHead} → HasPart b k h i c → HasPart c l g j d → (e : Plain) × HasPart b l g j e × HasPart e k h i d
part-swap front q = (_, behind q, front)
part-swap (behind p) front = (_, front, p)
part-swap (behind p) (behind q) = let x = part-swap p q in (_, behind x.1, behind x.2)

-- the process of the body, by one of its parts
pub part-process : {b i c : Plain} {k : ℕ} {h : PlainHead} → HasPart b k h i c → process b ≅ piece h (process i) ‖ process c
unfolding process
part-process front = StructRefl
part-process (behind p) = StructTrans (par-both StructRefl (part-process p)) par-swap

pub part-settled : {b i c : Plain} {k : ℕ} {h : PlainHead} → HasPart b k h i c → Settled b → SettledPart h i
part-settled front s = settled-part s
part-settled (behind p) s = part-settled p (settled-rest s)

part-occurs : (v : ℕ) {b i c : Plain} {k : ℕ} {h : PlainHead} → HasPart b k h i c → occurs v (process b) ≡ occurs v (piece h (process i)) + occurs v (process c)
unfolding process occurs
part-occurs v front = refl
part-occurs v (behind p) = omega (arith, part-occurs v p)

pick-cases : {a g : Tag} {b c s t : Shape} → Pick (cell a b c) g s t → ((a ≡ g) × (b ≡ s) × (c ≡ t)) ⊎ ((q : Shape) × Pick c g s q × (t ≡ cell a b q))
pick-cases here = inl (refl, refl, refl)
pick-cases (there p) = inr (_, p, refl)

not-nil : {g : Tag} {s t u : Shape} → Pick u g s t → u ≡ no_cells → ⊥
not-nil here e = let z : ◌≡◌ {A = ℕ} 0 1 = cc in omega arith
not-nil (there p) e = let z : ◌≡◌ {A = ℕ} 0 1 = cc in omega arith

-- a part of b with that head, beside what is congruent to q
pub record Has (b : Plain) (head : PlainHead) (q : Process) : Type 0 where
  pub number : ℕ
  pub inside : Plain
  pub others : Plain
  pub at : HasPart b number head inside others
  pub congruent : process others ≅ q
  pub settled : Settled others

module _ (n : ℕ) where
  -- the cell of a shape is a part of the tree
  record Picked (b : Plain) (g : Tag) (s t : Shape) : Type 0 where
    number : ℕ
    head : PlainHead
    inside : Plain
    others : Plain
    at : HasPart b number head inside others
    tagged : tag n head ≡ g
    cored : core_of n head (process inside) ≡ s
    left_over : flattened n others ≡ t
    whole : SettledPart head inside
    settled : Settled others

  pick-part : (b : Plain) → Settled b → (g : Tag) (s t : Shape) → Pick (flattened n b) g s t → Picked b g s t
  pick-part close w g s t p = absurd (not-nil p (flat-close n))
  pick-part (part k h b r) w g s t p = elim (pick-cases (subst (λ u. Pick u g s t) (settled-flat n k h b r w) p)) [
    | inl x ↦ record {
      number = k;
      head = h;
      inside = b;
      others = r;
      at = front;
      tagged = x.0;
      cored = x.1;
      left_over = x.2;
      whole = settled-part w;
      settled = settled-rest w;
    }
    | inr x ↦
        let y = pick-part r (settled-rest w) g s x.0 x.1 in
        let joined : Settled (part k h b y.others) = settled-join (settled-part w) y.settled in
        record {
          number = y.number;
          head = y.head;
          inside = y.inside;
          others = part k h b y.others;
          at = behind y.at;
          tagged = y.tagged;
          cored = y.cored;
          left_over = settled-flat n k h b y.others joined ∙ ap (cell (tag n h) (core_of n h (process b))) y.left_over ∙ sym x.2;
          whole = y.whole;
          settled = joined;
        }
  ]

  -- a part of b with that head, whose core is the same as s
  abbrev Cored : Plain → Process → Shape → PlainHead → Type 0
  Cored b q s h = (x : Has b h q) × Same (core_of n h (process x.inside)) s × SettledPart h x.inside

  -- what stands first in a shape is a part of the tree
  prime : (b : Plain) → Settled b → BelowAll n (process b) → (g : Tag) (s : Shape) (q : Process) → BelowAll n q → Same (cell g s (process_shape n own q)) (flattened n b) →
      (h : PlainHead) × (tag n h ≡ g) × Cored b q s h
  prime b w tree-low g s q high (match p a e) =
      let x = pick-part b w g _ _ p in
      let y : Has b x.head q = record {
        number = x.number;
        inside = x.inside;
        others = x.others;
        at = x.at;
        congruent = tree-complete n x.others (λ v l. omega (arith, tree-low v l, part-occurs v x.at)) high (subst (λ u. Same u (process_shape n own q)) (sym x.left_over) (same-sym e));
        settled = x.settled;
      } in
      (x.head, x.tagged, (y, subst (λ u. Same u s) (sym x.cored) (same-sym a), x.whole))

  tag-hear : (h : PlainHead) → tag n h ≡ hear n → (v : ℕ) × (h ≡ Head.receipt v)
  unfolding tag
  tag-hear (Head.ambient k) e = (0, cc)
  tag-hear (Head.action []) e = (0, cc)
  tag-hear (Head.action (i ∷ is)) e = (0, cc)
  tag-hear (Head.receipt v) e = (v, refl)
  tag-hear (Head.output k) e = (0, cc)

  tag-say : (h : PlainHead) (m : Message) → tag n h ≡ say m → h ≡ Head.output m
  unfolding tag
  tag-say (Head.ambient k) m e = cc
  tag-say (Head.action []) m e = cc
  tag-say (Head.action (i ∷ is)) m e = cc
  tag-say (Head.receipt v) m e = cc
  tag-say (Head.output k) m e = cc

  tag-can : (h : PlainHead) (b : Plain) (m : Message) → SettledPart h b → tag n h ≡ can m → (is : List Message) × (h ≡ Head.action (m ∷ is))
  unfolding tag
  tag-can (Head.ambient k) b m w e = ([], cc)
  tag-can (Head.action is) b m (action-part {i = i} {is = js} t) e = (js, cc)
  tag-can (Head.receipt v) b m w e = ([], cc)
  tag-can (Head.output k) b m w e = ([], cc)

occurs-ambient : (v : ℕ) (m : Message) (p : Process) → occurs v p ≤ occurs v (piece (Head.ambient m) p)
unfolding occurs piece
occurs-ambient v m p = omega arith

occurs-action : (v : ℕ) (i : Message) (is : List Message) (p : Process) → occurs v (prefix is p) ≤ occurs v (piece (Head.action (i ∷ is)) p)
unfolding occurs piece prefix
occurs-action v i is p = omega arith

module _ (b : Plain) (w : Settled b) where
  -- a number above every variable of b and of q
  abbrev highest_of : Process → ℕ
  highest_of q = highest (process b) + highest q

  tree-low : (q : Process) → BelowAll (highest_of q) (process b)
  tree-low q = top_below (process b) (highest_of q) (omega arith)

  pub has-ambient : (m : Message) (p q : Process) → process b ≅ ambient m p ‖ q → (x : Has b (Head.ambient m) q) × (process x.inside ≅ p) × Settled x.inside
  unfolding process_shape ◌⧺◌ core_of highest
  has-ambient m p q h =
      let n : ℕ = highest_of (p ‖ q) in
      let y = prime n b w (tree-low (p ‖ q)) (amb m) (process_shape n own p) q (top_below q n (omega arith))
      (same-sym (subst (λ (u : Message). Same (flattened n b) (cell (amb u) (process_shape n own p) (process_shape n own q))) (renamed-own m) (tree-sound n b h))) in
      let z : Cored n b q (process_shape n own p) (Head.ambient m) = subst (Cored n b q (process_shape n own p)) (tag-amb n y.0 m y.1) y.2 in (
        z.0,
        complete n (λ v l. omega (arith, tree-low (p ‖ q) v l, part-occurs v z.0.at, occurs-ambient v m (process z.0.inside))) (top_below p n (omega arith)) z.1,
        settled-inside z.2,
      )

  pub has-receipt : (v : ℕ) (p q : Process) → process b ≅ input v p ‖ q → (u : ℕ) × (x : Has b (Head.receipt u) q) × (input u (process x.inside) ≅ input v p)
  unfolding process_shape ◌⧺◌ core_of piece highest
  has-receipt v p q h =
      let n : ℕ = highest_of (input v p ‖ q) in
      let s : Shape = process_shape (suc n) (bound own v n) p in
      let y = prime n b w (tree-low (input v p ‖ q)) (hear n) s q (top_below q n (omega arith)) (same-sym (tree-sound n b h)) in
      let f = tag-hear n y.0 y.1 in
      let z : Cored n b q s (Head.receipt f.0) = subst (Cored n b q s) f.1 y.2 in (
        f.0,
        z.0,
        complete n (λ u l. omega (arith, tree-low (input v p ‖ q) u l, part-occurs u z.0.at)) (top_below (input v p) n (omega arith)) (match here z.1 done),
      )

  pub has-output : (m : Message) (q : Process) → process b ≅ output m ‖ q → Has b (Head.output m) q
  unfolding process_shape ◌⧺◌
  has-output m q h =
      let n : ℕ = highest_of q in
      let y = prime n b w (tree-low q) (say m) no_cells q (top_below q n (omega arith)) (same-sym (subst (λ (u : Message). Same (flattened n b) (cell (say u) no_cells (process_shape n own q))) (renamed-own m) (tree-sound n b h))) in
      subst (λ g. Has b g q) (tag-say n y.0 m y.1) y.2.0

  pub has-action : (i : Message) → Item i → (p q : Process) → process b ≅ action i p ‖ q → (is : List Message) × (x : Has b (Head.action (i ∷ is)) q) × (prefix is (process x.inside) ≅ p)
  unfolding process_shape ◌⧺◌ core_of chain highest
  has-action i u p q h =
      let n : ℕ = highest_of (p ‖ q) in
      let y = prime n b w (tree-low (p ‖ q)) (can i) (process_shape n own p) q (top_below q n (omega arith))
      (same-sym (subst (λ l. Same (flattened n b) (chain l (process_shape n own p) ⧺ process_shape n own q)) (ap items (renamed-own i) ∙ u) (tree-sound n b h))) in
      let f = tag-can n y.0 y.2.0.inside i y.2.2 y.1 in
      let z : Cored n b q (process_shape n own p) (Head.action (i ∷ f.0)) = subst (Cored n b q (process_shape n own p)) f.1 y.2 in (
        f.0,
        z.0,
        complete n (λ v l. omega (arith, tree-low (p ‖ q) v l, part-occurs v z.0.at, occurs-action v i f.0 (process z.0.inside))) (top_below p n (omega arith)) z.1,
      )

only_part : {b i c : Plain} {k : ℕ} {h : PlainHead} → HasPart b k h i c → c ≡ close → b ≡ part k h i close
only_part (front {k = k} {h = h} {i = i}) e = ap (part k h i) e
only_part (behind p) e = let z : ◌≡◌ {A = ℕ} 0 1 = cc in absurd (omega arith)

-- 000, proposition 3.1: what is congruent to n[Q]
pub as-ambient : (b : Plain) → Settled b → (m : Message) (q : Process) → process b ≅ ambient m q → (k : ℕ) × (c : Plain) × (b ≡ part k (Head.ambient m) c close) × (process c ≅ q)
as-ambient b w m q h =
    let x = has-ambient b w m q 𝟎 (StructTrans h (StructSymm StructZeroPar)) in
    (x.0.number, x.0.inside, only_part x.0.at (as-nothing x.0.others x.0.settled x.0.congruent), x.1)

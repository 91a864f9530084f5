-- What putting in, taking out and changing a part do to a body's own numbers and to being held, and what is looked up in a
-- body that is held. Assumes nothing.
use Prim.Native.Nat.{ℕ, ◌+◌, ◌≤◌}
use mathlib.Core.Bool.{Bool, true, false, ◌||◌, true≢false}
use mathlib.Core.List.{List, [], ◌∷◌}
use mathlib.Core.Option.{none, some}
use mathlib.Core.Path.{◌≡◌, refl, sym, ap, ◌∙◌, subst}
use native.Mathlib.Omega.{arith}
use lib.Dec.{eqb, ltb}
use borrow.Author.Tests.{eqb-true, eq-eqb}
use Rattle.base_sets.specs.Sets.{elem, inserted, removed, joined, keep, is_none}
use Rattle.read_scripts.specs.Tree.{Body, close, part, one_if, tops, total_over, times_in, put, merge_parts}
use Rattle.read_scripts.specs.Represents.{Held}
use Rattle.theory_machine.specs.Bodies.{find_part, remove_part, alter, holder}
use Rattle.base_slices.proofs.Tests.{by_test}
use Rattle.read_scripts.proofs.Numbers.{own-times}
use Rattle.theory_machine.proofs.Options.{some_is, none≢some}
use Rattle.theory_machine.proofs.Sums.{remove_part-none, find-total}

-- a sum over the numbers of all parts, at any depth
abbrev pub numbers_total : {H : Type 0} → (ℕ → ℕ) → Body H → ℕ
numbers_total v b = total_over (λ i h. v i) b

pub no-cons : (x : ℕ) (l : List ℕ) → x ∷ l ≡ [] → ⊥
no-cons x l e = true≢false (sym (ap is_none e))

module _ {H : Type 0} where
  -- ---- a body's own numbers

  pub tops-put : (n : ℕ) (g : H) (s b : Body H) → tops (put n g s b) ≡ inserted n (tops b)
  unfolding tops put inserted
  tops-put n g s close = refl
  tops-put n g s (part i h b r) = by_test (ltb n i) (λ t. rw t)
      (λ t. by_test (eqb n i) (λ u. rw (t, u)) (λ u. rw (t, u) (ap (λ (l : List ℕ). i ∷ l) (tops-put n g s r))))

  pub tops-remove_part : (n : ℕ) (b : Body H) → tops (remove_part n b) ≡ removed n (tops b)
  unfolding tops remove_part keep
  tops-remove_part n close = refl
  tops-remove_part n (part i h b r) = by_test (eqb n i) (λ t. rw t (tops-remove_part n r)) (λ t. rw t (ap (λ (l : List ℕ). i ∷ l) (tops-remove_part n r)))

  pub tops-alter : (n : ℕ) (f : H → H) (g : Body H → Body H) (b : Body H) → tops (alter n f g b) ≡ tops b
  unfolding tops alter
  tops-alter n f g close = refl
  tops-alter n f g (part i h b r) = by_test (eqb n i) (λ t. rw t) (λ t. rw t (ap (λ (l : List ℕ). i ∷ l) (tops-alter n f g r)))

  pub tops-merge : (b c : Body H) → tops (merge_parts b c) ≡ joined (tops b) (tops c)
  unfolding tops merge_parts joined
  tops-merge close c = refl
  tops-merge (part i h b r) c = tops-put i h b (merge_parts r c) ∙ ap (inserted i) (tops-merge r c)

  -- a number among them stands in the body, and one that stands nowhere is not among them
  pub in-times : (n : ℕ) (b : Body H) → elem n (tops b) ≡ true → 1 ≤ times_in n b
  unfolding tops elem total_over
  in-times n close e = absurd (true≢false (sym e))
  in-times n (part i h b r) e = by_test (eqb n i)
      (λ t. rw t (omega arith))
      (λ t. omega (arith, in-times n r (rw t at e)))

  pub not_in : (n : ℕ) (b : Body H) → times_in n b ≡ 0 → elem n (tops b) ≡ false
  not_in n b e = by_test (elem n (tops b)) (λ t. absurd (let z : ⊥ = omega (arith, in-times n b t) in z)) (λ t. t)

  pub numbers-differ : (i j : ℕ) (b : Body H) → 1 ≤ times_in i b → times_in j b ≡ 0 → i ≡ j → ⊥
  numbers-differ i j b m z e = let c : 1 ≤ times_in j b = subst (λ (n : ℕ). 1 ≤ times_in n b) e m in omega arith

-- ---- being held

-- bodies and heads that agree at the numbers of a tree hold the same tree
pub frame : {H : Type 0} (k k' : ℕ → List ℕ) (w w' : ℕ → H) (b : Body H) → Held k w b
    → ((i : ℕ) → 1 ≤ times_in i b → (k i ≡ k' i) × (w i ≡ w' i)) → Held k' w' b
unfolding total_over
frame k k' w w' close p a = tt
frame k k' w w' (part i h b r) p a =
    let e = a i (omega (arith, own-times i)) in (
      sym e.0 ∙ p.0,
      sym e.1 ∙ p.1,
      frame k k' w w' b p.2 (λ j m. a j (omega arith)),
      frame k k' w w' r p.3 (λ j m. a j (omega arith)),
    )

module _ {H : Type 0} (k : ℕ → List ℕ) (w : ℕ → H) where
  pub held-remove_part : (n : ℕ) (b : Body H) → Held k w b → Held k w (remove_part n b)
  unfolding remove_part
  held-remove_part n close p = tt
  held-remove_part n (part i h b r) p = by_test (eqb n i) (λ t. rw t (held-remove_part n r p.3)) (λ t. rw t (p.0, p.1, p.2, held-remove_part n r p.3))

  pub held-put : (n : ℕ) (g : H) (s b : Body H) → k n ≡ tops s → w n ≡ g → Held k w s → Held k w b → Held k w (put n g s b)
  unfolding put
  held-put n g s close e d q p = (e, d, q, tt)
  held-put n g s (part i h b r) e d q p = by_test (ltb n i) (λ t. rw t (e, d, q, p))
      (λ t. by_test (eqb n i) (λ u. rw (t, u) p) (λ u. rw (t, u) (p.0, p.1, p.2, held-put n g s r e d q p.3)))

  pub held-merge : (b c : Body H) → Held k w b → Held k w c → Held k w (merge_parts b c)
  unfolding merge_parts
  held-merge close c p q = q
  held-merge (part i h b r) c p q = held-put i h b (merge_parts r c) p.0 p.1 p.2 (held-merge r c p.3 q)

  -- what is looked up in a body that is held
  pub record Found (n : ℕ) (b : Body H) : Type 0 where
    pub room : Body H
    pub found : find_part n b ≡ some (w n, room)
    pub own : k n ≡ tops room
    pub held : Held k w room

  pub found_in : (n : ℕ) (b : Body H) → Held k w b → elem n (tops b) ≡ true → Found n b
  unfolding find_part tops elem
  found_in n close p e = absurd (true≢false (sym e))
  found_in n (part i h b r) p e = by_test (eqb n i)
      (λ t. record { room = b; found = rw (t, eqb-true n i t, p.1); own = rw (eqb-true n i t) p.0; held = p.2 })
      (λ t. let F = found_in n r p.3 (rw t at e) in record { room = F.room; found = rw t F.found; own = F.own; held = F.held })

  -- what was looked up
  pub found-inv : (n : ℕ) (b s : Body H) (h : H) → Held k w b → find_part n b ≡ some (h, s) → (elem n (tops b) ≡ true) × (w n ≡ h) × (k n ≡ tops s) × Held k w s
  unfolding find_part tops elem
  found-inv n close s h p e = none≢some e
  found-inv n (part i g b r) s h p e = by_test (eqb n i)
      (λ t.
      let z : n ≡ i = eqb-true n i t in
      let u : (g, b) ≡ (h, s) = some_is (rw t at e) in
      rw t (
        refl,
        ap w z ∙ p.1 ∙ ap (λ (q : H × Body H). q.0) u,
        ap k z ∙ p.0 ∙ ap (λ (q : H × Body H). tops q.1) u,
        subst (λ (q : H × Body H). Held k w q.1) u p.2,
      ))
      (λ t. rw t (found-inv n r s h p.3 (rw t at e)))

  -- the part of the body in which a stands, and a stands in it once more
  pub held_by : (a p : ℕ) (b : Body H) → Held k w b → elem p (tops b) ≡ true → elem a (k p) ≡ true → 1 ≤ times_in a b
  held_by a p b h e m =
      let P = found_in p b h e in
      omega (arith, in-times a P.room (ap (elem a) (sym P.own) ∙ m), find-total (λ j g. one_if (eqb a j)) p b (w p, P.room) P.found)

  pub holder-is : (a p : ℕ) (b : Body H) → Held k w b → times_in a b ≤ 1 → elem p (tops b) ≡ true → elem a (k p) ≡ true → holder a b ≡ some p
  unfolding holder tops elem total_over
  holder-is a p close h c e m = absurd (true≢false (sym e))
  holder-is a p (part i g s r) h c e m = by_test (eqb p i)
      (λ t. let z : p ≡ i = eqb-true p i t in rw (ap (elem a) (sym h.0 ∙ ap k (sym z)) ∙ m) (ap some (sym z)))
      (λ t.
      let d : elem p (tops r) ≡ true = rw t at e in
      rw (not_in a s (omega (arith, held_by a p r h.3 d m))) (holder-is a p r h.3 (omega arith) d m))

  pub holder-inv : (a p : ℕ) (b : Body H) → Held k w b → holder a b ≡ some p → (elem p (tops b) ≡ true) × (elem a (k p) ≡ true)
  unfolding holder tops elem
  holder-inv a p close h e = none≢some e
  holder-inv a p (part i g s r) h e = by_test (elem a (tops s))
      (λ t.
      let z : i ≡ p = some_is (rw t at e) in (
        ap (λ (u : Bool). u || elem p (tops r)) (eq-eqb p i (sym z)),
        ap (elem a) (ap k (sym z) ∙ h.0) ∙ t,
      ))
      (λ t. let q = holder-inv a p r h.3 (rw t at e) in (by_test (eqb p i) (λ u. rw u) (λ u. rw u q.0), q.1))

pub not_found : {H : Type 0} (n : ℕ) (b : Body H) → elem n (tops b) ≡ false → find_part n b ≡ none
unfolding find_part tops elem
not_found n close e = refl
not_found n (part i h b r) e = by_test (eqb n i) (λ t. absurd (true≢false (rw t at e))) (λ t. rw t (not_found n r (rw t at e)))

-- the body with one of its own parts changed: what else stands in it is held as it was
module _ {H : Type 0} where
  pub held-alter : (k k' : ℕ → List ℕ) (w w' : ℕ → H) (n : ℕ) (f : H → H) (g : Body H → Body H) (b room : Body H) → find_part n b ≡ some (w n, room) → times_in n b ≤ 1
      → Held k w b → ((i : ℕ) → 1 ≤ times_in i (remove_part n b) → (k i ≡ k' i) × (w i ≡ w' i))
      → k' n ≡ tops (g room) → w' n ≡ f (w n) → Held k' w' (g room) → Held k' w' (alter n f g b)
  unfolding find_part remove_part alter total_over
  held-alter k k' w w' n f g close room e m p a x y q = none≢some e
  held-alter k k' w w' n f g (part i h b r) room e m p a x y q = by_test (eqb n i)
      (λ t.
      let z : n ≡ i = eqb-true n i t in
      let u : (h, b) ≡ (w n, room) = some_is (rw t at e) in
      let out : remove_part n r ≡ r = remove_part-none n r (omega (arith, rw t at m)) in
      rw t (
        ap k' (sym z) ∙ x ∙ ap (λ (p : H × Body H). tops (g p.1)) (sym u),
        ap w' (sym z) ∙ y ∙ ap (λ (p : H × Body H). f p.0) (sym u),
        subst (λ (p : H × Body H). Held k' w' (g p.1)) (sym u) q,
        frame k k' w w' r p.3 (λ j l. (rw (t, out) at a) j l),
      ))
      (λ t.
      let c : (j : ℕ) → 1 ≤ one_if (eqb j i) + (times_in j b + times_in j (remove_part n r)) → (k j ≡ k' j) × (w j ≡ w' j) = rw t at a in
      let d = c i (omega (arith, own-times i)) in
      rw t (
        sym d.0 ∙ p.0,
        sym d.1 ∙ p.1,
        frame k k' w w' b p.2 (λ j l. c j (omega arith)),
        held-alter k k' w w' n f g r room (rw t at e) (omega arith) p.3 (λ j l. c j (omega arith)) x y q,
      ))

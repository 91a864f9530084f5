-- Rising lists of numbers as sets: what insertion, removal and union do to membership, and the set that such a list is.
-- Assumes nothing.
use mathlib.Core.Path.{◌≡◌, refl, sym, ap, ap₂, ◌∙◌, subst}
use mathlib.Core.Bool.{Bool, true, false, not, ◌&&◌, ◌||◌, cond, or-true, or_assoc, or_self_left, true≢false}
use mathlib.Core.Logic.{◌⊎◌, inl, inr}
use mathlib.Core.List.{List, [], ◌∷◌}
use Prim.Native.Nat.{ℕ, zero, suc, ◌+◌, ◌*◌, ◌/◌, ◌^◌, ◌≤◌, ◌<◌}
use native.Mathlib.Nat.{pow-suc, mul_comm, mul_assoc, add-mul, one-mul, zero-mul, mul-one, eq-or-lt_of_le}
use native.Mathlib.Omega.{arith}
use lib.Dec.{eqb, ltb}
use lib.Pow.{pow_pos}
use borrow.Author.Tests.{eqb-true, ltb-true, ltb-false}
use Rattle.base_sets.specs.Sets.{members, elem, inserted, joined, mask, RisingFrom, AllUnder, removed, is_one, head_or}
use Rattle.base_sets.proofs.Positions.{positions, members-positions, positions-0, positions-1, positions-zero}
use Rattle.base_sets.proofs.Members.{inserted-front, inserted_same, inserted-past, elem-keep}

pub lt-or-ge : (a b : ℕ) → (a < b) ⊎ (b ≤ a)
lt-or-ge a b = pick (ltb a b) refl
  where
    pick : (t : Bool) → ltb a b ≡ t → (a < b) ⊎ (b ≤ a)
    pick true f = inl (ltb-true a b f)
    pick false f = inr (ltb-false a b f)

-- ---- membership

or_swap : (a b e : Bool) → (a || (b || e)) ≡ (b || (a || e))
or_swap true b e = sym (or-true b)
or_swap false b e = refl

pub elem-inserted : (i j : ℕ) (l : List ℕ) → elem i (inserted j l) ≡ (eqb i j || elem i l)
unfolding elem inserted
elem-inserted i j [] = refl
elem-inserted i j (x ∷ l) = go (ltb j x) (eqb j x) refl (elem-inserted i j l)
  where
    go : (t u : Bool) → eqb j x ≡ u → elem i (inserted j l) ≡ (eqb i j || elem i l)
        → elem i (cond t (j ∷ x ∷ l) (cond u (x ∷ l) (x ∷ inserted j l))) ≡ (eqb i j || (eqb i x || elem i l))
    go true u e ih = refl
    go false true e ih =
        sym (or_self_left (eqb i x) (elem i l)) ∙ ap (λ (n : ℕ). eqb i n || (eqb i x || elem i l)) (sym (eqb-true j x e))
    go false false e ih = ap (λ (t : Bool). eqb i x || t) ih ∙ or_swap (eqb i x) (eqb i j) (elem i l)

pub elem-joined : (i : ℕ) (l k : List ℕ) → elem i (joined l k) ≡ (elem i l || elem i k)
unfolding elem joined
elem-joined i [] k = refl
elem-joined i (x ∷ l) k = elem-inserted i x (joined l k) ∙ ap (λ (t : Bool). eqb i x || t) (elem-joined i l k) ∙ sym (or_assoc (eqb i x) (elem i l) (elem i k))

-- ---- order

pub inserted_rising : (a j : ℕ) (l : List ℕ) → a ≤ j → RisingFrom a l → RisingFrom a (inserted j l)
unfolding inserted
inserted_rising a j [] h r = (h, tt)
inserted_rising a j (x ∷ l) h r = go (lt-or-ge j x) (λ e. inserted_rising (suc x) j l e r.1)
  where
    go : (j < x) ⊎ (x ≤ j) → (x < j → RisingFrom (suc x) (inserted j l)) → RisingFrom a (inserted j (x ∷ l))
    go (inl g) ih = subst (RisingFrom a) (sym (inserted-front j (x ∷ l) (g, r.1))) (h, (g, r.1))
    go (inr g) ih = at (eq-or-lt_of_le g)
      where
        at : (x ≡ j) ⊎ (x < j) → RisingFrom a (inserted j (x ∷ l))
        at (inl e) = subst (RisingFrom a) (sym (inserted_same j x l (sym e))) r
        at (inr e) = subst (RisingFrom a) (sym (inserted-past j x l e)) (r.0, ih e)

-- ---- every rising list of numbers below 64 is the members of one set, the sum of their powers

up : (y b : ℕ) → y * 2 ^ suc b ≡ y * 2 * 2 ^ b
up y b = ap (λ (n : ℕ). y * n) (pow-suc 2 b ∙ mul_comm (2 ^ b) 2) ∙ sym (mul_assoc y 2 (2 ^ b))

placed : (d b : ℕ) (l : List ℕ) → RisingFrom b l → AllUnder (b + d) l → (y : ℕ) × (mask l ≡ y * 2 ^ b) × (y < 2 ^ d) × (positions d b y ≡ l)
unfolding mask positions
placed zero b [] r s = (0, sym (zero-mul (2 ^ b)), omega arith, refl)
placed zero b (x ∷ l) r s = absurd (let p : b ≤ x = r.0 in let q : x < b + 0 = s.0 in let f : ⊥ = omega arith in f)
placed (suc d) b [] r s = (0, sym (zero-mul (2 ^ b)), omega (arith, pow-suc 2 d, pow_pos d), positions-zero (suc d) b)
placed (suc d) b (x ∷ l) r s =
    go (eq-or-lt_of_le r.0) (λ e. placed d (suc b) l (subst (λ (n : ℕ). RisingFrom (suc n) l) (sym e) r.1) (subst (λ (n : ℕ). AllUnder n l) shift s.1))
    (λ e. placed d (suc b) (x ∷ l) (e, r.1) (subst (λ (n : ℕ). AllUnder n (x ∷ l)) shift s))
  where
    shift : b + suc d ≡ suc b + d
    shift = omega arith

    go : (b ≡ x) ⊎ (b < x)
        → (b ≡ x → (y : ℕ) × (mask l ≡ y * 2 ^ suc b) × (y < 2 ^ d) × (positions d (suc b) y ≡ l))
        → (b < x → (y : ℕ) × (mask (x ∷ l) ≡ y * 2 ^ suc b) × (y < 2 ^ d) × (positions d (suc b) y ≡ x ∷ l))
        → (y : ℕ) × (mask (x ∷ l) ≡ y * 2 ^ b) × (y < 2 ^ suc d) × (positions (suc d) b y ≡ x ∷ l)
    go (inl e) p q =
        let t = p e in
        let y = t.0 in
        let lt : y < 2 ^ d = t.2 in
        let h : (1 + y * 2) / 2 ≡ y = omega arith in (
          1 + y * 2,
          ap₂ (λ (m n : ℕ). m + n) (ap (λ (n : ℕ). 2 ^ n) (sym e) ∙ sym (one-mul (2 ^ b))) (t.1 ∙ up y b) ∙ sym (add-mul 1 (y * 2) (2 ^ b)),
          omega (arith, pow-suc 2 d),
          positions-1 d b (1 + y * 2) (omega arith) ∙ (λ i. e i ∷ (ap (positions d (suc b)) h ∙ t.3) i),
        )
    go (inr e) p q =
        let t = q e in
        let y = t.0 in
        let lt : y < 2 ^ d = t.2 in
        let h : y * 2 / 2 ≡ y = omega arith in (
          y * 2,
          t.1 ∙ up y b,
          omega (arith, pow-suc 2 d),
          positions-0 d b (y * 2) (omega arith) ∙ ap (positions d (suc b)) h ∙ t.3,
        )

pub members-mask : (l : List ℕ) → RisingFrom 0 l → AllUnder 64 l → members (mask l) ≡ l
members-mask l r s =
    let t = placed 64 0 l r s in
    ap members (t.1 ∙ mul-one t.0) ∙ members-positions t.0 ∙ t.3

-- ---- removal

pub elem-remove : (i j : ℕ) (l : List ℕ) → elem i (removed j l) ≡ (not (eqb j i) && elem i l)
elem-remove i j l = elem-keep (λ x. not (eqb j x)) i l

-- ---- one member

pub one-is : (e : ℕ) (l : List ℕ) → is_one l ≡ true → l ≡ head_or e l ∷ []
one-is e [] h = absurd (true≢false (sym h))
one-is e (x ∷ []) h = refl
one-is e (x ∷ y ∷ l) h = absurd (true≢false (sym h))

-- The divisions of a list in two, by their numbers. Assumes nothing.
use Rattle.std.proofs.Common.{◌≡◌, ℕ, zero, suc, ◌+◌, ◌-◌, ◌*◌, ◌/◌, ◌%◌, ◌^◌, ◌<◌, ◌≤◌, Bool, true, false, not, ◌||◌, ◌⊎◌, List, [], ◌∷◌, map, length, sym, refl, ap, ◌∙◌, ap₂, inl, inr, pow-suc, zero-mul, arith, pow_mono, eq-eqb, ne_eqb}
use native.Mathlib.Nat.{sub-zero}
use Rattle.base_sets.specs.Sets.{is_odd, keep_if, keep, members, elem, mask, RisingFrom, but}
use Rattle.base_shares.specs.Shares.{put_if, picked, unpicked, spread, shares}
use Rattle.base_sets.proofs.Positions.{parity, odd-0, odd-1}
use Rattle.base_sets.proofs.Members.{rising_down, members-empty}

module _ {A : Type 0} where
  pub picked-0 : (x : A) (l : List A) (k : ℕ) → k % 2 ≡ 0 → picked (x ∷ l) k ≡ picked l (k / 2)
  unfolding picked
  picked-0 x l k e = ap (λ (t : Bool). put_if t x (picked l (k / 2))) (odd-0 k e)

  pub picked-1 : (x : A) (l : List A) (k : ℕ) → k % 2 ≡ 1 → picked (x ∷ l) k ≡ x ∷ picked l (k / 2)
  unfolding picked
  picked-1 x l k e = ap (λ (t : Bool). put_if t x (picked l (k / 2))) (odd-1 k e)

  pub unpicked-0 : (x : A) (l : List A) (k : ℕ) → k % 2 ≡ 0 → unpicked (x ∷ l) k ≡ x ∷ unpicked l (k / 2)
  unfolding unpicked
  unpicked-0 x l k e = ap (λ (t : Bool). put_if (not t) x (unpicked l (k / 2))) (odd-0 k e)

  pub unpicked-1 : (x : A) (l : List A) (k : ℕ) → k % 2 ≡ 1 → unpicked (x ∷ l) k ≡ unpicked l (k / 2)
  unfolding unpicked
  unpicked-1 x l k e = ap (λ (t : Bool). put_if (not t) x (unpicked l (k / 2))) (odd-1 k e)

  -- the first division has nothing on the left, and the last all of it
  pub picked_none : (l : List A) → picked l 0 ≡ []
  unfolding picked
  picked_none [] = refl
  picked_none (x ∷ l) = picked-0 x l 0 refl ∙ picked_none l

  -- division number k, and those from number k on, n of them
  abbrev pub share : List A → ℕ → List A × List A
  share l k = (picked l k, unpicked l k)

  unfoldable pub later : List A → ℕ → ℕ → List (List A × List A)
  later l k zero = []
  later l k (suc n) = share l k ∷ later l (suc k) n

  later-spread : (x : A) (l : List A) (n k : ℕ) → later (x ∷ l) (k * 2) (n * 2) ≡ spread x (later l k n)
  unfolding later spread
  later-spread x l zero k = refl
  later-spread x l (suc n) k =
      let e : suc n * 2 ≡ suc (suc (n * 2)) = omega arith in
      let f : suc (suc (k * 2)) ≡ suc k * 2 = omega arith in
      let d0 : k * 2 / 2 ≡ k = omega arith in
      let d1 : suc (k * 2) / 2 ≡ k = omega arith in
      let a : share (x ∷ l) (k * 2) ≡ (picked l k, x ∷ unpicked l k) =
      λ i. ((picked-0 x l (k * 2) (omega arith) ∙ ap (picked l) d0) i, (unpicked-0 x l (k * 2) (omega arith) ∙ ap (λ (j : ℕ). x ∷ unpicked l j) d0) i) in
      let b : share (x ∷ l) (suc (k * 2)) ≡ (x ∷ picked l k, unpicked l k) =
      λ i. ((picked-1 x l (suc (k * 2)) (omega arith) ∙ ap (λ (j : ℕ). x ∷ picked l j) d1) i, (unpicked-1 x l (suc (k * 2)) (omega arith) ∙ ap (unpicked l) d1) i) in
      ap (later (x ∷ l) (k * 2)) e
      ∙ (λ i. a i ∷ b i ∷ (ap (λ (j : ℕ). later (x ∷ l) j (n * 2)) f ∙ later-spread x l n (suc k)) i)

  -- the divisions are those with the numbers from 0 up to 2 ^ length l
  pub shares-later : (l : List A) → shares l ≡ later l 0 (2 ^ length l)
  unfolding later shares picked unpicked
  shares-later [] = refl
  shares-later (x ∷ l) =
      ap (spread x) (shares-later l) ∙ sym (later-spread x l (2 ^ length l) 0)
      ∙ ap₂ (later (x ∷ l)) (zero-mul 2) (sym (pow-suc 2 (length l)))

  -- those from number k on
  unfoldable pub from : List A → ℕ → List (List A × List A)
  from l k = later l k (2 ^ length l - k)

  pub from_zero : (l : List A) → from l 0 ≡ shares l
  unfolding from
  from_zero l = ap (later l 0) (sub-zero (2 ^ length l)) ∙ sym (shares-later l)

  pub from_one : (l : List A) (k : ℕ) → k < 2 ^ length l → from l k ≡ share l k ∷ from l (suc k)
  unfolding from later
  from_one l k h =
      let e : 2 ^ length l - k ≡ suc (2 ^ length l - suc k) = omega arith in
      ap (later l k) e

  pub from_end : (l : List A) (k : ℕ) → 2 ^ length l ≤ k → from l k ≡ []
  unfolding from later
  from_end l k h =
      let e : 2 ^ length l - k ≡ 0 = omega arith in
      ap (later l k) e

-- a function of the elements passes through
pub picked-map : {A B : Type 0} (f : A → B) (l : List A) (k : ℕ) → picked (map f l) k ≡ map f (picked l k)
unfolding picked
picked-map f [] k = refl
picked-map f (x ∷ l) k = go (is_odd k) (picked-map f l (k / 2))
  where
    go : (t : Bool) → picked (map f l) (k / 2) ≡ map f (picked l (k / 2)) → put_if t (f x) (picked (map f l) (k / 2)) ≡ map f (put_if t x (picked l (k / 2)))
    go true ih = ap (◌∷◌ (f x)) ih
    go false ih = ih

pub unpicked-map : {A B : Type 0} (f : A → B) (l : List A) (k : ℕ) → unpicked (map f l) k ≡ map f (unpicked l k)
unfolding unpicked
unpicked-map f [] k = refl
unpicked-map f (x ∷ l) k = go (not (is_odd k)) (unpicked-map f l (k / 2))
  where
    go : (t : Bool) → unpicked (map f l) (k / 2) ≡ map f (unpicked l (k / 2)) → put_if t (f x) (unpicked (map f l) (k / 2)) ≡ map f (put_if t x (unpicked l (k / 2)))
    go true ih = ap (◌∷◌ (f x)) ih
    go false ih = ih

-- ---- rising lists of numbers

pub picked-rising : (b : ℕ) (l : List ℕ) (k : ℕ) → RisingFrom b l → RisingFrom b (picked l k)
unfolding picked
picked-rising b [] k r = tt
picked-rising b (x ∷ l) k r = go (is_odd k) (picked-rising (suc x) l (k / 2) r.1)
  where
    go : (t : Bool) → RisingFrom (suc x) (picked l (k / 2)) → RisingFrom b (put_if t x (picked l (k / 2)))
    go true q = (r.0, q)
    go false q = rising_down (suc x) b (picked l (k / 2)) (let h : b ≤ x = r.0 in omega arith) q

pub elem_below : (b i : ℕ) (l : List ℕ) → RisingFrom b l → i < b → elem i l ≡ false
unfolding elem
elem_below b i [] r h = refl
elem_below b i (x ∷ l) r h =
    let q : b ≤ x = r.0 in
    ap₂ (λ (t u : Bool). t || u) (ne_eqb i x (λ e. omega arith)) (elem_below (suc x) i l r.1 (omega arith))

keep-above : (p q : ℕ → Bool) (b : ℕ) (l : List ℕ) → RisingFrom b l → ((j : ℕ) → b ≤ j → p j ≡ q j) → keep p l ≡ keep q l
unfolding keep
keep-above p q b [] r h = refl
keep-above p q b (x ∷ l) r h =
    let g : b ≤ x = r.0 in
    ap₂ (λ (t : Bool) (k : List ℕ). keep_if t x k) (h x g) (keep-above p q (suc x) l r.1 (λ j u. h j (omega arith)))

-- what a share leaves
pub but-picked : (b : ℕ) (l : List ℕ) (k : ℕ) → RisingFrom b l → but l (picked l k) ≡ unpicked l k
unfolding keep unpicked picked elem
but-picked b [] k r = refl
but-picked b (x ∷ l) k r = go (is_odd k) (but-picked (suc x) l (k / 2) r.1)
  where
    taken : List ℕ
    taken = picked l (k / 2)

    go : (t : Bool) → but l taken ≡ unpicked l (k / 2) → keep_if (not (elem x (put_if t x taken))) x (but l (put_if t x taken)) ≡ put_if (not t) x (unpicked l (k / 2))
    go true ih =
        ap (λ (u : Bool). keep_if (not (u || elem x taken)) x (but l (x ∷ taken))) (eq-eqb x x refl)
        ∙ keep-above (λ j. not (elem j (x ∷ taken))) (λ j. not (elem j taken)) (suc x) l r.1
        (λ j u. ap (λ (t : Bool). not (t || elem j taken)) (ne_eqb j x (λ e. omega arith)))
        ∙ ih
    go false ih =
        ap (λ (u : Bool). keep_if (not u) x (but l taken)) (elem_below (suc x) x taken (picked-rising (suc x) l (k / 2) r.1) (omega arith))
        ∙ ap (λ (t : List ℕ). x ∷ t) ih

-- THEOREM: the sum of 2 ^ i over a share is below that over the next: the shares come in rising order of it.
pub picked-sum : (b : ℕ) (l : List ℕ) (k : ℕ) → RisingFrom b l → suc k < 2 ^ length l → mask (picked l k) + 2 ^ b ≤ mask (picked l (suc k))
unfolding mask picked
picked-sum b [] k r h = absurd (let f : ⊥ = omega arith in f)
picked-sum b (x ∷ l) k r h = go (parity k) (picked-sum (suc x) l (k / 2) r.1)
  where
    small : 2 ^ b ≤ 2 ^ x
    small = pow_mono r.0

    go : (k % 2 ≡ 0) ⊎ (k % 2 ≡ 1) → (suc (k / 2) < 2 ^ length l → mask (picked l (k / 2)) + 2 ^ suc x ≤ mask (picked l (suc (k / 2))))
        → mask (picked (x ∷ l) k) + 2 ^ b ≤ mask (picked (x ∷ l) (suc k))
    go (inl e) ih =
        let s : suc k / 2 ≡ k / 2 = omega arith in
        omega
        (arith, small, ap mask (picked-0 x l k e), ap mask (picked-1 x l (suc k) (omega arith)), ap (λ (j : ℕ). mask (picked l j)) s)
    go (inr e) ih =
        let s : suc k / 2 ≡ suc (k / 2) = omega arith in
        omega (
          arith,
          small,
          pow-suc 2 x,
          ih (omega (arith, pow-suc 2 (length l))),
          ap mask (picked-1 x l k e),
          ap mask (picked-0 x l (suc k) (omega arith)),
          ap (λ (j : ℕ). mask (picked l j)) s,
        )

-- ---- a loop over the shares of a set

-- the empty set is the first
pub share-first : (m : ℕ) → members 0 ≡ picked (members m) 0
share-first m = members-empty ∙ sym (picked_none (members m))

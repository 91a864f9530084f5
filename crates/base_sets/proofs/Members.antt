-- The members of a set that an operation makes, by the members of the sets that it takes. Assumes nothing.
use mathlib.Core.Path.{◌≡◌, refl, sym, ap, ap₂, ◌∙◌, subst}
use mathlib.Core.Bool.{Bool, true, false, not, ◌&&◌, ◌||◌, and-true, or-true, or-false}
use mathlib.Core.Logic.{◌⊎◌, inl, inr}
use mathlib.Core.List.{List, [], ◌∷◌, tail}
use Prim.Native.Nat.{ℕ, zero, suc, ◌+◌, ◌-◌, ◌*◌, ◌%◌, ◌^◌, ◌≤◌, ◌<◌}
use native.Mathlib.Nat.{mul-one, eq-or-lt_of_le, zero-add, one-mul, mod-eq_of_lt}
use native.Mathlib.Omega.{arith}
use lib.Dec.{eqb, eqb-suc-suc, eqb-suc-zero}
use lib.ListN.{length}
use lib.Bits.{bit_and, bit_or}
use lib.Count.{ones, count_trailing_zeros}
use lib.Pow.{pow_pos, pow-lt}
use borrow.Author.Tests.{eqb-true, eqb-false, eq-eqb, ne_eqb, lt-ltb, le-ltb}
use Rattle.base_sets.specs.Sets.{has, keep_if, keep, numbers_from, members, elem, inserted, joined, head_or, mask, RisingFrom, is_none, is_one, in_both, but, AllUnder}
use Rattle.base_sets.proofs.Digits.{has-and, has-or, has-pow, has-not}
use Rattle.base_sets.proofs.Positions.{members-positions, count-positions, first-positions, rest-positions, mask-positions, positions-zero}

-- ---- keep

pub keep-span : (p q : ℕ → Bool) (b d : ℕ) → ((i : ℕ) → b ≤ i → i < b + d → p i ≡ q i) → keep p (numbers_from b d) ≡ keep q (numbers_from b d)
unfolding keep numbers_from
keep-span p q b zero h = refl
keep-span p q b (suc d) h =
    ap₂ (λ (t : Bool) (l : List ℕ). keep_if t b l) (h b (omega arith) (omega arith))
    (keep-span p q (suc b) d (λ i u v. h i (omega arith) (omega arith)))

pub keep_same : (p q : ℕ → Bool) → ((j : ℕ) → p j ≡ q j) → (l : List ℕ) → keep p l ≡ keep q l
unfolding keep
keep_same p q e [] = refl
keep_same p q e (x ∷ l) = ap₂ (λ (t : Bool) (k : List ℕ). keep_if t x k) (e x) (keep_same p q e l)

pub keep-keep : (p q : ℕ → Bool) (l : List ℕ) → keep p (keep q l) ≡ keep (λ x. q x && p x) l
unfolding keep
keep-keep p q [] = refl
keep-keep p q (x ∷ l) = go (q x) (keep-keep p q l)
  where
    go : (t : Bool) → keep p (keep q l) ≡ keep (λ x. q x && p x) l
        → keep p (keep_if t x (keep q l)) ≡ keep_if (t && p x) x (keep (λ x. q x && p x) l)
    go true ih = ap (keep_if (p x) x) ih
    go false ih = ih

pub elem-keep : (p : ℕ → Bool) (i : ℕ) (l : List ℕ) → elem i (keep p l) ≡ (p i && elem i l)
unfolding keep elem
elem-keep p i [] = no_more (p i)
  where
    no_more : (t : Bool) → false ≡ (t && false)
    no_more true = refl
    no_more false = refl
elem-keep p i (x ∷ l) = go (eqb i x) refl (p x) refl (elem-keep p i l)
  where
    at_x : eqb i x ≡ true → p i ≡ p x
    at_x e = ap p (eqb-true i x e)

    go : (e : Bool) → eqb i x ≡ e → (t : Bool) → p x ≡ t → elem i (keep p l) ≡ (p i && elem i l)
        → elem i (keep_if t x (keep p l)) ≡ (p i && (e || elem i l))
    go true ee true et ih = ap (λ (u : Bool). u || elem i (keep p l)) ee ∙ sym (ap (λ (u : Bool). u && true) (at_x ee ∙ et))
    go true ee false et ih = ih ∙ ap (λ (u : Bool). u && elem i l) (at_x ee ∙ et) ∙ sym (ap (λ (u : Bool). u && true) (at_x ee ∙ et))
    go false ee true et ih = ap (λ (u : Bool). u || elem i (keep p l)) ee ∙ ih
    go false ee false et ih = ih

pub elem-span : (i b d : ℕ) → b ≤ i → i < b + d → elem i (numbers_from b d) ≡ true
unfolding numbers_from elem
elem-span i b zero u v = absurd (let f : ⊥ = omega arith in f)
elem-span i b (suc d) u v = go (eqb i b) refl (λ w. elem-span i (suc b) d w (omega arith))
  where
    go : (e : Bool) → eqb i b ≡ e → (b < i → elem i (numbers_from (suc b) d) ≡ true) → (e || elem i (numbers_from (suc b) d)) ≡ true
    go true ee rest = refl
    go false ee rest = rest (let n : (i ≡ b → ⊥) = eqb-false i b ee in strict (eq-or-lt_of_le u) n)
      where
        strict : (b ≡ i) ⊎ (b < i) → (i ≡ b → ⊥) → b < i
        strict (inl q) n = absurd (n (sym q))
        strict (inr q) n = q

-- a test of the digit is a test of membership
pub has-elem : (m i : ℕ) → i < 64 → elem i (members m) ≡ has m i
unfolding members
has-elem m i h =
    elem-keep (has m) i (numbers_from 0 64) ∙ ap (λ (t : Bool). has m i && t) (elem-span i 0 64 (omega arith) (omega arith)) ∙ and-true (has m i)

-- ---- the operations

pub members-diff : (a b : ℕ) → b < 2 ^ 64 → members (bit_and a ((2 ^ 64 - 1) - b)) ≡ keep (λ i. not (has b i)) (members a)
unfolding members
members-diff a b h =
    keep-span (has (bit_and a ((2 ^ 64 - 1) - b))) (λ i. has a i && not (has b i)) 0 64
    (λ i u v. has-and a ((2 ^ 64 - 1) - b) i ∙ ap (λ (t : Bool). has a i && t) (has-not 64 b i h (omega arith)))
    ∙ sym (keep-keep (λ i. not (has b i)) (has a) (numbers_from 0 64))

-- ---- rising lists

pub rising_down : (a c : ℕ) (l : List ℕ) → c ≤ a → RisingFrom a l → RisingFrom c l
rising_down a c [] h r = tt
rising_down a c (x ∷ l) h r = (let q : a ≤ x = r.0 in omega arith, r.1)

pub keep-rising : (p : ℕ → Bool) (b d : ℕ) → RisingFrom b (keep p (numbers_from b d))
unfolding keep numbers_from
keep-rising p b zero = tt
keep-rising p b (suc d) = go (p b) (keep-rising p (suc b) d)
  where
    go : (t : Bool) → RisingFrom (suc b) (keep p (numbers_from (suc b) d)) → RisingFrom b (keep_if t b (keep p (numbers_from (suc b) d)))
    go true r = (omega arith, r)
    go false r = rising_down (suc b) b (keep p (numbers_from (suc b) d)) (omega arith) r

pub members-rising : (m : ℕ) → RisingFrom 0 (members m)
unfolding members
members-rising m = keep-rising (has m) 0 64

-- ---- insertion

pub inserted-front : (b : ℕ) (l : List ℕ) → RisingFrom (suc b) l → inserted b l ≡ b ∷ l
unfolding inserted
inserted-front b [] r = refl
inserted-front b (x ∷ l) r = rw (lt-ltb b x r.0)

pub inserted_same : (i b : ℕ) (l : List ℕ) → i ≡ b → inserted i (b ∷ l) ≡ b ∷ l
unfolding inserted
inserted_same i b l e = rw (le-ltb i b (omega arith), eq-eqb i b e)

pub inserted-past : (i b : ℕ) (l : List ℕ) → b < i → inserted i (b ∷ l) ≡ b ∷ inserted i l
unfolding inserted
inserted-past i b l h = rw (le-ltb i b (omega arith), ne_eqb i b (λ e. omega arith))

same-or-above : (b i : ℕ) → b ≤ i → (i ≡ b) ⊎ (b < i)
same-or-above b i h = go (eq-or-lt_of_le h)
  where
    go : (b ≡ i) ⊎ (b < i) → (i ≡ b) ⊎ (b < i)
    go (inl e) = inl (sym e)
    go (inr l) = inr l

pub with-span : (p : ℕ → Bool) (i b d : ℕ) → b ≤ i → i < b + d → keep (λ x. p x || eqb i x) (numbers_from b d) ≡ inserted i (keep p (numbers_from b d))
unfolding keep numbers_from
with-span p i b zero u v = absurd (let f : ⊥ = omega arith in f)
with-span p i b (suc d) u v = go (same-or-above b i u) (p b) (λ w. with-span p i (suc b) d w (omega arith))
  where
    K : List ℕ
    K = keep p (numbers_from (suc b) d)

    W : List ℕ
    W = keep (λ x. p x || eqb i x) (numbers_from (suc b) d)

    go : (i ≡ b) ⊎ (b < i) → (t : Bool) → (b < i → W ≡ inserted i K) → keep_if (t || eqb i b) b W ≡ inserted i (keep_if t b K)
    go (inl e) t ih =
        ap₂ (λ (u : Bool) (l : List ℕ). keep_if u b l) (ap (λ (u : Bool). t || u) (eq-eqb i b e) ∙ or-true t)
        (keep-span (λ x. p x || eqb i x) p (suc b) d (λ j g h. ap (λ (u : Bool). p j || u) (ne_eqb i j (λ f. omega arith)) ∙ or-false (p j)))
        ∙ here t
      where
        here : (t : Bool) → b ∷ K ≡ inserted i (keep_if t b K)
        here true = sym (inserted_same i b K e)
        here false = sym (ap (λ (n : ℕ). inserted n K) e ∙ inserted-front b K (keep-rising p (suc b) d))
    go (inr l) true ih = ap (λ (k : List ℕ). b ∷ k) (ih l) ∙ sym (inserted-past i b K l)
    go (inr l) false ih = ap (λ (u : Bool). keep_if u b W) (ne_eqb i b (λ f. omega arith)) ∙ ih l

-- ---- union

pub joined-past : (b : ℕ) (l k : List ℕ) → RisingFrom (suc b) l → joined l (b ∷ k) ≡ b ∷ joined l k
unfolding joined
joined-past b [] k r = refl
joined-past b (x ∷ l) k r =
    ap (inserted x) (joined-past b l k (rising_down (suc x) (suc b) l (let q : b < x = r.0 in omega arith) r.1))
    ∙ inserted-past x b (joined l k) r.0

pub joined-span : (p q : ℕ → Bool) (b d : ℕ) → keep (λ x. p x || q x) (numbers_from b d) ≡ joined (keep p (numbers_from b d)) (keep q (numbers_from b d))
unfolding keep numbers_from joined
joined-span p q b zero = refl
joined-span p q b (suc d) = go (p b) (q b) (joined-span p q (suc b) d)
  where
    kept-p : List ℕ
    kept-p = keep p (numbers_from (suc b) d)

    kept-q : List ℕ
    kept-q = keep q (numbers_from (suc b) d)

    kept_either : List ℕ
    kept_either = keep (λ x. p x || q x) (numbers_from (suc b) d)

    go : (t u : Bool) → kept_either ≡ joined kept-p kept-q → keep_if (t || u) b kept_either ≡ joined (keep_if t b kept-p) (keep_if u b kept-q)
    go true true ih =
        ap (λ (l : List ℕ). b ∷ l) ih ∙ sym (ap (inserted b) (joined-past b kept-p kept-q (keep-rising p (suc b) d)) ∙ inserted_same b b (joined kept-p kept-q) refl)
    go true false ih = sym (ap (inserted b) (sym ih) ∙ inserted-front b kept_either (keep-rising (λ x. p x || q x) (suc b) d))
    go false true ih = ap (λ (l : List ℕ). b ∷ l) ih ∙ sym (joined-past b kept-p kept-q (keep-rising p (suc b) d))
    go false false ih = ih

-- ---- the same of sets

pub members-or : (a b : ℕ) → members (bit_or a b) ≡ joined (members a) (members b)
unfolding members
members-or a b =
    keep-span (has (bit_or a b)) (λ i. has a i || has b i) 0 64 (λ i u v. has-or a b i) ∙ joined-span (has a) (has b) 0 64

pub members-with : (m i : ℕ) → i < 64 → members (bit_or m (2 ^ i)) ≡ inserted i (members m)
unfolding members
members-with m i h =
    keep-span (has (bit_or m (2 ^ i))) (λ j. has m j || eqb i j) 0 64
    (λ j u v. has-or m (2 ^ i) j ∙ ap (λ (t : Bool). has m j || t) (has-pow i j))
    ∙ with-span (has m) i 0 64 (omega arith) (omega arith)

pub members-without : (m i : ℕ) → 2 ^ i < 2 ^ 64 → members (bit_and m ((2 ^ 64 - 1) - 2 ^ i)) ≡ keep (λ j. not (eqb i j)) (members m)
unfolding members
members-without m i h =
    members-diff m (2 ^ i) h
    ∙ keep_same (λ j. not (has (2 ^ i) j)) (λ j. not (eqb i j)) (λ j. ap not (has-pow i j)) (members m)

pub members-empty : members 0 ≡ []
members-empty = members-positions 0 ∙ positions-zero 64 0

pub members-count : (m : ℕ) → m < 2 ^ 64 → ones m ≡ length (members m)
members-count m h = count-positions 64 0 m h ∙ ap length (sym (members-positions m))

pub members-first : (m : ℕ) → head_or 64 (members m) ≡ count_trailing_zeros 64 m
members-first m = ap (head_or 64) (members-positions m) ∙ first-positions 64 0 m ∙ zero-add (count_trailing_zeros 64 m)

pub members-rest : (m : ℕ) → members (bit_and m (m - 1)) ≡ tail (members m)
members-rest m = members-positions (bit_and m (m - 1)) ∙ rest-positions 64 0 m ∙ ap tail (sym (members-positions m))

pub mask-members : (m : ℕ) → m < 2 ^ 64 → mask (members m) ≡ m
mask-members m h = ap mask (members-positions m) ∙ mask-positions 64 0 m h ∙ mul-one m

pub members-same : (a b : ℕ) → a < 2 ^ 64 → b < 2 ^ 64 → members a ≡ members b → a ≡ b
members-same a b p q e = sym (mask-members a p) ∙ ap mask e ∙ mask-members b q

-- with no digit in sight
pub members-both : (a b : ℕ) → members (bit_and a b) ≡ in_both (members a) (members b)
unfolding members
members-both a b =
    keep-span (has (bit_and a b)) (λ i. has a i && elem i (members b)) 0 64
    (λ i u v. has-and a b i ∙ ap (λ (t : Bool). has a i && t) (sym (has-elem b i (omega arith))))
    ∙ sym (keep-keep (λ i. elem i (members b)) (has a) (numbers_from 0 64))

pub members-but : (a b : ℕ) → b < 2 ^ 64 → members (bit_and a ((2 ^ 64 - 1) - b)) ≡ but (members a) (members b)
unfolding members
members-but a b h =
    keep-span (has (bit_and a ((2 ^ 64 - 1) - b))) (λ i. has a i && not (elem i (members b))) 0 64
    (λ i u v. has-and a ((2 ^ 64 - 1) - b) i ∙ ap (λ (t : Bool). has a i && t) (has-not 64 b i h (omega arith) ∙ ap not (sym (has-elem b i (omega arith)))))
    ∙ sym (keep-keep (λ i. not (elem i (members b))) (has a) (numbers_from 0 64))

pub one-test : (l : List ℕ) → eqb (length l) 1 ≡ is_one l
one-test [] = refl
one-test (x ∷ []) = refl
one-test (x ∷ y ∷ l) = eqb-suc-suc (suc (length l)) 0 ∙ eqb-suc-zero (length l)

pub none-test : (m : ℕ) → m < 2 ^ 64 → eqb m 0 ≡ is_none (members m)
unfolding mask
none-test m h = go (members m) (mask-members m h)
  where
    pow-not-zero : (x n : ℕ) → 2 ^ x + n ≡ 0 → ⊥
    pow-not-zero x n e = omega (arith, pow_pos x)

    go : (l : List ℕ) → mask l ≡ m → eqb m 0 ≡ is_none l
    go [] e = eq-eqb m 0 (sym e)
    go (x ∷ l) e = ne_eqb m 0 (λ z. pow-not-zero x (mask l) (e ∙ z))

-- a set that is not empty has a first member and the rest
pub first-and-rest : (m : ℕ) → m < 2 ^ 64 → (m ≡ 0 → ⊥) → members m ≡ head_or 64 (members m) ∷ tail (members m)
unfolding mask
first-and-rest m h n = go (members m) (mask-members m h)
  where
    go : (l : List ℕ) → mask l ≡ m → l ≡ head_or 64 l ∷ tail l
    go [] e = absurd (n (sym e))
    go (x ∷ l) e = refl

-- ---- `1 << i`

pub bit-lt : (i : ℕ) → i < 64 → 2 ^ i < 2 ^ 64
bit-lt i h = pow-lt h

pub bit_is : (i : ℕ) → i < 64 → (1 * 2 ^ i) % 2 ^ 64 ≡ 2 ^ i
bit_is i h = ap (λ (n : ℕ). n % 2 ^ 64) (one-mul (2 ^ i)) ∙ mod-eq_of_lt (bit-lt i h)

pub members-single : (i : ℕ) → i < 64 → members (2 ^ i) ≡ i ∷ []
unfolding inserted
members-single i h = members-with 0 i h ∙ ap (inserted i) members-empty

-- ---- a loop over the members

pub keep-below : (p : ℕ → Bool) (b d n : ℕ) → b + d ≤ n → AllUnder n (keep p (numbers_from b d))
unfolding keep numbers_from
keep-below p b zero n h = tt
keep-below p b (suc d) n h = go (p b) (keep-below p (suc b) d n (omega arith))
  where
    go : (t : Bool) → AllUnder n (keep p (numbers_from (suc b) d)) → AllUnder n (keep_if t b (keep p (numbers_from (suc b) d)))
    go true r = (omega arith, r)
    go false r = r

pub members-below : (m : ℕ) → AllUnder 64 (members m)
unfolding members
members-below m = keep-below (has m) 0 64 64 (omega arith)

-- what `first` and `rest` give of a set that is not empty
pub members_step : (m i r : ℕ) → m < 2 ^ 64 → (m ≡ 0 → ⊥) → i ≡ head_or 64 (members m) → members r ≡ tail (members m) → members m ≡ i ∷ members r
members_step m i r h n p q = first-and-rest m h n ∙ (λ j. sym p j ∷ sym q j)

pub first-is : (m i : ℕ) → m < 2 ^ 64 → (m ≡ 0 → ⊥) → i ≡ head_or 64 (members m) → members m ≡ i ∷ tail (members m)
first-is m i h n p = first-and-rest m h n ∙ ap (λ (j : ℕ). j ∷ tail (members m)) (sym p)

pub first_below : (m i : ℕ) (l : List ℕ) → members m ≡ i ∷ l → i < 64
first_below m i l e = (subst (AllUnder 64) e (members-below m)).0

pub first-low : (m i : ℕ) → m < 2 ^ 64 → (m ≡ 0 → ⊥) → i ≡ head_or 64 (members m) → i < 64
first-low m i h n e = first_below m i (tail (members m)) (first-is m i h n e)

pub not_none : (m : ℕ) → m < 2 ^ 64 → (m ≡ 0 → ⊥) → members m ≡ [] → ⊥
unfolding mask
not_none m h n e = n (sym (mask-members m h) ∙ ap mask e ∙ mask-none)
  where
    mask-none : mask [] ≡ 0
    mask-none = refl

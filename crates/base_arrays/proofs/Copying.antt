-- Arrays copied into a stretch of another, and out of one. Assumes nothing.
use Prim.Native.Nat.{ℕ, zero, suc, ◌+◌, ◌-◌, ◌%◌, ◌≤◌, ◌<◌}
use mathlib.Core.List.{List, ◌∷◌}
use mathlib.Core.Path.{◌≡◌, refl, sym, ap, ◌∙◌, subst}
use native.Mathlib.Omega.{arith}
use lib.Dec.{eqb}
use lib.ListN.{get_or, set, take, drop, length, length-set, length-drop}
use lib.Seq.{get_or-set_same, get_or-set_other, ext_get_or, take_all, drop-cons}
use mir.Syntax.{w8}
use mir.Val.{Fits}
use borrow.Author.Tests.{eqb-true, eqb-false}
use Rattle.base_slices.proofs.Tests.{by_test}
use Rattle.base_arrays.specs.Stretches.{stretch_or, stretch, Put, Widened}

-- ---- a stretch

pub length-stretch : (i n : ℕ) (l : List ℕ) → length (stretch i n l) ≡ n
unfolding stretch_or
length-stretch i zero l = refl
length-stretch i (suc n) l = ap suc (length-stretch (suc i) n l)

pub get_or-stretch : (i n j : ℕ) (l : List ℕ) → j < n → get_or (stretch i n l) j 0 ≡ get_or l (i + j) 0
unfolding stretch_or
get_or-stretch i zero j l m = absurd (let z : ⊥ = omega arith in z)
get_or-stretch i (suc n) zero l m = ap (λ (x : ℕ). get_or l x 0) (let e : i ≡ i + 0 = omega arith in e)
get_or-stretch i (suc n) (suc j) l m = get_or-stretch (suc i) n j l (omega arith) ∙ ap (λ (x : ℕ). get_or l x 0) (let e : suc i + j ≡ i + suc j = omega arith in e)

-- the first n elements of what stands from an index on
pub stretch_is : {A : Type 0} (d : A) (at n : ℕ) (l r : List A) → at + n ≤ length l → r ≡ take n (take (length l - at) (drop at l)) → r ≡ stretch_or d at n l
unfolding stretch_or
stretch_is {A = A} d at n l r m e = e ∙ ap (take n) (take_all (length l - at) (drop at l) (omega (arith, length-drop at l))) ∙ go n at m
  where
    go : (n at : ℕ) → at + n ≤ length l → take n (drop at l) ≡ stretch_or d at n l
    go zero at m = refl
    go (suc n) at m = ap (take (suc n)) (drop-cons l at d (omega arith)) ∙ ap (λ (k : List A). get_or l at d ∷ k) (go n (suc at) (omega arith))

-- ---- element by element

-- a loop that fills r, an array of 64: the first i are those of f
pub record Filling (f : ℕ → ℕ) (i : ℕ) (r : List ℕ) : Type 0 where
  pub kept : length r ≡ 64
  pub copied : (j : ℕ) → j < i → get_or r j 0 ≡ f j

pub filling-none : (f : ℕ → ℕ) (r : List ℕ) → length r ≡ 64 → Filling f 0 r
filling-none f r e = record { kept = e; copied = λ j m. absurd (let z : ⊥ = omega arith in z) }

pub filling-next : (f : ℕ → ℕ) (i v : ℕ) (r : List ℕ) → Filling f i r → i < 64 → v ≡ f i → Filling f (i + 1) (set r i v)
filling-next f i v r F l e =
    let d = F.kept in
    record {
      kept = length-set r i v ∙ d;
      copied = λ j m. by_test (eqb j i)
          (λ t. rw (eqb-true j i t) (get_or-set_same r i v 0 (omega arith) ∙ e))
          (λ t. get_or-set_other r i j v 0 (eqb-false j i t) ∙ F.copied j (omega (arith, eqb-false j i t)));
    }

-- what is so at each index, is so of the array
same-filled : (l r : List ℕ) → length l ≡ 64 → Filling (λ i. get_or l i 0) 64 r → r ≡ l
same-filled l r e F = let d = F.kept in ext_get_or 0 r l (d ∙ sym e) (λ i m. F.copied i (omega arith))

-- numbers below 256 as bytes
pub narrowed : (l r : List ℕ) → length l ≡ 64 → Filling (λ i. get_or l i 0 % 256) 64 r → ((i : ℕ) → i < 64 → get_or l i 0 < 256) → r ≡ l
narrowed l r e F low = same-filled l r e (record { kept = F.kept; copied = λ i m. omega (arith, F.copied i m, low i m) })

-- bytes as numbers
pub widened : (l r : List ℕ) → length l ≡ 64 → Filling (λ i. get_or l i 0) 64 r → ((i : ℕ) → Fits w8 (get_or l i 0)) → Widened l r
widened l r e F low = record { same = same-filled l r e F; bytes = λ i m. subst (λ (n : ℕ). n < 256) (sym (F.copied i m)) (low i).fits }

-- ---- what is put stands, and stays where something is put elsewhere

module _ (at : ℕ) (from before after : List ℕ) (P : Put at from before after) where
  pub put-here : (n : ℕ) → length from ≡ n → stretch at n after ≡ from
  put-here n e = ext_get_or 0 (stretch at n after) from (length-stretch at n after ∙ sym e)
      (λ j m. let l : j < n = subst (λ (x : ℕ). j < x) (length-stretch at n after) m in get_or-stretch at n j after l ∙ P.here 0 j (omega arith))

  pub put-before : (i n : ℕ) → i + n ≤ at → stretch i n after ≡ stretch i n before
  put-before i n l = ext_get_or 0 (stretch i n after) (stretch i n before) (length-stretch i n after ∙ sym (length-stretch i n before))
      (λ j m. let u : j < n = subst (λ (x : ℕ). j < x) (length-stretch i n after) m in get_or-stretch i n j after u ∙ P.below 0 (i + j) (omega arith) ∙ sym (get_or-stretch i n j before u))

-- an array into which another one of its length is put is that one
pub put_whole : (from before after : List ℕ) → length from ≡ length after → Put 0 from before after → after ≡ from
put_whole from before after e P = ext_get_or 0 after from (sym e) (λ j m. let z : j ≡ 0 + j = omega arith in ap (λ (n : ℕ). get_or after n 0) z ∙ P.here 0 j (omega arith))

pub set_before : (i n j v : ℕ) (l : List ℕ) → i + n ≤ j → stretch i n (set l j v) ≡ stretch i n l
set_before i n j v l m = ext_get_or 0 (stretch i n (set l j v)) (stretch i n l) (length-stretch i n (set l j v) ∙ sym (length-stretch i n l))
    (λ x o.
    let u : x < n = subst (λ (y : ℕ). x < y) (length-stretch i n (set l j v)) o in
    get_or-stretch i n x (set l j v) u ∙ get_or-set_other l j (i + x) v 0 (λ e. let z : ⊥ = omega arith in z) ∙ sym (get_or-stretch i n x l u))

-- numbers that are small in a stretch are so in the whole
pub small-in : (at : ℕ) (l k : List ℕ) → stretch at 64 l ≡ k → ((i : ℕ) → i < 64 → get_or k i 0 < 256) → (i : ℕ) → i < 64 → get_or l (at + i) 0 < 256
small-in at l k e s i m = subst (λ (n : ℕ). n < 256) (ap (λ (x : List ℕ). get_or x i 0) (sym e) ∙ get_or-stretch at 64 i l m) (s i m)

pub small_of : (at : ℕ) (l : List ℕ) → ((i : ℕ) → i < 64 → get_or l (at + i) 0 < 256) → (i : ℕ) → i < 64 → get_or (stretch at 64 l) i 0 < 256
small_of at l s i m = subst (λ (n : ℕ). n < 256) (sym (get_or-stretch at 64 i l m)) (s i m)

pub from_start : (l : List ℕ) → ((i : ℕ) → i < 64 → get_or l (0 + i) 0 < 256) → (i : ℕ) → i < 64 → get_or l i 0 < 256
from_start l s i m = let e : 0 + i ≡ i = omega arith in subst (λ (n : ℕ). get_or l n 0 < 256) e (s i m)

pub to_start : (l : List ℕ) → ((i : ℕ) → i < 64 → get_or l i 0 < 256) → (i : ℕ) → i < 64 → get_or l (0 + i) 0 < 256
to_start l s i m = let e : i ≡ 0 + i = omega arith in subst (λ (n : ℕ). get_or l n 0 < 256) e (s i m)

-- ---- stretches of two arrays

-- arrays that agree there
pub stretch-same : (i n : ℕ) (l k : List ℕ) → ((j : ℕ) → i ≤ j → j < i + n → get_or l j 0 ≡ get_or k j 0) → stretch i n l ≡ stretch i n k
stretch-same i n l k same = ext_get_or 0 (stretch i n l) (stretch i n k) (length-stretch i n l ∙ sym (length-stretch i n k))
    (λ j m.
    let u : j < n = subst (λ (y : ℕ). j < y) (length-stretch i n l) m in
    get_or-stretch i n j l u ∙ same (i + j) (omega arith) (omega arith) ∙ sym (get_or-stretch i n j k u))

-- an array of which one entry there is set
pub stretch-set : (at n i j v : ℕ) (l : List ℕ) → j ≡ at + i → i < n → at + n ≤ length l → stretch at n (set l j v) ≡ set (stretch at n l) i v
stretch-set at n i j v l e m w = ext_get_or 0 (stretch at n (set l j v)) (set (stretch at n l) i v)
    (length-stretch at n (set l j v) ∙ sym (length-set (stretch at n l) i v ∙ length-stretch at n l))
    (λ x o.
    let u : x < n = subst (λ (y : ℕ). x < y) (length-stretch at n (set l j v)) o in
    get_or-stretch at n x (set l j v) u ∙ by_test (eqb x i)
    (λ t.
    let q : at + x ≡ j = omega (arith, eqb-true x i t) in
    ap (λ (y : ℕ). get_or (set l j v) y 0) q ∙ get_or-set_same l j v 0 (omega arith)
    ∙ sym (ap (λ (y : ℕ). get_or (set (stretch at n l) i v) y 0) (eqb-true x i t) ∙ get_or-set_same (stretch at n l) i v 0 (omega (arith, length-stretch at n l))))
    (λ t.
    get_or-set_other l j (at + x) v 0 (λ q. let z : ⊥ = omega (arith, eqb-false x i t) in z) ∙ sym (get_or-stretch at n x l u)
    ∙ sym (get_or-set_other (stretch at n l) i x v 0 (eqb-false x i t))))

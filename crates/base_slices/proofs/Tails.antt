-- A list by its first element and its tails, as the readers take it apart. Assumes nothing.
use mathlib.Core.Path.{◌≡◌, refl, ap, ◌∙◌}
use mathlib.Core.List.{List, [], ◌∷◌}
use Prim.Native.Nat.{ℕ, zero, suc, ◌-◌, ◌<◌, ◌≤◌}
use native.Mathlib.Omega.{arith}
use lib.Dec.{ltb}
use lib.ListN.{length, get_or, set, take, drop, replicate, length-drop, length-replicate, get_or-replicate, get_or-eq_default}
use lib.Seq.{take_all, drop-cons}
use borrow.Author.Tests.{ltb-true, ltb-false}
use Rattle.base_slices.proofs.Tests.{by_test}

-- no element
pub no-element : (s : List ℕ) → length s ≡ 0 → s ≡ []
no-element [] h = refl
no-element (x ∷ s) h = absurd (omega arith)

-- the first element and the others
pub first : (s : List ℕ) → 0 < length s → s ≡ get_or s 0 0 ∷ drop 1 s
first s h = drop-cons s 0 0 h

-- an array of zeros has no other entry
pub zeros : (n i : ℕ) → ◌≡◌ {A = ℕ} (get_or (replicate n 0) i 0) 0
zeros n i = by_test (ltb i n) (λ u. get_or-replicate n i 0 0 (ltb-true i n u)) (λ u. get_or-eq_default (replicate n 0) 0 (omega (arith, length-replicate {A = ℕ} n 0, ltb-false i n u)))

-- the part from k on, as the code lends it
abbrev pub part : List ℕ → ℕ → List ℕ
part s k = take (length s - k) (drop k s)

pub part-drop : (s : List ℕ) (k : ℕ) → part s k ≡ drop k s
part-drop s k = take_all (length s - k) (drop k s) (omega (arith, length-drop k s))

pub length_part : (s : List ℕ) (k : ℕ) → length (part s k) ≡ length s - k
length_part s k = ap length (part-drop s k) ∙ length-drop k s

-- the tail from the index before i is one longer
pub before : (s : List ℕ) (i : ℕ) → 0 < i → i ≤ length s → drop (i - 1) s ≡ get_or s (i - 1) 0 ∷ drop i s
before s i h k =
    let e : suc (i - 1) ≡ i = omega arith in
    drop-cons s (i - 1) 0 (omega arith) ∙ ap (λ (n : ℕ). get_or s (i - 1) 0 ∷ drop n s) e

-- an array that is filled from the end
pub drop-set : (s : List ℕ) (i v : ℕ) → 0 < i → i ≤ length s → drop (i - 1) (set s (i - 1) v) ≡ v ∷ drop i s
drop-set s zero v z h = absurd (omega arith)
drop-set [] (suc i) v z h = absurd (omega arith)
drop-set (x ∷ s) (suc zero) v z h = refl
drop-set (x ∷ s) (suc (suc i)) v z h =
    let e : suc (suc i) - 1 ≡ suc (suc i - 1) = omega arith in
    rw e (drop-set s (suc i) v (omega arith) (omega arith))

-- one of a length that is known
pub front-set : (n : ℕ) (s : List ℕ) (i v : ℕ) → length s ≡ n → 0 < i → i ≤ n → drop (i - 1) (set s (i - 1) v) ≡ v ∷ drop i s
front-set n s i v l z h = drop-set s i v z (rw l h)

-- How pieces of text follow one another. Assumes nothing.
use Prim.Native.Nat.{ℕ, ◌+◌, ◌≤◌, ◌<◌}
use mathlib.Core.List.{List, [], ◌∷◌, ◌++◌, append-nil, append_assoc}
use mathlib.Core.Path.{◌≡◌, refl, sym, ap, ◌∙◌, subst}
use native.Mathlib.Numerals.{add-one}
use native.Mathlib.Omega.{arith}
use lib.ListN.{length, take, set, get_or, length-append, length-set}
use lib.Seq.{take-suc, take-suc-set}
use Rattle.program_digits.specs.Digits.{Puts}

-- nothing
pub puts_none : {t : List ℕ} {at : ℕ} → Puts t t at at []
puts_none {t} {at} = record { kept = refl; put = λ h. (omega arith, sym (append-nil (take at t))) }

-- one byte, where there is room
pub puts-byte : {t : List ℕ} {at b : ℕ} → at < length t → Puts t (set t at b) at (at + 1) (b ∷ [])
puts-byte {t} {at} {b} l = record {
  kept = length-set t at b;
  put = λ h. (refl, subst (λ (k : ℕ). take k (set t at b) ≡ take at t ++ (b ∷ [])) (sym (add-one at)) (take-suc-set t at b l));
}

-- a byte for which there is no room
pub puts-cut : {t : List ℕ} {at b : ℕ} → length t ≤ at → Puts t t at at (b ∷ [])
puts-cut l = record { kept = refl; put = λ h. absurd (let z : ⊥ = omega (arith, h) in z) }

-- one piece behind another
pub puts-more : {a b c : List ℕ} {i j k : ℕ} {p q : List ℕ} → Puts a b i j p → Puts b c j k q → Puts a c i k (p ++ q)
puts-more {a} {b} {c} {i} {j} {k} {p} {q} x y = record { kept = y.kept ∙ x.kept; put = λ h. more h }
  where
    long : length (p ++ q) ≡ length p + length q
    long = length-append p q

    more : i + length (p ++ q) ≤ length a → (k ≡ i + length (p ++ q)) × (take k c ≡ take i a ++ (p ++ q))
    more h =
        let u = x.put (omega (arith, h, long)) in
        let v = y.put (omega (arith, h, long, u.0, x.kept)) in
        (omega (arith, u.0, v.0, long), v.1 ∙ ap (λ (r : List ℕ). r ++ q) u.1 ∙ append_assoc (take i a) p q)

-- the same piece by another name
pub puts-as : {a b : List ℕ} {i j : ℕ} {p q : List ℕ} → p ≡ q → Puts a b i j p → Puts a b i j q
puts-as {a} {b} {i} {j} e x = subst (λ (r : List ℕ). Puts a b i j r) e x

-- the first n + 1 elements behind the first n
pub next-is : (p : List ℕ) (n : ℕ) → n < length p → take n p ++ (get_or p n 0 ∷ []) ≡ take (n + 1) p
next-is p n l = sym (ap (λ (k : ℕ). take k p) (add-one n) ∙ take-suc p n 0 l)

pub puts-next : {a b c : List ℕ} {i j k : ℕ} (p : List ℕ) (n : ℕ) → n < length p → Puts a b i j (take n p) → Puts b c j k (get_or p n 0 ∷ []) → Puts a c i k (take (n + 1) p)
puts-next p n l x y = puts-as (next-is p n l) (puts-more x y)

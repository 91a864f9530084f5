-- Numbers as text: their digits one by one. Assumes nothing.
use Prim.Native.Nat.{ℕ, zero, suc, ◌+◌, ◌-◌, ◌/◌, ◌%◌, ◌^◌, ◌≤◌, ◌<◌}
use mathlib.Core.List.{List, [], ◌∷◌, ◌++◌, append-nil, append_assoc}
use mathlib.Core.Path.{◌≡◌, refl, sym, ap, ◌∙◌}
use native.Mathlib.Nat.{pow-suc}
use native.Mathlib.Omega.{arith}
use borrow.Author.Tests.{lt-ltb, le-ltb}
use lib.ListN.{length, take, get_or}
use Rattle.program_digits.specs.Digits.{digit, hexadecimal, line, lines, decimal_by, decimal, Puts}
use Rattle.program_digits.proofs.Putting.{puts-more, puts-as, next-is}

-- ---- base ten

pub puts-digit : {a b : List ℕ} {i j : ℕ} (n k : ℕ) → n < 10 → Puts a b i j ((48 + n) ∷ []) → Puts a b i j (decimal_by (suc k) n)
unfolding decimal_by
puts-digit n k l x = rw (lt-ltb n 10 l) x

decimal-more : (k n : ℕ) → 10 ≤ n → decimal_by k (n / 10) ++ ((48 + n % 10) ∷ []) ≡ decimal_by (suc k) n
unfolding decimal_by
decimal-more k n l = rw (le-ltb n 10 l) refl

-- twenty digits hold every number of 64 bits
pub puts-twenty : {a b : List ℕ} {i j : ℕ} (n : ℕ) → n < 18446744073709551616 → ((k : ℕ) → n < 10 ^ suc k → Puts a b i j (decimal_by (suc k) n)) → Puts a b i j (decimal n)
puts-twenty n l x = x 19 (omega (arith, l))

-- the last digit behind the others
pub puts-decimal : {a b c : List ℕ} {i j r : ℕ} (n : ℕ) → 10 ≤ n
    → ((k : ℕ) → n / 10 < 10 ^ suc k → Puts a b i j (decimal_by (suc k) (n / 10)))
    → Puts b c j r ((48 + n % 10) ∷ [])
    → (k : ℕ) → n < 10 ^ suc k → Puts a c i r (decimal_by (suc k) n)
puts-decimal n l x y zero h = absurd (let z : ⊥ = omega (arith, h, pow-suc 10 0) in z)
puts-decimal n l x y (suc k) h =
    let m : n / 10 < 10 ^ suc k = omega (arith, h, pow-suc 10 (suc k)) in
    puts-as (decimal-more (suc k) n l) (puts-more (x k m) y)

-- ---- base sixteen

pub hex-none : (k w : ℕ) → k ≡ 0 → [] ≡ hexadecimal k w
unfolding hexadecimal
hex-none zero w e = refl
hex-none (suc k) w e = absurd (let z : ⊥ = omega (arith, e) in z)

-- the last digit behind the others
pub puts-hexadecimal : {a b c : List ℕ} {i j r : ℕ} (k w d : ℕ) → (k ≡ 0 → ⊥) → Puts a b i j (hexadecimal (k - 1) (w / 16)) → d ≡ digit (w % 16) → Puts b c j r (d ∷ []) → Puts a c i r (hexadecimal k w)
unfolding hexadecimal
puts-hexadecimal zero w d l x e y = absurd (l refl)
puts-hexadecimal (suc k) w d l x e y =
    let s : suc k - 1 ≡ k = omega arith in
    puts-as (λ t. hexadecimal (s t) (w / 16) ++ (e t ∷ [])) (puts-more x y)

-- ---- words, one a line

lines-append : (a b : List ℕ) → lines (a ++ b) ≡ lines a ++ lines b
unfolding lines
lines-append [] b = refl
lines-append (w ∷ a) b = ap (λ (r : List ℕ). line w ++ r) (lines-append a b) ∙ sym (append_assoc (line w) (lines a) (lines b))

lines-one : (w : ℕ) → lines (w ∷ []) ≡ line w
unfolding lines
lines-one w = append-nil (line w)

-- one line more
pub puts-line : {a b c : List ℕ} {i j k : ℕ} (p : List ℕ) (n : ℕ) → n < length p → Puts a b i j (lines (take n p)) → Puts b c j k (line (get_or p n 0)) → Puts a c i k (lines (take (n + 1) p))
puts-line p n l x y = puts-as (ap (λ (r : List ℕ). lines (take n p) ++ r) (sym (lines-one (get_or p n 0))) ∙ sym (lines-append (take n p) (get_or p n 0 ∷ [])) ∙ ap lines (next-is p n l)) (puts-more x y)

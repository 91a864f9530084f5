-- The digits of the results of the bit operations. Assumes nothing.
use mathlib.Core.Path.{◌≡◌, refl, sym, ap, ◌∙◌}
use mathlib.Core.Bool.{not, ◌&&◌, ◌||◌}
use Prim.Native.Nat.{ℕ, zero, suc, ◌-◌, ◌/◌, ◌%◌, ◌^◌, ◌<◌, min, max}
use native.Mathlib.Nat.{not-suc-le-zero, div-one, pow-suc, div-div-eq-div-mul, zero-div, mul_comm}
use native.Mathlib.Omega.{arith}
use lib.Dec.{eqb, eqb-suc-suc, eqb-zero-suc, eqb-suc-zero}
use lib.Bits.{bit_and, bit_or, and_step, or_step, and_shr, or_shr}
use lib.Pow.{pow_pos}
use Rattle.base_sets.specs.Sets.{is_odd, has}

-- ---- one digit

pub and_low : (a b : ℕ) → bit_and a b % 2 ≡ min (a % 2) (b % 2)
and_low a b = omega (arith, and_step a b)

pub and-half : (a b : ℕ) → bit_and a b / 2 ≡ bit_and (a / 2) (b / 2)
and-half a b = omega (arith, and_step a b)

pub or-low : (a b : ℕ) → bit_or a b % 2 ≡ max (a % 2) (b % 2)
or-low a b = omega (arith, or_step a b)

-- ---- the digit as a test

above-two : (x : ℕ) → suc (suc x) < 2 → ⊥
above-two x p = omega arith

min-bit : (x y : ℕ) → x < 2 → y < 2 → eqb (min x y) 1 ≡ (eqb x 1 && eqb y 1)
min-bit zero zero p q = refl
min-bit zero (suc zero) p q = refl
min-bit (suc zero) zero p q = refl
min-bit (suc zero) (suc zero) p q = refl
min-bit zero (suc (suc y)) p q = absurd (above-two y q)
min-bit (suc zero) (suc (suc y)) p q = absurd (above-two y q)
min-bit (suc (suc x)) y p q = absurd (above-two x p)

max-bit : (x y : ℕ) → x < 2 → y < 2 → eqb (max x y) 1 ≡ (eqb x 1 || eqb y 1)
max-bit zero zero p q = refl
max-bit zero (suc zero) p q = refl
max-bit (suc zero) zero p q = refl
max-bit (suc zero) (suc zero) p q = refl
max-bit zero (suc (suc y)) p q = absurd (above-two y q)
max-bit (suc zero) (suc (suc y)) p q = absurd (above-two y q)
max-bit (suc (suc x)) y p q = absurd (above-two x p)

sub-bit : (x : ℕ) → x < 2 → eqb (1 - x) 1 ≡ not (eqb x 1)
sub-bit zero p = refl
sub-bit (suc zero) p = refl
sub-bit (suc (suc x)) p = absurd (above-two x p)

pub odd-and : (a b : ℕ) → is_odd (bit_and a b) ≡ (is_odd a && is_odd b)
unfolding is_odd
odd-and a b = ap (λ (x : ℕ). eqb x 1) (and_low a b) ∙ min-bit (a % 2) (b % 2) (omega arith) (omega arith)

pub odd-or : (a b : ℕ) → is_odd (bit_or a b) ≡ (is_odd a || is_odd b)
unfolding is_odd
odd-or a b = ap (λ (x : ℕ). eqb x 1) (or-low a b) ∙ max-bit (a % 2) (b % 2) (omega arith) (omega arith)

-- ---- the digit at a position

pub has-and : (a b i : ℕ) → has (bit_and a b) i ≡ (has a i && has b i)
unfolding has
has-and a b i = ap is_odd (and_shr a b i) ∙ odd-and (a / 2 ^ i) (b / 2 ^ i)

pub has-or : (a b i : ℕ) → has (bit_or a b) i ≡ (has a i || has b i)
unfolding has
has-or a b i = ap is_odd (or_shr a b i) ∙ odd-or (a / 2 ^ i) (b / 2 ^ i)

-- one digit down
pub shr-suc : (m i : ℕ) → m / 2 ^ suc i ≡ m / 2 / 2 ^ i
shr-suc m i = ap (λ (x : ℕ). m / x) (pow-suc 2 i ∙ mul_comm (2 ^ i) 2) ∙ sym (div-div-eq-div-mul m 2 (2 ^ i))

pub shr-suc' : (m i : ℕ) → m / 2 ^ suc i ≡ m / 2 ^ i / 2
shr-suc' m i = ap (λ (x : ℕ). m / x) (pow-suc 2 i) ∙ sym (div-div-eq-div-mul m (2 ^ i) 2)

pub has-suc : (m i : ℕ) → has m (suc i) ≡ has (m / 2) i
unfolding has
has-suc m i = ap is_odd (shr-suc m i)

pub has-zero : (m : ℕ) → has m 0 ≡ is_odd m
unfolding has
has-zero m = ap is_odd (div-one m)

-- the set with i alone
pub has-pow : (i j : ℕ) → has (2 ^ i) j ≡ eqb i j
unfolding has is_odd
has-pow zero zero = refl
has-pow zero (suc j) = has-suc 1 j ∙ ap (λ (x : ℕ). eqb (x % 2) 1) (zero-div (2 ^ j)) ∙ sym (eqb-zero-suc j)
has-pow (suc i) zero =
    let e : 2 ^ suc i % 2 ≡ 0 = omega (arith, pow-suc 2 i) in
    has-zero (2 ^ suc i) ∙ ap (λ (x : ℕ). eqb x 1) e ∙ sym (eqb-suc-zero i)
has-pow (suc i) (suc j) =
    let e : 2 ^ suc i / 2 ≡ 2 ^ i = omega (arith, pow-suc 2 i) in
    has-suc (2 ^ suc i) j ∙ ap (λ (x : ℕ). has x j) e ∙ has-pow i j ∙ sym (eqb-suc-suc i j)

-- the complement within d digits
pub has-not : (d x i : ℕ) → x < 2 ^ d → i < d → has ((2 ^ d - 1) - x) i ≡ not (has x i)
unfolding has is_odd
has-not zero x i p q = absurd (not-suc-le-zero q)
has-not (suc d) x zero p q =
    let e : ((2 ^ suc d - 1) - x) % 2 ≡ 1 - x % 2 = omega (arith, pow-suc 2 d, pow_pos d) in
    has-zero ((2 ^ suc d - 1) - x)
    ∙ ap (λ (y : ℕ). eqb y 1) e
    ∙ sub-bit (x % 2) (omega arith)
    ∙ ap not (sym (has-zero x))
has-not (suc d) x (suc i) p q =
    let e : ((2 ^ suc d - 1) - x) / 2 ≡ (2 ^ d - 1) - x / 2 = omega (arith, pow-suc 2 d, pow_pos d) in
    has-suc ((2 ^ suc d - 1) - x) i
    ∙ ap (λ (y : ℕ). has y i) e
    ∙ has-not d (x / 2) i (omega (arith, pow-suc 2 d)) (omega arith)
    ∙ ap not (sym (has-suc x i))

-- The members of a set by its digits, lowest first; their count, the first, the rest, and the sum of their powers. Assumes nothing.
use mathlib.Core.Path.{◌≡◌, refl, sym, ap, ap₂, ◌∙◌}
use mathlib.Core.Bool.{Bool, true, false}
use mathlib.Core.Logic.{◌⊎◌, inl, inr}
use mathlib.Core.List.{List, [], ◌∷◌, tail}
use Prim.Native.Nat.{ℕ, zero, suc, ◌+◌, ◌-◌, ◌*◌, ◌/◌, ◌%◌, ◌^◌, ◌<◌}
use native.Mathlib.Nat.{div-one, pow-suc, mul_assoc, mul_comm, add-mul, one-mul, zero-mul}
use native.Mathlib.Omega.{arith}
use lib.Arith.{lt-one}
use lib.Dec.{eqb}
use lib.ListN.{length}
use lib.Bits.{bit_and, and_self}
use lib.Count.{ones, ones_step, count_trailing_zeros, under}
use Rattle.base_sets.specs.Sets.{is_odd, has, keep_if, keep, numbers_from, members, head_or, mask}
use Rattle.base_sets.proofs.Digits.{shr-suc', and_low, and-half}

unfoldable pub positions : ℕ → ℕ → ℕ → List ℕ
positions zero b x = []
positions (suc d) b x = keep_if (is_odd x) b (positions d (suc b) (x / 2))

pub keep-positions : (m b d : ℕ) → keep (has m) (numbers_from b d) ≡ positions d b (m / 2 ^ b)
unfolding keep numbers_from positions has
keep-positions m b zero = refl
keep-positions m b (suc d) =
    ap (keep_if (is_odd (m / 2 ^ b)) b) (keep-positions m (suc b) d ∙ ap (positions d (suc b)) (shr-suc' m b))

pub members-positions : (m : ℕ) → members m ≡ positions 64 0 m
unfolding members
members-positions m = keep-positions m 0 64 ∙ ap (positions 64 0) (div-one m)

-- ---- even and odd

pub parity : (n : ℕ) → (n % 2 ≡ 0) ⊎ (n % 2 ≡ 1)
parity n = go (n % 2) (omega arith)
  where
    go : (r : ℕ) → r < 2 → (r ≡ 0) ⊎ (r ≡ 1)
    go zero h = inl refl
    go (suc zero) h = inr refl
    go (suc (suc r)) h = absurd (let f : ⊥ = omega arith in f)

pub odd-0 : (n : ℕ) → n % 2 ≡ 0 → is_odd n ≡ false
unfolding is_odd
odd-0 n e = ap (λ (r : ℕ). eqb r 1) e

pub odd-1 : (n : ℕ) → n % 2 ≡ 1 → is_odd n ≡ true
unfolding is_odd
odd-1 n e = ap (λ (r : ℕ). eqb r 1) e

pub positions-0 : (d b n : ℕ) → n % 2 ≡ 0 → positions (suc d) b n ≡ positions d (suc b) (n / 2)
unfolding positions
positions-0 d b n e = ap (λ (t : Bool). keep_if t b (positions d (suc b) (n / 2))) (odd-0 n e)

pub positions-1 : (d b n : ℕ) → n % 2 ≡ 1 → positions (suc d) b n ≡ b ∷ positions d (suc b) (n / 2)
unfolding positions
positions-1 d b n e = ap (λ (t : Bool). keep_if t b (positions d (suc b) (n / 2))) (odd-1 n e)

pub positions-zero : (d b : ℕ) → positions d b 0 ≡ []
unfolding positions
positions-zero zero b = refl
positions-zero (suc d) b = positions-0 d b 0 refl ∙ positions-zero d (suc b)

-- ---- the count

pub count-positions : (d b x : ℕ) → x < 2 ^ d → ones x ≡ length (positions d b x)
unfolding positions ones
count-positions zero b x h = ap ones (lt-one h)
count-positions (suc d) b x h = go (count-positions d (suc b) (x / 2) (omega (arith, pow-suc 2 d))) (parity x)
  where
    go : ones (x / 2) ≡ length (positions d (suc b) (x / 2)) → (x % 2 ≡ 0) ⊎ (x % 2 ≡ 1) → ones x ≡ length (positions (suc d) b x)
    go ih (inl e) = omega (arith, ones_step x, ap length (positions-0 d b x e))
    go ih (inr e) = omega (arith, ones_step x, ap length (positions-1 d b x e))

-- ---- the first

pub first-positions : (d b x : ℕ) → head_or (b + d) (positions d b x) ≡ b + count_trailing_zeros d x
unfolding positions count_trailing_zeros
first-positions zero b x = refl
first-positions (suc d) b x = go (first-positions d (suc b) (x / 2)) (parity x)
  where
    go : head_or (suc b + d) (positions d (suc b) (x / 2)) ≡ suc b + count_trailing_zeros d (x / 2) → (x % 2 ≡ 0) ⊎ (x % 2 ≡ 1)
        → head_or (b + suc d) (positions (suc d) b x) ≡ b + count_trailing_zeros (suc d) x
    go ih (inl e) =
        let s : b + suc d ≡ suc b + d = omega arith in
        let z : suc b + count_trailing_zeros d (x / 2) ≡ b + suc (count_trailing_zeros d (x / 2)) = omega arith in
        ap₂ head_or s (positions-0 d b x e) ∙ ih ∙ z ∙ ap (λ (r : ℕ). b + under r (count_trailing_zeros d (x / 2))) (sym e)
    go ih (inr e) =
        let z : b ≡ b + 0 = omega arith in
        ap (head_or (b + suc d)) (positions-1 d b x e) ∙ z ∙ ap (λ (r : ℕ). b + under r (count_trailing_zeros d (x / 2))) (sym e)

-- ---- the rest

pub rest-positions : (d b x : ℕ) → positions d b (bit_and x (x - 1)) ≡ tail (positions d b x)
unfolding positions
rest-positions zero b x = refl
rest-positions (suc d) b x = go (rest-positions d (suc b) (x / 2)) (parity x)
  where
    go : positions d (suc b) (bit_and (x / 2) (x / 2 - 1)) ≡ tail (positions d (suc b) (x / 2)) → (x % 2 ≡ 0) ⊎ (x % 2 ≡ 1)
        → positions (suc d) b (bit_and x (x - 1)) ≡ tail (positions (suc d) b x)
    go ih (inl e) =
        let z : bit_and x (x - 1) % 2 ≡ 0 = omega (arith, and_low x (x - 1)) in
        let h : (x - 1) / 2 ≡ x / 2 - 1 = omega arith in
        positions-0 d b (bit_and x (x - 1)) z
        ∙ ap (positions d (suc b)) (and-half x (x - 1) ∙ ap (bit_and (x / 2)) h)
        ∙ ih ∙ ap tail (sym (positions-0 d b x e))
    go ih (inr e) =
        let z : bit_and x (x - 1) % 2 ≡ 0 = omega (arith, and_low x (x - 1)) in
        let h : (x - 1) / 2 ≡ x / 2 = omega arith in
        positions-0 d b (bit_and x (x - 1)) z
        ∙ ap (positions d (suc b)) (and-half x (x - 1) ∙ ap (bit_and (x / 2)) h ∙ and_self (x / 2))
        ∙ ap tail (sym (positions-1 d b x e))

-- ---- the sum of the powers

pub mask-positions : (d b x : ℕ) → x < 2 ^ d → mask (positions d b x) ≡ x * 2 ^ b
unfolding positions mask
mask-positions zero b x h = sym (ap (λ (n : ℕ). n * 2 ^ b) (lt-one h) ∙ zero-mul (2 ^ b))
mask-positions (suc d) b x h = go (mask-positions d (suc b) (x / 2) (omega (arith, pow-suc 2 d))) (parity x)
  where
    up : x / 2 * 2 ^ suc b ≡ x / 2 * 2 * 2 ^ b
    up = ap (λ (n : ℕ). x / 2 * n) (pow-suc 2 b ∙ mul_comm (2 ^ b) 2) ∙ sym (mul_assoc (x / 2) 2 (2 ^ b))

    go : mask (positions d (suc b) (x / 2)) ≡ x / 2 * 2 ^ suc b → (x % 2 ≡ 0) ⊎ (x % 2 ≡ 1) → mask (positions (suc d) b x) ≡ x * 2 ^ b
    go ih (inl e) =
        let z : x / 2 * 2 ≡ x = omega arith in
        ap mask (positions-0 d b x e) ∙ ih ∙ up ∙ ap (λ (n : ℕ). n * 2 ^ b) z
    go ih (inr e) =
        let z : 1 + x / 2 * 2 ≡ x = omega arith in
        ap mask (positions-1 d b x e)
        ∙ ap₂ (λ (p q : ℕ). p + q) (sym (one-mul (2 ^ b))) (ih ∙ up)
        ∙ sym (add-mul 1 (x / 2 * 2) (2 ^ b))
        ∙ ap (λ (n : ℕ). n * 2 ^ b) z

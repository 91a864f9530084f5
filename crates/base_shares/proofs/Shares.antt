-- The shares of a set in their order, and the step from one to the next. Assumes nothing.
use Rattle.std.proofs.Common.{◌≡◌, ℕ, zero, suc, ◌+◌, ◌-◌, ◌*◌, ◌/◌, ◌%◌, ◌^◌, ◌<◌, ◌≤◌, Bool, cond, ◌⊎◌, List, [], ◌∷◌, length, sym, refl, ap, ◌∙◌, inl, inr, eq-or-lt_of_le, pow-suc, arith, pow_pos}
use lib.Arith.{lt-one}
use lib.Bits.{bit_and, and_step, and_zero_r, and_le_l}
use Rattle.base_sets.specs.Sets.{is_odd, members, in_both}
use Rattle.base_shares.specs.Shares.{put_if, picked}
use Rattle.base_sets.proofs.Digits.{and_low, and-half}
use Rattle.base_sets.proofs.Members.{members-same, members-both, members-empty}
use Rattle.base_sets.proofs.Lists.{lt-or-ge}
use Rattle.base_sets.proofs.Positions.{positions, members-positions, parity, odd-0, odd-1, positions-0, positions-1}

-- the digits of k, put at the positions where m has a 1
unfoldable pub deposit : ℕ → ℕ → ℕ → ℕ
deposit zero m k = 0
deposit (suc d) m k = cond (is_odd m) (deposit d (m / 2) (k / 2) * 2 + k % 2) (deposit d (m / 2) k * 2)

pub deposit-0 : (d m k : ℕ) → m % 2 ≡ 0 → deposit (suc d) m k ≡ deposit d (m / 2) k * 2
unfolding deposit
deposit-0 d m k e = ap (λ (t : Bool). cond t (deposit d (m / 2) (k / 2) * 2 + k % 2) (deposit d (m / 2) k * 2)) (odd-0 m e)

pub deposit-1 : (d m k : ℕ) → m % 2 ≡ 1 → deposit (suc d) m k ≡ deposit d (m / 2) (k / 2) * 2 + k % 2
unfolding deposit
deposit-1 d m k e = ap (λ (t : Bool). cond t (deposit d (m / 2) (k / 2) * 2 + k % 2) (deposit d (m / 2) k * 2)) (odd-1 m e)

-- ---- how it stands to m

pub deposit-le : (d m k : ℕ) → deposit d m k ≤ m
unfolding deposit
deposit-le zero m k = omega arith
deposit-le (suc d) m k = go (deposit-le d (m / 2) k) (deposit-le d (m / 2) (k / 2)) (parity m)
  where
    go : deposit d (m / 2) k ≤ m / 2 → deposit d (m / 2) (k / 2) ≤ m / 2 → (m % 2 ≡ 0) ⊎ (m % 2 ≡ 1) → deposit (suc d) m k ≤ m
    go p q (inl e) = omega (arith, deposit-0 d m k e)
    go p q (inr e) = omega (arith, deposit-1 d m k e)

-- its members are the share with the number k
pub deposit-positions : (d b m k : ℕ) → positions d b (deposit d m k) ≡ picked (positions d b m) k
unfolding deposit positions picked
deposit-positions zero b m k = refl
deposit-positions (suc d) b m k = go (deposit-positions d (suc b) (m / 2) k) (deposit-positions d (suc b) (m / 2) (k / 2)) (parity m)
  where
    R : List ℕ
    R = positions d (suc b) (m / 2)

    go : positions d (suc b) (deposit d (m / 2) k) ≡ picked R k → positions d (suc b) (deposit d (m / 2) (k / 2)) ≡ picked R (k / 2)
        → (m % 2 ≡ 0) ⊎ (m % 2 ≡ 1) → positions (suc d) b (deposit (suc d) m k) ≡ picked (positions (suc d) b m) k
    go p q (inl e) =
        let z : deposit (suc d) m k % 2 ≡ 0 = omega (arith, deposit-0 d m k e) in
        let h : deposit (suc d) m k / 2 ≡ deposit d (m / 2) k = omega (arith, deposit-0 d m k e) in
        positions-0 d b (deposit (suc d) m k) z ∙ ap (positions d (suc b)) h ∙ p ∙ ap (λ (l : List ℕ). picked l k) (sym (positions-0 d b m e))
    go p q (inr e) =
        let h : deposit (suc d) m k / 2 ≡ deposit d (m / 2) (k / 2) = omega (arith, deposit-1 d m k e) in
        low (parity k) (ap (positions d (suc b)) h ∙ q) ∙ ap (λ (l : List ℕ). picked l k) (sym (positions-1 d b m e))
      where
        low : (k % 2 ≡ 0) ⊎ (k % 2 ≡ 1) → positions d (suc b) (deposit (suc d) m k / 2) ≡ picked R (k / 2)
            → positions (suc d) b (deposit (suc d) m k) ≡ put_if (is_odd k) b (picked R (k / 2))
        low (inl f) r =
            let z : deposit (suc d) m k % 2 ≡ 0 = omega (arith, deposit-1 d m k e) in
            positions-0 d b (deposit (suc d) m k) z ∙ r ∙ ap (λ (t : Bool). put_if t b (picked R (k / 2))) (sym (odd-0 k f))
        low (inr f) r =
            let z : deposit (suc d) m k % 2 ≡ 1 = omega (arith, deposit-1 d m k e) in
            positions-1 d b (deposit (suc d) m k) z ∙ ap (λ (l : List ℕ). b ∷ l) r ∙ ap (λ (t : Bool). put_if t b (picked R (k / 2))) (sym (odd-1 k f))

-- ---- the number of shares

count-0 : (d b m : ℕ) → m % 2 ≡ 0 → 2 ^ length (positions (suc d) b m) ≡ 2 ^ length (positions d (suc b) (m / 2))
count-0 d b m e = ap (λ (l : List ℕ). 2 ^ length l) (positions-0 d b m e)

count-1 : (d b m : ℕ) → m % 2 ≡ 1 → 2 ^ length (positions (suc d) b m) ≡ 2 ^ length (positions d (suc b) (m / 2)) * 2
count-1 d b m e = ap (λ (l : List ℕ). 2 ^ length l) (positions-1 d b m e) ∙ pow-suc 2 (length (positions d (suc b) (m / 2)))

-- the last share is all of m
pub deposit-last : (d b m k : ℕ) → m < 2 ^ d → suc k ≡ 2 ^ length (positions d b m) → deposit d m k ≡ m
unfolding deposit
deposit-last zero b m k h e = sym (lt-one h)
deposit-last (suc d) b m k h e =
    go (deposit-last d (suc b) (m / 2) k (omega (arith, pow-suc 2 d))) (deposit-last d (suc b) (m / 2) (k / 2) (omega (arith, pow-suc 2 d))) (parity m)
  where
    go : (suc k ≡ 2 ^ length (positions d (suc b) (m / 2)) → deposit d (m / 2) k ≡ m / 2)
        → (suc (k / 2) ≡ 2 ^ length (positions d (suc b) (m / 2)) → deposit d (m / 2) (k / 2) ≡ m / 2)
        → (m % 2 ≡ 0) ⊎ (m % 2 ≡ 1) → deposit (suc d) m k ≡ m
    go p q (inl f) = omega (arith, deposit-0 d m k f, p (e ∙ count-0 d b m f))
    go p q (inr f) = omega (arith, deposit-1 d m k f, q (omega (arith, count-1 d b m f)), count-1 d b m f)

-- each share is a smaller number than the next
pub deposit-rises : (d b m k : ℕ) → suc k < 2 ^ length (positions d b m) → deposit d m k < deposit d m (suc k)
unfolding deposit positions
deposit-rises zero b m k h = absurd (let f : ⊥ = omega arith in f)
deposit-rises (suc d) b m k h = go (deposit-rises d (suc b) (m / 2) k) (deposit-rises d (suc b) (m / 2) (k / 2)) (parity m) (parity k)
  where
    go : (suc k < 2 ^ length (positions d (suc b) (m / 2)) → deposit d (m / 2) k < deposit d (m / 2) (suc k))
        → (suc (k / 2) < 2 ^ length (positions d (suc b) (m / 2)) → deposit d (m / 2) (k / 2) < deposit d (m / 2) (suc (k / 2)))
        → (m % 2 ≡ 0) ⊎ (m % 2 ≡ 1) → (k % 2 ≡ 0) ⊎ (k % 2 ≡ 1) → deposit (suc d) m k < deposit (suc d) m (suc k)
    go p q (inl f) g = omega (arith, deposit-0 d m k f, deposit-0 d m (suc k) f, p (omega (arith, count-0 d b m f)))
    go p q (inr f) (inl g) =
        let s : suc k / 2 ≡ k / 2 = omega arith in
        omega (arith, deposit-1 d m k f, deposit-1 d m (suc k) f, ap (deposit d (m / 2)) s)
    go p q (inr f) (inr g) =
        let s : suc k / 2 ≡ suc (k / 2) = omega arith in
        omega (arith, deposit-1 d m k f, deposit-1 d m (suc k) f, ap (deposit d (m / 2)) s, q (omega (arith, count-1 d b m f)))

-- ---- the step: `(s - m) & m`, where the difference wraps

filled : (d m k : ℕ) → m < 2 ^ d → bit_and (deposit d m k + ((2 ^ d - 1) - m)) m ≡ deposit d m k
unfolding deposit
filled zero m k h = ap (bit_and (0 + ((2 ^ 0 - 1) - m))) (lt-one h) ∙ and_zero_r (0 + ((2 ^ 0 - 1) - m))
filled (suc d) m k h = go (filled d (m / 2) k (omega (arith, pow-suc 2 d))) (filled d (m / 2) (k / 2) (omega (arith, pow-suc 2 d))) (parity m)
  where
    W : ℕ
    W = deposit (suc d) m k + ((2 ^ suc d - 1) - m)

    go : bit_and (deposit d (m / 2) k + ((2 ^ d - 1) - m / 2)) (m / 2) ≡ deposit d (m / 2) k
        → bit_and (deposit d (m / 2) (k / 2) + ((2 ^ d - 1) - m / 2)) (m / 2) ≡ deposit d (m / 2) (k / 2)
        → (m % 2 ≡ 0) ⊎ (m % 2 ≡ 1) → bit_and W m ≡ deposit (suc d) m k
    go p q (inl e) =
        let w : W / 2 ≡ deposit d (m / 2) k + ((2 ^ d - 1) - m / 2) = omega (arith, deposit-0 d m k e, pow-suc 2 d, pow_pos d) in
        let a : bit_and (W / 2) (m / 2) ≡ deposit d (m / 2) k = ap (λ (n : ℕ). bit_and n (m / 2)) w ∙ p in
        omega (arith, and_step W m, deposit-0 d m k e)
    go p q (inr e) =
        let w : W / 2 ≡ deposit d (m / 2) (k / 2) + ((2 ^ d - 1) - m / 2) = omega (arith, deposit-1 d m k e, pow-suc 2 d, pow_pos d) in
        let v : W % 2 ≡ k % 2 = omega (arith, deposit-1 d m k e, pow-suc 2 d, pow_pos d) in
        let a : bit_and (W / 2) (m / 2) ≡ deposit d (m / 2) (k / 2) = ap (λ (n : ℕ). bit_and n (m / 2)) w ∙ q in
        omega (arith, and_step W m, deposit-1 d m k e)

pub deposit-step : (d b m k : ℕ) → m < 2 ^ d → suc k < 2 ^ length (positions d b m)
    → bit_and (deposit d m k + 2 ^ d - m) m ≡ deposit d m (suc k)
unfolding deposit positions
deposit-step zero b m k h l = absurd (let f : ⊥ = omega arith in f)
deposit-step (suc d) b m k h l =
    go (deposit-step d (suc b) (m / 2) k (omega (arith, pow-suc 2 d))) (deposit-step d (suc b) (m / 2) (k / 2) (omega (arith, pow-suc 2 d)))
    (filled d (m / 2) (k / 2) (omega (arith, pow-suc 2 d))) (parity m) (parity k)
  where
    X : ℕ
    X = deposit (suc d) m k + 2 ^ suc d - m

    go : (suc k < 2 ^ length (positions d (suc b) (m / 2)) → bit_and (deposit d (m / 2) k + 2 ^ d - m / 2) (m / 2) ≡ deposit d (m / 2) (suc k))
        → (suc (k / 2) < 2 ^ length (positions d (suc b) (m / 2))
        → bit_and (deposit d (m / 2) (k / 2) + 2 ^ d - m / 2) (m / 2) ≡ deposit d (m / 2) (suc (k / 2)))
        → bit_and (deposit d (m / 2) (k / 2) + ((2 ^ d - 1) - m / 2)) (m / 2) ≡ deposit d (m / 2) (k / 2)
        → (m % 2 ≡ 0) ⊎ (m % 2 ≡ 1) → (k % 2 ≡ 0) ⊎ (k % 2 ≡ 1) → bit_and X m ≡ deposit (suc d) m (suc k)
    go p q r (inl f) g =
        let w : X / 2 ≡ deposit d (m / 2) k + 2 ^ d - m / 2 = omega (arith, deposit-0 d m k f, pow-suc 2 d, pow_pos d) in
        let a : bit_and (X / 2) (m / 2) ≡ deposit d (m / 2) (suc k) =
        ap (λ (n : ℕ). bit_and n (m / 2)) w ∙ p (omega (arith, count-0 d b m f)) in
        omega (arith, and_step X m, deposit-0 d m (suc k) f)
    go p q r (inr f) (inl g) =
        let w : X / 2 ≡ deposit d (m / 2) (k / 2) + ((2 ^ d - 1) - m / 2) = omega (arith, deposit-1 d m k f, pow-suc 2 d, pow_pos d) in
        let v : X % 2 ≡ 1 = omega (arith, deposit-1 d m k f, pow-suc 2 d, pow_pos d) in
        let a : bit_and (X / 2) (m / 2) ≡ deposit d (m / 2) (k / 2) = ap (λ (n : ℕ). bit_and n (m / 2)) w ∙ r in
        let s : suc k / 2 ≡ k / 2 = omega arith in
        omega (arith, and_step X m, deposit-1 d m (suc k) f, ap (deposit d (m / 2)) s)
    go p q r (inr f) (inr g) =
        let w : X / 2 ≡ deposit d (m / 2) (k / 2) + 2 ^ d - m / 2 = omega (arith, deposit-1 d m k f, pow-suc 2 d, pow_pos d) in
        let v : X % 2 ≡ 0 = omega (arith, deposit-1 d m k f, pow-suc 2 d, pow_pos d) in
        let a : bit_and (X / 2) (m / 2) ≡ deposit d (m / 2) (suc (k / 2)) =
        ap (λ (n : ℕ). bit_and n (m / 2)) w ∙ q (omega (arith, count-1 d b m f)) in
        let s : suc k / 2 ≡ suc (k / 2) = omega arith in
        omega (arith, and_step X m, deposit-1 d m (suc k) f, ap (deposit d (m / 2)) s)

-- ---- every subset is a share: the number of a subset s of m among m's shares

unfoldable pub rank : ℕ → ℕ → ℕ → ℕ
rank zero m s = 0
rank (suc d) m s = cond (is_odd m) (rank d (m / 2) (s / 2) * 2 + s % 2) (rank d (m / 2) (s / 2))

pub rank-0 : (d m s : ℕ) → m % 2 ≡ 0 → rank (suc d) m s ≡ rank d (m / 2) (s / 2)
unfolding rank
rank-0 d m s e = ap (λ (t : Bool). cond t (rank d (m / 2) (s / 2) * 2 + s % 2) (rank d (m / 2) (s / 2))) (odd-0 m e)

pub rank-1 : (d m s : ℕ) → m % 2 ≡ 1 → rank (suc d) m s ≡ rank d (m / 2) (s / 2) * 2 + s % 2
unfolding rank
rank-1 d m s e = ap (λ (t : Bool). cond t (rank d (m / 2) (s / 2) * 2 + s % 2) (rank d (m / 2) (s / 2))) (odd-1 m e)

pub rank_lt : (d b m s : ℕ) → rank d m s < 2 ^ length (positions d b m)
unfolding rank positions
rank_lt zero b m s = omega arith
rank_lt (suc d) b m s = go (rank_lt d (suc b) (m / 2) (s / 2)) (parity m)
  where
    go : rank d (m / 2) (s / 2) < 2 ^ length (positions d (suc b) (m / 2)) → (m % 2 ≡ 0) ⊎ (m % 2 ≡ 1) → rank (suc d) m s < 2 ^ length (positions (suc d) b m)
    go h (inl e) = omega (arith, rank-0 d m s e, count-0 d b m e)
    go h (inr e) = omega (arith, rank-1 d m s e, count-1 d b m e)

pub deposit-rank : (d m s : ℕ) → m < 2 ^ d → bit_and s m ≡ s → deposit d m (rank d m s) ≡ s
unfolding deposit rank
deposit-rank zero m s h e = sym (and_zero_r s) ∙ ap (bit_and s) (sym (lt-one h)) ∙ e
deposit-rank (suc d) m s h e = go (deposit-rank d (m / 2) (s / 2) (omega (arith, pow-suc 2 d)) (sym (and-half s m) ∙ ap (λ (n : ℕ). n / 2) e)) (parity m)
  where
    go : deposit d (m / 2) (rank d (m / 2) (s / 2)) ≡ s / 2 → (m % 2 ≡ 0) ⊎ (m % 2 ≡ 1) → deposit (suc d) m (rank (suc d) m s) ≡ s
    go ih (inl f) =
        omega (arith, deposit-0 d m (rank (suc d) m s) f, ap (deposit d (m / 2)) (rank-0 d m s f), and_low s m, ap (λ (n : ℕ). n % 2) e)
    go ih (inr f) =
        let r : rank (suc d) m s / 2 ≡ rank d (m / 2) (s / 2) = omega (arith, rank-1 d m s f) in
        let u : rank (suc d) m s % 2 ≡ s % 2 = omega (arith, rank-1 d m s f) in
        omega (arith, deposit-1 d m (rank (suc d) m s) f, ap (deposit d (m / 2)) r)

-- THEOREM: the position of the k-th share is k: no share is met twice.
pub rank-deposit : (d b m k : ℕ) → k < 2 ^ length (positions d b m) → rank d m (deposit d m k) ≡ k
unfolding deposit rank positions
rank-deposit zero b m k h = omega arith
rank-deposit (suc d) b m k h = go (rank-deposit d (suc b) (m / 2) k) (rank-deposit d (suc b) (m / 2) (k / 2)) (parity m)
  where
    go : (k < 2 ^ length (positions d (suc b) (m / 2)) → rank d (m / 2) (deposit d (m / 2) k) ≡ k)
        → (k / 2 < 2 ^ length (positions d (suc b) (m / 2)) → rank d (m / 2) (deposit d (m / 2) (k / 2)) ≡ k / 2)
        → (m % 2 ≡ 0) ⊎ (m % 2 ≡ 1) → rank (suc d) m (deposit (suc d) m k) ≡ k
    go p q (inl f) =
        let h2 : deposit (suc d) m k / 2 ≡ deposit d (m / 2) k = omega (arith, deposit-0 d m k f) in
        rank-0 d m (deposit (suc d) m k) f ∙ ap (rank d (m / 2)) h2 ∙ p (omega (arith, count-0 d b m f))
    go p q (inr f) =
        let h2 : deposit (suc d) m k / 2 ≡ deposit d (m / 2) (k / 2) = omega (arith, deposit-1 d m k f) in
        omega
        (arith, rank-1 d m (deposit (suc d) m k) f, ap (rank d (m / 2)) h2, q (omega (arith, count-1 d b m f)), deposit-1 d m k f)

-- ---- sets and their members

pub share-members : (m k : ℕ) → members (deposit 64 m k) ≡ picked (members m) k
share-members m k =
    members-positions (deposit 64 m k) ∙ deposit-positions 64 0 m k ∙ ap (λ (l : List ℕ). picked l k) (sym (members-positions m))

pub share-is : (m s k : ℕ) → m < 2 ^ 64 → s < 2 ^ 64 → members s ≡ picked (members m) k → s ≡ deposit 64 m k
share-is m s k h g e = members-same s (deposit 64 m k) g (omega (arith, deposit-le 64 m k)) (e ∙ sym (share-members m k))

many : (m : ℕ) → 2 ^ length (members m) ≡ 2 ^ length (positions 64 0 m)
many m = ap (λ (l : List ℕ). 2 ^ length l) (members-positions m)

-- a share before the last is not the whole set
pub share-below : (m s k : ℕ) → m < 2 ^ 64 → s < 2 ^ 64 → suc k < 2 ^ length (members m) → members s ≡ picked (members m) k → s < m
share-below m s k h g l e =
    omega (arith, share-is m s k h g e, deposit-rises 64 0 m k (omega (arith, many m)), deposit-le 64 m (suc k))

-- and one that is not the whole set is before the last
pub share-more : (m s k : ℕ) → m < 2 ^ 64 → s < 2 ^ 64 → k < 2 ^ length (members m) → members s ≡ picked (members m) k → (s ≡ m → ⊥) → suc k < 2 ^ length (members m)
share-more m s k h g l e n = go (eq-or-lt_of_le l)
  where
    go : (suc k ≡ 2 ^ length (members m)) ⊎ (suc k < 2 ^ length (members m)) → suc k < 2 ^ length (members m)
    go (inl q) = absurd (n (share-is m s k h g e ∙ deposit-last 64 0 m k h (q ∙ many m)))
    go (inr q) = q

-- the step
pub share-next : (m s r k : ℕ) → m < 2 ^ 64 → s < 2 ^ 64 → r < 2 ^ 64 → (r + m) % 2 ^ 64 ≡ s → suc k < 2 ^ length (members m) → members s ≡ picked (members m) k
    → members (bit_and r m) ≡ picked (members m) (suc k)
share-next m s r k h g f w l e =
    let b : s < m = share-below m s k h g l e in
    let i : s ≡ deposit 64 m k = share-is m s k h g e in
    let v : r ≡ deposit 64 m k + 2 ^ 64 - m = omega arith in
    ap (λ (n : ℕ). members (bit_and n m)) v ∙ ap members (deposit-step 64 0 m k h (omega (arith, many m))) ∙ share-members m (suc k)

-- shares are met in rising order
pub share-rises : (m s t k : ℕ) → m < 2 ^ 64 → s < 2 ^ 64 → t < 2 ^ 64 → suc k < 2 ^ length (members m) → members s ≡ picked (members m) k
    → members t ≡ picked (members m) (suc k) → s < t
share-rises m s t k h g f l e e' =
    omega (arith, share-is m s k h g e, share-is m t (suc k) h f e', deposit-rises 64 0 m k (omega (arith, many m)))

-- every subset is met
pub share-of : (m s : ℕ) → m < 2 ^ 64 → bit_and s m ≡ s → members s ≡ picked (members m) (rank 64 m s)
share-of m s h e = ap members (sym (deposit-rank 64 m s h e)) ∙ share-members m (rank 64 m s)

-- THEOREM: and it is met among the 2 ^ n shares of a set of n members.
pub share-of-lt : (m s : ℕ) → rank 64 m s < 2 ^ length (members m)
share-of-lt m s = omega (arith, rank_lt 64 0 m s, many m)

-- the whole set is the last share
pub share-last : (m s k : ℕ) → m < 2 ^ 64 → s < 2 ^ 64 → members s ≡ picked (members m) k → s ≡ m → 2 ^ length (members m) ≤ suc k
share-last m s k h g e q = go (lt-or-ge (suc k) (2 ^ length (members m)))
  where
    go : (suc k < 2 ^ length (members m)) ⊎ (2 ^ length (members m) ≤ suc k) → 2 ^ length (members m) ≤ suc k
    go (inl l) = absurd (let b : s < m = share-below m s k h g l e in let f : ⊥ = omega arith in f)
    go (inr l) = l

-- THEOREM: a set whose members are all in m is a share of m: every subset is met.
pub share-subset : (m s : ℕ) → m < 2 ^ 64 → s < 2 ^ 64 → in_both (members s) (members m) ≡ members s → members s ≡ picked (members m) (rank 64 m s)
share-subset m s h g e =
    share-of m s h (members-same (bit_and s m) s (omega (arith, and_le_l s m)) g (members-both s m ∙ e))

-- the step from the last share is to the empty one
pub share-around : (m s r : ℕ) → m < 2 ^ 64 → s < 2 ^ 64 → r < 2 ^ 64 → (r + m) % 2 ^ 64 ≡ s → members s ≡ members m → members (bit_and r m) ≡ []
share-around m s r h g f w e =
    let q : s ≡ m = members-same s m g h e in
    let z : r ≡ 0 = omega arith in
    ap (λ (n : ℕ). members (bit_and n m)) z ∙ members-empty

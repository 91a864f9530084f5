-- Stretches of numbers: a tree whose parts are numbered in word order has each number once, from the first number on.
-- Assumes nothing.
use Prim.Native.Nat.{ℕ, ◌+◌, ◌≤◌, ◌<◌}
use mathlib.Core.Bool.{Bool, true, false}
use mathlib.Core.Path.{◌≡◌, refl, ap}
use native.Mathlib.Omega.{arith}
use lib.Dec.{eqb, ltb}
use borrow.Author.Tests.{eqb-true, ltb-true, ltb-false}
use Rattle.base_slices.proofs.Tests.{by_test, eqb_same}
use Rattle.read_scripts.specs.Tree.{Body, close, part, total_over, parts, one_if, times_in}
use Rattle.read_scripts.specs.Represents.{Numbered}

-- a part's own number is counted once, and one that is not counted is another's
pub own-times : (k : ℕ) → one_if (eqb k k) ≡ 1
own-times k = ap one_if (eqb_same k)

pub one_none : (t : Bool) → one_if t ≡ 0 → t ≡ false
one_none true e = absurd (omega arith)
one_none false e = refl

-- how often a number stands in a tree that is numbered from n on
pub record Range (j n m k : ℕ) : Type 0 where
  pub once : k ≤ 1
  pub under : j < n → k ≡ 0
  pub over : m ≤ j → k ≡ 0

-- two stretches of numbers, one behind the other
pub two-ranges : (v lo mid hi j k : ℕ) → Range v lo mid j → Range v mid hi k → lo ≤ mid → mid ≤ hi → Range v lo hi (j + k)
two-ranges v lo mid hi j k x y a b = record {
  once = by_test (ltb v mid) (λ t. omega (arith, x.once, y.under (ltb-true v mid t))) (λ t. omega (arith, y.once, x.over (ltb-false v mid t)));
  under = λ h. omega (arith, x.under h, y.under (omega arith));
  over = λ h. omega (arith, x.over (omega arith), y.over h);
}

-- a stretch may begin sooner
pub sooner : (v lo from hi k : ℕ) → lo ≤ from → Range v from hi k → Range v lo hi k
sooner v lo from hi k l x = record { once = x.once; under = λ h. x.under (omega arith); over = x.over }

-- a number by itself
pub one-range : (v i : ℕ) → Range v i (i + 1) (one_if (eqb v i))
one-range v i = by_test (eqb v i)
    (λ t. let e = eqb-true v i t in rw t (record { once = omega arith; under = λ h. absurd (omega arith); over = λ h. absurd (omega arith) }))
    (λ t. rw t (record { once = omega arith; under = λ h. refl; over = λ h. refl }))

module _ {H : Type 0} (j : ℕ) where
  pub numbered-range : (n : ℕ) (b : Body H) → Numbered n b → Range j n (n + parts b) (times_in j b)
  unfolding total_over
  numbered-range n close N = record { once = omega arith; under = λ h. refl; over = λ h. refl }
  numbered-range n (part i h b r) N =
      let B = numbered-range (n + 1) b N.1 in
      let R = numbered-range (n + 1 + parts b) r N.2 in
      by_test (eqb j i)
      (λ t.
      let e : j ≡ i = eqb-true j i t in
      let z : one_if (eqb j i) ≡ 1 = ap one_if t in
      let i₀ : i ≡ n = N.0 in
      let b₀ = B.under (omega arith) in
      let r₀ = R.under (omega arith) in
      record { once = omega arith; under = λ h. absurd (omega arith); over = λ h. absurd (omega arith) })
      (λ t.
      let z : one_if (eqb j i) ≡ 0 = ap one_if t in
      record {
        once = by_test (ltb j (n + 1 + parts b))
            (λ l. omega (arith, B.once, R.under (ltb-true j (n + 1 + parts b) l)))
            (λ l. omega (arith, R.once, B.over (ltb-false j (n + 1 + parts b) l)));
        under = λ h. omega (arith, B.under (omega arith), R.under (omega arith));
        over = λ h. omega (arith, B.over (omega arith), R.over (omega arith));
      })

-- Tables of the parts, filled part by part: sets by a test, names, and what each part does first. Assumes nothing.
use Prim.Native.Nat.{ℕ, ◌+◌, ◌≤◌, ◌<◌}
use mathlib.Core.Bool.{Bool, true, false, ◌&&◌, cond, and-false}
use mathlib.Core.List.{List, []}
use mathlib.Core.Path.{◌≡◌, sym, ap, ◌∙◌, subst}
use native.Mathlib.Omega.{arith}
use lib.Dec.{eqb, ltb}
use lib.ListN.{get_or, set, length}
use lib.Seq.{get_or-set_same, get_or-set_other}
use borrow.Author.Tests.{eqb-true, eqb-false, ltb-true, ltb-false, lt-ltb, le-ltb, ne_eqb}
use Rattle.read_messages.specs.Message.{Named}
use Rattle.std.specs.Prelude.{Some, None}
use Rattle.base_sets.specs.Sets.{members, elem, inserted, in_both}
use Rattle.base_sets.proofs.Lists.{elem-inserted}
use Rattle.base_sets.proofs.Members.{elem-keep}
use Rattle.theory_machine.specs.Moves.{is_that}
use Rattle.base_slices.proofs.Tests.{by_test}
use Rattle.engine_states.specs.Seen.{name_in}

-- ---- a set of the numbers below 64 that pass a test

-- l has those below i that pass the test
abbrev pub Upto : (ℕ → Bool) → (i : ℕ) → List ℕ → Type 0
Upto p i l = (j : ℕ) → j < 64 → elem j l ≡ (ltb j i && p j)

ltb-step : (j i : ℕ) → (j ≡ i → ⊥) → ltb j (i + 1) ≡ ltb j i
ltb-step j i n = by_test (ltb j i)
    (λ t. lt-ltb j (i + 1) (omega (arith, ltb-true j i t)) ∙ sym t)
    (λ t. le-ltb j (i + 1) (omega (arith, ltb-false j i t, n)) ∙ sym t)

pub upto-none : (p : ℕ → Bool) (l : List ℕ) → l ≡ [] → Upto p 0 l
unfolding elem
upto-none p l e j m = ap (elem j) e ∙ sym (ap (λ (t : Bool). t && p j) (le-ltb j 0 (omega arith)))

module _ (p : ℕ → Bool) (i : ℕ) (l : List ℕ) (u : Upto p i l) where
  upto-with : (k : List ℕ) → p i ≡ true → k ≡ inserted i l → Upto p (i + 1) k
  upto-with k e d j m = ap (elem j) d ∙ elem-inserted j i l ∙ by_test (eqb j i)
      (λ t. rw (t, eqb-true j i t, lt-ltb i (i + 1) (omega arith), e))
      (λ t. rw t (u j m ∙ ap (λ (t : Bool). t && p j) (sym (ltb-step j i (eqb-false j i t)))))

  upto-past : p i ≡ false → Upto p (i + 1) l
  upto-past e j m = u j m ∙ by_test (eqb j i)
      (λ t. rw (eqb-true j i t, e) (and-false (ltb i i) ∙ sym (and-false (ltb i (i + 1)))))
      (λ t. ap (λ (t : Bool). t && p j) (sym (ltb-step j i (eqb-false j i t))))

  pub upto_next : (k : List ℕ) (t : Bool) → t ≡ p i → k ≡ cond t (inserted i l) l → Upto p (i + 1) k
  upto_next k t e d = by_test t
      (λ y. upto-with k (sym e ∙ y) (rw y at d))
      (λ n. subst (λ (x : List ℕ). Upto p (i + 1) x) (sym (rw n at d)) (upto-past (sym e ∙ n)))

  pub upto_all : 64 ≤ i → (j : ℕ) → j < 64 → elem j l ≡ p j
  upto_all h j m = u j m ∙ ap (λ (t : Bool). t && p j) (lt-ltb j i (omega arith))

-- ---- names

-- the table with the name of i, which had none
module _ (named named' : ℕ) (names names' : List ℕ) (i : ℕ) (free : elem i (members named) ≡ false) where
  abbrev Extended : Named → Type 0
  Extended n = (j : ℕ) → name_in named' names' j ≡ cond (eqb j i) n (name_in named names j)

  pub name-added : (n : ℕ) → i < length names → members named' ≡ inserted i (members named) → names' ≡ set names i n → Extended (Some n)
  unfolding name_in
  name-added n h d e j = ap (λ (t : Bool). cond t (Some (get_or names' j 0)) None) (ap (elem j) d ∙ elem-inserted j i (members named)) ∙ by_test (eqb j i)
      (λ t. rw (t, eqb-true j i t) (ap Some (ap (λ (l : List ℕ). get_or l i 0) e ∙ get_or-set_same names i n 0 h)))
      (λ t. rw t (ap (λ (k : ℕ). cond (elem j (members named)) (Some k) None) (ap (λ (l : List ℕ). get_or l j 0) e ∙ get_or-set_other names i j n 0 (eqb-false j i t))))

  pub no-name-added : named' ≡ named → names' ≡ names → Extended None
  unfolding name_in
  no-name-added d e j = ap (λ (m : ℕ). name_in m names' j) d ∙ ap (λ (l : List ℕ). name_in named l j) e ∙ by_test (eqb j i)
      (λ t. rw (t, eqb-true j i t, free))
      (λ t. rw t)

-- the table has the names n of the parts below i, and no others
pub record Filled (n : ℕ → Named) (i named : ℕ) (names : List ℕ) : Type 0 where
  pub below : (j : ℕ) → j < i → name_in named names j ≡ n j
  pub beyond : (j : ℕ) → i ≤ j → name_in named names j ≡ None

-- a part with no name in the table is not in its set
pub not_named : (named : ℕ) (names : List ℕ) (i : ℕ) → name_in named names i ≡ None → elem i (members named) ≡ false
unfolding name_in
not_named named names i e = by_test (elem i (members named))
    (λ t. absurd (called_is (get_or names i 0) (rw t at e)))
    (λ t. t)
  where
    IsCalled : Named → Type 0
    IsCalled (Some n) = Unit {0}
    IsCalled None = ⊥

    called_is : (n : ℕ) → Some n ≡ None → ⊥
    called_is n q = subst IsCalled q tt

pub filled_none : (n : ℕ → Named) (named : ℕ) (names : List ℕ) → members named ≡ [] → Filled n 0 named names
unfolding name_in elem
filled_none n named names e = record { below = λ j l. absurd (let z : ⊥ = omega arith in z); beyond = λ j l. ap (λ (k : List ℕ). cond (elem j k) (Some (get_or names j 0)) None) e }

pub filled_next : (n : ℕ → Named) (i named named' : ℕ) (names names' : List ℕ) (m : Named) → Filled n i named names → m ≡ n i
    → ((j : ℕ) → name_in named' names' j ≡ cond (eqb j i) m (name_in named names j)) → Filled n (i + 1) named' names'
filled_next n i named named' names names' m F e x = record {
  below = λ j l. x j ∙ by_test (eqb j i) (λ t. rw (t, eqb-true j i t) e) (λ t. rw t (F.below j (omega (arith, eqb-false j i t))));
  beyond = λ j l. x j ∙ rw (ne_eqb j i (λ q. let z : ⊥ = omega arith in z)) (F.beyond j (omega arith));
}

-- ---- the parts of a name

-- those of the set `named` at which the name is n
pub called-set : (named : ℕ) (names : List ℕ) (n : ℕ) (found : List ℕ) → ((j : ℕ) → j < 64 → elem j found ≡ eqb (get_or names j 0) n)
    → (j : ℕ) → j < 64 → elem j (in_both found (members named)) ≡ is_that n (name_in named names j)
unfolding name_in
called-set named names n found u j m = elem-keep (λ k. elem k (members named)) j found ∙ ap (λ (t : Bool). elem j (members named) && t) (u j m) ∙ by_test (elem j (members named))
    (λ t. rw t)
    (λ t. rw t)

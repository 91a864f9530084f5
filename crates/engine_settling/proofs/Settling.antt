-- A body that is settled part by part: what the sets hold then. Assumes nothing.
use Prim.Native.Nat.{ℕ, suc, ◌-◌, ◌^◌, ◌≤◌, ◌<◌}
use mathlib.Core.Bool.{Bool, true, false, ◌&&◌, ◌||◌, true≢false}
use mathlib.Core.List.{List, [], ◌∷◌, tail}
use mathlib.Core.Path.{◌≡◌, refl, sym, ap, ap₂, ◌∙◌, subst}
use native.Mathlib.Omega.{arith}
use lib.Dec.{eqb}
use borrow.Author.Tests.{eqb-true, eq-eqb}
use Rattle.base_sets.specs.Sets.{members, elem, inserted, joined, in_both, keep, head_or, RisingFrom, AllUnder}
use Rattle.base_sets.proofs.Members.{inserted-front, elem-keep, members-empty, members-same, members-below}
use Rattle.read_scripts.specs.Tree.{ambient, action, receipt, output, close, part, one_if, is_ambient, tops, total_over, times_in, settle_by}
use Rattle.read_scripts.specs.Represents.{Held}
use Rattle.base_slices.proofs.Tests.{by_test, or_right}
use Rattle.read_scripts.proofs.Numbers.{own-times}
use Rattle.theory_machine.proofs.Sums.{settle-total}
use Rattle.theory_closures.specs.Closure.{ClosureHead, Closure, Bindings, all_spent, settle_under}
use Rattle.engine_states.specs.Searches.{Settles}
use Rattle.engine_states.specs.Seen.{busy_under, Busy}
use Rattle.engine_states.proofs.Holding.{no-cons, tops-put, tops-merge, numbers-differ, frame, held-put, held-merge}

-- no number stands more often than before
pub settled-times : (σ : Bindings) (j : ℕ) (b : Closure) → times_in j (settle_under σ b) ≤ times_in j b
settled-times σ j b = settle-total (λ i h. one_if (eqb j i)) (all_spent σ) b

-- a part at which settling does not look stays as it is
pub not-busy : (σ : Bindings) (h : ClosureHead) → busy_under σ h ≡ false → (all_spent σ h ≡ false) × (is_ambient h ≡ false)
unfolding busy_under all_spent is_ambient
not-busy σ (ambient m) e = absurd (true≢false e)
not-busy σ (action a) e = (e, refl)
not-busy σ (receipt v) e = (refl, refl)
not-busy σ (output m) e = (refl, refl)

-- one at which it looks is an ambient, or an action that goes
pub busy-ambient : (σ : Bindings) (h : ClosureHead) → is_ambient h ≡ true → all_spent σ h ≡ false
unfolding all_spent is_ambient
busy-ambient σ (ambient m) e = refl
busy-ambient σ (action a) e = absurd (true≢false (sym e))
busy-ambient σ (receipt v) e = absurd (true≢false (sym e))
busy-ambient σ (output m) e = absurd (true≢false (sym e))

pub busy-spent : (σ : Bindings) (h : ClosureHead) → busy_under σ h ≡ true → is_ambient h ≡ false → all_spent σ h ≡ true
unfolding busy_under is_ambient
busy-spent σ (ambient m) e n = absurd (true≢false n)
busy-spent σ (action a) e n = e
busy-spent σ (receipt v) e n = absurd (true≢false (sym e))
busy-spent σ (output m) e n = absurd (true≢false (sym e))

-- where no part is looked at, nothing changes
quiet-body : (σ : Bindings) (k : ℕ → List ℕ) (w : ℕ → ClosureHead) (a : ℕ) (b : Closure) → RisingFrom a (tops b) → ((i : ℕ) → elem i (tops b) ≡ true → busy_under σ (w i) ≡ false)
    → Held k w b → (tops b ≡ tops (settle_under σ b)) × Held k w (settle_under σ b)
unfolding settle_by tops elem
quiet-body σ k w a close up none h = (refl, tt)
quiet-body σ k w a (part j g s r) up none h =
    let q = quiet-body σ k w (suc j) r up.1 (λ i e. none i (or_right (eqb i j) (elem i (tops r)) e)) h.3 in
    let free : busy_under σ g ≡ false = ap (busy_under σ) (sym h.1) ∙ none j (ap (λ (t : Bool). t || elem j (tops r)) (eq-eqb j j refl)) in
    let (bare, amb) = not-busy σ g free in
    rw (bare, amb) (
      ap (λ (l : List ℕ). j ∷ l) q.0 ∙ sym (tops-put j g s (settle_under σ r) ∙ inserted-front j (tops (settle_under σ r)) (subst (RisingFrom (suc j)) q.0 up.1)),
      held-put k w j g s (settle_under σ r) h.0 h.1 h.2 q.1,
    )

module _ (σ : Bindings) (k k₁ : ℕ → List ℕ) (w : ℕ → ClosureHead) (left R : List ℕ) (fuel : ℕ) where
  pub settle-quiet : RisingFrom 0 left → ((i : ℕ) → elem i left ≡ true → busy_under σ (w i) ≡ false) → R ≡ left → ((j : ℕ) → k j ≡ k₁ j) → Settles σ k k₁ w left R fuel
  settle-quiet up none y same b e h once m =
      let q = quiet-body σ k w 0 b (subst (RisingFrom 0) e up) (λ i c. none i (ap (elem i) e ∙ c)) h in (
        y ∙ e ∙ q.0,
        frame k k₁ w w (settle_under σ b) q.1 (λ n c. (same n, refl)),
        λ j c. same j,
      )

  pub settle-no-fuel : (x : ℕ) (l : List ℕ) → left ≡ x ∷ l → fuel ≡ 0 → Settles σ k k₁ w left R fuel
  unfolding tops total_over
  settle-no-fuel x l z d close e h once m = absurd (no-cons x l (sym z ∙ e))
  settle-no-fuel x l z d (part i g s r) e h once m = absurd (let o : ⊥ = omega arith in o)

  module _ (i : ℕ) (l X : List ℕ) (first : left ≡ i ∷ l) (rest : Settles σ k k₁ w l R (fuel - 1)) where
    -- a part that stays as it is
    pub settle-keeps : all_spent σ (w i) ≡ false → is_ambient (w i) ≡ false → X ≡ inserted i R → Settles σ k k₁ w left X fuel
    unfolding settle_by tops total_over
    settle-keeps b m x close e h once z = absurd (no-cons i l (sym first ∙ e))
    settle-keeps b m x (part j g s r) e h once z =
        let p : i ≡ j = ap (head_or 0) (sym first ∙ e) in
        let a : g ≡ w i = sym h.1 ∙ ap w (sym p) in
        let q = rest r (ap tail (sym first ∙ e)) h.3 (λ n. omega (arith, once n)) (omega arith) in
        rw (ap (all_spent σ) a ∙ b, ap is_ambient a ∙ m) (
          x ∙ ap₂ inserted p q.0 ∙ sym (tops-put j g s (settle_under σ r)),
          held-put k₁ w j g s (settle_under σ r) (sym (q.2 j (omega (arith, once j, own-times j))) ∙ h.0) h.1
              (frame k k₁ w w s h.2 (λ n c. (q.2 n (omega (arith, once n)), refl))) q.1,
          λ n c. q.2 n (omega arith),
        )

    module _ (k₂ : ℕ → List ℕ) (S : List ℕ) (inside : Settles σ k₁ k₂ w (k₁ i) S (fuel - 1)) where
      -- an action with no items left: its body comes in its place
      pub settle-melts : all_spent σ (w i) ≡ true → X ≡ joined S R → Settles σ k k₂ w left X fuel
      unfolding settle_by tops total_over
      settle-melts b x close e h once z = absurd (no-cons i l (sym first ∙ e))
      settle-melts b x (part j g s r) e h once z =
          let p : i ≡ j = ap (head_or 0) (sym first ∙ e) in
          let a : g ≡ w i = sym h.1 ∙ ap w (sym p) in
          let q = rest r (ap tail (sym first ∙ e)) h.3 (λ n. omega (arith, once n)) (omega arith) in
          let held-s : Held k₁ w s = frame k k₁ w w s h.2 (λ n c. (q.2 n (omega (arith, once n)), refl)) in
          let y = inside s (ap k₁ p ∙ sym (q.2 j (omega (arith, once j, own-times j))) ∙ h.0) held-s (λ n. omega (arith, once n)) (omega arith) in
          rw (ap (all_spent σ) a ∙ b) (
            x ∙ ap₂ joined y.0 q.0 ∙ sym (tops-merge (settle_under σ s) (settle_under σ r)),
            held-merge k₂ w (settle_under σ s) (settle_under σ r) y.1
                (frame k₁ k₂ w w (settle_under σ r) q.1 (λ n c. (y.2 n (omega (arith, settled-times σ n r, once n)), refl))),
            λ n c. q.2 n (omega arith) ∙ y.2 n (omega arith),
          )

      -- an ambient: it stays, and its body is settled
      pub settle-enters : (k₃ : ℕ → List ℕ) → all_spent σ (w i) ≡ false → is_ambient (w i) ≡ true → X ≡ inserted i R → k₃ i ≡ S → ((j : ℕ) → (j ≡ i → ⊥) → k₂ j ≡ k₃ j) → Settles σ k k₃ w left X fuel
      unfolding settle_by tops total_over
      settle-enters k₃ b m x c d close e h once z = absurd (no-cons i l (sym first ∙ e))
      settle-enters k₃ b m x c d (part j g s r) e h once z =
          let p : i ≡ j = ap (head_or 0) (sym first ∙ e) in
          let a : g ≡ w i = sym h.1 ∙ ap w (sym p) in
          let q = rest r (ap tail (sym first ∙ e)) h.3 (λ n. omega (arith, once n)) (omega arith) in
          let held-s : Held k₁ w s = frame k k₁ w w s h.2 (λ n c. (q.2 n (omega (arith, once n)), refl)) in
          let y = inside s (ap k₁ p ∙ sym (q.2 j (omega (arith, once j, own-times j))) ∙ h.0) held-s (λ n. omega (arith, once n)) (omega arith) in
          let zs : times_in j (settle_under σ s) ≡ 0 = omega (arith, settled-times σ j s, once j, own-times j) in
          let zr : times_in j (settle_under σ r) ≡ 0 = omega (arith, settled-times σ j r, once j, own-times j) in
          rw (ap (all_spent σ) a ∙ b, ap is_ambient a ∙ m) (
            x ∙ ap₂ inserted p q.0 ∙ sym (tops-put j g (settle_under σ s) (settle_under σ r)),
            held-put k₃ w j g (settle_under σ s) (settle_under σ r) (ap k₃ (sym p) ∙ c ∙ y.0) h.1
                (frame k₂ k₃ w w (settle_under σ s) y.1 (λ n f. (d n (λ v. numbers-differ n j (settle_under σ s) f zs (v ∙ p)), refl)))
                (frame k₁ k₃ w w (settle_under σ r) q.1
                (λ n f. (y.2 n (omega (arith, settled-times σ n r, once n)) ∙ d n (λ v. numbers-differ n j (settle_under σ r) f zr (v ∙ p)), refl))),
            λ n f. q.2 n (omega arith) ∙ y.2 n (omega arith)
                ∙ d n (λ (v : n ≡ i). let o : 1 ≤ one_if (eqb n j) = subst (λ (a : ℕ). 1 ≤ one_if (eqb n a)) (v ∙ p) (omega (arith, own-times n)) in let o₁ : ⊥ = omega arith in o₁),
          )

-- ---- the parts at which settling looks, as a set

member-low : (i : ℕ) (l : List ℕ) → AllUnder 64 l → elem i l ≡ true → i < 64
unfolding elem
member-low i [] b e = absurd (true≢false (sym e))
member-low i (x ∷ l) b e = by_test (eqb i x)
    (λ t. let z : i ≡ x = eqb-true i x t in omega (arith, b.0))
    (λ t. member-low i l b.1 (rw t at e))

module _ (left busy both' : ℕ) (small : both' < 2 ^ 64) (is : members both' ≡ in_both (members left) (members busy)) where
  -- where none of them is among those of left
  pub none-busy : (σ : Bindings) (w : ℕ → ClosureHead) → Busy σ w (members busy) → both' ≡ 0 → (i : ℕ) → elem i (members left) ≡ true → busy_under σ (w i) ≡ false
  unfolding elem
  none-busy σ w right z i e =
      sym (right i (member-low i (members left) (members-below left) e))
      ∙ first-false (elem i (members busy)) (elem i (members left)) (sym (elem-keep (λ j. elem j (members busy)) i (members left)) ∙ ap (elem i) (sym is ∙ ap members z ∙ members-empty)) e
    where
      first-false : (x y : Bool) → (x && y) ≡ false → y ≡ true → x ≡ false
      first-false true y p q = absurd (true≢false (sym q ∙ p))
      first-false false y p q = refl

  -- where one of them is, there is a first of left
  pub some-busy : (both' ≡ 0 → ⊥) → left ≡ 0 → ⊥
  unfolding keep
  some-busy n z = n (members-same both' 0 small (omega arith) (is ∙ ap (λ (l : List ℕ). in_both l (members busy)) (ap members z ∙ members-empty) ∙ sym members-empty))

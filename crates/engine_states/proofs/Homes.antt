-- The part in whose body a part stands, by the sets: a part stands in the body of the top, or of a named ambient that
-- itself stands somewhere, and its home is then that body's number. Assumes nothing.
use Prim.Native.Nat.{ℕ, ◌≤◌, ◌<◌}
use mathlib.Core.Bool.{Bool, true, false, ◌||◌, cond, true≢false}
use mathlib.Core.List.{List}
use mathlib.Core.Logic.{◌⊎◌, inl, inr}
use mathlib.Core.Path.{◌≡◌, refl, sym, ap, ◌∙◌, subst}
use native.Mathlib.Omega.{arith}
use lib.Dec.{eqb, ltb}
use borrow.Author.Tests.{eqb-true, eq-eqb, ltb-true, ltb-false, lt-ltb}
use Rattle.base_sets.specs.Sets.{elem}
use Rattle.read_scripts.specs.Tree.{close, part, one_if, tops, total_over, times_in}
use Rattle.read_scripts.specs.Represents.{Held}
use Rattle.theory_machine.specs.Moves.{is_named, head_name}
use Rattle.base_slices.proofs.Tests.{by_test}
use Rattle.read_scripts.proofs.Numbers.{own-times}
use Rattle.theory_closures.specs.Closure.{ClosureHead, Closure, Bindings, view_under}
use Rattle.engine_states.specs.Searches.{first_home, home_below, home, HeldOnce}
use Rattle.engine_states.proofs.Holding.{in-times, not_in}

abbrev named : Bindings → ClosureHead → Type 0
named σ h = is_named (head_name (view_under σ) h) ≡ true

-- x stands in the body of b, and b is a named ambient of the closure or of named ambients inside it
data Inside (σ : Bindings) (x : ℕ) : (b : ℕ) → Closure → Type 0 where
  directly : {i : ℕ} {h : ClosureHead} {s r : Closure} → named σ h → elem x (tops s) ≡ true → Inside σ x i (part i h s r)
  deeper : {b i : ℕ} {h : ClosureHead} {s r : Closure} → named σ h → Inside σ x b s → Inside σ x b (part i h s r)
  beside : {b i : ℕ} {h : ClosureHead} {s r : Closure} → Inside σ x b r → Inside σ x b (part i h s r)

-- ---- counting

inside-times : (σ : Bindings) (x b : ℕ) {f : Closure} → Inside σ x b f → (1 ≤ times_in x f) × (1 ≤ times_in b f)
unfolding total_over
inside-times σ x b (directly {s = s} n e) = (omega (arith, in-times x s e), omega (arith, own-times b))
inside-times σ x b (deeper n p) = let c = inside-times σ x b p in (omega (arith, c.0), omega (arith, c.1))
inside-times σ x b (beside p) = let c = inside-times σ x b p in (omega (arith, c.0), omega (arith, c.1))

-- what stands inside stands not at the top too, where no number stands twice
inside-only : (σ : Bindings) (x b : ℕ) {f : Closure} → Inside σ x b f → times_in x f ≤ 1 → elem x (tops f) ≡ false
unfolding total_over tops elem
inside-only σ x b (directly {i = i} {s = s} {r = r} n e) m = by_test (eqb x i)
    (λ t. absurd (let z : ⊥ = omega (arith, in-times x s e, rw t at m) in z))
    (λ t. rw t (not_in x r (omega (arith, in-times x s e))))
inside-only σ x b (deeper {i = i} {s = s} {r = r} n p) m = by_test (eqb x i)
    (λ t. absurd (let z : ⊥ = omega (arith, (inside-times σ x b p).0, rw t at m) in z))
    (λ t. rw t (not_in x r (omega (arith, (inside-times σ x b p).0))))
inside-only σ x b (beside {i = i} {s = s} {r = r} p) m = by_test (eqb x i)
    (λ t. absurd (let z : ⊥ = omega (arith, (inside-times σ x b p).0, rw t at m) in z))
    (λ t. rw t (inside-only σ x b p (omega arith)))

-- no part stands in its own body
inside-apart : (σ : Bindings) (x b : ℕ) {f : Closure} → Inside σ x b f → times_in x f ≤ 1 → x ≡ b → ⊥
unfolding total_over
inside-apart σ x b (directly {s = s} n e) m q = let c : 1 ≤ one_if (eqb x b) = omega (arith, ap one_if (eq-eqb x b q)) in omega (arith, in-times x s e)
inside-apart σ x b (deeper n p) m q = inside-apart σ x b p (omega arith) q
inside-apart σ x b (beside p) m q = inside-apart σ x b p (omega arith) q

-- ---- the home is where it stands

pub nowhere : (σ : Bindings) (x : ℕ) (f : Closure) → times_in x f ≡ 0 → home_below σ x f ≡ 65
unfolding total_over home_below
nowhere σ x close e = refl
nowhere σ x (part i h s r) e =
    go (is_named (head_name (view_under σ) h)) (not_in x s (omega arith)) (nowhere σ x s (omega arith)) (nowhere σ x r (omega arith))
  where
    go : (u : Bool) → elem x (tops s) ≡ false → home_below σ x s ≡ 65 → home_below σ x r ≡ 65
        → first_home (cond u (cond (elem x (tops s)) i (home_below σ x s)) 65) (home_below σ x r) ≡ 65
    go true a b c = rw (a, b, c)
    go false a b c = rw c

first-most : (p q : ℕ) → q ≤ 65 → first_home p q ≤ 65
first-most p q l = by_test (ltb p 65) (λ t. rw t (let m : p < 65 = ltb-true p 65 t in omega arith)) (λ t. rw t l)

most-below : (σ : Bindings) (x : ℕ) (f : Closure) → home_below σ x f ≤ 65
unfolding home_below
most-below σ x close = omega arith
most-below σ x (part i h s r) = first-most (cond (is_named (head_name (view_under σ) h)) (cond (elem x (tops s)) i (home_below σ x s)) 65) (home_below σ x r) (most-below σ x r)

pub home-most : (σ : Bindings) (x : ℕ) (f : Closure) → home σ x f ≤ 65
unfolding home
home-most σ x f = by_test (elem x (tops f)) (λ e. rw e (omega arith)) (λ e. rw e (most-below σ x f))

below : (b : ℕ) (f : Closure) → ((j : ℕ) → 64 ≤ j → times_in j f ≡ 0) → 1 ≤ times_in b f → b < 64
below b f low m = by_test (ltb b 64) (λ u. ltb-true b 64 u) (λ u. absurd (let z : ⊥ = omega (arith, low b (ltb-false b 64 u)) in z))

module _ (σ : Bindings) (x : ℕ) where
  inside-home : (b : ℕ) {f : Closure} → Inside σ x b f → times_in x f ≤ 1 → ((j : ℕ) → 64 ≤ j → times_in j f ≡ 0) → home_below σ x f ≡ b
  unfolding total_over home_below
  inside-home b (directly {i = i} {h = h} {s = s} {r = r} n e) m low =
      rw (n, e, lt-ltb i 65 (let l : i < 64 = below i (part i h s r) low (omega (arith, own-times i)) in omega arith))
  inside-home b (deeper {i = i} {h = h} {s = s} {r = r} n p) m low =
      let c = inside-times σ x b p in
      let q = inside-home b p (omega arith) (λ j l. omega (arith, low j l)) in
      let l : b < 64 = below b (part i h s r) low (omega (arith, c.1)) in
      rw (n, inside-only σ x b p (omega arith), q, lt-ltb b 65 (omega arith))
  inside-home b (beside {i = i} {h = h} {s = s} {r = r} p) m low =
      let c = inside-times σ x b p in
      go (is_named (head_name (view_under σ) h)) (not_in x s (omega (arith, c.0))) (nowhere σ x s (omega (arith, c.0)))
      (inside-home b p (omega arith) (λ j l. omega (arith, low j l)))
    where
      go : (u : Bool) → elem x (tops s) ≡ false → home_below σ x s ≡ 65 → home_below σ x r ≡ b
          → first_home (cond u (cond (elem x (tops s)) i (home_below σ x s)) 65) (home_below σ x r) ≡ b
      go true y z q = rw (y, z) q
      go false y z q = q

  home-inside : (f : Closure) → home_below σ x f < 65 → Inside σ x (home_below σ x f) f
  unfolding home_below
  home-inside close l = absurd (let z : ⊥ = omega arith in z)
  home-inside (part i h s r) l = by_test (is_named (head_name (view_under σ) h))
      (λ n. by_test (elem x (tops s))
      (λ e. by_test (ltb i 65)
      (λ u. rw (n, e, u) (directly n e))
      (λ u. rw (n, e, u) (beside (home-inside r (rw (n, e, u) at l)))))
      (λ e. by_test (ltb (home_below σ x s) 65)
      (λ u. rw (n, e, u) (deeper n (home-inside s (ltb-true (home_below σ x s) 65 u))))
      (λ u. rw (n, e, u) (beside (home-inside r (rw (n, e, u) at l))))))
      (λ n. rw n (beside (home-inside r (rw n at l))))

-- ---- the bodies that hold a part

module _ (σ : Bindings) (k : ℕ → List ℕ) (w : ℕ → ClosureHead) where
  inside-held : (x b : ℕ) {f : Closure} → Inside σ x b f → Held k w f → (elem x (k b) ≡ true) × named σ (w b)
  inside-held x b (directly n e) p = (ap (elem x) p.0 ∙ e, ap (λ (h : ClosureHead). is_named (head_name (view_under σ) h)) p.1 ∙ n)
  inside-held x b (deeper n q) p = inside-held x b q p.2
  inside-held x b (beside q) p = inside-held x b q p.3

  -- what stands in the body of a named ambient of the closure
  from-top : (x b : ℕ) (f : Closure) → Held k w f → elem b (tops f) ≡ true → named σ (w b) → elem x (k b) ≡ true → Inside σ x b f
  unfolding tops elem
  from-top x b close p e n m = absurd (true≢false (sym e))
  from-top x b (part i h s r) p e n m = by_test (eqb b i)
      (λ t.
      let q : b ≡ i = eqb-true b i t in
      subst (λ (j : ℕ). Inside σ x j (part i h s r)) (sym q)
      (directly (ap (λ (g : ClosureHead). is_named (head_name (view_under σ) g)) (sym p.1 ∙ ap w (sym q)) ∙ n) (ap (elem x) (sym p.0 ∙ ap k (sym q)) ∙ m)))
      (λ t. beside (from-top x b r p.3 (rw t at e) n m))

  from-inside : (x b c : ℕ) {f : Closure} → Inside σ b c f → Held k w f → named σ (w b) → elem x (k b) ≡ true → Inside σ x b f
  from-inside x b c (directly {s = s} u e) p n m = deeper u (from-top x b s p.2 e n m)
  from-inside x b c (deeper u q) p n m = deeper u (from-inside x b c q p.2 n m)
  from-inside x b c (beside q) p n m = beside (from-inside x b c q p.3 n m)

-- the body around is itself an own part of the closure, or stands inside one
around : (σ : Bindings) (x b : ℕ) {f : Closure} → Inside σ x b f → (elem b (tops f) ≡ true) ⊎ ((c : ℕ) × Inside σ b c f)
unfolding tops elem
around σ x b (directly {r = r} n e) = inl (ap (λ (u : Bool). u || elem b (tops r)) (eq-eqb b b refl))
around σ x b (deeper {i = i} n p) = inr (elim (around σ x b p) [ inl e ↦ (i, directly n e) | inr q ↦ (q.0, deeper n q.1) ])
around σ x b (beside {i = i} {r = r} p) = elim (around σ x b p) [
  | inl e ↦ inl (by_test (eqb b i) (λ t. rw t) (λ t. rw t e))
  | inr q ↦ inr (q.0, beside q.1)
]

-- ---- from the top

-- b is the number of a body in which moves are made: the top's, or that of a named ambient which stands somewhere
abbrev pub Active : (σ : Bindings) (w : ℕ → ClosureHead) (at : ℕ → ℕ) → ℕ → Type 0
Active σ w at b = (b ≡ 64) ⊎ ((b < 64) × (at b < 65) × named σ (w b))

module _ (σ : Bindings) (k : ℕ → List ℕ) (w : ℕ → ClosureHead) (f : Closure) (Q : HeldOnce k w f) where
  abbrev at : ℕ → ℕ
  at i = home σ i f

  at_top : (x : ℕ) → elem x (tops f) ≡ true → at x ≡ 64
  unfolding home
  at_top x e = rw e

  at-inside : (x b : ℕ) → Inside σ x b f → at x ≡ b
  unfolding home
  at-inside x b p = rw (inside-only σ x b p (Q.once x)) (inside-home σ x b p (Q.once x) Q.low)

  -- a part that has a home, at the top or inside
  homed : (x : ℕ) → at x < 65 → ((at x ≡ 64) × (elem x (tops f) ≡ true)) ⊎ Inside σ x (at x) f
  unfolding home
  homed x l = by_test (elem x (tops f)) (λ e. rw e (inl (refl, refl))) (λ e. rw e (inr (home-inside σ x f (rw e at l))))

  -- only parts have a home
  pub home-low : (x : ℕ) → home σ x f < 65 → x < 64
  home-low x l = below x f Q.low (elim (homed x l) [ inl z ↦ in-times x f z.1 | inr p ↦ (inside-times σ x (at x) p).0 ])

  pub home-apart : (x : ℕ) → home σ x f < 65 → x ≡ home σ x f → ⊥
  home-apart x l e = elim (homed x l) [ inl z ↦ omega (arith, home-low x l, z.0) | inr p ↦ inside-apart σ x (at x) p (Q.once x) e ]

  -- THEOREM: what stands in an active body has that body's number for its home.
  pub home_of : (b x : ℕ) → Active σ w (λ i. home σ i f) b → elem x (k b) ≡ true → home σ x f ≡ b
  home_of b x (inl e) m = at_top x (ap (elem x) (sym Q.top) ∙ ap (λ (j : ℕ). elem x (k j)) (sym e) ∙ m) ∙ sym e
  home_of b x (inr c) m = elim (homed b c.1) [
    | inl z ↦ at-inside x b (from-top σ k w x b f Q.held z.1 c.2 m)
    | inr p ↦ at-inside x b (from-inside σ k w x b (at b) p Q.held c.2 m)
  ]

  -- THEOREM: a part that has a home stands in its body, and that body is active.
  pub home-active : (x b : ℕ) → home σ x f ≡ b → b < 65 → (elem x (k b) ≡ true) × Active σ w (λ i. home σ i f) b
  home-active x b e l = subst (λ (j : ℕ). (elem x (k j) ≡ true) × Active σ w at j) e (by_home (homed x (omega arith)))
    where
      stands : Inside σ x (at x) f → at (at x) < 65
      stands p = elim (around σ x (at x) p) [
        | inl d ↦ omega (arith, at_top (at x) d)
        | inr q ↦ omega (arith, at-inside (at x) q.0 q.1, below q.0 f Q.low (inside-times σ (at x) q.0 q.1).1)
      ]

      by_home : ((at x ≡ 64) × (elem x (tops f) ≡ true)) ⊎ Inside σ x (at x) f → (elem x (k (at x)) ≡ true) × Active σ w at (at x)
      by_home (inl z) = (ap (λ (j : ℕ). elem x (k j)) z.0 ∙ ap (elem x) Q.top ∙ z.1, inl z.0)
      by_home (inr p) =
          let h = inside-held σ k w x (at x) p Q.held in
          (h.0, inr (below (at x) f Q.low (inside-times σ x (at x) p).1, stands p, h.1))

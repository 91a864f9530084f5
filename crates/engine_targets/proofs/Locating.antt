-- The homes of all parts, written in one pass over the part sets. Assumes nothing.
use Prim.Native.Nat.{ℕ, ◌+◌, ◌-◌, ◌≤◌, ◌<◌}
use mathlib.Core.Bool.{true, false, ◌||◌, cond}
use mathlib.Core.List.{List, [], ◌∷◌, tail}
use mathlib.Core.Path.{◌≡◌, refl, sym, ap, ◌∙◌}
use native.Mathlib.Omega.{arith}
use lib.Dec.{eqb, ltb}
use lib.ListN.{get_or, set, length, replicate, get_or-replicate}
use lib.Seq.{get_or-set_same, get_or-set_other}
use borrow.Author.Tests.{eqb-true, eqb-false, ltb-false, lt-ltb}
use Rattle.base_sets.specs.Sets.{members, elem, head_or}
use Rattle.read_scripts.specs.Tree.{close, part, one_if, tops, total_over, parts, times_in}
use Rattle.read_scripts.specs.Represents.{Held}
use Rattle.theory_machine.specs.Moves.{is_named, head_name}
use Rattle.base_slices.proofs.Tests.{by_test}
use Rattle.theory_closures.specs.Closure.{ClosureHead, Closure, Bindings, view_under}
use Rattle.engine_states.specs.Searches.{first_home, home_below, home_from, home, HeldOnce, Locates}
use Rattle.engine_states.specs.Seen.{name_in, Names, Seen}
use Rattle.engine_states.specs.declared.PartNotes.{PartNotes}
use Rattle.engine_states.proofs.Holding.{no-cons, not_in}
use Rattle.engine_states.proofs.Homes.{nowhere, home-most}

-- the parts that have a name are those of the table of names
pub seen-names : (σ : Bindings) (w : ℕ → ClosureHead) (l : PartNotes) → Seen σ w l → Names σ w (members l.named)
unfolding name_in is_named
seen-names σ w l S i m = by_test (elem i (members l.named))
    (λ t. rw t (ap is_named (rw t at (S.names i m))))
    (λ t. rw t (ap is_named (rw t at (S.names i m))))

-- ---- the first of homes

-- where one of two homes is 65, their order is nothing
first-swap : (x y z : ℕ) → x ≡ 65 → first_home y (first_home x z) ≡ first_home (first_home x y) z
first-swap x y z e = rw e

first-last : (x y z : ℕ) → y ≡ 65 → first_home y (first_home x z) ≡ first_home (first_home x y) z
first-last x y z e = rw e (by_test (ltb x 65) (λ t. rw (t, t)) (λ t. rw t))

pub first-none : (x : ℕ) → x ≤ 65 → first_home x 65 ≡ x
first-none x l = by_test (ltb x 65) (λ t. rw t) (λ t. rw t (omega (arith, ltb-false x 65 t)))

-- ---- the home of a part

pub home-none : (σ : Bindings) (at x : ℕ) (b : Closure) → times_in x b ≡ 0 → home_from σ at x b ≡ 65
home-none σ at x b e = rw (not_in x b e) (nowhere σ x b e)

-- ---- the ways on of the pass

-- the home of a part in the body of the part i, whose head is h, if that has a name
abbrev inside_of : Bindings → (i : ℕ) (h : ClosureHead) (x : ℕ) → Closure → ℕ
inside_of σ i h x s = cond (is_named (head_name (view_under σ) h)) (home_from σ i x s) 65

below_none : (σ : Bindings) (i : ℕ) (h : ClosureHead) (x : ℕ) (s : Closure) → times_in x s ≡ 0 → inside_of σ i h x s ≡ 65
below_none σ i h x s e = by_test (is_named (head_name (view_under σ) h)) (λ t. rw t (home-none σ i x s e)) (λ t. rw t)

-- `after` are the homes when those in the body of the part i are written, if it has a name
abbrev pub Enters : Bindings → (k : ℕ → List ℕ) (w : ℕ → ClosureHead) (i fuel : ℕ) (before after : ℕ → ℕ) → Type 0
Enters σ k w i fuel before after =
    (s : Closure) → k i ≡ tops s → Held k w s → ((j : ℕ) → times_in j s ≤ 1) → parts s ≤ fuel → (x : ℕ) → after x ≡ first_home (inside_of σ i (w i) x s) (before x)

module _ (σ : Bindings) (k : ℕ → List ℕ) (w : ℕ → ClosureHead) where
  pub enters-named : (i fuel : ℕ) (P P₁ : ℕ → ℕ) → is_named (head_name (view_under σ) (w i)) ≡ true → Locates σ k w (k i) i fuel P P₁ → Enters σ k w i fuel P P₁
  enters-named i fuel P P₁ n inside s e h once m x = rw n (inside s e h once m x)

  pub enters-nameless : (i fuel : ℕ) (P : ℕ → ℕ) → is_named (head_name (view_under σ) (w i)) ≡ false → Enters σ k w i fuel P P
  enters-nameless i fuel P n s e h once m x = rw n

  module _ (left : List ℕ) (at fuel : ℕ) (P : ℕ → ℕ) where
    pub locates-none : left ≡ [] → Locates σ k w left at fuel P P
    unfolding tops elem home_below
    locates-none z close e h once m x = refl
    locates-none z (part j g s r) e h once m x = absurd (no-cons j (tops r) (sym e ∙ z))

    pub locates-no-fuel : fuel ≡ 0 → Locates σ k w left at fuel P P
    unfolding tops elem home_below total_over
    locates-no-fuel d close e h once m x = refl
    locates-no-fuel d (part j g s r) e h once m x = absurd (let z : ⊥ = omega arith in z)

    -- what is written of a part, of those in its body and of those beside it, no number standing twice
    together : at < 65 → (j : ℕ) (h : ClosureHead) (x : ℕ) (s r : Closure) → one_if (eqb x j) + (times_in x s + times_in x r) ≤ 1
        → first_home (home_from σ at x r) (first_home (inside_of σ j h x s) (cond (eqb x j) at (P x))) ≡ first_home (cond (eqb x j || elem x (tops r)) at (first_home (inside_of σ j h x s) (home_below σ x r))) (P x)
    together own j h x s r once = by_test (eqb x j)
        (λ t. let o : 1 + (times_in x s + times_in x r) ≤ 1 = rw t at once in rw (t, below_none σ j h x s (omega arith), home-none σ at x r (omega arith), lt-ltb at 65 own))
        (λ t. by_test (elem x (tops r))
        (λ u. rw (t, u, lt-ltb at 65 own))
        (λ u. by_test (eqb (times_in x s) 0)
        (λ v. rw (t, u) (first-swap (inside_of σ j h x s) (home_below σ x r) (P x) (below_none σ j h x s (eqb-true (times_in x s) 0 v))))
        (λ v. rw (t, u) (first-last (inside_of σ j h x s) (home_below σ x r) (P x) (nowhere σ x r (omega (arith, eqb-false (times_in x s) 0 v)))))))

    pub locates-first : (i : ℕ) (l : List ℕ) (P₁ P₂ P₃ : ℕ → ℕ) → left ≡ i ∷ l → at < 65 → ((x : ℕ) → P₁ x ≡ cond (eqb x i) at (P x)) → Enters σ k w i (fuel - 1) P₁ P₂
        → Locates σ k w l at (fuel - 1) P₂ P₃ → Locates σ k w left at fuel P P₃
    unfolding tops elem home_below total_over
    locates-first i l P₁ P₂ P₃ first own here inside rest close e h once m x = absurd (no-cons i l (sym first ∙ e))
    locates-first i l P₁ P₂ P₃ first own here inside rest (part j g s r) e h once m x =
        let p : i ≡ j = ap (head_or 0) (sym first ∙ e) in
        let a : w i ≡ g = ap w p ∙ h.1 in
        let y : P₂ x ≡ first_home (inside_of σ i (w i) x s) (P₁ x) = inside s (ap k p ∙ h.0) h.2 (λ n. omega (arith, once n)) (omega arith) x in
        rest r (ap tail (sym first ∙ e)) h.3 (λ n. omega (arith, once n)) (omega arith) x
        ∙ ap (first_home (home_from σ at x r)) (y ∙ ap (first_home (inside_of σ i (w i) x s)) (here x) ∙ (λ q. first_home (inside_of σ (p q) (a q) x s) (cond (eqb x (p q)) at (P x))))
        ∙ together own j g x s r (once x)

-- ---- the homes in an array

pub set-home : (l : List ℕ) (i at : ℕ) → i < length l → (x : ℕ) → get_or (set l i at) x 0 ≡ cond (eqb x i) at (get_or l x 0)
set-home l i at m x = by_test (eqb x i)
    (λ t. rw (t, eqb-true x i t) (get_or-set_same l i at 0 m))
    (λ t. rw t (get_or-set_other l i x at 0 (eqb-false x i t)))

-- from the top, where no home is written yet
pub located : (σ : Bindings) (k : ℕ → List ℕ) (w : ℕ → ClosureHead) (b : Closure) (after : ℕ → ℕ) → HeldOnce k w b → parts b ≤ 64
    → Locates σ k w (k 64) 64 64 (λ x. get_or (replicate 64 65) x 0) after → (x : ℕ) → x < 64 → after x ≡ home σ x b
unfolding home
located σ k w b after Q few L x m =
    L b Q.top Q.held Q.once few x ∙ ap (first_home (home σ x b)) (get_or-replicate 64 x 65 0 m) ∙ first-none (home σ x b) (home-most σ x b)

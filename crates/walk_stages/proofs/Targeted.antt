-- SOMETIME: what stands after each move, actor by actor and, of an actor, target by target, as a loop over the members of the
-- set of its targets meets them. Assumes nothing.
use Prim.Native.Nat.{ℕ, zero, suc, ◌+◌, ◌-◌, ◌≤◌, ◌<◌}
use mathlib.Core.Bool.{Bool, true, false, true≢false}
use mathlib.Core.List.{List, [], ◌∷◌, ◌++◌}
use mathlib.Core.Option.{Option, none, some}
use mathlib.Core.Path.{◌≡◌, refl, sym, ap, ◌∙◌}
use native.Mathlib.Omega.{arith}
use lib.Dec.{ltb}
use borrow.Author.Tests.{ne_eqb, ltb-true, ltb-false}
use Rattle.base_sets.specs.Sets.{has, numbers_from, members, elem}
use Rattle.base_sets.specs.Sets as sets
use Rattle.base_sets.proofs.Members.{has-elem}
use Rattle.read_scripts.specs.Tree.{close, part, total_over, times_in}
use Rattle.theory_machine.specs.Moves.{MoveMade}
use Rattle.base_slices.proofs.Tests.{by_test}
use Rattle.read_scripts.proofs.Numbers.{own-times}
use Rattle.theory_machine.proofs.Everywhere.{Everywhere, settle-everywhere, Keeps, makes-everywhere}
use Rattle.theory_closures.specs.Closure.{Action, ClosureHead, Closure, Bindings, view_under, all_spent, closure_move, ClosureMachine}
use Rattle.engine_targets.specs.Targets.{is_some}
use Rattle.theory_closures.proofs.Tallies.{closure-inv}
use Rattle.theory_decision.specs.Walk.{keep, moves_to}
use Rattle.theory_decision.specs.ClosureWalk.{machine_after}

-- ---- any moves of one actor

module _ {S : Type 0} (make : ℕ → Option S) where
  to_none : (t : ℕ) (l : List ℕ) → is_some (make t) ≡ false → moves_to make (t ∷ l) ≡ moves_to make l
  unfolding moves_to keep is_some
  to_none t l e = is_none (make t) e
    where
      is_none : (x : Option S) → is_some x ≡ false → keep x (moves_to make l) ≡ moves_to make l
      is_none none e = refl
      is_none (some c) e = absurd (true≢false e)

  to_same : (t : ℕ) (l k : List ℕ) → moves_to make l ≡ moves_to make k → moves_to make (t ∷ l) ≡ moves_to make (t ∷ k)
  unfolding moves_to
  to_same t l k e = ap (keep (make t)) e

  -- each of the targets makes something
  abbrev pub Each : List ℕ → Type 0
  Each [] = Unit {0}
  Each (t ∷ l) = (is_some (make t) ≡ true) × Each l

  -- those that pass a test which says what makes something
  module _ (p : ℕ → Bool) where
    to-kept : (b d : ℕ) → ((t : ℕ) → b ≤ t → t < b + d → p t ≡ is_some (make t)) → (moves_to make (numbers_from b d) ≡ moves_to make (sets.keep p (numbers_from b d))) × Each (sets.keep p (numbers_from b d))
    unfolding numbers_from sets.keep
    to-kept b zero h = (refl, tt)
    to-kept b (suc d) h =
        let (e, a) = to-kept (suc b) d (λ t u v. h t (omega arith) (omega arith)) in
        let s : p b ≡ is_some (make b) = h b (omega arith) (omega arith) in
        by_test (p b)
        (λ t. rw t (to_same b (numbers_from (suc b) d) _ e, (sym s ∙ t, a)))
        (λ t. rw t (to_none b (numbers_from (suc b) d) (sym s ∙ t) ∙ e, a))

  -- targets that make nothing
  to-nothing : (b d : ℕ) → ((t : ℕ) → b ≤ t → is_some (make t) ≡ false) → moves_to make (numbers_from b d) ≡ moves_to make []
  unfolding numbers_from
  to-nothing b zero h = refl
  to-nothing b (suc d) h = to_none b (numbers_from (suc b) d) (h b (omega arith)) ∙ to-nothing (suc b) d (λ t u. h t (omega arith))

  to-limit : (b d more : ℕ) → ((t : ℕ) → b + d ≤ t → is_some (make t) ≡ false) → moves_to make (numbers_from b (d + more)) ≡ moves_to make (numbers_from b d)
  unfolding numbers_from
  to-limit b zero more h = let e : 0 + more ≡ more = omega arith in ap (λ (n : ℕ). moves_to make (numbers_from b n)) e ∙ to-nothing b more (λ t u. h t (omega arith))
  to-limit b (suc d) more h =
      let e : suc d + more ≡ suc (d + more) = omega arith in
      ap (λ (n : ℕ). moves_to make (numbers_from b n)) e ∙ to_same b (numbers_from (suc b) (d + more)) (numbers_from (suc b) d) (to-limit (suc b) d more (λ t u. h t (omega arith)))

  -- THEOREM: what the moves to all targets make is what those to the members of the set make.
  pub to-members : (m limit : ℕ) → limit ≤ 64 → ((t : ℕ) → t < 64 → elem t (members m) ≡ is_some (make t)) → ((t : ℕ) → limit ≤ t → is_some (make t) ≡ false)
      → (moves_to make (numbers_from 0 limit) ≡ moves_to make (members m)) × Each (members m)
  unfolding members
  to-members m limit low told high =
      let e : 64 ≡ limit + (64 - limit) = omega arith in
      let (q, a) = to-kept (has m) 0 64 (λ t u v. sym (has-elem m t (omega arith)) ∙ told t (omega arith)) in
      (sym (to-limit 0 limit (64 - limit) (λ t u. high t (omega arith))) ∙ ap (λ (n : ℕ). moves_to make (numbers_from 0 n)) (sym e) ∙ q, a)

-- ---- the closure's moves

-- what stands after the move (a, t)
abbrev pub after : Bindings → Closure → (a t : ℕ) → Option ClosureMachine
after σ b a t = machine_after σ (closure_move σ a t b)

pub after-some : (σ : Bindings) (x : Option (MoveMade Action)) → is_some (machine_after σ x) ≡ is_some x
unfolding is_some
after-some σ none = refl
after-some σ (some m) = refl

-- no part of the closure is numbered that or more
abbrev pub Low : ℕ → Closure → Type 0
Low limit b = (i : ℕ) → limit ≤ i → times_in i b ≡ 0

abbrev Under : ℕ → Closure → Type 0
Under limit b = Everywhere (λ (i : ℕ) (h : ClosureHead). i < limit) b

low-under : (limit : ℕ) (b : Closure) → Low limit b → Under limit b
unfolding total_over
low-under limit close l = tt
low-under limit (part i h b r) l =
    (small, low-under limit b (λ j g. let z = l j g in omega arith), low-under limit r (λ j g. let z = l j g in omega arith))
  where
    small : i < limit
    small = by_test (ltb i limit) (λ t. ltb-true i limit t) (λ t. absurd (let z : ⊥ = omega (arith, l i (ltb-false i limit t), own-times i) in z))

under_low : (limit : ℕ) (b : Closure) → Under limit b → Low limit b
unfolding total_over
under_low limit close u i g = refl
under_low limit (part j h b r) u i g =
    let s : j < limit = u.0 in
    rw (ne_eqb i j (λ e. omega (arith, s))) (omega (arith, under_low limit b u.1 i g, under_low limit r u.2 i g))

-- THEOREM: the actor and the target of a move are numbers of the closure's parts, and no new ones stand after it.
pub move-low : (σ : Bindings) (limit a t : ℕ) (b : Closure) (m : MoveMade Action) → Low limit b → closure_move σ a t b ≡ some m → (a < limit) × (t < limit) × Low limit m.body
move-low σ limit a t b m l e =
    let M = closure-inv σ a t b m e in
    let K : Keeps (view_under σ) (λ (i : ℕ) (h : ClosureHead). i < limit) = record { spends = λ i h q. q; delivers = λ i v n c q x. x } in
    let (x, y, u) = makes-everywhere (view_under σ) (λ (i : ℕ) (h : ClosureHead). i < limit) K a t M.makes (low-under limit b l) in
    (x.1, y.1, under_low limit m.body (rw M.settled (settle-everywhere (λ (i : ℕ) (h : ClosureHead). i < limit) (all_spent (m.news ++ σ)) M.unsettled u)))

pub move-high : (σ : Bindings) (limit a t : ℕ) (b : Closure) → Low limit b → limit ≤ t → is_some (closure_move σ a t b) ≡ false
unfolding is_some
move-high σ limit a t b l g = go (closure_move σ a t b) refl
  where
    go : (x : Option (MoveMade Action)) → closure_move σ a t b ≡ x → is_some x ≡ false
    go none e = refl
    go (some m) e = absurd (let z = move-low σ limit a t b m l e in let n : t < limit = z.1 in let w : ⊥ = omega arith in w)

-- a target of the set is one of a move that is made
pub after-made : (σ : Bindings) (b : Closure) (a t : ℕ) → is_some (after σ b a t) ≡ true → is_some (closure_move σ a t b) ≡ true
after-made σ b a t e = sym (after-some σ (closure_move σ a t b)) ∙ e

-- and the machine after it
pub after_is : (σ τ : Bindings) (b : Closure) (a t : ℕ) (m : MoveMade Action) → closure_move σ a t b ≡ some m → τ ≡ m.news ++ σ → after σ b a t ≡ some (record { tree = m.body; bindings = τ })
after_is σ τ b a t m e d = ap (machine_after σ) e ∙ ap (λ (x : Bindings). some (record { tree = m.body; bindings = x })) (sym d)

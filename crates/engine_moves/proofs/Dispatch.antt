-- A move that can be made is the one of the actor's kind, and what is kept of the actor tells which. Assumes nothing.
use Prim.Native.Nat.{ℕ, ◌+◌, ◌≤◌, ◌<◌}
use mathlib.Core.Bool.{true, false, true≢false, and-eq-true_iff}
use mathlib.Core.List.{List}
use mathlib.Core.Logic.{inl, inr}
use mathlib.Core.Path.{◌≡◌, refl, sym, ap, ◌∙◌, subst}
use native.Mathlib.Omega.{arith}
use lib.Dec.{eqb, ltb}
use lib.ListN.{get_or}
use borrow.Author.Tests.{eqb-true, eqb-false, ltb-true, le-ltb}
use Rattle.read_messages.specs.Message.{Named}
use Rattle.read_messages.specs.declared.First.{First}
use Rattle.read_messages.specs.declared.First.TheVariants.{Nothing, Enter, Exit, Open, Other}
use Rattle.read_scripts.specs.Tree.{ambient, action, receipt, output}
use Rattle.read_scripts.specs.Represents.{body_in}
use Rattle.theory_machine.specs.Moves.{to_enter, to_exit, to_open, variable_of, first_of}
use Rattle.base_slices.proofs.Tests.{by_test}
use Rattle.theory_closures.specs.Closure.{ClosureHead, Closure, Bindings, view_under, closure_move}
use Rattle.engine_states.specs.Represents.{heads, bound_in, Ready, Represents}
use Rattle.engine_states.specs.Searches.{home, HeldOnce}
use Rattle.engine_states.specs.Seen.{item_act, act_under}
use Rattle.engine_states.specs.declared.State.{State}
use Rattle.engine_states.proofs.Homes.{Active, home-active}
use Rattle.engine_targets.specs.Targets.{is_some, can_open, can_receive, can_enter, can_exit, can_move_from, can_move}
use Rattle.engine_targets.proofs.Actors.{by-opener, by-receiver, by-enterer, by-leaver, by-idler, by-homes}
use Rattle.engine_targets.proofs.Possible.{possible}
use Rattle.engine_targets.proofs.Making.{represented}

-- what the number of an act says of the item, and of the head

said-open : (x : First) → item_act x ≡ 1 → (n : Named) × (x ≡ Open n)
unfolding item_act
said-open Nothing e = absurd (let z : ⊥ = omega arith in z)
said-open (Enter n) e = absurd (let z : ⊥ = omega arith in z)
said-open (Exit n) e = absurd (let z : ⊥ = omega arith in z)
said-open (Open n) e = (n, refl)
said-open Other e = absurd (let z : ⊥ = omega arith in z)

said-enter : (x : First) → item_act x ≡ 2 → (n : Named) × (x ≡ Enter n)
unfolding item_act
said-enter Nothing e = absurd (let z : ⊥ = omega arith in z)
said-enter (Enter n) e = (n, refl)
said-enter (Exit n) e = absurd (let z : ⊥ = omega arith in z)
said-enter (Open n) e = absurd (let z : ⊥ = omega arith in z)
said-enter Other e = absurd (let z : ⊥ = omega arith in z)

module _ (σ : Bindings) (k : ℕ → List ℕ) (w : ℕ → ClosureHead) (p q a t : ℕ) where
  opener : (h : ClosureHead) → w a ≡ h → act_under σ h ≡ 1 → can_move_from σ k w p q a t ≡ can_open σ k w p a t
  unfolding act_under
  opener (ambient m) e u = absurd (let z : ⊥ = omega arith in z)
  opener (action l) e u = let (n, d) = said-open (first_of (view_under σ) (action l)) u in by-opener σ k w p q a t n (ap (first_of (view_under σ)) e ∙ d)
  opener (receipt v) e u = absurd (let z : ⊥ = omega arith in z)
  opener (output m) e u = absurd (let z : ⊥ = omega arith in z)

  enterer : (h : ClosureHead) → w a ≡ h → act_under σ h ≡ 2 → can_move_from σ k w p q a t ≡ can_enter σ k w p q a t
  unfolding act_under
  enterer (ambient m) e u = absurd (let z : ⊥ = omega arith in z)
  enterer (action l) e u = let (n, d) = said-enter (first_of (view_under σ) (action l)) u in by-enterer σ k w p q a t n (ap (first_of (view_under σ)) e ∙ d)
  enterer (receipt v) e u = absurd (let z : ⊥ = omega arith in z)
  enterer (output m) e u = absurd (let z : ⊥ = omega arith in z)

  receiver : (h : ClosureHead) → w a ≡ h → act_under σ h ≡ 4 → can_move_from σ k w p q a t ≡ can_receive σ k w p a t
  unfolding act_under item_act
  receiver (ambient m) e u = absurd (let z : ⊥ = omega arith in z)
  receiver (action l) e u = no-four (first_of (view_under σ) (action l)) u
    where
      no-four : {A : Type 0} (x : First) → item_act x ≡ 4 → A
      no-four Nothing v = absurd (let z : ⊥ = omega arith in z)
      no-four (Enter n) v = absurd (let z : ⊥ = omega arith in z)
      no-four (Exit n) v = absurd (let z : ⊥ = omega arith in z)
      no-four (Open n) v = absurd (let z : ⊥ = omega arith in z)
      no-four Other v = absurd (let z : ⊥ = omega arith in z)
  receiver (receipt v) e u = by-receiver σ k w p q a t v e
  receiver (output m) e u = absurd (let z : ⊥ = omega arith in z)

  -- one that neither opens nor enters nor receives comes out, or does nothing
  leaver : (h : ClosureHead) → w a ≡ h → (act_under σ h ≡ 1 → ⊥) → (act_under σ h ≡ 2 → ⊥) → (act_under σ h ≡ 4 → ⊥) → can_move_from σ k w p q a t ≡ true → can_exit σ k w p q a t ≡ true
  unfolding act_under item_act first_of variable_of to_open to_enter to_exit
  leaver (ambient m) e o i r y = absurd (true≢false (sym y ∙ by-idler σ k w p q a t Nothing (ap (first_of (view_under σ)) e) (ap variable_of e) refl refl refl))
  leaver (action l) e o i r y = by_first (first_of (view_under σ) (action l)) refl o i
    where
      by_first : (x : First) → first_of (view_under σ) (action l) ≡ x → (item_act x ≡ 1 → ⊥) → (item_act x ≡ 2 → ⊥) → can_exit σ k w p q a t ≡ true
      by_first Nothing d o i = absurd (true≢false (sym y ∙ by-idler σ k w p q a t Nothing (ap (first_of (view_under σ)) e ∙ d) (ap variable_of e) refl refl refl))
      by_first (Enter n) d o i = absurd (i refl)
      by_first (Exit n) d o i = sym (by-leaver σ k w p q a t n (ap (first_of (view_under σ)) e ∙ d)) ∙ y
      by_first (Open n) d o i = absurd (o refl)
      by_first Other d o i = absurd (true≢false (sym y ∙ by-idler σ k w p q a t Other (ap (first_of (view_under σ)) e ∙ d) (ap variable_of e) refl refl refl))
  leaver (receipt v) e o i r y = absurd (r refl)
  leaver (output m) e o i r y = absurd (true≢false (sym y ∙ by-idler σ k w p q a t Nothing (ap (first_of (view_under σ)) e) (ap variable_of e) refl refl refl))

  -- nothing stands nowhere
  pub nowhere : 65 ≤ p → can_move_from σ k w p q a t ≡ false
  unfolding can_move_from can_open can_receive can_enter can_exit
  nowhere l = rw (le-ltb p 65 l, le-ltb p 64 (omega arith))

module _ (script kinds starts : List ℕ) (weight spent : ℕ) (s : State) (b : Closure) (R : Represents script kinds starts weight spent s b) (ready : Ready script kinds starts s)
    (few : spent + 1 < 4294967295) (P : ℕ → ℕ) (right : (i : ℕ) → i < 64 → P i ≡ home (bound_in script s) i b) (a t : ℕ) (low : a < 64)
    (yes : is_some (closure_move (bound_in script s) a t b) ≡ true) where
  abbrev σ : Bindings
  σ = bound_in script s

  abbrev k : ℕ → List ℕ
  k = body_in s.kids

  abbrev w : ℕ → ClosureHead
  w = heads script kinds starts s.offsets

  abbrev act : ℕ
  act = get_or s.notes.acts a 0

  abbrev stands : HeldOnce k w b
  stands = represented script kinds starts weight spent s b R

  pub can : can_move_from σ k w (P a) (P (P a)) a t ≡ true
  unfolding can_move
  can = by-homes σ k w P (λ i. home σ i b) right a t low ∙ sym (possible σ k w b stands a t) ∙ yes

  told : act ≡ act_under σ (w a)
  told = ((ready.seen (λ i. omega (arith, R.spends i))).deeds a low).acts

  pub to-open : act ≡ 1 → can_open σ k w (P a) a t ≡ true
  to-open e = sym (opener σ k w (P a) (P (P a)) a t (w a) refl (sym told ∙ e)) ∙ can

  pub to-receive : act ≡ 4 → can_receive σ k w (P a) a t ≡ true
  to-receive e = sym (receiver σ k w (P a) (P (P a)) a t (w a) refl (sym told ∙ e)) ∙ can

  pub to-enter : act ≡ 2 → can_enter σ k w (P a) (P (P a)) a t ≡ true
  to-enter e = sym (enterer σ k w (P a) (P (P a)) a t (w a) refl (sym told ∙ e)) ∙ can

  pub to-exit : (act ≡ 1 → ⊥) → (act ≡ 2 → ⊥) → (act ≡ 4 → ⊥) → can_exit σ k w (P a) (P (P a)) a t ≡ true
  to-exit o i r = leaver σ k w (P a) (P (P a)) a t (w a) refl (λ e. o (told ∙ e)) (λ e. i (told ∙ e)) (λ e. r (told ∙ e)) can

  -- who enters or comes out does not stand at the top
  pub inside-some : (act ≡ 1 → ⊥) → (act ≡ 4 → ⊥) → P a < 64
  unfolding can_enter can_exit
  inside-some o r = by_test (eqb act 2)
      (λ e. ltb-true (P a) 64 ((and-eq-true_iff (ltb (P a) 64) _).0 (to-enter (eqb-true act 2 e))).0)
      (λ e. ltb-true (P a) 64 ((and-eq-true_iff (ltb (P a) 64) _).0 (to-exit o (eqb-false act 2 e) r)).0)

  -- who enters goes with a part that stands somewhere
  pub enter-from : act ≡ 2 → P (P a) < 65
  unfolding can_enter
  enter-from e = ltb-true (P (P a)) 65 ((and-eq-true_iff (ltb (P (P a)) 65) _).0 ((and-eq-true_iff (ltb (P a) 64) _).0 (to-enter e)).1).0

  -- who comes out does so of the part around, which stands somewhere
  pub exit-to : t < 64 → (act ≡ 1 → ⊥) → (act ≡ 2 → ⊥) → (act ≡ 4 → ⊥) → (P (P a) ≡ t) × (P t < 65)
  unfolding can_exit
  exit-to lt o i r =
      let u = (and-eq-true_iff (ltb (P a) 64) _).0 (to-exit o i r) in
      let v = (and-eq-true_iff (ltb (P (P a)) 64) _).0 u.1 in
      let e : t ≡ P (P a) = eqb-true t (P (P a)) ((and-eq-true_iff (eqb t (P (P a))) _).0 v.1).0 in
      let c : home σ (P a) b ≡ t = sym (right (P a) (ltb-true (P a) 64 u.0)) ∙ sym e in (
        sym e,
        subst (λ (n : ℕ). n < 65) (sym (right t lt)) (around (home-active σ k w b stands (P a) t c (omega arith)).1),
      )
    where
      around : Active σ w (λ i. home σ i b) t → home σ t b < 65
      around (inl z) = absurd (let o : ⊥ = omega arith in o)
      around (inr z) = z.1

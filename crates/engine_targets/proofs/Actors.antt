-- What an actor is decides which of the four tests it can pass: an action has one first item, a receipt has none.
-- Assumes nothing.
use Prim.Native.Nat.{ℕ, ◌<◌}
use mathlib.Core.Bool.{Bool, true, false, and-false, or-false, true≢false, false≢true, and-eq-true_iff}
use mathlib.Core.List.{List}
use mathlib.Core.Option.{Option, none, some}
use mathlib.Core.Path.{◌≡◌, refl, sym, ap, ◌∙◌}
use lib.Dec.{ltb}
use borrow.Author.Tests.{ltb-true}
use Rattle.read_messages.specs.Message.{Message}
use Rattle.read_messages.specs.declared.First.{First}
use Rattle.read_messages.specs.declared.First.TheVariants.{Nothing, Enter, Exit, Open, Other}
use Rattle.read_messages.specs.Message.{Named}
use Rattle.std.specs.Prelude.{Some, None}
use Rattle.base_sets.specs.Sets.{elem}
use Rattle.read_scripts.specs.Tree.{ambient, action, receipt, output}
use Rattle.theory_machine.specs.Moves.{same_name, to_enter, to_exit, to_open, variable_of, message_of, head_name, first_of}
use Rattle.theory_machine.proofs.Inversion.{variable_of-inv, message_of-inv}
use Rattle.base_slices.proofs.Tests.{by_test}
use Rattle.theory_closures.specs.Closure.{ClosureHead, Bindings, view_under}
use Rattle.engine_targets.specs.Targets.{is_some, may_open, can_open, can_receive, can_enter, can_exit, can_move_from, can_move}

abbrev is_item : First → Bool
is_item Nothing = false
is_item (Enter n) = true
is_item (Exit n) = true
is_item (Open n) = true
is_item Other = true

-- a part with a first item is no receipt
pub no-receipt : (σ : Bindings) (h : ClosureHead) (x : First) → first_of (view_under σ) h ≡ x → is_item x ≡ true → variable_of h ≡ none
unfolding variable_of first_of
no-receipt σ (ambient m) x e i = refl
no-receipt σ (action l) x e i = refl
no-receipt σ (receipt v) x e i = absurd (false≢true (ap is_item e ∙ i))
no-receipt σ (output m) x e i = refl

-- a receipt has no first item
pub no_item : (σ : Bindings) (h : ClosureHead) (v : ℕ) → h ≡ receipt v → first_of (view_under σ) h ≡ Nothing
unfolding first_of
no_item σ h v e = rw e

nameless : (x : Named) → same_name x None ≡ false
unfolding same_name
nameless (Some n) = refl
nameless None = refl

-- no part opens itself
pub not_itself : (σ : Bindings) (h : ClosureHead) → may_open σ h h ≡ false
unfolding first_of head_name to_open same_name
not_itself σ (ambient m) = refl
not_itself σ (action l) = nameless (to_open (first_of (view_under σ) (action l)))
not_itself σ (receipt v) = refl
not_itself σ (output m) = refl

-- ---- the tests

is-some : {A : Type 0} (o : Option A) → is_some o ≡ true → (x : A) × (o ≡ some x)
unfolding is_some
is-some none e = absurd (true≢false (sym e))
is-some (some x) e = (x, refl)

module _ (σ : Bindings) (k : ℕ → List ℕ) (w : ℕ → ClosureHead) where
  module _ (p q a t : ℕ) where
    no-open : to_open (first_of (view_under σ) (w a)) ≡ None → can_open σ k w p a t ≡ false
    unfolding can_open same_name
    no-open e = rw (e, and-false, and-false)

    no-receive : variable_of (w a) ≡ none → can_receive σ k w p a t ≡ false
    unfolding can_receive is_some
    no-receive e = rw (e, and-false, and-false)

    no-enter : to_enter (first_of (view_under σ) (w a)) ≡ None → can_enter σ k w p q a t ≡ false
    unfolding can_enter same_name
    no-enter e = rw (e, and-false, and-false, and-false, and-false)

    no-exit : to_exit (first_of (view_under σ) (w a)) ≡ None → can_exit σ k w p q a t ≡ false
    unfolding can_exit same_name
    no-exit e = rw (e, and-false, and-false, and-false)

    -- the test of an actor's kind is the only one that it can pass

    pub by-opener : (n : Named) → first_of (view_under σ) (w a) ≡ Open n → can_move_from σ k w p q a t ≡ can_open σ k w p a t
    unfolding can_move_from to_enter to_exit
    by-opener n e = rw (no-receive (no-receipt σ (w a) (Open n) e refl), no-enter (ap to_enter e), no-exit (ap to_exit e)) (or-false (can_open σ k w p a t))

    pub by-receiver : (v : ℕ) → w a ≡ receipt v → can_move_from σ k w p q a t ≡ can_receive σ k w p a t
    unfolding can_move_from to_open to_enter to_exit
    by-receiver v e = let i = no_item σ (w a) v e in rw (no-open (ap to_open i), no-enter (ap to_enter i), no-exit (ap to_exit i)) (or-false (can_receive σ k w p a t))

    pub by-enterer : (n : Named) → first_of (view_under σ) (w a) ≡ Enter n → can_move_from σ k w p q a t ≡ can_enter σ k w p q a t
    unfolding can_move_from to_open to_exit
    by-enterer n e = rw (no-open (ap to_open e), no-receive (no-receipt σ (w a) (Enter n) e refl), no-exit (ap to_exit e)) (or-false (can_enter σ k w p q a t))

    pub by-leaver : (n : Named) → first_of (view_under σ) (w a) ≡ Exit n → can_move_from σ k w p q a t ≡ can_exit σ k w p q a t
    unfolding can_move_from to_open to_enter
    by-leaver n e = rw (no-open (ap to_open e), no-receive (no-receipt σ (w a) (Exit n) e refl), no-enter (ap to_enter e))

    -- what is received
    pub receive-what : can_receive σ k w p a t ≡ true → (v : ℕ) × (m : Message) × (w a ≡ receipt v) × (w t ≡ output m)
    unfolding can_receive
    receive-what e =
        let (x, y) = (and-eq-true_iff (is_some (variable_of (w a))) _).0 ((and-eq-true_iff (elem t (k p)) _).0 ((and-eq-true_iff (ltb p 65) _).0 e).1).1 in
        let (v, c) = is-some (variable_of (w a)) x in
        let (m, d) = is-some (message_of (w t)) y in
        (v, m, variable_of-inv (w a) v c, message_of-inv (w t) m d)

    -- an actor that is no receipt and has no item to move by
    pub by-idler : (x : First) → first_of (view_under σ) (w a) ≡ x → variable_of (w a) ≡ none → to_open x ≡ None → to_enter x ≡ None → to_exit x ≡ None
        → can_move_from σ k w p q a t ≡ false
    unfolding can_move_from
    by-idler x f r o e i = rw (no-open (ap to_open f ∙ o), no-receive r, no-enter (ap to_enter f ∙ e), no-exit (ap to_exit f ∙ i))

    -- around the top there is nothing
    pub by-outsider : (b : ℕ) → ltb p 64 ≡ false → can_move_from σ k w p q a t ≡ can_move_from σ k w p b a t
    unfolding can_move_from can_enter can_exit
    by-outsider b e = rw e

  -- the tests ask for the homes of parts alone
  pub by-homes : (x y : ℕ → ℕ) → ((i : ℕ) → i < 64 → x i ≡ y i) → (a t : ℕ) → a < 64 → can_move σ k w x a t ≡ can_move σ k w y a t
  unfolding can_move
  by-homes x y same a t l =
      let e : x a ≡ y a = same a l in
      by_test (ltb (x a) 64)
      (λ u. let d : x (x a) ≡ y (y a) = same (x a) (ltb-true (x a) 64 u) ∙ ap y e in λ j. can_move_from σ k w (e j) (d j) a t)
      (λ u. by-outsider (x a) (x (x a)) a t (y (y a)) u ∙ ap (λ (p : ℕ). can_move_from σ k w p (y (y a)) a t) e)

-- What is kept of an actor and the homes say which parts are the targets of its moves. Assumes nothing.
use Prim.Native.Nat.{ℕ, ◌≤◌, ◌<◌}
use mathlib.Core.Bool.{Bool, true, false, not, ◌&&◌, and-false}
use mathlib.Core.List.{List, [], ◌∷◌}
use mathlib.Core.Option.{none}
use mathlib.Core.Path.{◌≡◌, refl, sym, ap, ◌∙◌}
use native.Mathlib.Omega.{arith}
use lib.Dec.{eqb, ltb}
use lib.ListN.{get_or}
use borrow.Author.Tests.{eqb-true, eqb-false, eq-eqb, ne_eqb, lt-ltb, le-ltb}
use Rattle.read_messages.specs.Message.{first_item}
use Rattle.read_messages.specs.declared.First.{First}
use Rattle.read_messages.specs.declared.First.TheVariants.{Nothing, Enter, Exit, Open, Other}
use Rattle.base_sets.specs.Sets.{members, elem, removed, in_both}
use Rattle.base_sets.proofs.Lists.{elem-remove}
use Rattle.base_sets.proofs.Members.{elem-keep, members-empty}
use Rattle.read_scripts.specs.Tree.{ambient, action, receipt, output}
use Rattle.read_scripts.specs.Represents.{body_in}
use Rattle.theory_machine.specs.Moves.{same_name, to_enter, to_exit, to_open, variable_of, message_of, head_name, first_of}
use Rattle.base_slices.proofs.Tests.{by_test}
use Rattle.theory_closures.specs.Closure.{ClosureHead, Closure, Bindings, items_left, view_under, closure_move}
use Rattle.engine_states.specs.Represents.{heads, bound_in, Ready, Represents}
use Rattle.engine_states.specs.Searches.{home, HeldOnce, Located}
use Rattle.engine_states.specs.Seen.{item_act, item_name, is_output, act_under, aim_under, Seen}
use Rattle.engine_states.specs.declared.State.{State}
use Rattle.engine_targets.specs.Targets.{is_some, can_open, can_receive, can_enter, can_exit, can_move_from, can_move, is_within, is_beside, is_around, is_target, TargetsOf}
use Rattle.engine_targets.proofs.Actors.{by-opener, by-receiver, by-enterer, by-leaver, by-idler, by-homes}
use Rattle.engine_targets.proofs.Possible.{possible}
use Rattle.engine_targets.proofs.Locating.{seen-names}
use Rattle.engine_targets.proofs.Making.{represented}

-- ---- the tests, by what is kept

same_number : (x y : ℕ) → eqb x y ≡ eqb y x
same_number x y = by_test (eqb x y) (λ t. t ∙ sym (eq-eqb y x (sym (eqb-true x y t)))) (λ t. t ∙ sym (ne_eqb y x (λ e. eqb-false x y t (sym e))))

output-message : (h : ClosureHead) → is_some (message_of h) ≡ is_output h
unfolding is_some message_of is_output
output-message (ambient m) = refl
output-message (action a) = refl
output-message (receipt v) = refl
output-message (output m) = refl

-- x handed to the front
front : (x y z u : Bool) → (y && (z && (x && u))) ≡ (x && (y && (z && u)))
front true y z u = refl
front false y z u = rw (and-false, and-false)

module _ (σ : Bindings) (k : ℕ → List ℕ) (w : ℕ → ClosureHead) (p q a t : ℕ) where
  -- by the first item of an actor that is no receipt
  by-item : (x : First) → first_of (view_under σ) (w a) ≡ x → variable_of (w a) ≡ none
      → can_move_from σ k w p q a t ≡ is_target k (item_act x) p q t (same_name (item_name x) (head_name (view_under σ) (w t)))
  unfolding to_open to_enter to_exit item_act item_name is_target is_within is_beside is_around can_open can_enter can_exit
  by-item Nothing e v = by-idler σ k w p q a t Nothing e v refl refl refl
  by-item (Enter n) e v =
      by-enterer σ k w p q a t n e
      ∙ ap (λ (x : First). ltb p 64 && (ltb q 65 && (elem t (k q) && (not (eqb t p) && same_name (to_enter x) (head_name (view_under σ) (w t)))))) e
      ∙ ap (λ (b : Bool). ltb p 64 && b) (front (not (eqb t p)) (ltb q 65) (elem t (k q)) (same_name n (head_name (view_under σ) (w t))))
      ∙ ap (λ (b : Bool). ltb p 64 && (not b && (ltb q 65 && (elem t (k q) && same_name n (head_name (view_under σ) (w t)))))) (same_number t p)
  by-item (Exit n) e v =
      by-leaver σ k w p q a t n e
      ∙ ap (λ (x : First). ltb p 64 && (ltb q 64 && (eqb t q && same_name (to_exit x) (head_name (view_under σ) (w q))))) e
      ∙ by_test (eqb t q) (λ u. rw (u, eqb-true t q u)) (λ u. rw u)
  by-item (Open n) e v = by-opener σ k w p q a t n e ∙ ap (λ (x : First). ltb p 65 && (elem t (k p) && same_name (to_open x) (head_name (view_under σ) (w t)))) e
  by-item Other e v = by-idler σ k w p q a t Other e v refl refl refl

  by-head : (h : ClosureHead) → w a ≡ h → can_move_from σ k w p q a t ≡ is_target k (act_under σ h) p q t (aim_under σ h (w t))
  unfolding act_under aim_under is_target is_within to_open to_enter to_exit can_receive first_of variable_of is_some
  by-head (ambient m) e = by-idler σ k w p q a t Nothing (ap (first_of (view_under σ)) e) (ap variable_of e) refl refl refl
  by-head (action l) e = by-item (first_item (items_left σ l)) (ap (first_of (view_under σ)) e) (ap variable_of e)
  by-head (receipt v) e =
      by-receiver σ k w p q a t v e
      ∙ ap (λ (h : ClosureHead). ltb p 65 && (elem t (k p) && (is_some (variable_of h) && is_some (message_of (w t))))) e
      ∙ ap (λ (b : Bool). ltb p 65 && (elem t (k p) && b)) (output-message (w t))
  by-head (output m) e = by-idler σ k w p q a t Nothing (ap (first_of (view_under σ)) e) (ap variable_of e) refl refl refl

-- THEOREM: the closure allows the moves of an actor to its targets, and no others.
targets-are : (σ : Bindings) (k : ℕ → List ℕ) (w : ℕ → ClosureHead) (b : Closure) → HeldOnce k w b → (P : ℕ → ℕ) → ((i : ℕ) → i < 64 → P i ≡ home σ i b) → (act : ℕ) (aim : List ℕ) (a t : ℕ)
    → a < 64 → t < 64 → act ≡ act_under σ (w a) → ((j : ℕ) → j < 64 → elem j aim ≡ aim_under σ (w a) (w j)) → is_target k act (P a) (P (P a)) t (elem t aim) ≡ is_some (closure_move σ a t b)
unfolding can_move
targets-are σ k w b Q P right act aim a t la lt ea ei =
    (λ i. is_target k (ea i) (P a) (P (P a)) t (ei t lt i))
    ∙ sym (by-head σ k w (P a) (P (P a)) a t (w a) refl)
    ∙ by-homes σ k w P (λ i. home σ i b) right a t la
    ∙ sym (possible σ k w b Q a t)

-- a set of those that pass the test of the actor's act
pub targets_of : (k : ℕ → List ℕ) (act : ℕ) (aim : List ℕ) (P : ℕ → ℕ) (a : ℕ) (l : List ℕ) → a < 64 → (n : ℕ) → act ≡ n → ((t : ℕ) → elem t l ≡ is_target k n (P a) (P (P a)) t (elem t aim)) → TargetsOf k act aim P a l
targets_of k act aim P a l la n d e σ w b Q ea ei right t lt =
    e t ∙ ap (λ (m : ℕ). is_target k m (P a) (P (P a)) t (elem t aim)) (sym d) ∙ targets-are σ k w b Q P right act aim a t la lt ea ei

-- an actor that does nothing has none
pub no_target : (k : ℕ → List ℕ) (act p q t : ℕ) (u : Bool) → (act ≡ 1 → ⊥) → (act ≡ 2 → ⊥) → (act ≡ 3 → ⊥) → (act ≡ 4 → ⊥) → is_target k act p q t u ≡ false
unfolding is_target
no_target k act p q t u a b c d = rw (ne_eqb act 1 a, ne_eqb act 2 b, ne_eqb act 3 c, ne_eqb act 4 d)

-- ---- the sets of those that pass the tests

pub in-none : (t : ℕ) → elem t (members 0) ≡ false
unfolding elem
in-none t = ap (elem t) members-empty

module _ (k : ℕ → List ℕ) (p q t : ℕ) where
  pub within_none : (u : Bool) → 65 ≤ p → elem t (members 0) ≡ is_within k p t u
  unfolding is_within
  within_none u m = in-none t ∙ sym (ap (λ (b : Bool). b && (elem t (k p) && u)) (le-ltb p 65 m))

  pub within_both : (aim l : List ℕ) → p < 65 → l ≡ in_both aim (k p) → elem t l ≡ is_within k p t (elem t aim)
  unfolding is_within
  within_both aim l m e = ap (elem t) e ∙ elem-keep (λ j. elem j (k p)) t aim ∙ sym (ap (λ (b : Bool). b && (elem t (k p) && elem t aim)) (lt-ltb p 65 m))

  pub beside_none : (u : Bool) → 64 ≤ p → elem t (members 0) ≡ is_beside k p q t u
  unfolding is_beside
  beside_none u m = in-none t ∙ sym (ap (λ (b : Bool). b && (not (eqb p t) && is_within k q t u)) (le-ltb p 64 m))

  pub beside-others : (l r : List ℕ) (u : Bool) → p < 64 → elem t l ≡ is_within k q t u → r ≡ removed p l → elem t r ≡ is_beside k p q t u
  unfolding is_beside
  beside-others l r u m d e =
      ap (elem t) e ∙ elem-remove t p l ∙ ap (λ (b : Bool). not (eqb p t) && b) d ∙ sym (ap (λ (b : Bool). b && (not (eqb p t) && is_within k q t u)) (lt-ltb p 64 m))

module _ (p q t : ℕ) where
  pub around-top : (u : Bool) → 64 ≤ p → elem t (members 0) ≡ is_around p q t u
  unfolding is_around
  around-top u m = in-none t ∙ sym (ap (λ (b : Bool). b && (ltb q 64 && (eqb t q && u))) (le-ltb p 64 m))

  pub around-none : (u : Bool) → p < 64 → 64 ≤ q → elem t (members 0) ≡ is_around p q t u
  unfolding is_around
  around-none u m n = in-none t ∙ sym (rw (lt-ltb p 64 m, le-ltb q 64 n))

  pub around-one : (aim l r : List ℕ) → p < 64 → q < 64 → l ≡ q ∷ [] → r ≡ in_both aim l → elem t r ≡ is_around p q t (elem t aim)
  unfolding is_around elem
  around-one aim l r m n d e =
      ap (elem t) (e ∙ ap (in_both aim) d) ∙ elem-keep (λ j. elem j (q ∷ [])) t aim
      ∙ by_test (eqb t q) (λ u. rw (u, lt-ltb p 64 m, lt-ltb q 64 n)) (λ u. rw (u, lt-ltb p 64 m, lt-ltb q 64 n))

-- ---- the same of a state that represents a closure

module _ (script kinds starts : List ℕ) (weight spent : ℕ) (s : State) (b : Closure) (ready : Ready script kinds starts s) (few : spent < 4294967295) (R : Represents script kinds starts weight spent s b) where
  seen : Seen (bound_in script s) (heads script kinds starts s.offsets) s.notes
  seen = ready.seen (λ i. omega (arith, R.spends i))

  module _ (P : ℕ → ℕ) (L : Located (members s.notes.named) (body_in s.kids) P) where
    pub state-homes : (i : ℕ) → i < 64 → P i ≡ home (bound_in script s) i b
    state-homes = L (bound_in script s) (heads script kinds starts s.offsets) b (seen-names (bound_in script s) (heads script kinds starts s.offsets) s.notes seen) (represented script kinds starts weight spent s b R) (omega (arith, R.light, R.weighs))

    -- THEOREM: of what is kept and the homes that are found, the targets are those of the moves that the closure allows.
    pub state-targets : (a : ℕ) → a < 64 → (l : List ℕ) → TargetsOf (body_in s.kids) (get_or s.notes.acts a 0) (members (get_or s.notes.aims a 0)) P a l
        → (t : ℕ) → t < 64 → elem t l ≡ is_some (closure_move (bound_in script s) a t b)
    state-targets a m l T = T (bound_in script s) (heads script kinds starts s.offsets) b (represented script kinds starts weight spent s b R) (seen.deeds a m).acts (seen.deeds a m).aims state-homes

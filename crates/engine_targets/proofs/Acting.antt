-- Where each of the four moves is made: the test of its kind gives the body in which its target stands, and there it is that
-- move and no other, since the actor is one thing and has one first item. Assumes nothing.
use Prim.Native.Nat.{ℕ, ◌≤◌, ◌<◌}
use mathlib.Core.Bool.{Bool, true, false, not, ◌&&◌, true≢false, and-eq-true_iff}
use mathlib.Core.List.{List}
use mathlib.Core.Logic.{◌⊎◌, inl, inr}
use mathlib.Core.Option.{none, some, or_else}
use mathlib.Core.Path.{◌≡◌, refl, sym, ap, ◌∙◌, subst}
use native.Mathlib.Omega.{arith}
use lib.Dec.{eqb, ltb}
use borrow.Author.Tests.{eqb-true, eqb-false, ne_eqb, ltb-true, not-true}
use Rattle.read_messages.specs.Message.{Message}
use Rattle.read_messages.specs.declared.First.TheVariants.{Enter, Exit}
use Rattle.std.specs.Prelude.{Some}
use Rattle.base_sets.specs.Sets.{elem}
use Rattle.read_scripts.specs.Tree.{receipt, output, one_if, tops, times_in}
use Rattle.theory_machine.specs.Moves.{MoveMade, is_named, to_enter, to_exit, to_open, head_name, first_of, open_move, receive_move, enter_move, exit_move, move_here, anywhere}
use Rattle.theory_machine.proofs.Inversion.{same_name-inv, to_enter-inv, to_exit-inv}
use Rattle.theory_closures.specs.Closure.{Action, ClosureHead, Closure, Bindings, view_under}
use Rattle.engine_states.specs.Searches.{home, HeldOnce}
use Rattle.engine_states.proofs.Focus.{Site, site}
use Rattle.engine_states.proofs.Homes.{Active, home_of, home-active}
use Rattle.engine_targets.specs.Targets.{may_exit, may_open, can_open, can_receive, can_enter, can_exit}
use Rattle.engine_targets.proofs.Actors.{no-receipt, no_item, not_itself}
use Rattle.engine_targets.proofs.Opening.{open-needs, receive-needs, opened, open_is, open-never, received, receive-is, receive-never}
use Rattle.engine_targets.proofs.Entering.{enter-needs, entered, enter-is, enter-never}
use Rattle.engine_targets.proofs.Leaving.{exit-needs, exited, exit-is}

pub both : {x y : Bool} → x ≡ true → y ≡ true → (x && y) ≡ true
both d e = rw d e

-- ---- which of the four it is

module _ (σ : Bindings) (a t : ℕ) (b : Closure) where
  pub here-needs : elem t (tops b) ≡ false → move_here (view_under σ) a t b ≡ none
  unfolding move_here or_else
  here-needs e = rw (open-needs σ a t b e, receive-needs σ a t b e, enter-needs σ a t b e, exit-needs σ a t b e)

  opens : (n : MoveMade Action) → open_move (view_under σ) a t b ≡ some n → move_here (view_under σ) a t b ≡ some n
  unfolding move_here or_else
  opens n e = rw e

  receives : (n : MoveMade Action) → open_move (view_under σ) a t b ≡ none → receive_move (view_under σ) a t b ≡ some n → move_here (view_under σ) a t b ≡ some n
  unfolding move_here or_else
  receives n o e = rw (o, e)

  enters : (n : MoveMade Action) → open_move (view_under σ) a t b ≡ none → receive_move (view_under σ) a t b ≡ none → enter_move (view_under σ) a t b ≡ some n → move_here (view_under σ) a t b ≡ some n
  unfolding move_here or_else
  enters n o r e = rw (o, r, e)

  exits : (n : MoveMade Action) → open_move (view_under σ) a t b ≡ none → receive_move (view_under σ) a t b ≡ none → enter_move (view_under σ) a t b ≡ none → exit_move (view_under σ) a t b ≡ some n
      → move_here (view_under σ) a t b ≡ some n
  unfolding move_here or_else
  exits n o r i e = rw (o, r, i, e)

-- ---- where each is made

-- the body of b, in which the target stands
abbrev pub Spot : Bindings → (k : ℕ → List ℕ) (w : ℕ → ClosureHead) (f : Closure) (a t b : ℕ) → Type 0
Spot σ k w f a t b = Site σ k w t (move_here (view_under σ) a t) (here-needs σ a t) f b

module _ (σ : Bindings) (k : ℕ → List ℕ) (w : ℕ → ClosureHead) (f : Closure) (Q : HeldOnce k w f) where
  abbrev at : ℕ → ℕ
  at i = home σ i f

  pub stands : (x : ℕ) → at x < 65 → elem x (k (at x)) ≡ true
  stands x l = (home-active σ k w f Q x (at x) refl l).0

  pub active : (x : ℕ) → at x < 65 → Active σ w at (at x)
  active x l = (home-active σ k w f Q x (at x) refl l).1

  -- an ambient around a part that has a home
  ambient-at : (x : ℕ) → at x < 64 → (at (at x) < 65) × (is_named (head_name (view_under σ) (w (at x))) ≡ true)
  ambient-at x l = pick (active x (omega arith))
    where
      pick : Active σ w at (at x) → (at (at x) < 65) × (is_named (head_name (view_under σ) (w (at x))) ≡ true)
      pick (inl e) = absurd (let z : ⊥ = omega arith in z)
      pick (inr c) = (c.1, c.2)

  module _ (a t : ℕ) where
    abbrev In : ℕ → Type 0
    In b = Spot σ k w f a t b

    sited : (b : ℕ) → at t ≡ b → b < 65 → In b
    sited b e l = pick (site σ k w t (move_here (view_under σ) a t) (here-needs σ a t) f Q.top Q.once Q.low Q.held)
      where
        pick : ((at t ≡ 65) × (anywhere (view_under σ) (move_here (view_under σ) a t) f ≡ none)) ⊎ ((at t < 65) × In (at t)) → In b
        pick (inl z) = absurd (let o : ⊥ = omega (arith, z.0) in o)
        pick (inr z) = subst In e z.1

    pub once-here : (b : ℕ) (S : In b) (j : ℕ) → times_in j S.here ≤ 1
    once-here b S j = omega (arith, S.less (λ i. one_if (eqb j i)), Q.once j)

    -- the body in which actor and target both stand
    together : ltb (at a) 65 ≡ true → elem t (k (at a)) ≡ true → (S : In (at a)) × (elem a (tops S.here) ≡ true)
    together u m =
        let l : at a < 65 = ltb-true (at a) 65 u in
        let S = sited (at a) (home_of σ k w f Q (at a) t (active a l) m) l in
        (S, ap (elem a) (sym S.body) ∙ stands a l)

    pub open_at : can_open σ k w (at a) a t ≡ true → (S : In (at a)) × (i : elem a (tops S.here) ≡ true) × (a ≡ t → ⊥)
        × (move_here (view_under σ) a t S.here ≡ some (opened σ k w a t S.here S.held S.stands i))
    unfolding can_open
    open_at e =
        let (u, r) = (and-eq-true_iff (ltb (at a) 65) _).0 e in
        let (m, n) = (and-eq-true_iff (elem t (k (at a))) _).0 r in
        let (S, i) = together u m in
        let two : a ≡ t → ⊥ = λ z. true≢false (sym n ∙ ap (λ (x : ℕ). may_open σ (w a) (w x)) (sym z) ∙ not_itself σ (w a)) in
        (S, i, two, opens σ a t S.here (opened σ k w a t S.here S.held S.stands i) (open_is σ k w a t S.here S.held S.stands i n))

    pub receive-at : can_receive σ k w (at a) a t ≡ true → (v : ℕ) (m : Message) → w a ≡ receipt v → w t ≡ output m → (S : In (at a)) × (i : elem a (tops S.here) ≡ true)
        × (move_here (view_under σ) a t S.here ≡ some (received σ k w a t S.here S.held S.stands i v m))
    unfolding can_receive to_open
    receive-at e v m ea et =
        let (u, r) = (and-eq-true_iff (ltb (at a) 65) _).0 e in
        let (c, n) = (and-eq-true_iff (elem t (k (at a))) _).0 r in
        let (S, i) = together u c in (
          S,
          i,
          receives σ a t S.here (received σ k w a t S.here S.held S.stands i v m)
              (open-never σ k w a t S.here S.held S.stands (ap to_open (no_item σ (w a) v ea)))
              (receive-is σ k w a t S.here S.held S.stands i v m ea et),
        )

    pub enter-at : can_enter σ k w (at a) (at (at a)) a t ≡ true → (S : In (at (at a))) × (i : elem (at a) (tops S.here) ≡ true) × (j : elem a (k (at a)) ≡ true) × (at a ≡ t → ⊥)
        × (move_here (view_under σ) a t S.here ≡ some (entered σ k w a t S.here S.held S.stands (at a) i j))
    unfolding can_enter to_open
    enter-at e =
        let (u, r) = (and-eq-true_iff (ltb (at a) 64) _).0 e in
        let (x, s) = (and-eq-true_iff (ltb (at (at a)) 65) _).0 r in
        let (c, d) = (and-eq-true_iff (elem t (k (at (at a)))) _).0 s in
        let (y, n) = (and-eq-true_iff (not (eqb t (at a))) _).0 d in
        let l : at a < 64 = ltb-true (at a) 64 u in
        let h : at (at a) < 65 = ltb-true (at (at a)) 65 x in
        let two : at a ≡ t → ⊥ = λ z. eqb-false t (at a) (not-true (eqb t (at a)) y) (sym z) in
        let S = sited (at (at a)) (home_of σ k w f Q (at (at a)) t (active (at a) h) c) h in
        let i : elem (at a) (tops S.here) ≡ true = ap (elem (at a)) (sym S.body) ∙ stands (at a) h in
        let j : elem a (k (at a)) ≡ true = stands a (omega arith) in
        let (o, q, z) = same_name-inv (to_enter (first_of (view_under σ) (w a))) (head_name (view_under σ) (w t)) n in
        let first : first_of (view_under σ) (w a) ≡ Enter (Some o) = to_enter-inv (first_of (view_under σ) (w a)) o q in (
          S,
          i,
          j,
          two,
          enters σ a t S.here (entered σ k w a t S.here S.held S.stands (at a) i j)
              (open-never σ k w a t S.here S.held S.stands (ap to_open first))
              (receive-never σ k w a t S.here S.held S.stands (no-receipt σ (w a) (Enter (Some o)) first refl))
              (enter-is σ k w a t S.here S.held S.stands (at a) i j (once-here (at (at a)) S) (both (ap not (ne_eqb (at a) t two)) (both (ambient-at a l).1 n))),
        )

    pub exit-at : can_exit σ k w (at a) (at (at a)) a t ≡ true → (S : In (at t)) × (i : elem (at a) (k t) ≡ true) × (j : elem a (k (at a)) ≡ true)
        × (move_here (view_under σ) a t S.here ≡ some (exited σ k w a t S.here S.held S.stands (at a) i j))
    unfolding can_exit to_open to_enter
    exit-at e =
        let (u, r) = (and-eq-true_iff (ltb (at a) 64) _).0 e in
        let (x, s) = (and-eq-true_iff (ltb (at (at a)) 64) _).0 r in
        let (c, n) = (and-eq-true_iff (eqb t (at (at a))) _).0 s in
        let l : at a < 64 = ltb-true (at a) 64 u in
        let h : at (at a) < 64 = ltb-true (at (at a)) 64 x in
        let y : t ≡ at (at a) = eqb-true t (at (at a)) c in
        let m : may_exit σ (w a) (w t) ≡ true = subst (λ (q : ℕ). may_exit σ (w a) (w q) ≡ true) (sym y) n in
        let S = sited (at t) refl (subst (λ (q : ℕ). at q < 65) (sym y) (ambient-at (at a) h).0) in
        let i : elem (at a) (k t) ≡ true = subst (λ (q : ℕ). elem (at a) (k q) ≡ true) (sym y) (stands (at a) (omega arith)) in
        let j : elem a (k (at a)) ≡ true = stands a (omega arith) in
        let (o, q, z) = same_name-inv (to_exit (first_of (view_under σ) (w a))) (head_name (view_under σ) (w t)) m in
        let first : first_of (view_under σ) (w a) ≡ Exit (Some o) = to_exit-inv (first_of (view_under σ) (w a)) o q in (
          S,
          i,
          j,
          exits σ a t S.here (exited σ k w a t S.here S.held S.stands (at a) i j)
              (open-never σ k w a t S.here S.held S.stands (ap to_open first))
              (receive-never σ k w a t S.here S.held S.stands (no-receipt σ (w a) (Exit (Some o)) first refl))
              (enter-never σ k w a t S.here S.held S.stands (once-here (at t) S) (ap to_enter first))
              (exit-is σ k w a t S.here S.held S.stands (at a) i j (once-here (at t) S) (both (ambient-at a l).1 m)),
        )

-- From a state that represents a closure and a test that holds to the state after the move: how the part sets, the offsets
-- and the bindings change with each of the four kinds. Assumes nothing.
use Prim.Native.Nat.{ℕ, ◌+◌, ◌≤◌}
use mathlib.Core.Bool.{true}
use mathlib.Core.List.{List, [], ◌∷◌, ◌++◌}
use mathlib.Core.Option.{some}
use mathlib.Core.Path.{◌≡◌, ap, ◌∙◌, subst}
use native.Mathlib.Omega.{arith}
use lib.Dec.{eqb}
use lib.ListN.{get_or, length}
use borrow.Author.Tests.{eqb-true, eqb-false}
use Rattle.read_messages.specs.Message.{Message}
use Rattle.base_sets.specs.Sets.{removed, joined}
use Rattle.read_scripts.specs.Tree.{receipt, output}
use Rattle.read_scripts.specs.Represents.{body_in}
use Rattle.theory_machine.specs.Moves.{MoveMade, move_here}
use Rattle.theory_machine.proofs.Inversion.{here-inv}
use Rattle.base_slices.proofs.Tests.{by_test}
use Rattle.theory_closures.specs.Closure.{Action, ClosureHead, Closure, Bindings, view_under, settle_under, settled_under, closure_move}
use Rattle.engine_states.specs.Represents.{head_of, heads, bound_in, Represents}
use Rattle.engine_states.specs.Searches.{home, HeldOnce}
use Rattle.engine_states.specs.declared.State.{State}
use Rattle.engine_states.proofs.Arrays.{Replaced, Carried, Raised}
use Rattle.engine_states.proofs.Heads.{head-spent}
use Rattle.engine_states.proofs.Focus.{Change}
use Rattle.engine_states.proofs.Moving.{Shrinks, shrinks, After, after}
use Rattle.engine_states.proofs.Spending.{Spent}
use Rattle.engine_targets.specs.Targets.{can_open, can_receive, can_enter, can_exit}
use Rattle.engine_targets.proofs.Opening.{open-change, receive-change}
use Rattle.engine_targets.proofs.Entering.{enter-change}
use Rattle.engine_targets.proofs.Leaving.{exit-change}
use Rattle.engine_targets.proofs.Acting.{here-needs, Spot, once-here, open_at, receive-at, enter-at, exit-at}

pub represented : (script kinds starts : List ℕ) (weight spent : ℕ) (s : State) (f : Closure) → Represents script kinds starts weight spent s f → HeldOnce (body_in s.kids) (heads script kinds starts s.offsets) f
represented script kinds starts weight spent s f R = record { top = R.top; held = R.held; once = R.once; low = R.inside }

raised-spent : (σ : Bindings) (script kinds starts offsets offsets' : List ℕ) (a : ℕ) → Raised offsets offsets' a → Spent σ (heads script kinds starts offsets) (heads script kinds starts offsets') a
raised-spent σ script kinds starts offsets offsets' a r = record {
  spends = ap (head_of script (get_or kinds a 0) (get_or starts a 0)) r.more ∙ head-spent script (get_or kinds a 0) (get_or starts a 0) (get_or offsets a 0) σ;
  others = λ i n. ap (head_of script (get_or kinds i 0) (get_or starts i 0)) (r.others i n);
}

raised-most : (offsets offsets' : List ℕ) (a spent : ℕ) → Raised offsets offsets' a → ((i : ℕ) → get_or offsets i 0 ≤ spent) → (i : ℕ) → get_or offsets' i 0 ≤ spent + 1
raised-most offsets offsets' a spent r most i = by_test (eqb i a)
    (λ t. let e : get_or offsets' i 0 ≡ get_or offsets a 0 + 1 = ap (λ (j : ℕ). get_or offsets' j 0) (eqb-true i a t) ∙ r.more in omega (arith, most a))
    (λ t. omega (arith, most i, r.others i (eqb-false i a t)))

module _ (script kinds starts : List ℕ) (weight spent : ℕ) (s : State) (f : Closure) (R : Represents script kinds starts weight spent s f) (a t : ℕ) (s' : State) where
  abbrev σ : Bindings
  σ = bound_in script s

  abbrev k : ℕ → List ℕ
  k = body_in s.kids

  abbrev k' : ℕ → List ℕ
  k' = body_in s'.kids

  abbrev w : ℕ → ClosureHead
  w = heads script kinds starts s.offsets

  abbrev at : ℕ → ℕ
  at i = home σ i f

  abbrev w' : ℕ → ClosureHead
  w' = heads script kinds starts s'.offsets

  abbrev holds : HeldOnce k w f
  holds = represented script kinds starts weight spent s f R

  -- s' represents what the move (a, t) makes of the closure, before it is settled
  abbrev pub Made : ℕ → Bindings → Type 0
  Made spent' news = After script kinds starts weight spent s f R t (move_here (view_under σ) a t) (here-needs σ a t) spent' s' news

  -- a move that is made in the body of b, whatever its kind
  by-change : (b : ℕ) (S : Spot σ k w f a t b) (n : MoveMade Action) → move_here (view_under σ) a t S.here ≡ some n
      → (Shrinks S.here n → Change σ k w t (move_here (view_under σ) a t) (here-needs σ a t) b S.here k' w' n) → (spent' : ℕ) → s'.bindings.first + length n.news ≡ s.bindings.first
      → ((i : ℕ) → get_or s'.offsets i 0 ≤ spent') → Made spent' n.news
  by-change b S n e C spent' bound most =
      let less : Shrinks S.here n = shrinks σ a t S.here n (here-inv (view_under σ) a t S.here n e) in
      after script kinds starts weight spent s f R t (move_here (view_under σ) a t) (here-needs σ a t) b S n e less spent' s' (C less) bound most

  module _ (raised : Raised s.offsets s'.offsets a) (bound : s'.bindings.first ≡ s.bindings.first) where
    abbrev spends : Spent σ w w' a
    spends = raised-spent σ script kinds starts s.offsets s'.offsets a raised

    abbrev most : (i : ℕ) → get_or s'.offsets i 0 ≤ spent + 1
    most = raised-most s.offsets s'.offsets a spent raised R.spends

    -- THEOREM: OPEN. The target goes, its body stays where the actor stands.
    pub open_made : (p : ℕ) → home σ a f ≡ p → can_open σ k w p a t ≡ true → Replaced k k' p (joined (k t) (removed t (k p))) → Made (spent + 1) []
    open_made p ep = subst (λ (x : ℕ). can_open σ k w x a t ≡ true → Replaced k k' x (joined (k t) (removed t (k x))) → Made (spent + 1) []) ep here
      where
        here : can_open σ k w (at a) a t ≡ true → Replaced k k' (at a) (joined (k t) (removed t (k (at a)))) → Made (spent + 1) []
        here e C =
            let (S, i, two, made) = open_at σ k w f holds a t e in
            by-change (at a) S _ made
            (λ l. open-change σ k w a t S.here S.held S.stands i (move_here (view_under σ) a t) (here-needs σ a t) (at a) S.body S.apart
            (once-here σ k w f holds a t (at a) S) k' w' C.others spends two C.becomes)
            (spent + 1) (omega arith) most

    -- THEOREM: IN. The part around the actor goes into the target.
    pub enter-made : (p q : ℕ) → home σ a f ≡ p → home σ p f ≡ q → can_enter σ k w p q a t ≡ true → Carried k k' p q t → Made (spent + 1) []
    enter-made p q ep eq =
        subst (λ (y : ℕ). can_enter σ k w p y a t ≡ true → Carried k k' p y t → Made (spent + 1) []) eq
        (subst (λ (x : ℕ). can_enter σ k w x (at x) a t ≡ true → Carried k k' x (at x) t → Made (spent + 1) []) ep here)
      where
        here : can_enter σ k w (at a) (at (at a)) a t ≡ true → Carried k k' (at a) (at (at a)) t → Made (spent + 1) []
        here e C =
            let (S, i, j, two, made) = enter-at σ k w f holds a t e in
            by-change (at (at a)) S _ made
            (λ l. enter-change σ k w a t S.here S.held S.stands (at a) i j (once-here σ k w f holds a t (at (at a)) S)
            (move_here (view_under σ) a t) (here-needs σ a t) (at (at a)) S.body S.apart k' w' spends C.others two C.loses C.gains)
            (spent + 1) (omega arith) most

    -- THEOREM: EXIT. The part around the actor comes out of the target, which is around it, and stands beside it.
    pub exit-made : (p q b : ℕ) → home σ a f ≡ p → home σ p f ≡ q → home σ t f ≡ b → can_exit σ k w p q a t ≡ true → Carried k k' p t b → Made (spent + 1) []
    exit-made p q b ep eq eb e C =
        subst (λ (y : ℕ). can_exit σ k w p y a t ≡ true → Carried k k' p t b → Made (spent + 1) []) eq
        (subst (λ (x : ℕ). can_exit σ k w x (at x) a t ≡ true → Carried k k' x t b → Made (spent + 1) []) ep
        (subst (λ (y : ℕ). can_exit σ k w (at a) (at (at a)) a t ≡ true → Carried k k' (at a) t y → Made (spent + 1) []) eb here)) e C
      where
        here : can_exit σ k w (at a) (at (at a)) a t ≡ true → Carried k k' (at a) t (at t) → Made (spent + 1) []
        here d D =
            let (S, i, j, made) = exit-at σ k w f holds a t d in
            by-change (at t) S _ made
            (λ l. exit-change σ k w a t S.here S.held S.stands (at a) i j (once-here σ k w f holds a t (at t) S)
            (move_here (view_under σ) a t) (here-needs σ a t) (at t) S.body S.apart k' w' spends D.others D.loses D.gains)
            (spent + 1) (omega arith) most

  -- THEOREM: the receipt. Both go, the receipt's body stands there, and its variable is bound to the message.
  pub receive-made : ((i : ℕ) → get_or s.offsets i 0 ≡ get_or s'.offsets i 0) → s'.bindings.first + 1 ≡ s.bindings.first
      → (v : ℕ) (m : Message) → w a ≡ receipt v → w t ≡ output m → (p : ℕ) → home σ a f ≡ p → can_receive σ k w p a t ≡ true
      → Replaced k k' p (joined (k a) (removed t (removed a (k p)))) → (spent' : ℕ) → spent ≤ spent' → Made spent' ((v, m) ∷ [])
  receive-made alike bound v m ea et p ep e C spent' l =
      subst (λ (x : ℕ). can_receive σ k w x a t ≡ true → Replaced k k' x (joined (k a) (removed t (removed a (k x)))) → Made spent' ((v, m) ∷ [])) ep here e C
    where
      here : can_receive σ k w (at a) a t ≡ true → Replaced k k' (at a) (joined (k a) (removed t (removed a (k (at a))))) → Made spent' ((v, m) ∷ [])
      here d D =
          let (S, i, made) = receive-at σ k w f holds a t d v m ea et in
          by-change (at a) S _ made
          (λ less. receive-change σ k w a t S.here S.held S.stands i (move_here (view_under σ) a t) (here-needs σ a t) (at a) S.body S.apart
          (once-here σ k w f holds a t (at a) S) k' w' D.others v m less D.becomes (λ j. ap (head_of script (get_or kinds j 0) (get_or starts j 0)) (alike j)))
          spent' (omega arith) (λ j. omega (arith, alike j, R.spends j))

  -- THEOREM: what the closure machine makes of the move is that, settled.
  pub move-is : (spent' : ℕ) (news : Bindings) (M : Made spent' news) → closure_move σ a t f ≡ some (record { body = settle_under (news ++ σ) M.moved.body; news = news })
  unfolding closure_move settled_under
  move-is spent' news M = ap (settled_under σ) M.is ∙ ap (λ (l : Bindings). some (record { body = settle_under (l ++ σ) M.moved.body; news = l })) M.told

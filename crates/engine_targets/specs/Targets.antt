-- Which moves a closure allows, asked of its parts (document 01, "A move is a pair (actor, target)"): by the body of each
-- part, by what it is, and by the part in whose body it stands (64 for the top, 65 where a move can't be made).
-- Assumes nothing: these are definitions.
use Rattle.std.specs.Prelude.{ℕ, ◌<◌, Bool, true, false, not, ◌&&◌, ◌||◌, cond, List, ◌≡◌, eqb, ltb}
use Rattle.std.proofs.Math.Option.{Option, none, some}
use Rattle.base_sets.specs.Sets.{elem}
use Rattle.theory_machine.specs.Moves.{same_name, to_enter, to_exit, to_open, variable_of, message_of, head_name, first_of}
use Rattle.theory_closures.specs.Closure.{ClosureHead, Closure, Bindings, view_under, closure_move}
use Rattle.engine_states.specs.Searches.{home, HeldOnce}
use Rattle.engine_states.specs.Seen.{act_under, aim_under}

-- whether there is one
unfoldable pub is_some : {A : Type 0} → Option A → Bool
is_some none = false
is_some (some a) = true

-- "an ACT whose first item is IN, EXIT or OPEN of a name m", m being the name of the part g
abbrev pub may_enter : Bindings → (h g : ClosureHead) → Bool
may_enter σ h g = same_name (to_enter (first_of (view_under σ) h)) (head_name (view_under σ) g)

abbrev pub may_exit : Bindings → (h g : ClosureHead) → Bool
may_exit σ h g = same_name (to_exit (first_of (view_under σ) h)) (head_name (view_under σ) g)

abbrev pub may_open : Bindings → (h g : ClosureHead) → Bool
may_open σ h g = same_name (to_open (first_of (view_under σ) h)) (head_name (view_under σ) g)

-- `around` is the part in whose body the actor stands, `beyond` the one in whose body that part stands: below 64 they are
-- named ambients, for only there a part has a home.
module _ (σ : Bindings) (bodies : ℕ → List ℕ) (heads : ℕ → ClosureHead) where
  -- "OPEN: the target is an AMB named m in the actor's own body"
  unfoldable pub can_open : (around actor target : ℕ) → Bool
  can_open p a t = ltb p 65 && (elem t (bodies p) && may_open σ (heads a) (heads t))

  -- "The actor is a REC, the target an OUT in the same body"
  unfoldable pub can_receive : (around actor target : ℕ) → Bool
  can_receive p a t = ltb p 65 && (elem t (bodies p) && (is_some (variable_of (heads a)) && is_some (message_of (heads t))))

  -- "IN: the AMB p directly around the actor is named; the target is another AMB named m in the same body as p"
  unfoldable pub can_enter : (around beyond actor target : ℕ) → Bool
  can_enter p q a t = ltb p 64 && (ltb q 65 && (elem t (bodies q) && (not (eqb t p) && may_enter σ (heads a) (heads t))))

  -- "EXIT: the target is the AMB named m directly around p, p named"
  unfoldable pub can_exit : (around beyond actor target : ℕ) → Bool
  can_exit p q a t = ltb p 64 && (ltb q 64 && (eqb t q && may_exit σ (heads a) (heads q)))

  -- "A move is a pair (actor, target)": whether it is one of the four
  unfoldable pub can_move_from : (around beyond actor target : ℕ) → Bool
  can_move_from p q a t = can_open p a t || (can_receive p a t || (can_enter p q a t || can_exit p q a t))

  unfoldable pub can_move : (homes : ℕ → ℕ) (actor target : ℕ) → Bool
  can_move homes a t = can_move_from (homes a) (homes (homes a)) a t

-- The same asked of sets, by what is kept of the actor: p is its home and q that of p, and `aimed` says whether what it does
-- first can be done to t. A home below 64 is a named ambient, so that nothing more is asked of it.
-- "the AMB named m directly around p"
unfoldable pub is_around : (p q t : ℕ) (aimed : Bool) → Bool
is_around p q t u = ltb p 64 && (ltb q 64 && (eqb t q && u))

module _ (bodies : ℕ → List ℕ) where
  -- "in the actor's own body"
  unfoldable pub is_within : (p t : ℕ) (aimed : Bool) → Bool
  is_within p t u = ltb p 65 && (elem t (bodies p) && u)

  -- "another AMB named m in the same body as p"
  unfoldable pub is_beside : (p q t : ℕ) (aimed : Bool) → Bool
  is_beside p q t u = ltb p 64 && (not (eqb p t) && is_within q t u)

  -- by the actor's act: 1 OPEN, 2 IN, 3 EXIT, 4 it receives, else none
  unfoldable pub is_target : (act p q t : ℕ) (aimed : Bool) → Bool
  is_target act p q t u =
      cond (eqb act 1) (is_within p t u) (cond (eqb act 2) (is_beside p q t u) (cond (eqb act 3) (is_around p q t u) (cond (eqb act 4) (is_within p t u) false)))

-- l has the targets of the actor's moves, in every closure that stands in the bodies, of which act and aim are what the actor
-- does first, and `homes` the homes of all parts
abbrev pub TargetsOf : (bodies : ℕ → List ℕ) (act : ℕ) (aim : List ℕ) (homes : ℕ → ℕ) (actor : ℕ) → List ℕ → Type 0
TargetsOf bodies act aim homes a l =
    (σ : Bindings) (heads : ℕ → ClosureHead) (b : Closure) → HeldOnce bodies heads b → act ≡ act_under σ (heads a) → ((j : ℕ) → j < 64 → elem j aim ≡ aim_under σ (heads a) (heads j))
    → ((i : ℕ) → i < 64 → homes i ≡ home σ i b) → (t : ℕ) → t < 64 → elem t l ≡ is_some (closure_move σ a t b)

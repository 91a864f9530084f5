-- What the engine's functions for the moves make of a state. Assumes nothing: these are definitions.
use Rattle.std.specs.Prelude.{ℕ, ◌+◌, ◌<◌, Bool, true, false, List, ◌∷◌, ◌++◌, ◌≡◌, get_or, set, drop}
use Rattle.std.proofs.Math.Option.{some}
use Rattle.base_sets.specs.Sets.{members, removed, joined}
use Rattle.read_messages.specs.Spelling.{message_at}
use Rattle.read_scripts.specs.Represents.{body_in}
use Rattle.theory_machine.specs.Moves.{MoveMade}
use Rattle.theory_closures.specs.Closure.{Action, ClosureHead, Closure, Bindings, closure_move}
use Rattle.engine_states.specs.Represents.{heads, bound_in, Represents}
use Rattle.engine_states.specs.Searches.{home}
use Rattle.engine_states.specs.declared.State.{State}
use Rattle.engine_targets.specs.Targets.{is_some, can_open, can_receive, can_enter, can_exit}

module _ (script kinds starts : List ℕ) (s r : State) where
  -- r represents what the move (a, t) makes of the closure b that s represents
  abbrev pub Makes : (weight spent a t : ℕ) (b : Closure) → Type 0
  Makes weight spent a t b =
      (m : MoveMade Action) × (closure_move (bound_in script s) a t b ≡ some m) × Represents script kinds starts weight spent r m.body × (bound_in script r ≡ m.news ++ bound_in script s)

  -- where the test holds of a closure that s represents; offsets that fit into 32 bits do after the move
  abbrev pub MakesIf : (test : Closure → Type 0) (a t : ℕ) → Type 0
  MakesIf test a t =
      (weight spent : ℕ) (b : Closure) → spent + 1 < 4294967295 → Represents script kinds starts weight spent s b → test b → Makes weight (spent + 1) a t b

  -- a test of the parts by the state's sets and heads
  abbrev Asks : Type 0
  Asks = Bindings → (ℕ → List ℕ) → (ℕ → ClosureHead) → Bool

  abbrev pub Passes : Asks → Type 0
  Passes test = test (bound_in script s) (body_in s.kids) (heads script kinds starts s.offsets) ≡ true

  -- r is s before it is settled: the receipt a and the output t are gone from the body of p, the receipt's body stands there,
  -- and its variable is bound
  pub record Received (p a t : ℕ) : Type 0 where
    pub set-of : ℕ
    pub kids : r.kids ≡ set s.kids p set-of
    pub members-of : members set-of ≡ joined (body_in s.kids a) (removed t (removed a (body_in s.kids p)))
    pub offsets : r.offsets ≡ s.offsets
    pub first : r.bindings.first + 1 ≡ s.bindings.first
    pub news : bound_in script r ≡ (get_or starts a 0, message_at (drop (get_or starts t 0) script)) ∷ bound_in script s

  -- the four moves, p being the part in whose body the actor stands, and q the one in whose body that part stands
  abbrev pub Opens : (p a t : ℕ) → Type 0
  Opens p a t = MakesIf (λ b. (home (bound_in script s) a b ≡ p) × Passes (λ σ k w. can_open σ k w p a t)) a t

  abbrev pub Receives : (p a t : ℕ) → Type 0
  Receives p a t = MakesIf (λ b. (home (bound_in script s) a b ≡ p) × Passes (λ σ k w. can_receive σ k w p a t)) a t

  abbrev pub Enters : (p q a t : ℕ) → Type 0
  Enters p q a t = MakesIf (λ b. (home (bound_in script s) a b ≡ p) × (home (bound_in script s) p b ≡ q) × Passes (λ σ k w. can_enter σ k w p q a t)) a t

  -- the target is q, and c the part in whose body it stands
  abbrev pub Exits : (p q c a : ℕ) → Type 0
  Exits p q c a =
      MakesIf (λ b. (home (bound_in script s) a b ≡ p) × (home (bound_in script s) p b ≡ q) × (home (bound_in script s) q b ≡ c) × Passes (λ σ k w. can_exit σ k w p q a q)) a q

  -- every move that can be made, at being the homes of the parts
  abbrev pub Moves : (at : ℕ → ℕ) (a t : ℕ) → Type 0
  Moves at a t = MakesIf (λ b. ((i : ℕ) → i < 64 → at i ≡ home (bound_in script s) i b) × (is_some (closure_move (bound_in script s) a t b) ≡ true)) a t

  -- r is that state if the move can be made, which `made` says, and s itself if not
  abbrev pub MakesOrLeaves : (made : Bool) (a t : ℕ) → Type 0
  MakesOrLeaves made a t =
      (made ≡ false → r ≡ s) × ((weight spent : ℕ) (b : Closure) → spent + 1 < 4294967295 → Represents script kinds starts weight spent s b
      → (made ≡ is_some (closure_move (bound_in script s) a t b)) × (made ≡ true → Makes weight (spent + 1) a t b))

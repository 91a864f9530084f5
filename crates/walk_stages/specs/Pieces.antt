-- The pieces of a closure that a rule word asks about, as the part sets hold them. Assumes nothing: these are definitions.
use Rattle.std.specs.Prelude.{ℕ, ◌≤◌, List, ◌≡◌, set}
use Rattle.base_sets.specs.Sets.{members, but}
use Rattle.read_scripts.specs.Tree.{tops, total_over}
use Rattle.read_scripts.specs.Represents.{Held}
use Rattle.theory_closures.specs.Closure.{ClosureHead, Closure}
use Rattle.engine_states.specs.declared.State.{State}

-- the state with `top` as the set of its top parts, beside the lent sets
abbrev pub with_top : (kids : List ℕ) (top : ℕ) → State → State
with_top kids top s = record { kids = set kids 64 top; offsets = s.offsets; notes = s.notes; bindings = s.bindings }

-- c is a piece of b: the sets and heads hold it, and of whatever is counted it has no more
pub record Piece (bodies : ℕ → List ℕ) (heads : ℕ → ClosureHead) (b c : Closure) : Type 0 where
  pub held : Held bodies heads c
  pub less : (f : ℕ → ClosureHead → ℕ) → total_over f c ≤ total_over f b

-- c is the inside of the part i of b
pub record Room (bodies : ℕ → List ℕ) (heads : ℕ → ClosureHead) (b : Closure) (i : ℕ) (c : Closure) : Type 0 where
  pub own : bodies i ≡ tops c
  pub piece : Piece bodies heads b c

-- "left with the share, on yes right with the rest": d divides b, whose top parts are the members of `top`, into `share` and
-- the rest
pub record Divides (bodies : ℕ → List ℕ) (heads : ℕ → ClosureHead) (b : Closure) (top share : ℕ) (d : Closure × Closure) : Type 0 where
  pub taken : members share ≡ tops d.0
  pub others : but (members top) (members share) ≡ tops d.1
  pub piece : Piece bodies heads b d.0
  pub rest : Piece bodies heads b d.1

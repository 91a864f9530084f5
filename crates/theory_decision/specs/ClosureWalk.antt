-- The walk over closures: what a rule word asks of a closure under its bindings. Assumes nothing: these are definitions.
use Rattle.std.specs.Prelude.{ℕ, cond, List, [], ◌∷◌, ◌++◌, map, Some}
use Rattle.std.proofs.Math.Option.{Option, none, some}
use Rattle.read_messages.specs.Message.{name}
use Rattle.read_scripts.specs.Tree.{ambient, close, part}
use Rattle.theory_machine.specs.Moves.{MoveMade, head_name, is_named, same_name}
use Rattle.theory_closures.specs.Closure.{Action, Closure, Bindings, view_under, closure_move, ClosureMachine}
use Rattle.theory_decision.specs.Divisions.{is_void, divisions}
use Rattle.theory_decision.specs.Walk.{Space, in_order}

module _ (σ : Bindings) where
  -- the same bindings beside another closure
  abbrev pub beside : Closure → ClosureMachine
  beside b = record { tree = b; bindings = σ }

  -- "AT n, just one top part, an AMB named n": its inside
  unfoldable pub only : (n : ℕ) → Closure → Option ClosureMachine
  only n close = none
  only n (part k h b close) = cond (same_name (Some n) (head_name (view_under σ) h)) (some (beside b)) none
  only n (part k h b (part k₁ h₁ b₁ r)) = none

  -- "inside each named top AMB by rising number"
  unfoldable pub insides : Closure → List ClosureMachine
  insides close = []
  insides (part k h b r) = cond (is_named (head_name (view_under σ) h)) (beside b ∷ insides r) (insides r)

  -- what stands after a move, with its receipt as the newest binding
  abbrev pub machine_after : Option (MoveMade Action) → Option ClosureMachine
  machine_after none = none
  machine_after (some m) = some (record { tree = m.body; bindings = m.news ++ σ })

  unfoldable pub nexts : (limit : ℕ) → Closure → List ClosureMachine
  nexts limit b = in_order limit (λ a t. machine_after (closure_move σ a t b))

  abbrev pub shares : Closure × Closure → ClosureMachine × ClosureMachine
  shares d = (beside d.0, beside d.1)

abbrev pub closure_space : (limit : ℕ) → Space ClosureMachine
closure_space limit = record {
  is_void = λ m. is_void m.tree;
  only = λ n m. only m.bindings n m.tree;
  divisions = λ m. map (shares m.bindings) (divisions m.tree);
  nexts = λ m. nexts m.bindings limit m.tree;
  insides = λ m. insides m.bindings m.tree;
  wrap = λ k n m. beside m.bindings (part k (ambient (name n)) m.tree close);
}

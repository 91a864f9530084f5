-- The walk over the plain machine's trees. Assumes nothing: these are definitions.
use Rattle.std.specs.Prelude.{ℕ, cond, List, [], ◌∷◌, Some}
use Rattle.std.proofs.Math.Option.{Option, none, some}
use Rattle.read_messages.specs.Message.{Message}
use Rattle.read_scripts.specs.Tree.{close, part, Plain}
use Rattle.theory_machine.specs.Moves.{MoveMade, head_name, is_named, same_name}
use Rattle.theory_machine.specs.PlainMachine.{plain, move}
use Rattle.theory_calculus.specs.Satisfaction.{wrapped}
use Rattle.theory_decision.specs.Divisions.{is_void, with_either, divisions}
use Rattle.theory_decision.specs.Walk.{Space, in_order}

-- "AT n, just one top part, an AMB named n": its inside
unfoldable pub only : (n : ℕ) → Plain → Option Plain
only n close = none
only n (part k h b close) = cond (same_name (Some n) (head_name plain h)) (some b) none
only n (part k h b (part k₁ h₁ b₁ r)) = none

-- "inside each named top AMB by rising number"
unfoldable pub insides : Plain → List Plain
insides close = []
insides (part k h b r) = cond (is_named (head_name plain h)) (b ∷ insides r) (insides r)

abbrev pub body_after : Option (MoveMade (List Message)) → Option Plain
body_after none = none
body_after (some m) = some m.body

-- what stands after one move, all part numbers being below `limit`: the script's parts and the PLACED words
unfoldable pub nexts : (limit : ℕ) → Plain → List Plain
nexts limit b = in_order limit (λ a t. body_after (move a t b))

abbrev pub plain_space : (limit : ℕ) → Space Plain
plain_space limit = record { is_void = is_void; only = only; divisions = divisions; nexts = nexts limit; insides = insides; wrap = wrapped }

-- To unfold this is to unfold every definition of this module: for a proof by computation.
unfoldable pub computing : Unit {0}
unfolding is_void only with_either divisions insides nexts
computing = tt

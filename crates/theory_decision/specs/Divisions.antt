-- What a rule word asks of a body's own parts, whatever heads they have: whether there are any, and the ways to divide them.
-- Assumes nothing: these are definitions.
use Rattle.std.specs.Prelude.{ℕ, Bool, true, false, List, [], ◌∷◌}
use Rattle.read_scripts.specs.Tree.{Body, close, part}

module _ {H : Type 0} where
  -- "VOID, no parts"
  unfoldable pub is_void : Body H → Bool
  is_void close = true
  is_void (part k h b r) = false

  -- "shares in rising order of the sum of 2^number over their parts": a body's parts rise, so that its first part changes
  -- sides at every step
  unfoldable pub with_either : ℕ → H → Body H → List (Body H × Body H) → List (Body H × Body H)
  with_either k h b [] = []
  with_either k h b (d ∷ ds) = (d.0, part k h b d.1) ∷ (part k h b d.0, d.1) ∷ with_either k h b ds

  unfoldable pub divisions : Body H → List (Body H × Body H)
  divisions close = (close, close) ∷ []
  divisions (part k h b r) = with_either k h b (divisions r)

-- What the writers of parts and bodies ask of what they are lent. Assumes nothing: these are definitions.
use Rattle.std.specs.Prelude.{ℕ, ◌+◌, ◌≤◌, ◌<◌, List, length}
use Rattle.engine_bindings.specs.Measures.{Counted}
use Rattle.write_heads.specs.Around.{Right}
use Rattle.write_heads.specs.Heads.{Scripted}
use Rattle.write_heads.specs.declared.Around.{Around}
use Rattle.write_counts.specs.declared.Standing.{Standing}

-- where the part i is to be written, its word having the index
pub record PartAsked (tree : Standing) (around : Around) (i index fuel : ℕ) (out : List ℕ) : Type 0 where
  -- the counts that are kept with the bindings are right
  pub counted : Counted tree.script.now tree.bindings.now
  -- the parts' messages stand in the script
  pub scripted : Scripted tree.starts.now tree.offsets.now
  -- the receipts around are held right
  pub right : Right around
  -- there is room for its receipt and those below it
  pub deep : fuel < around.first
  -- it is a part
  pub part : i < 64
  -- there is room for its word
  pub some : 0 < length out
  -- the indices fit an operand
  pub small : index + length out ≤ 268435456

-- where a body is to be written, its first word having the index
pub record BodyAsked (tree : Standing) (around : Around) (index fuel : ℕ) (out : List ℕ) : Type 0 where
  -- the counts that are kept with the bindings are right
  pub counted : Counted tree.script.now tree.bindings.now
  -- the parts' messages stand in the script
  pub scripted : Scripted tree.starts.now tree.offsets.now
  -- the receipts around are held right
  pub right : Right around
  -- there is room for the receipts below it
  pub deep : fuel ≤ around.first
  -- the indices fit an operand
  pub small : index + length out ≤ 268435456

-- The receipts around what is written, as they are held: in 64 rows, filled from the end, so that those from `first` on are
-- innermost first. Assumes nothing: these are definitions.
use Rattle.std.specs.Prelude.{ℕ, ◌+◌, ◌≤◌, List, [], ◌≡◌, drop}
use Rattle.theory_closures.specs.Closure.{Bindings, unfold_head}
use Rattle.engine_states.specs.Represents.{head_of}
use Rattle.theory_written_trees.specs.Write.{Indices, within}
use Rattle.write_messages.specs.declared.Receipt.{Receipt}
use Rattle.write_messages.specs.Indices.{indices_in, Indexed}
use Rattle.write_heads.specs.declared.Around.{Around}

-- the receipts that are held
abbrev pub receipts_in : Around → List Receipt
receipts_in a = drop a.first a.rows

-- each variable of theirs with its new index
unfoldable pub indices_of : Around → Indices
indices_of a = indices_in (receipts_in a)

-- the receipts around are held right
pub record Right (a : Around) : Type 0 where
  pub within : a.first ≤ 64
  pub indexed : Indexed (receipts_in a)

-- no receipts around, and room for 64
pub record NoneAround (a : Around) : Type 0 where
  pub right : Right a
  pub none : indices_of a ≡ []
  pub room : a.first ≡ 64

-- r holds the receipts around the body of a part of that kind and start, whose word has the index: those around the part, and
-- at most one more
pub record BodyAround (around : Around) (kind start index : ℕ) (r : Around) : Type 0 where
  pub right : Right r
  pub room : around.first ≤ r.first + 1
  pub indices : (script : List ℕ) (σ : Bindings) (offset : ℕ) → indices_of r ≡ within (unfold_head σ (head_of script kind start offset)) index (indices_of around)

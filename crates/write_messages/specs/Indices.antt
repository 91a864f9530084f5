-- The receipts around what is written, as they are lent: rows, innermost first. Assumes nothing: these are definitions.
use Rattle.std.specs.Prelude.{◌<◌, List, map, All}
use Rattle.theory_written_trees.specs.Write.{Indices}
use Rattle.write_messages.specs.declared.Receipt.{Receipt}

-- "VAR with the REC's new index": each variable with its receipt's new index
abbrev pub indices_in : List Receipt → Indices
indices_in receipts = map (λ (r : Receipt). (r.variable, r.index)) receipts

-- every index fits an operand
pub record Indexed (receipts : List Receipt) : Type 0 where
  pub small : All (λ (r : Receipt). r.index < 268435456) receipts

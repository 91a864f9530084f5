-- What is written in front of a part's body, and who has a body; and what the arrays hold of the parts' messages. Assumes
-- nothing: these are definitions.
use Rattle.std.specs.Prelude.{ℕ, ◌<◌, Bool, true, false, List, [], get_or}
use Rattle.read_scripts.specs.Tree.{Head, ambient, action, receipt, output, PlainHead}
use Rattle.theory_written_trees.specs.Write.{Indices, write_message, one_message}

-- "0 CLOSE. 1 AMB: message, body. 2 ACT (action): message, body. 3 REC (receipt): body .. 4 OUT (output): message.": who has a body
unfoldable pub has_body : {A : Type 0} → Head A → Bool
has_body (ambient m) = true
has_body (action a) = true
has_body (receipt v) = true
has_body (output m) = false

-- the words of a part's message: "actions as their items"
unfoldable pub write_label : Indices → PlainHead → List ℕ
write_label ix (ambient m) = write_message ix m
write_label ix (action is) = write_message ix (one_message is)
write_label ix (receipt v) = []
write_label ix (output m) = write_message ix m

-- The parts' messages stand in the script, none being a name that PLACED gave, and no action has 2^31 items spent.
pub record Scripted (starts offsets : List ℕ) : Type 0 where
  pub placed : (i : ℕ) → get_or starts i 0 < 65536
  pub spent : (i : ℕ) → get_or offsets i 0 < 2147483648

-- The process that a script says as it is written, read off document 01's format and the paper's table of processes (000,
-- section 2.1) and off nothing else: no items, no settling, no part numbers; and reductions counted. Assumes nothing: these
-- are definitions.
use Rattle.std.specs.Prelude.{ℕ, suc}
use Rattle.read_messages.specs.Message.{Message}
use Rattle.read_scripts.specs.Tree.{Head, close, part}
use Rattle.read_scripts.specs.Script.{Script}
use Rattle.theory_calculus.specs.Calculus.{Process, 𝟎, ◌‖◌, ambient, action, input, output, ◌≅◌, ◌⟶◌}

-- "1 AMB: message, body" is M[P]; "2 ACT (action): message, body" is M.P, with the whole message M; "3 REC (receipt): body;
-- its variable is this word's index" is (x).P; "4 OUT (output): message" is ⟨M⟩
unfoldable pub written_part : Head Message → Process → Process
written_part (Head.ambient m) p = ambient m p
written_part (Head.action m) p = action m p
written_part (Head.receipt v) p = input v p
written_part (Head.output m) p = output m

-- "A body is parts up to one CLOSE. The script is one body.": the parts beside one another, and behind them nothing
unfoldable pub written : Script → Process
written close = 𝟎
written (part k w b r) = written_part w.head (written b) ‖ written r

-- so many reductions, one after the other, lead from the first process to the last
pub data Steps : ℕ → Process → Process → Type 0 where
  stop : {p : Process} → Steps 0 p p
  step : {n : ℕ} {p q r : Process} → p ⟶ q → Steps n q r → Steps (suc n) p r

-- the same, where the last process is the given one up to structural congruence
abbrev pub Leads : ℕ → Process → Process → Type 0
Leads n p q = (r : Process) × Steps n p r × (r ≅ q)

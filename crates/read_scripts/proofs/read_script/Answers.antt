-- `read_scripts::read_script` meets its contract: questions 1, 5 and 6 around the body's reading. Assumes nothing.
use mathlib.Core.Logic.{⊎_elim}
use mathlib.Core.Path.{◌∙◌}
use native.Mathlib.Omega.{arith}
use borrow.Author.Rules.{rules}
use Rattle.read_scripts.proofs.Whole.{body-asked, script-none, script-long, script-refused, script-behind, script-many, script-read}
use Rattle.read_scripts.proofs.Tabled.{answers}
use Rattle.read_scripts.proofs.read_script.Goals as goal

pub returns-then-n-eq0 : goal.returns-then-n-eq0
returns-then-n-eq0 c = answers _ _ (⊎_elim (script-none _) (λ h. script-long _ h.1) c.then-n-eq0.either)

pub returns-in_err-a : goal.returns-in_err-a
returns-in_err-a c =
    let read = body-asked {s = c.args.s.now} _ c.none.result.indices c.none.result.first c.vacant.ensures (search rules) (omega arith) (omega arith) c.read_body.ensures in
    answers _ _ (search rules ∙ script-refused read _ c.in_err-a.was)

pub returns-then-a-n : goal.returns-then-a-n
returns-then-a-n c =
    let read = body-asked {s = c.args.s.now} _ c.none.result.indices c.none.result.first c.vacant.ensures (search rules) (omega arith) (omega arith) c.read_body.ensures in
    answers _ _ (script-behind read _ c.in_ok-a.was (omega arith))

pub returns-then-a-gt-MOST_PARTS : goal.returns-then-a-gt-MOST_PARTS
returns-then-a-gt-MOST_PARTS c =
    let read = body-asked {s = c.args.s.now} _ c.none.result.indices c.none.result.first c.vacant.ensures (search rules) (omega arith) (omega arith) c.read_body.ensures in
    answers _ _ (script-many read _ c.in_ok-a.was (omega arith) (omega arith))

pub returns : goal.returns
returns c =
    let read = body-asked {s = c.args.s.now} _ c.none.result.indices c.none.result.first c.vacant.ensures (search rules) (omega arith) (omega arith) c.read_body.ensures in
    answers _ _ (script-read read _ c.in_ok-a.was (omega arith) (omega arith))

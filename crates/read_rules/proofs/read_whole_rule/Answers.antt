-- `read_rules::read_whole_rule` meets its contract: questions 7, 11 and 12 around the rule's reading. Assumes nothing.
use mathlib.Core.Logic.{⊎_elim}
use mathlib.Core.Path.{◌∙◌}
use native.Mathlib.Omega.{arith}
use borrow.Author.Rules.{rules}
use Rattle.read_rules.proofs.Whole.{rule-asked, rule-none, rule-long, rule-refused, rule-behind, rule-many, rule-whole}
use Rattle.read_rules.proofs.Tabled.{answers}
use Rattle.read_rules.proofs.read_whole_rule.Goals as goal

pub returns-then-n-eq0 : goal.returns-then-n-eq0
returns-then-n-eq0 c = answers _ _ _ (⊎_elim (rule-none c.args.parts _) (λ h. rule-long c.args.parts _ h.1) c.then-n-eq0.either)

pub returns-in_err-a : goal.returns-in_err-a
returns-in_err-a c =
    let asked = rule-asked c.args.parts {s = c.args.rule.now} _ c.none.result.indices c.none.result.first c.vacant.ensures (search rules) (omega arith) (omega arith) c.read_rule.ensures in
    answers _ _ _ (search rules ∙ rule-refused _ asked _ c.in_err-a.was)

pub returns-then-a-n : goal.returns-then-a-n
returns-then-a-n c =
    let asked = rule-asked c.args.parts {s = c.args.rule.now} _ c.none.result.indices c.none.result.first c.vacant.ensures (search rules) (omega arith) (omega arith) c.read_rule.ensures in
    answers _ _ _ (rule-behind _ asked _ c.in_ok-a.was (omega arith))

pub returns-then-saturating_add-gt-MOST_PARTS : goal.returns-then-saturating_add-gt-MOST_PARTS
returns-then-saturating_add-gt-MOST_PARTS c =
    let asked = rule-asked c.args.parts {s = c.args.rule.now} _ c.none.result.indices c.none.result.first c.vacant.ensures (search rules) (omega arith) (omega arith) c.read_rule.ensures in
    answers _ _ _ (rule-many _ asked _ c.in_ok-a.was (omega arith) (omega (arith, c.saturating_add.ensures)))

pub returns : goal.returns
returns c =
    let asked = rule-asked c.args.parts {s = c.args.rule.now} _ c.none.result.indices c.none.result.first c.vacant.ensures (search rules) (omega arith) (omega arith) c.read_rule.ensures in
    answers _ _ _ (rule-whole _ asked _ c.in_ok-a.was (omega arith) (omega (arith, c.saturating_add.ensures)))

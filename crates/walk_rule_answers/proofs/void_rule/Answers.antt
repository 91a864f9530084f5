-- `void_rule` meets its contract. Assumes nothing.
use Prim.Native.Nat.{ℕ}
use mathlib.Core.Path.{◌≡◌}
use lib.Dec.{eqb}
use Rattle.walk_stages.specs.Visits.{walked_of, count_of}
use Rattle.theory_decision.specs.Walk as spec
use Rattle.walk_stages.specs.declared.Counts.{Counts}
use Rattle.walk_stages.specs.declared.Walked.TheVariants.{Yes, No}
use borrow.Author.Tests.{eq-eqb, ne_eqb}
use borrow.Author.Rules.{rules}
use Rattle.walk_rule_answers.proofs.void_rule.Goals as goal

void-yes : (top : ℕ) (c : Counts) → top ≡ 0 → walked_of (Yes c) ≡ spec.says (eqb top 0) (count_of c)
unfolding walked_of
void-yes top c e = rw (eq-eqb top 0 e)

void-no : (top : ℕ) (c : Counts) → (top ≡ 0 → ⊥) → walked_of (No c) ≡ spec.says (eqb top 0) (count_of c)
unfolding walked_of
void-no top c n = rw (ne_eqb top 0 n)

pub returns-then-top-eq0 : goal.returns-then-top-eq0
returns-then-top-eq0 c = search (void-yes, rules)

pub returns : goal.returns
returns c = search (void-no, rules)

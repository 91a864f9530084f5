-- `count_body` and `count_part` meet their contracts: the first part, and those beside it; a part's head, and its body. The
-- measure is twice the fuel, and one more for a part. Assumes nothing.
use mathlib.Core.Logic.{inl, inr}
use mathlib.Core.Path.{sym, ap, ◌∙◌}
use native.Mathlib.Omega.{arith}
use borrow.Author.Rules.{rules}
use Rattle.base_sets.specs.Sets.{members}
use Rattle.base_sets.proofs.Members.{first-low, not_none, members-empty}
use Rattle.write_heads.proofs.Parts.{first_part}
use Rattle.write_counts.specs.Trees.{bindings_under, bodies_in, heads_in}
use Rattle.write_counts.proofs.Counting.{counts-none, counts_end, counts-inside, counts-only, counts-more}
use Rattle.write_counts.proofs.+count_body_count_part.Goals as goal

pub count_body-returns-then-left-eq0 : goal.count_body-returns-then-left-eq0
count_body-returns-then-left-eq0 t c =
    elim c.then-left-eq0.either [ inl e ↦ counts-none _ _ _ _ _ (ap members e ∙ members-empty) | inr e ↦ counts_end _ _ _ _ _ e.1 ]

pub count_body-count_part-part-requires : goal.count_body-count_part-part-requires
count_body-count_part-part-requires t c = (search rules, search (first-low, rules))

pub count_body-rest-others-requires : goal.count_body-rest-others-requires
count_body-rest-others-requires t c = search (not_none, rules)

pub count_body-returns : goal.count_body-returns
count_body-returns t c =
    counts-more (bindings_under c.args.tree.now) (bodies_in c.args.tree.now) (heads_in c.args.tree.now) _ c.args.fuel _ _ (first_part c.args.left _ _ (omega arith) c.if-left-eq0.false c.first-i.ensures c.rest-others.ensures) c.count_part-part.ensures c.count_body-beside.ensures c.sum.ensures

pub count_part-returns-then-has_body : goal.count_part-returns-then-has_body
count_part-returns-then-has_body t c =
    counts-inside (bindings_under c.args.tree.now) (bodies_in c.args.tree.now) (heads_in c.args.tree.now) _ c.args.fuel _ c.count_head-head.ensures (sym (c.has_body.ensures _ _ _) ∙ c.if-has_body.true) c.count_body-inside.ensures c.sum.ensures

pub count_part-returns : goal.count_part-returns
count_part-returns t c =
    counts-only (bindings_under c.args.tree.now) (bodies_in c.args.tree.now) (heads_in c.args.tree.now) _ c.args.fuel _ c.count_head-head.ensures (sym (c.has_body.ensures _ _ _) ∙ c.if-has_body.false)

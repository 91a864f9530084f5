-- `write_body` and `write_part` meet their contracts: the first part, then those beside it; a part's head, then its body.
-- The measure is twice the fuel, and one more for a part. Assumes nothing.
use mathlib.Core.Logic.{inl, inr}
use mathlib.Core.Path.{sym, ap, ◌∙◌}
use native.Mathlib.Omega.{arith}
use borrow.Author.Rules.{rules}
use Rattle.read_messages.specs.Words.{word}
use Rattle.base_sets.specs.Sets.{members}
use Rattle.base_sets.proofs.Members.{first-low, not_none, members-empty}
use Rattle.write_heads.proofs.Parts.{first_part}
use Rattle.write_counts.specs.Trees.{bindings_under}
use Rattle.write_trees.proofs.Writing.{writes-full, writes-none, writes_end, writes_more, writes-inside, writes-only}
use Rattle.write_trees.proofs.+write_body_write_part.Goals as goal

pub write_body-returns-then-out-eq0 : goal.write_body-returns-then-out-eq0
write_body-returns-then-out-eq0 t c = writes-full c.if-out-eq0.true

pub write_body-returns-then-left-eq0 : goal.write_body-returns-then-left-eq0
unfolding word
write_body-returns-then-left-eq0 t c =
    elim c.then-left-eq0.either [ inl e ↦ writes-none (ap members e ∙ members-empty) c.write_word.ensures | inr e ↦ writes_end e.1 c.write_word.ensures ]

pub write_body-write_part-m-requires : goal.write_body-write_part-m-requires
write_body-write_part-m-requires t c = (search rules, search (first-low, rules))

pub write_body-rest-others-requires : goal.write_body-rest-others-requires
write_body-rest-others-requires t c = search (not_none, rules)

pub write_body-returns : goal.write_body-returns
write_body-returns t c =
    writes_more c.first-i.result _ (first_part c.args.left _ _ (omega arith) c.if-left-eq0.false c.first-i.ensures c.rest-others.ensures)
    (record { long = omega arith; within = c.write_part-m.ensures.within; kept = omega arith }) c.write_part-m.ensures c.write_body.ensures

pub write_part-returns-then-has_body : goal.write_part-returns-then-has_body
write_part-returns-then-has_body t c =
    writes-inside c.write_head-m.ensures (sym (c.has_body.ensures _ _ _) ∙ c.if-has_body.true) (c.around_body-inside.ensures.indices _ (bindings_under c.args.tree.now) _)
    (record { long = omega arith; within = c.write_head-m.ensures.within; kept = omega arith }) c.write_body.ensures

pub write_part-returns : goal.write_part-returns
write_part-returns t c = writes-only c.write_head-m.ensures (sym (c.has_body.ensures _ _ _) ∙ c.if-has_body.false)

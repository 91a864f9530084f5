-- `variable_word` meets its contract: the first receipt of the variable has its new index. Assumes nothing.
use mathlib.Core.Path.{◌∙◌}
use Rattle.write_messages.proofs.Receipts.{free_word, found_word, word_behind}
use Rattle.write_messages.proofs.variable_word.Goals as goal

pub returns-then-r-v : goal.returns-then-r-v
returns-then-r-v c = found_word _ _ _ c.loop-r-test.true c.if-r-v.true ∙ c.loop-r.invariant

pub loop-r-preserved : goal.loop-r-preserved
loop-r-preserved c = word_behind _ _ _ c.loop-r-test.true c.if-r-v.false ∙ c.loop-r.invariant

pub returns : goal.returns
returns c = free_word _ _ _ c.loop-r-test.false ∙ c.loop-r.invariant

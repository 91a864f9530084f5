-- The invariant of `variable_word`: the receipts that are passed are of other variables. Assumes nothing.
use mathlib.Core.Path.{◌≡◌}
use Rattle.write_messages.proofs.Receipts.{word_from}
use Rattle.write_messages.proofs.variable_word.Given as goal

abbrev pub invariant-loop-r : goal.invariant-loop-r
invariant-loop-r l = word_from l.receipts l.r-index l.v ≡ word_from l.receipts 0 l.v

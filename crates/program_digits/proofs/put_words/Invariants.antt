-- `put_words` meets its contract: the words so far are put. Assumes nothing.
use lib.ListN.{take}
use Rattle.program_digits.specs.Digits.{lines, Puts}
use Rattle.program_digits.proofs.put_words.Given as goal

abbrev pub invariant-loop-w : goal.invariant-loop-w
invariant-loop-w l = Puts l.initial.text l.text l.at l.next (lines (take l.w-index l.words))

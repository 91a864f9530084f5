-- `unpack` meets its contract: the first i words are there. Assumes nothing.
use Rattle.program_words.proofs.Reading.{Unpacked}
use Rattle.program_words.proofs.unpack.Given as goal

abbrev pub invariant-loop-i : goal.invariant-loop-i
invariant-loop-i l = Unpacked l.initial.words l.words l.input l.count l.i

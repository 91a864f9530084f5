-- `unpack` meets its contract: the first i words are there. Assumes nothing.
use lib.ListN.{length-set}
use Rattle.program_words.proofs.Reading.{unpacked-next, unpacked-all}
use borrow.Author.Rules.{rules}
use Rattle.program_words.proofs.unpack.Goals as goal

pub loop-i-preserved : goal.loop-i-preserved
loop-i-preserved c = search (unpacked-next, length-set, rules)

pub returns : goal.returns
returns c = search (unpacked-all, rules)

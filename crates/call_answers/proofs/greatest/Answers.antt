-- `greatest` meets its contract: names have 28 bits. Assumes nothing.
use Rattle.call_answers.proofs.Names.{greatest-so}
use borrow.Author.Rules.{rules}
use Rattle.call_answers.proofs.greatest.Goals as goal

pub returns : goal.returns
returns c = search (greatest-so, rules)

-- `nothing_around` meets its contract. Assumes nothing.
use borrow.Author.Rules.{rules}
use Rattle.write_heads.specs.Around.{indices_of}
use Rattle.write_heads.proofs.nothing_around.Goals as goal

pub returns : goal.returns
unfolding indices_of
returns c = search rules

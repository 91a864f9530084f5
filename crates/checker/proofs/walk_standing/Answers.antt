-- `walk_standing` meets its contract: the walk on the tree that stands, and the moves that it found. Assumes nothing.
use Rattle.checker.proofs.Concluding.{walk-standing-says}
use borrow.Author.Rules.{rules}
use Rattle.checker.proofs.walk_standing.Goals as goal

pub walk_rule-requires : goal.walk_rule-requires
walk_rule-requires c = (search rules, search rules)

pub returns : goal.returns
returns c moves list S = search (walk-standing-says, rules)

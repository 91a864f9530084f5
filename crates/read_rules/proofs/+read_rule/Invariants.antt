-- `read_rules::read_rule` meets its contract. The measure is how many words are left. Assumes nothing.
use lib.ListN.{length}
use Rattle.read_rules.proofs.+read_rule.Given as goal

abbrev pub decreases-read_rule : goal.decreases-read_rule
decreases-read_rule l = length l.s.now

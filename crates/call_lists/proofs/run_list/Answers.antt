-- `run_list` meets its contract: i moves are made. Assumes nothing.
use Rattle.call_lists.proofs.Listed.{turn-none, turn-ends, turn-unfit, turn-stuck, turn_on, actor-small, target_small}
use borrow.Author.Rules.{rules}
use Rattle.call_lists.proofs.run_list.Goals as goal

pub loop-i-init : goal.loop-i-init
loop-i-init c = search (turn-none, rules)

pub make_if_possible-requires : goal.make_if_possible-requires
make_if_possible-requires c = search (actor-small, target_small, rules)

pub loop-i-preserved : goal.loop-i-preserved
loop-i-preserved c = search (turn_on, rules)

pub returns-then-not-make_if_possible : goal.returns-then-not-make_if_possible
returns-then-not-make_if_possible c = search (turn-stuck, rules)

pub returns-then-not-move_fits : goal.returns-then-not-move_fits
returns-then-not-move_fits c = search (turn-unfit, rules)

pub returns : goal.returns
returns c = search (turn-ends, rules)

-- `next_turn` meets its contract: the outer number's other inner ones, or the next outer number that has some. Assumes nothing.
use Rattle.base_sets.proofs.Members.{not_none}
use Rattle.walk_stages.proofs.Trials.{seeks-all, seeks-others, seeks-on, seeks-last}
use borrow.Author.Rules.{rules}
use Rattle.walk_states.proofs.next_turn.Goals as goal
use Rattle.walk_states.proofs.next_turn.Goals.{then-rest-ne0, else-rest-ne0}

pub rest-rest-requires : goal.rest-rest-requires
rest-rest-requires c = not_none _ (search rules) c.if-rest-ne0.true

pub loop-from-init : goal.loop-from-init
loop-from-init c =
    elim c.if-rest-ne0.branch [
      | then-rest-ne0 w ↦ seeks-others _ _ _ _ _ _ (search rules) w.if-rest-ne0.true w.rest-rest.ensures w.rest-is
      | else-rest-ne0 w ↦ seeks-all _ _ _ _ _ w.if-rest-ne0.false w.rest-is
    ]

pub loop-from-preserved : goal.loop-from-preserved
loop-from-preserved c = search (seeks-on, rules)

pub returns : goal.returns
returns c = search (seeks-last, rules)

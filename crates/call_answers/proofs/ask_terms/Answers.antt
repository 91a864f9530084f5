-- `ask_terms` meets its contract: questions 13, 14 and 21. Assumes nothing.
use Rattle.call_answers.proofs.Terms.{no-patience, too_many, too_short, entered}
use Rattle.call_answers.proofs.ask_terms.Goals as goal

pub returns-then-patience-eq0 : goal.returns-then-patience-eq0
returns-then-patience-eq0 c = no-patience _ _ _ c.then-patience-eq0.either

pub returns-then-moves-gt-MOST_MOVES : goal.returns-then-moves-gt-MOST_MOVES
returns-then-moves-gt-MOST_MOVES c = search too_many

pub returns-then-list-lt-LEAST_LIST : goal.returns-then-list-lt-LEAST_LIST
returns-then-list-lt-LEAST_LIST c = search too_short

pub returns : goal.returns
returns c = search entered

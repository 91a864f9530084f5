-- `note_move` meets its contract: the word has the move's bits. Assumes nothing.
use borrow.Author.Rules.{rules}
use Rattle.walk_itineraries.proofs.Moving.{noted}
use Rattle.walk_itineraries.proofs.note_move.Goals as goal

pub returns : goal.returns
returns c = search (noted, rules)

-- `engine_bindings::skip` meets its contract. The measure is how many words are left. Assumes nothing.
use lib.ListN.{length}
use Rattle.engine_bindings.proofs.+skip.Given as goal

abbrev pub decreases-skip : goal.decreases-skip
decreases-skip l = length l.words.now

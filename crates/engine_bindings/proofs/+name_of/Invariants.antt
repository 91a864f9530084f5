-- `engine_bindings::name_of` meets its contract. The measure is how many bindings are left. Assumes nothing.
use lib.ListN.{length}
use Rattle.engine_bindings.proofs.+name_of.Given as goal

abbrev pub decreases-name_of : goal.decreases-name_of
decreases-name_of l = length l.bindings.now

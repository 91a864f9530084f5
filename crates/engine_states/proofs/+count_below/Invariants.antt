-- `count_below`: the measure is the fuel. Assumes nothing.
use Rattle.engine_states.proofs.+count_below.Given as goal

abbrev pub decreases-count_below : goal.decreases-count_below
decreases-count_below l = l.fuel

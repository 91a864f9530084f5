-- `locate_below` meets its contract: one law of the pass for each way on. The measure is the fuel. Assumes nothing.
use Rattle.engine_targets.proofs.+locate_below.Given as goal

abbrev pub decreases-locate_below : goal.decreases-locate_below
decreases-locate_below l = l.fuel

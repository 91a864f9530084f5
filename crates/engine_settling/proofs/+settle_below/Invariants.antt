-- `settle_below` meets its contract: one law of settling for each way on. The measure is the fuel. Assumes nothing.
use Rattle.engine_settling.proofs.+settle_below.Given as goal

abbrev pub decreases-settle_below : goal.decreases-settle_below
decreases-settle_below l = l.fuel

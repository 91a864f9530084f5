-- `settle` meets its contract: the parts are settled from the top. Assumes nothing.
use Rattle.engine_settling.proofs.Settled.{settled_is}
use Rattle.engine_settling.proofs.settle.Goals as goal

pub returns-clause-settled : goal.returns-clause-settled
returns-clause-settled c script kinds starts weight spent b ek ready few R =
    let y = c.settle_below-s in
    settled_is script kinds starts weight spent c.args.sets.now c.args.numbers.now b y.new.sets y.result ek ready few R y.ensures.kept y.ensures.settled

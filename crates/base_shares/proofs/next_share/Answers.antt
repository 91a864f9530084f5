-- `base_shares::next_share` meets its contract. Assumes nothing.
use Rattle.std.proofs.Common.{rules}
use Rattle.base_shares.proofs.Shares.{share-next, share-around}
use Rattle.base_shares.proofs.next_share.Goals as goal

pub returns-clause-next : goal.returns-clause-next
returns-clause-next c k l e = search (rules, share-next)

pub returns-clause-around : goal.returns-clause-around
returns-clause-around c e = search (rules, share-around)

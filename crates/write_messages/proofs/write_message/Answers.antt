-- `write_message` meets its contract: one message is pending. Assumes nothing.
use Rattle.write_messages.proofs.Lending.{wrote_as}
use Rattle.write_messages.proofs.Words.{one_written}
use Rattle.write_messages.proofs.write_message.Goals as goal

pub returns : goal.returns
returns c = wrote_as (one_written _ _ c.tail.ensures) c.write_from.ensures

-- `read_messages::read_message` meets its contract. The measure is how many words are left.
-- Assumes nothing.
use lib.ListN.{length}
use Rattle.read_messages.proofs.+read_message.Given as goal

abbrev pub decreases-read_message : goal.decreases-read_message
decreases-read_message l = length l.s.now

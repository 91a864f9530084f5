-- `reply_to_bytes` meets its contract. Assumes nothing.
use borrow.Author.Rules.{rules}
use Rattle.skycorbel.proofs.Replies.{puts-reply}
use Rattle.skycorbel.proofs.reply_to_bytes.Goals as goal

pub returns : goal.returns
returns c = search (puts-reply, rules)

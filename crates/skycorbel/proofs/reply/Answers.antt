-- `reply` meets its contract: the text has room. Assumes nothing.
use Rattle.skycorbel.proofs.Replies.{puts-long, puts-odd, puts_whole}
use Rattle.skycorbel.proofs.Bounds.{puts-all}
use borrow.Author.Rules.{rules}
use Rattle.skycorbel.proofs.reply.Goals as goal

pub returns-then-n-gt-INPUT_BYTES : goal.returns-then-n-gt-INPUT_BYTES
returns-then-n-gt-INPUT_BYTES c =
    let (p, (q, r)) = puts-all c.args.text.now {new = c.put_unfit.new.text} c.args.input.now {r = c.put_unfit.result} c.requires (search (puts-long, rules)) in
    record { counted = p; replied = q; right = r }

pub returns-then-n-ne0 : goal.returns-then-n-ne0
returns-then-n-ne0 c =
    let u = c.put_unfit-then-n-ne0 in
    let (p, (q, r)) = puts-all c.args.text.now {new = u.new.text} c.args.input.now {r = u.result} c.requires (search (puts-odd, rules)) in
    record { counted = p; replied = q; right = r }

pub returns : goal.returns
returns c =
    let (p, (q, r)) = puts-all c.args.text.now {new = c.reply_to_bytes.new.text} c.args.input.now {r = c.reply_to_bytes.result} c.requires (search (puts_whole, rules)) in
    record { counted = p; replied = q; right = r }

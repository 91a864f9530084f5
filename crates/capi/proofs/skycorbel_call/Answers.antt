-- `skycorbel_call` meets its contract: where there is room the call is made and told, its numbers being words, else nothing
-- is done. Assumes nothing.
use Rattle.call_answers.specs.Answering.{call_of}
use Rattle.host_answer_words.proofs.Kept.{short, told-whole, tellable}
use borrow.Author.Rules.{rules}
use Rattle.capi.proofs.skycorbel_call.Goals as goal

pub returns-then-answer-lt9 : goal.returns-then-answer-lt9
returns-then-answer-lt9 c =
    let x = c.args in
    let k = short (call_of x.script.now x.moves.now x.rule.now x.patience x.out.now x.list.now) x.answer.now (search rules) in
    let s = k.1.1.1 in record {
      returned = k.0;
      answered = k.1.0;
      written = k.1.1.0;
      untold = s.0;
      unwritten = s.1.0;
      unlisted = s.1.1.0;
      decided = s.1.1.1.0;
      bounded = s.1.1.1.1.0;
      weighed = s.1.1.1.1.1.0;
      reduced = s.1.1.1.1.1.1.0;
      reread = s.1.1.1.1.1.1.1.0;
      readmitted = s.1.1.1.1.1.1.1.1.0;
      listed = s.1.1.1.1.1.1.1.1.1;
    }

pub tell-requires : goal.tell-requires
tell-requires c = search (tellable, rules)

pub returns : goal.returns
returns c =
    let x = c.args in
    let k = told-whole (call_of x.script.now x.moves.now x.rule.now x.patience x.out.now x.list.now) x.answer.now c.call-a.result c.call-a.new.out c.call-a.new.list c.call-a.ensures.answered c.call-a.ensures.listed c.if-answer-lt9.false (c.tell.ensures _) in
    let s = k.1.1.1 in record {
      returned = k.0;
      answered = k.1.0;
      written = k.1.1.0;
      untold = s.0;
      unwritten = s.1.0;
      unlisted = s.1.1.0;
      decided = s.1.1.1.0;
      bounded = s.1.1.1.1.0;
      weighed = s.1.1.1.1.1.0;
      reduced = s.1.1.1.1.1.1.0;
      reread = s.1.1.1.1.1.1.1.0;
      readmitted = s.1.1.1.1.1.1.1.1.0;
      listed = s.1.1.1.1.1.1.1.1.1;
    }

-- `call` meets its contract: questions 1 to 6, and what is promised of the answer. Assumes nothing.
use Rattle.theory_call.proofs.Called.{answers-script}
use Rattle.call_answers.specs.Answering.{call_of, CallGives}
use Rattle.call_answers.proofs.Refusals.{handed}
use Rattle.read_scripts.proofs.Tabled.{script-refuses}
use Rattle.checker.proofs.Calling.{script-held}
use Rattle.checker.proofs.Concluding.{call_kept}
use borrow.Author.Rules.{rules}
use Rattle.checker.proofs.call.Goals as goal

pub returns-in-Err : goal.returns-in-Err
returns-in-Err c =
    let x = c.args in
    let asked = call_of x.script.now x.moves.now x.rule.now x.patience x.out.now x.list.now in
    let gives : CallGives asked c.handed_up.result x.out.now x.list.now = search (handed, answers-script, script-refuses, rules) in
    let k = call_kept asked c.handed_up.result x.out.now x.list.now gives in
    record {
      answered = k.0;
      decided = k.1.0;
      bounded = k.1.1.0;
      weighed = k.1.1.1.0;
      reduced = k.1.1.1.1.0;
      reread = k.1.1.1.1.1.0;
      readmitted = k.1.1.1.1.1.1.0;
      listed = k.1.1.1.1.1.1.1;
    }

pub with_script-requires : goal.with_script-requires
with_script-requires c = search (script-held, rules)

pub returns-in-Ok : goal.returns-in-Ok
returns-in-Ok c =
    let x = c.args in
    let asked = call_of x.script.now x.moves.now x.rule.now x.patience x.out.now x.list.now in
    let k = call_kept asked c.with_script.result c.with_script.new.out c.with_script.new.list c.with_script.ensures in
    record {
      answered = k.0;
      decided = k.1.0;
      bounded = k.1.1.0;
      weighed = k.1.1.1.0;
      reduced = k.1.1.1.1.0;
      reread = k.1.1.1.1.1.0;
      readmitted = k.1.1.1.1.1.1.0;
      listed = k.1.1.1.1.1.1.1;
    }

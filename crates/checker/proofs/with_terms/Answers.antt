-- `with_terms` meets its contract: questions 15 and 16, the list as the closure machine runs it, and what
-- follows it. Assumes nothing.
use Rattle.checker.proofs.Calling.{Began, runnable, list-refused, list-walkable, list-concludable, list-answered}
use mathlib.Core.Path.{refl}
use borrow.Author.Rules.{rules}
use Rattle.checker.proofs.with_terms.Goals as goal

pub run_list-requires : goal.run_list-requires
run_list-requires c =
    let began : Began c.args.request.now.script.now c.args.parts.now c.first_state-begun.result c.to_arrays-lent.result.sets c.to_arrays-lent.result.numbers = search rules in
    runnable c.requires began (search rules) (search rules)

pub returns-in-Err : goal.returns-in-Err
returns-in-Err c =
    let began : Began c.args.request.now.script.now c.args.parts.now c.first_state-begun.result c.to_arrays-lent.result.sets c.to_arrays-lent.result.numbers = search rules in
    list-refused c.requires began c.run_list.ensures _ _ c.in-Err.is c.refused.ensures

pub walk_standing-led-requires : goal.walk_standing-led-requires
walk_standing-led-requires c =
    let began : Began c.args.request.now.script.now c.args.parts.now c.first_state-begun.result c.to_arrays-lent.result.sets c.to_arrays-lent.result.numbers = search rules in
    (list-walkable c.requires began c.run_list.ensures c.in_default.is c.from_arrays-after.ensures, refl)

pub conclude-requires : goal.conclude-requires
conclude-requires c =
    let began : Began c.args.request.now.script.now c.args.parts.now c.first_state-begun.result c.to_arrays-lent.result.sets c.to_arrays-lent.result.numbers = search rules in
    list-concludable c.requires began c.run_list.ensures c.in_default.is c.from_arrays-after.ensures c.walk_standing-led.result c.walk_standing-led.ensures

pub returns : goal.returns
returns c =
    let began : Began c.args.request.now.script.now c.args.parts.now c.first_state-begun.result c.to_arrays-lent.result.sets c.to_arrays-lent.result.numbers = search rules in
    list-answered c.requires began c.run_list.ensures c.in_default.is c.from_arrays-after.ensures c.walk_standing-led.result c.walk_standing-led.ensures
    _ _ _ _ c.conclude.ensures

-- `first_state` meets its contract: the table's parts with nothing spent and nothing bound, settled. Assumes nothing.
use mathlib.Core.List.{[]}
use mathlib.Core.Path.{◌≡◌, ap, ◌∙◌}
use native.Mathlib.Omega.{arith}
use Rattle.engine_held_bindings.specs.Held.{bindings_of}
use Rattle.engine_held_bindings.specs.declared.Bindings as arrays
use Rattle.read_scripts.specs.Tree.{parts}
use Rattle.theory_closures.specs.Closure.{closure_of}
use Rattle.engine_states.specs.Represents.{bound_in}
use Rattle.engine_state_arrays.specs.Lent.{own_state}
use Rattle.engine_settling.proofs.Settled.{begun, first-ready, first-settled}
use Rattle.engine_settling.proofs.first_state.Goals as goal

pub noted-begun-requires : goal.noted-begun-requires
noted-begun-requires c = (c.none.ensures c.args.script.now).held

pub returns : goal.returns
returns c =
    let x = c.args in
    let none = c.none.ensures x.script.now in
    let s = c.noted-begun.result in
    let same = c.noted-begun.ensures.same in
    let ready = c.noted-begun.ensures.ready in
    let l = c.to_arrays-lent.result in
    let lent = c.to_arrays-lent.ensures in
    let settled = c.settle.ensures in
    let sets₁ = c.settle.new.sets in
    let r = c.from_arrays.result.state in
    let bound : bound_in x.script.now s ≡ [] = ap (bindings_of x.script.now) same.2 ∙ none.none in
    let read : r ≡ own_state sets₁ l.numbers = (c.from_arrays.ensures lent.tables.2).2 in record {
      ready = first-ready x.script.now x.kinds.now x.starts.now s r l.sets sets₁ l.numbers ready bound lent.state read settled.same;
      begun = λ count b T. first-settled x.script.now x.kinds.now x.starts.now s r l.sets sets₁ l.numbers ready bound lent.state read settled.same (parts b) (closure_of b)
          (begun x.script.now x.kinds.now x.starts.now x.kids count s b T same.0 same.1 (ap (λ (p : arrays.Bindings). p.first) same.2 ∙ none.room))
          (λ R₁ R. settled.settled x.script.now x.kinds.now x.starts.now (parts b) 0 (closure_of b) lent.tables.0 R₁ (omega arith) R);
    }

-- `place_within` meets its contract: the state is put inside a new ambient, and the arrays are those of what comes of it. Assumes nothing.
use Prim.Native.Nat.{ℕ, ◌+◌}
use mathlib.Core.List.{List}
use mathlib.Core.Path.{ap, ◌∙◌}
use Rattle.read_messages.specs.Message.{name as called}
use Rattle.read_scripts.specs.Tree.{ambient, close, part}
use Rattle.engine_states.specs.Represents.{bound_in, Ready, Represents}
use Rattle.engine_states.specs.declared.State.{State}
use Rattle.walk_states.proofs.Lendings.{carried}
use Rattle.walk_states.proofs.place_within.Goals as goal

pub place_part-p-requires : goal.place_part-p-requires
place_part-p-requires c =
    let b = c.from_arrays-b.ensures c.requires.2.small in
    let r = c.from_arrays-b.result in
    (c.requires.0, c.requires.1, carried (λ (k : List ℕ) (l : List ℕ) (z : State). Ready c.args.script.now k l z) _ r.kinds _ r.starts _ r.state b.0 b.1 b.2 c.requires.2.ready)

pub returns : goal.returns
returns c =
    let x = c.args in
    let b = c.from_arrays-b.ensures c.requires.2.small in
    let r = c.from_arrays-b.result in
    let t = c.as_arrays-l.ensures.tables in
    let q = c.place_part-p.ensures in
    let e = c.as_arrays-l.ensures.state in
    let k = t.0 in
    let v = t.1 in
    record {
      lends = record {
        sets-long = t.3;
        numbers-long = t.4;
        small = t.2;
        ready = carried (λ (k : List ℕ) (l : List ℕ) (z : State). Ready x.script.now k l z) _ _ _ _ _ _ k v e q.ready.0;
      };
      bound = ap (bound_in x.script.now) e ∙ q.ready.1 ∙ ap (bound_in x.script.now) b.2;
      placed = λ weight spent g R z h.
          carried (λ (k : List ℕ) (l : List ℕ) (y : State). Represents x.script.now k l (weight + 1) spent y (part x.i (ambient (called x.name)) g close)) _ _ _ _ _ _ k v e
          (q.placed weight spent g (carried (λ (k : List ℕ) (l : List ℕ) (y : State). Represents x.script.now k l weight spent y g) _ r.kinds _ r.starts _ r.state b.0 b.1 b.2 R) z h);
    }

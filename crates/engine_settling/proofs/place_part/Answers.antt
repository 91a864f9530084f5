-- `place_part` meets its contract: one entry of the table, two of the sets. Assumes nothing.
use mathlib.Core.Path.{◌≡◌}
use native.Mathlib.Omega.{arith}
use lib.ListN.{length}
use borrow.Author.Rules.{rules}
use Rattle.engine_settling.proofs.Placing.{placed-is}
use Rattle.engine_settling.proofs.place_part.Goals as goal

pub returns-clause-placed : goal.returns-clause-placed
returns-clause-placed c weight spent b R free light =
    let x = c.args in
    let y = c.noted-next.ensures.same in
    let kinds : length x.kinds ≡ 64 = search rules in
    let starts : length x.starts ≡ 64 = search rules in
    let kids : length x.state.kids ≡ 65 = search rules in
    placed-is x.script.now x.kinds x.starts weight spent x.state c.noted-next.result b x.i x.name c.single.result R free c.requires.0
    (omega (arith, c.requires.0)) (omega (arith, c.requires.0)) kids y.0 c.single.ensures y.1 y.2 light

-- `after_move` meets its contract: the top parts are set, and the move is made. Assumes nothing.
use mathlib.Core.Path.{refl, subst}
use native.Mathlib.Omega.{arith}
use lib.ListN.{get_or}
use Rattle.engine_states.specs.declared.State.{State}
use Rattle.engine_targets.specs.Makes.{Moves}
use Rattle.engine_state_arrays.specs.Lent.{kinds_in, starts_in, state_in, own_state}
use Rattle.engine_state_arrays.proofs.Standing.{standing-top}
use Rattle.engine_settling.proofs.Settled.{ready-same}
use Rattle.engine_moves.proofs.LentMoves.{lends-set}
use Rattle.walk_states.proofs.after_move.Goals as goal

pub make_move-requires : goal.make_move-requires
make_move-requires c =
    let x = c.args in
    let L = c.requires.2 in
    let k = kinds_in x.lent.now.numbers in
    let l = starts_in x.lent.now.numbers in (
      c.requires.0,
      c.requires.1,
      lends-set x.script.now x.lent.now.sets x.lent.now.numbers 64 _ (omega arith) (record {
        sets-long = L.sets-long;
        numbers-long = L.numbers-long;
        small = L.small;
        ready = ready-same x.script.now k l (state_in x.lent.now.sets x.lent.now.numbers x.top) (own_state x.lent.now.sets x.lent.now.numbers) refl refl refl L.ready;
      }),
    )

pub returns-clause-lends : goal.returns-clause-lends
returns-clause-lends c =
    let m = c.make_move.ensures.lends in record { sets-long = m.sets-long; numbers-long = m.numbers-long; small = m.small; ready = m.ready }

pub returns-clause-made : goal.returns-clause-made
returns-clause-made c =
    let x = c.args in
    let r = own_state c.make_move.new.lent.sets c.make_move.new.lent.numbers in
    subst (λ (z : State). Moves x.script.now (kinds_in x.lent.now.numbers) (starts_in x.lent.now.numbers) z r (λ i. get_or x.homes.now i 0) x.a x.t)
    (standing-top x.lent.now.sets x.lent.now.numbers x.top c.requires.2.sets-long) c.make_move.ensures.made

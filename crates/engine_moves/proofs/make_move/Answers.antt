-- `make_move` meets its contract: what the actor does first tells the move. Assumes nothing.
use Prim.Native.Nat.{ℕ, ◌+◌, ◌<◌}
use mathlib.Core.Bool.{true, true≢false}
use mathlib.Core.List.{List}
use mathlib.Core.Path.{◌≡◌, sym, ◌∙◌, subst}
use native.Mathlib.Omega.{arith}
use lib.Dec.{eqb}
use lib.ListN.{get_or}
use borrow.Author.Tests.{eqb-true, eqb-false}
use Rattle.read_scripts.specs.Represents.{body_in}
use Rattle.base_slices.proofs.Tests.{by_test}
use Rattle.engine_states.specs.Represents.{heads, bound_in}
use Rattle.engine_targets.specs.Targets.{can_exit}
use Rattle.engine_state_arrays.specs.Lent.{kinds_in, starts_in, own_state}
use Rattle.base_arrays.specs.Stretches.{stretch}
use Rattle.base_arrays.proofs.Copying.{get_or-stretch}
use Rattle.engine_moves.proofs.Dispatch.{nowhere, can, to-open, to-receive, to-enter, to-exit, inside-some, enter-from, exit-to}
use Rattle.engine_moves.proofs.make_move.Goals as goal

-- the act of the actor among the numbers is the one that the state keeps
act-kept : (numbers : List ℕ) (a : ℕ) → a < 64 → get_or (stretch 256 64 numbers) a 0 ≡ get_or numbers (256 + a) 0
act-kept numbers a low = get_or-stretch 256 64 a numbers low

pub returns-then-p-gt-TOP-clause-made : goal.returns-then-p-gt-TOP-clause-made
returns-then-p-gt-TOP-clause-made c weight spent b few R x =
    let y = c.args in
    let s = own_state y.lent.now.sets y.lent.now.numbers in
    let at : ℕ → ℕ = λ i. get_or y.homes.now i 0 in
    absurd (true≢false (sym (can y.script.now (kinds_in y.lent.now.numbers) (starts_in y.lent.now.numbers) weight spent s b R c.requires.2.ready few at x.0 y.a y.t c.requires.0 x.1) ∙ nowhere _ _ _ _ _ _ _ c.if-p-gt-TOP.true))

pub returns-then-act-clause-made : goal.returns-then-act-clause-made
returns-then-act-clause-made c weight spent b few R x =
    let y = c.args in
    let s = own_state y.lent.now.sets y.lent.now.numbers in
    let at : ℕ → ℕ = λ i. get_or y.homes.now i 0 in
    c.open_part.ensures.made weight spent b few R (sym (x.0 y.a c.requires.0), to-open y.script.now (kinds_in y.lent.now.numbers) (starts_in y.lent.now.numbers) weight spent s b R c.requires.2.ready few at x.0 y.a y.t c.requires.0 x.1 (act-kept y.lent.now.numbers y.a c.requires.0 ∙ c.if-act.true))

pub returns-then-act-2-clause-made : goal.returns-then-act-2-clause-made
returns-then-act-2-clause-made c weight spent b few R x =
    let y = c.args in
    let s = own_state y.lent.now.sets y.lent.now.numbers in
    let at : ℕ → ℕ = λ i. get_or y.homes.now i 0 in
    c.receive_part.ensures.made weight spent b few R (sym (x.0 y.a c.requires.0), to-receive y.script.now (kinds_in y.lent.now.numbers) (starts_in y.lent.now.numbers) weight spent s b R c.requires.2.ready few at x.0 y.a y.t c.requires.0 x.1 (act-kept y.lent.now.numbers y.a c.requires.0 ∙ c.if-act-2.true))

pub returns-then-p-eq-TOP-clause-made : goal.returns-then-p-eq-TOP-clause-made
returns-then-p-eq-TOP-clause-made c weight spent b few R x =
    let y = c.args in
    let s = own_state y.lent.now.sets y.lent.now.numbers in
    let at : ℕ → ℕ = λ i. get_or y.homes.now i 0 in
    let e = act-kept y.lent.now.numbers y.a c.requires.0 in
    absurd (let z : ⊥ = omega (arith, c.if-p-eq-TOP.true, inside-some y.script.now (kinds_in y.lent.now.numbers) (starts_in y.lent.now.numbers) weight spent s b R c.requires.2.ready few at x.0 y.a y.t c.requires.0 x.1 (λ u. c.if-act.false (sym e ∙ u)) (λ u. c.if-act-2.false (sym e ∙ u))) in z)

pub returns-clause-made : goal.returns-clause-made
returns-clause-made c weight spent b few R x =
    let y = c.args in
    let k = kinds_in y.lent.now.numbers in
    let l = starts_in y.lent.now.numbers in
    let s = own_state y.lent.now.sets y.lent.now.numbers in
    let at : ℕ → ℕ = λ i. get_or y.homes.now i 0 in
    let e = act-kept y.lent.now.numbers y.a c.requires.0 in
    let p : get_or y.homes.now y.a 0 < 64 = omega (arith, c.if-p-gt-TOP.false, c.if-p-eq-TOP.false) in
    let o : get_or s.notes.acts y.a 0 ≡ 1 → ⊥ = λ v. c.if-act.false (sym e ∙ v) in
    let r : get_or s.notes.acts y.a 0 ≡ 4 → ⊥ = λ v. c.if-act-2.false (sym e ∙ v) in
    by_test (eqb (get_or y.lent.now.numbers (256 + y.a) 0) 2)
    (λ u.
    let d : get_or s.notes.acts y.a 0 ≡ 2 = e ∙ eqb-true _ 2 u in
    c.carry_around.ensures.entered u (enter-from y.script.now k l weight spent s b R c.requires.2.ready few at x.0 y.a y.t c.requires.0 x.1 d) weight spent b few R (sym (x.0 y.a c.requires.0), sym (x.0 (get_or y.homes.now y.a 0) p), to-enter y.script.now k l weight spent s b R c.requires.2.ready few at x.0 y.a y.t c.requires.0 x.1 d))
    (λ u.
    let i : get_or s.notes.acts y.a 0 ≡ 2 → ⊥ = λ v. eqb-false _ 2 u (sym e ∙ v) in
    let (q, h) = exit-to y.script.now k l weight spent s b R c.requires.2.ready few at x.0 y.a y.t c.requires.0 x.1 c.requires.1 o i r in
    c.carry_around.ensures.left u h weight spent b few R (
      sym (x.0 y.a c.requires.0),
      sym (x.0 (get_or y.homes.now y.a 0) p) ∙ q,
      sym (x.0 y.t c.requires.1),
      subst (λ (z : ℕ). can_exit (bound_in y.script.now s) (body_in s.kids) (heads y.script.now k l s.offsets) (get_or y.homes.now y.a 0) z y.a y.t ≡ true) q
          (to-exit y.script.now k l weight spent s b R c.requires.2.ready few at x.0 y.a y.t c.requires.0 x.1 o i r),
    ))

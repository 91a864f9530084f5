-- `locate_below` meets its contract: one law of the pass for each way on. Assumes nothing.
use Prim.Native.Nat.{ℕ, ◌-◌, ◌<◌}
use mathlib.Core.Bool.{Bool}
use mathlib.Core.List.{List, tail}
use mathlib.Core.Path.{◌≡◌, sym, ap, ◌∙◌, subst}
use lib.ListN.{get_or, set, length-set}
use native.Mathlib.Omega.{arith}
use Rattle.base_sets.specs.Sets.{members, elem}
use Rattle.base_sets.proofs.Members.{first-is, first-low, not_none, members-empty}
use Rattle.read_scripts.specs.Represents.{body_in}
use Rattle.theory_machine.specs.Moves.{is_named, head_name}
use Rattle.theory_closures.specs.Closure.{ClosureHead, Bindings, view_under}
use Rattle.engine_states.specs.Searches.{Locates}
use Rattle.engine_states.specs.Seen.{Names}
use Rattle.engine_targets.proofs.Locating.{Enters, enters-named, enters-nameless, locates-none, locates-no-fuel, locates-first, set-home}
use Rattle.engine_targets.proofs.+locate_below.Goals as goal
use Rattle.engine_targets.proofs.+locate_below.Goals.{then-left-eq0-via-then-left-eq0, then-left-eq0-via-else-left-eq0+then-fuel-eq0, then-has, else-has}

abbrev placed : List ℕ → ℕ → ℕ
placed l x = get_or l x 0

-- the homes when those in the body of the part i, the first of left, are written, if it has a name
abbrev Through : (named : ℕ) (k : ℕ → List ℕ) (i fuel : ℕ) (before after : List ℕ) → Type 0
Through named k i fuel before after =
    (σ : Bindings) (w : ℕ → ClosureHead) → Names σ w (members named) → Enters σ k w i fuel (placed before) (placed after)

tested : (named i : ℕ) → i < 64 → (b : Bool) → b ≡ elem i (members named) → (σ : Bindings) (w : ℕ → ClosureHead) → Names σ w (members named) → is_named (head_name (view_under σ) (w i)) ≡ b
tested named i m b e σ w names = sym (names i m) ∙ sym e

pub returns-then-left-eq0-clause-located : goal.returns-then-left-eq0-clause-located
returns-then-left-eq0-clause-located t c σ w names =
    let x = c.args in
    elim c.then-left-eq0.branch [
      | then-left-eq0-via-then-left-eq0 u ↦ locates-none σ (body_in x.kids.now) w (members x.left) x.at x.fuel (placed x.found.now) (ap members u.if-left-eq0.true ∙ members-empty)
      | then-left-eq0-via-else-left-eq0+then-fuel-eq0 u ↦ locates-no-fuel σ (body_in x.kids.now) w (members x.left) x.at x.fuel (placed x.found.now) u.if-fuel-eq0.true
    ]

pub rest-others-requires : goal.rest-others-requires
rest-others-requires t c = not_none c.args.left c.ranges.left.fits c.if-left-eq0.false

pub offset_bounds-found-i : goal.offset_bounds-found-i
offset_bounds-found-i t c = omega (arith, first-low c.args.left c.first-i.result c.ranges.left.fits c.if-left-eq0.false c.first-i.ensures)

pub bounds-found-i : goal.bounds-found-i
bounds-found-i t c = first-low c.args.left c.first-i.result c.ranges.left.fits c.if-left-eq0.false c.first-i.ensures

pub has-requires : goal.has-requires
has-requires t c = first-low c.args.left c.first-i.result c.ranges.left.fits c.if-left-eq0.false c.first-i.ensures

pub offset_bounds-kids-i : goal.offset_bounds-kids-i
offset_bounds-kids-i t c = omega (arith, first-low c.args.left c.first-i.result c.ranges.left.fits c.if-left-eq0.false c.first-i.ensures)

pub bounds-kids-i : goal.bounds-kids-i
bounds-kids-i t c = omega (arith, first-low c.args.left c.first-i.result c.ranges.left.fits c.if-left-eq0.false c.first-i.ensures)

pub locate_below-requires : goal.locate_below-requires
locate_below-requires t c =
    let low = first-low c.args.left c.first-i.result c.ranges.left.fits c.if-left-eq0.false c.first-i.ensures in
    (omega arith, (length-set c.args.found.now c.first-i.result c.args.at ∙ c.requires.0, omega arith))

pub returns-clause-located : goal.returns-clause-located
returns-clause-located t c σ w names =
    let i = c.first-i.result in
    let k = body_in c.args.kids.now in
    let low : i < 64 = first-low c.args.left i c.ranges.left.fits c.if-left-eq0.false c.first-i.ensures in
    let first = first-is c.args.left i c.ranges.left.fits c.if-left-eq0.false c.first-i.ensures in
    let found₁ = set c.args.found.now i c.args.at in
    let inside : Through c.args.named k i (c.args.fuel - 1) found₁ c.if-has.found = elim c.if-has.branch [
      | then-has u ↦ subst (Through c.args.named k i (c.args.fuel - 1) found₁) (sym u.found-is)
          (λ σ w names. enters-named σ k w i (c.args.fuel - 1) (placed found₁) (placed u.locate_below.new.found) (tested c.args.named i low c.has.result c.has.ensures σ w names ∙ u.if-has.true) (u.locate_below.ensures.located σ w names))
      | else-has u ↦ subst (Through c.args.named k i (c.args.fuel - 1) found₁) (sym u.found-is)
          (λ σ w names. enters-nameless σ k w i (c.args.fuel - 1) (placed found₁) (tested c.args.named i low c.has.result c.has.ensures σ w names ∙ u.if-has.false))
    ] in
    locates-first σ k w (members c.args.left) c.args.at c.args.fuel (placed c.args.found.now) i (tail (members c.args.left)) (placed found₁) (placed c.if-has.found) (placed c.locate_below-2.new.found) first c.requires.1
    (set-home c.args.found.now i c.args.at (omega arith))
    (inside σ w names)
    (subst (λ (l : List ℕ). Locates σ k w l c.args.at (c.args.fuel - 1) (placed c.if-has.found) (placed c.locate_below-2.new.found)) c.rest-others.ensures (c.locate_below-2.ensures.located σ w names))

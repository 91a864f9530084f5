-- What the engine's passes over the part sets find and leave: the part in whose body a part stands, the bodies after every
-- action with no items left is gone, and the number of parts. Assumes nothing: these are definitions.
use Rattle.std.specs.Prelude.{ℕ, ◌≤◌, ◌<◌, cond, List, ◌≡◌, ltb}
use Rattle.base_sets.specs.Sets.{elem}
use Rattle.read_scripts.specs.Tree.{close, part, tops, parts, times_in}
use Rattle.read_scripts.specs.Represents.{Held}
use Rattle.theory_machine.specs.Moves.{is_named, head_name}
use Rattle.theory_closures.specs.Closure.{ClosureHead, Closure, Bindings, view_under, settle_under}
use Rattle.engine_states.specs.Seen.{Busy, Ambients, Names}

-- the first home, or where it is 65 the second
abbrev pub first_home : ℕ → ℕ → ℕ
first_home x y = cond (ltb x 65) x y

-- the part in whose body the part t stands, among the named ambients of a body and those inside them; 65 where there is none
unfoldable pub home_below : Bindings → (t : ℕ) → Closure → ℕ
home_below σ t close = 65
home_below σ t (part i h b r) =
    first_home (cond (is_named (head_name (view_under σ) h)) (cond (elem t (tops b)) i (home_below σ t b)) 65) (home_below σ t r)

-- the same where the body's own parts stand in that of number `at`
abbrev pub home_from : Bindings → (at t : ℕ) → Closure → ℕ
home_from σ at t b = cond (elem t (tops b)) at (home_below σ t b)

-- the same from the top, whose parts stand in the body of number 64
unfoldable pub home : Bindings → (t : ℕ) → Closure → ℕ
home σ t b = home_from σ 64 t b

-- the sets and heads hold the closure, its own parts being those of number 64's body, and no number stands in it twice
pub record HeldOnce (bodies : ℕ → List ℕ) (heads : ℕ → ClosureHead) (b : Closure) : Type 0 where
  pub top : bodies 64 ≡ tops b
  pub held : Held bodies heads b
  pub once : (i : ℕ) → times_in i b ≤ 1
  pub low : (i : ℕ) → 64 ≤ i → times_in i b ≡ 0

-- `after` are the homes, which were `before`, when those of all parts are written of every closure whose top parts are
-- `left` and stand in the body of `at`, if it has at most `fuel` parts
abbrev pub Locates : Bindings → (bodies : ℕ → List ℕ) (heads : ℕ → ClosureHead) (left : List ℕ) (at fuel : ℕ) (before after : ℕ → ℕ) → Type 0
Locates σ bodies heads left at fuel before after =
    (b : Closure) → left ≡ tops b → Held bodies heads b → ((j : ℕ) → times_in j b ≤ 1) → parts b ≤ fuel
    → (i : ℕ) → after i ≡ first_home (home_from σ at i b) (before i)

-- the same for all heads and bindings of which `named` has the parts that have a name
abbrev pub LocatesBy : (named : List ℕ) (bodies : ℕ → List ℕ) (left : List ℕ) (at fuel : ℕ) (before after : ℕ → ℕ) → Type 0
LocatesBy named bodies left at fuel before after =
    (σ : Bindings) (heads : ℕ → ClosureHead) → Names σ heads named → Locates σ bodies heads left at fuel before after

-- the homes are those of all parts, in every closure that stands in the bodies, if it has at most 64 parts
abbrev pub Located : (named : List ℕ) (bodies : ℕ → List ℕ) (sources : ℕ → ℕ) → Type 0
Located named bodies sources =
    (σ : Bindings) (heads : ℕ → ClosureHead) (b : Closure) → Names σ heads named → HeldOnce bodies heads b → parts b ≤ 64
    → (i : ℕ) → i < 64 → sources i ≡ home σ i b

-- `after` and the top parts r hold what every closure becomes whose top parts are `left`, when it is settled, if it has at
-- most `fuel` parts; the bodies of all other parts are as they were
abbrev pub Settles : Bindings → (bodies after : ℕ → List ℕ) (heads : ℕ → ClosureHead) (left r : List ℕ) (fuel : ℕ) → Type 0
Settles σ bodies after heads left r fuel =
    (b : Closure) → left ≡ tops b → Held bodies heads b → ((j : ℕ) → times_in j b ≤ 1) → parts b ≤ fuel
    → (r ≡ tops (settle_under σ b)) × Held after heads (settle_under σ b) × ((j : ℕ) → times_in j b ≡ 0 → bodies j ≡ after j)

-- the same for all heads and bindings of which `busy` has the parts that settling concerns, and kinds the ambients
abbrev pub SettlesBy : (busy kinds : List ℕ) (bodies after : ℕ → List ℕ) (left r : List ℕ) (fuel : ℕ) → Type 0
SettlesBy busy kinds bodies after left r fuel =
    (σ : Bindings) (heads : ℕ → ClosureHead) → Busy σ heads busy → Ambients heads kinds → Settles σ bodies after heads left r fuel

-- r is the number of parts of every closure whose top parts are `left`, whatever the heads, if it has at most `fuel` of them
abbrev pub CountsParts : (bodies : ℕ → List ℕ) (left : List ℕ) (fuel r : ℕ) → Type 0
CountsParts bodies left fuel r = (heads : ℕ → ClosureHead) (b : Closure) → left ≡ tops b → Held bodies heads b → parts b ≤ fuel → r ≡ parts b

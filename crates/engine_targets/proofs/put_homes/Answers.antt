-- `put_homes` meets its contract: the homes are found from the top. Assumes nothing.
use Prim.Native.Nat.{ℕ}
use mathlib.Core.List.{List}
use mathlib.Core.Path.{subst}
use lib.ListN.{get_or}
use Rattle.read_scripts.specs.Represents.{body_in}
use Rattle.engine_states.specs.Searches.{Locates}
use Rattle.engine_targets.proofs.Locating.{located}
use Rattle.engine_targets.proofs.put_homes.Goals as goal

pub returns : goal.returns
returns c σ w b names Q few =
    let k : ℕ → List ℕ = body_in c.args.kids.now in
    let after : ℕ → ℕ = λ i. get_or c.locate_below.new.found i 0 in
    located σ k w b after Q few (subst (λ (l : List ℕ). Locates σ k w (k 64) 64 64 (λ x. get_or l x 0) after) c.requires (c.locate_below.ensures.located σ w names))

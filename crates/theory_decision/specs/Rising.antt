-- Trees whose bodies rise, at any depth, and the sums by which BESIDE takes the shares of such a body. That every tree which
-- the machine and the walk meet is one, and that the shares come by rising sum, are laws (proofs/Risen.antt). Assumes
-- nothing: these are definitions.
use Rattle.std.specs.Prelude.{ℕ, suc, ◌≤◌, List, map}
use Rattle.base_sets.specs.Sets.{mask}
use Rattle.read_scripts.specs.Tree.{Body, close, part, tops, Plain}
use Rattle.theory_decision.specs.Divisions.{divisions}

-- "each body by rising part number", the bodies inside too: the numbers of the body itself are n or more, each above the one
-- before
abbrev pub Rises : {H : Type 0} → (n : ℕ) → Body H → Type 0
Rises n close = Unit {0}
Rises n (part i h b r) = (n ≤ i) × Rises 0 b × Rises (suc i) r

-- "the sum of 2^number over their parts"
abbrev pub sum_of : Plain → ℕ
sum_of b = mask (tops b)

-- the sums of the shares, in the order in which BESIDE takes them
abbrev pub share_sums : Plain → List ℕ
share_sums b = map (λ (d : Plain × Plain). sum_of d.0) (divisions b)

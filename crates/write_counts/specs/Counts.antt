-- How many words a closure is written with that the arrays hold: of a body and of a part. Assumes nothing: these are
-- definitions.
use Rattle.std.specs.Prelude.{ℕ, ◌≤◌, List, ◌≡◌, length}
use Rattle.read_scripts.specs.Tree.{tops, parts}
use Rattle.read_scripts.specs.Represents.{Held}
use Rattle.base_slices.specs.Sums.{capped}
use Rattle.theory_closures.specs.Closure.{ClosureHead, Closure, Bindings, unfolded, unfold_head}
use Rattle.theory_written_trees.specs.Write.{Indices, write, write_part}

-- r is the number of words, wherever they stand, of every closure whose top parts are `left`, if it has at most `fuel` parts
abbrev pub CountsBody : Bindings → (bodies : ℕ → List ℕ) (heads : ℕ → ClosureHead) (left : List ℕ) (fuel r : ℕ) → Type 0
CountsBody σ bodies heads left fuel r =
    (ix : Indices) (i : ℕ) (b : Closure) → left ≡ tops b → Held bodies heads b → parts b ≤ fuel → r ≡ capped (length (write ix i (unfolded σ b)))

-- r is the number of words of the part that has that head, whatever closure stands in it whose top parts are `inside`
abbrev pub CountsPart : Bindings → (bodies : ℕ → List ℕ) (heads : ℕ → ClosureHead) (inside : List ℕ) (head : ClosureHead) (fuel r : ℕ) → Type 0
CountsPart σ bodies heads inside h fuel r =
    (ix : Indices) (i : ℕ) (b : Closure) → inside ≡ tops b → Held bodies heads b → parts b ≤ fuel → r ≡ capped (length (write_part ix i (unfold_head σ h) (unfolded σ b)))

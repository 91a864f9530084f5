-- What the writers of parts and bodies write: the words of a closure that the arrays hold. Assumes nothing: these are
-- definitions.
use Rattle.std.specs.Prelude.{ℕ, ◌≤◌, List, ◌≡◌, length}
use Rattle.read_scripts.specs.Tree.{tops, parts}
use Rattle.read_scripts.specs.Represents.{Held}
use Rattle.theory_closures.specs.Closure.{ClosureHead, Closure, Bindings, unfolded, unfold_head}
use Rattle.theory_written_trees.specs.Write.{Indices, write, write_part}
use Rattle.write_messages.specs.Buffer.{Wrote}

-- what a writer of a body does that is lent the buffer `before`, leaves `after` and answers r: it says no more words than there
-- are; it writes the words, the first of which has index i, of every closure whose top parts are `left`, if that has at most
-- `fuel` parts
pub record Writes (ix : Indices) (σ : Bindings) (bodies : ℕ → List ℕ) (heads : ℕ → ClosureHead) (left : List ℕ) (i fuel : ℕ) (before after : List ℕ) (r : ℕ) : Type 0 where
  pub within : r ≤ length before
  pub written : (b : Closure) → left ≡ tops b → Held bodies heads b → parts b ≤ fuel → Wrote (write ix i (unfolded σ b)) before after r

-- and so a writer of the part that has that head, whatever closure stands in it whose top parts are `inside`
pub record WritesPart (ix : Indices) (σ : Bindings) (bodies : ℕ → List ℕ) (heads : ℕ → ClosureHead) (inside : List ℕ) (head : ClosureHead) (i fuel : ℕ) (before after : List ℕ) (r : ℕ) : Type 0 where
  pub within : r ≤ length before
  pub written : (b : Closure) → inside ≡ tops b → Held bodies heads b → parts b ≤ fuel → Wrote (write_part ix i (unfold_head σ head) (unfolded σ b)) before after r

-- What the writer of a tree answers and leaves in the buffer, where the words fit and where they do not. Assumes nothing.
use Prim.Native.Nat.{ℕ, ◌≤◌, ◌<◌}
use mathlib.Core.List.{List, [], ◌++◌, append-nil}
use mathlib.Core.Path.{◌≡◌, ap, ◌∙◌}
use native.Mathlib.Omega.{arith}
use lib.ListN.{length, take, drop, drop_of_length-le}
use lib.Seq.{length-take-le}
use borrow.Author.Tests.{le-leb, lt-leb}
use Rattle.base_slices.specs.Sums.{capped}
use Rattle.write_messages.specs.Buffer.{over, Wrote}
use Rattle.write_trees.specs.Room.{room, unfit, answered, buffered, Fitted}
use Rattle.std.specs.Prelude.{Ok, Err}

-- n is the number of the words, as far as it is counted
module _ (ws buffer : List ℕ) (n : ℕ) (e : n ≡ capped (length ws)) where
  too_long : room buffer < length ws → Fitted ws buffer buffer (Err unfit)
  unfolding answered buffered
  too_long h = let t = lt-leb (length ws) (room buffer) h in record { said = rw t; left = rw t }

  pub over-limit : 268435456 < n → Fitted ws buffer buffer (Err unfit)
  unfolding capped room
  over-limit h = too_long (omega arith)

  pub over-buffer : length buffer < n → Fitted ws buffer buffer (Err unfit)
  unfolding capped room
  over-buffer h = too_long (omega arith)

  -- the first u words are lent, and come back as ys
  pub fitted : n ≤ 268435456 → (u : ℕ) → u ≡ n → u ≤ length buffer → (ys : List ℕ) (r : ℕ) → Wrote ws (take u buffer) ys r → Fitted ws buffer (ys ++ drop u buffer) (Ok n)
  unfolding capped room answered buffered over
  fitted h u g f ys r w =
      let l : n ≡ length ws = omega arith in
      let t = le-leb (length ws) (room buffer) (omega arith) in
      let k : length (take u buffer) ≡ u = length-take-le u buffer f in
      let p : ys ≡ ws ++ drop (length ws) (take u buffer) = (w.right (omega arith)).content in
      let z : drop (length ws) (take u buffer) ≡ [] = drop_of_length-le (take u buffer) {i = length ws} (omega arith) in
      let y : ys ≡ ws = p ∙ ap (λ (x : List ℕ). ws ++ x) z ∙ append-nil ws in
      record { said = rw (t, l); left = rw (t, y, g ∙ l) }

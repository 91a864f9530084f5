-- The words of a tree: those of its first part, then those of the parts beside it; the new index of a receipt's variable.
-- Assumes nothing.
use Prim.Native.Nat.{ℕ, ◌+◌, ◌<◌}
use mathlib.Core.Bool.{true, false}
use mathlib.Core.List.{◌∷◌, ◌++◌, []}
use mathlib.Core.Path.{◌≡◌, refl, ap}
use native.Mathlib.Omega.{arith}
use lib.Dec.{eqb}
use lib.ListN.{length, length-append}
use Rattle.read_messages.specs.Words.{word}
use Rattle.read_messages.specs.Message.{Message}
use Rattle.read_scripts.specs.Tree.{receipt, output, close, part, PlainHead, Plain}
use Rattle.theory_written_trees.specs.Write.{Indices, new_index, write_message, write_head, within, write_inside, write, write_part}

pub write-part : (ix : Indices) (i k : ℕ) (h : PlainHead) (b r : Plain) → write_part ix i h b ++ write ix (i + length (write_part ix i h b)) r ≡ write ix i (part k h b r)
unfolding write_part write
write-part ix i k h b r = refl

pub some_written : (ix : Indices) (i : ℕ) (b : Plain) → 0 < length (write ix i b)
some_written ix i close = unfold write in omega arith
some_written ix i (part k h b r) =
    omega (arith, ap length (write-part ix i k h b r), length-append (write_part ix i h b) (write ix (i + length (write_part ix i h b)) r), some_written ix (i + length (write_part ix i h b)) r)

pub receipt-written : (ix : Indices) (i v : ℕ) (b : Plain) → write_part ix i (receipt v) b ≡ word 3 0 ∷ write ((v, i) ∷ ix) (i + 1) b
unfolding write_part write_head write_inside within
receipt-written ix i v b = refl

pub output-written : (ix : Indices) (i : ℕ) (m : Message) (b : Plain) → write_part ix i (output m) b ≡ (word 4 0 ∷ write_message ix m) ++ []
unfolding write_part write_head write_inside
output-written ix i m b = refl

-- where the receipts around now stand, with one more, of v, whose word has the index i
pub new-hit : (v u i : ℕ) (ix : Indices) → eqb v u ≡ true → new_index ((v, i) ∷ ix) u ≡ i
unfolding new_index
new-hit v u i ix t = rw t

pub new-miss : (v u i : ℕ) (ix : Indices) → eqb v u ≡ false → new_index ((v, i) ∷ ix) u ≡ new_index ix u
unfolding new_index
new-miss v u i ix t = rw t

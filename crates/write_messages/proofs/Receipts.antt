-- The receipts around, as they are lent, give a variable its receipt's new index. Assumes nothing.
use Prim.Native.Nat.{ℕ, ◌+◌, ◌≤◌, ◌<◌}
use mathlib.Core.List.{List}
use mathlib.Core.Path.{◌≡◌}
use lib.ListN.{length, drop, get_or}
use lib.Seq.{drop-cons}
use borrow.Author.Tests.{eq-eqb, ne_eqb}
use Rattle.std.proofs.Common.{add-one}
use Rattle.std.proofs.lemmas.List.{drop_all}
use Rattle.read_messages.specs.Words.{word}
use Rattle.theory_written_trees.specs.Write.{new_index}
use Rattle.theory_written_trees.proofs.Trees.{new-hit, new-miss}
use Rattle.write_messages.specs.declared.Receipt.{Receipt}
use Rattle.write_messages.specs.Indices.{indices_in}

abbrev no_receipt : Receipt
no_receipt = record { variable = 0; index = 0 }

-- the word of VAR for a variable, by the receipts from the k-th on
abbrev pub word_from : List Receipt → (k v : ℕ) → ℕ
word_from rs k v = word 9 (new_index (indices_in (drop k rs)) v)

module _ (rs : List Receipt) (v : ℕ) where
  -- none is left
  pub free_word : (k : ℕ) → length rs ≤ k → 2415919104 ≡ word_from rs k v
  unfolding word new_index
  free_word k h = rw (drop_all k rs h)

  module _ (k : ℕ) (h : k < length rs) where
    -- the k-th receipt is of the variable
    pub found_word : (get_or rs k no_receipt).variable ≡ v → 2415919104 + (get_or rs k no_receipt).index ≡ word_from rs k v
    unfolding word
    found_word e = rw (drop-cons rs k no_receipt h, new-hit _ _ _ _ (eq-eqb _ _ e))

    -- or it is of another
    pub word_behind : ((get_or rs k no_receipt).variable ≡ v → ⊥) → word_from rs (k + 1) v ≡ word_from rs k v
    word_behind n = rw (drop-cons rs k no_receipt h, add-one k, new-miss _ _ _ _ (ne_eqb _ _ n))

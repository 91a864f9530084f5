-- How many words a part and a body are written with, by the kind of the part and by the first part of the body. Assumes
-- nothing.
use Prim.Native.Nat.{ℕ, ◌+◌, ◌-◌, ◌<◌}
use mathlib.Core.Bool.{true, false}
use mathlib.Core.List.{List, [], ◌∷◌}
use mathlib.Core.Path.{◌≡◌, sym, ap, ◌∙◌}
use native.Mathlib.Omega.{arith}
use lib.ListN.{length, drop, length-append}
use Rattle.read_messages.specs.Message.{Message, items}
use Rattle.read_messages.specs.Spelling.{message_at}
use Rattle.theory_closures.specs.Resolve.{resolve}
use Rattle.base_slices.specs.Sums.{capped}
use Rattle.base_slices.proofs.Capping.{capped-sum}
use Rattle.engine_held_bindings.specs.Sizes.{message_size, items_size, capped_items}
use Rattle.theory_closures.specs.Closure.{ClosureHead, Closure, Bindings, unfold_head, unfolded}
use Rattle.engine_states.specs.Represents.{head_of}
use Rattle.theory_written_trees.specs.Write.{Indices, write_head, write, write_part}
use Rattle.write_messages.proofs.Words.{message-length, items-length}
use Rattle.write_heads.specs.Heads.{has_body, write_label}
use Rattle.write_heads.proofs.Heads.{head-length, label-action, label-receipt, label-message}
use Rattle.write_heads.proofs.Parts.{part_body, part-only, no-tops, no-parts, by_first}
use Rattle.write_counts.specs.Counts.{CountsPart, CountsBody}

-- ---- the words in front of a part's body, by its kind

module _ (script : List ℕ) (kind start offset : ℕ) (ix : Indices) (σ : Bindings) where
  -- what it is written with in front of its body, and its message, which stands at the index n
  abbrev front : List ℕ
  front = write_head ix (unfold_head σ (head_of script kind start offset))

  abbrev label : List ℕ
  label = write_label ix (unfold_head σ (head_of script kind start offset))

  abbrev message_from : ℕ → Message
  message_from n = resolve σ (message_at (drop n script))

  -- the words in front of its body, counted
  counted-label : (n r : ℕ) {t : ℕ} → length label ≡ n → capped_items r ≡ capped_items n → t ≡ capped (1 + r) → t ≡ capped (length front)
  unfolding capped capped_items
  counted-label n r e p q = omega (arith, head-length ix σ (head_of script kind start offset))

  pub count-action : {n r t : ℕ} → n ≡ start → kind ≡ 2 → r ≡ capped_items (items_size (drop offset (items (message_from n)))) → t ≡ capped (1 + r) → t ≡ capped (length front)
  unfolding capped_items
  count-action {n} {r} f e p = counted-label _ r (sym (ap length (label-action script kind start offset ix σ f e)) ∙ items-length ix (drop offset (items (message_from n)))) (omega arith)

  pub count-receipt : kind ≡ 3 → 1 ≡ capped (length front)
  unfolding capped capped_items
  count-receipt e = counted-label 0 0 (ap length (label-receipt script kind start offset ix σ e)) (omega arith) (omega arith)

  pub count-message : {n r t : ℕ} → n ≡ start → (kind ≡ 2 → ⊥) → (kind ≡ 3 → ⊥) → start < 65536 → r ≡ capped (message_size (message_from n)) → t ≡ capped (1 + r) → t ≡ capped (length front)
  unfolding capped capped_items
  count-message {n} {r} f b c s p = counted-label _ r (sym (ap length (label-message script kind start offset ix σ f b c s)) ∙ message-length ix (message_from n)) (omega arith)

-- ---- parts and bodies

module _ (σ : Bindings) (k : ℕ → List ℕ) (w : ℕ → ClosureHead) (left : List ℕ) (fuel : ℕ) where
  pub counts-none : left ≡ [] → CountsBody σ k w left fuel 1
  unfolding capped
  counts-none z ix i b e h m = ap (λ (ws : List ℕ). capped (length ws)) (no-tops left z ix i σ b e)

  pub counts_end : fuel ≡ 0 → CountsBody σ k w left fuel 1
  unfolding capped
  counts_end z ix i b e h m = ap (λ (ws : List ℕ). capped (length ws)) (no-parts fuel z ix i σ b m)

  module _ (h : ClosureHead) {front : ℕ} (ef : (ix : Indices) → front ≡ capped (length (write_head ix (unfold_head σ h)))) where
    pub counts-inside : has_body h ≡ true → {inside t : ℕ} → CountsBody σ k w left fuel inside → t ≡ capped (front + inside) → CountsPart σ k w left h fuel t
    counts-inside body ei et ix i b e g m =
        capped-sum (length (write_head ix (unfold_head σ h))) _ (sym (ap length (part_body ix i σ h (unfolded σ b) body)) ∙ length-append (write_head ix (unfold_head σ h)) _) (ef ix) (ei _ _ b e g m) et

    pub counts-only : has_body h ≡ false → CountsPart σ k w left h fuel front
    counts-only body ix i b e g m = ef ix ∙ ap (λ (ws : List ℕ). capped (length ws)) (part-only ix i σ h (unfolded σ b) body)

module _ (σ : Bindings) (k : ℕ → List ℕ) (w : ℕ → ClosureHead) (left : List ℕ) (fuel j : ℕ) (l : List ℕ) (first : left ≡ j ∷ l) where
  -- the words of the first part
  abbrev first_words : Indices → ℕ → Closure → List ℕ
  first_words ix i b = write_part ix i (unfold_head σ (w j)) (unfolded σ b)

  -- the words of the body, counted
  pub counts-more : {one' rest t : ℕ} → CountsPart σ k w (k j) (w j) (fuel - 1) one' → CountsBody σ k w l (fuel - 1) rest → t ≡ capped (one' + rest) → CountsBody σ k w left fuel t
  counts-more {one'} {rest} {t} eo er et ix i =
      by_first σ k w left fuel j l first (λ ws. t ≡ capped (length ws)) ix i (λ b r tb hb tr hr m.
      let behind = write ix (i + length (first_words ix i b)) (unfolded σ r) in
      capped-sum (length (first_words ix i b)) (length behind) (length-append (first_words ix i b) behind) (eo ix i b tb hb (omega arith)) (er ix _ r tr hr (omega arith)) et)

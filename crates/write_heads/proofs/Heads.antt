-- What a part is written with in front of its body, by its head and by its kind, and the receipts around its body. Assumes
-- nothing.
use Prim.Native.Nat.{ℕ, suc, ◌<◌}
use mathlib.Core.List.{List, [], ◌∷◌, ◌++◌}
use mathlib.Core.Path.{◌≡◌, refl, sym, ap, ◌∙◌}
use lib.ListN.{length, drop}
use borrow.Author.Tests.{lt-ltb}
use Rattle.read_messages.specs.Words.{word}
use Rattle.read_messages.specs.Message.{Message, items}
use Rattle.read_messages.specs.Spelling.{message_at}
use Rattle.read_scripts.specs.Tree.{ambient, action, receipt, output, kind_number}
use Rattle.theory_closures.specs.Resolve.{resolve}
use Rattle.engine_bindings.proofs.Bindings.{message-word}
use Rattle.theory_closures.specs.Closure.{ClosureHead, Bindings, items_left, unfold_head}
use Rattle.engine_states.specs.Represents.{head_of}
use Rattle.engine_states.proofs.Heads.{by_kind, head-action, head-receipt}
use Rattle.theory_written_trees.specs.Write.{Indices, write_message, one_message, write_head, within}
use Rattle.write_heads.specs.Heads.{write_label}

-- ---- a part, by its head

head-words : (ix : Indices) (σ : Bindings) (h : ClosureHead) → (word (kind_number h) 0 ∷ []) ++ write_label ix (unfold_head σ h) ≡ write_head ix (unfold_head σ h)
unfolding kind_number write_label write_head unfold_head
head-words ix σ (ambient m) = refl
head-words ix σ (action a) = refl
head-words ix σ (receipt v) = refl
head-words ix σ (output m) = refl

pub head-label : (ix : Indices) (σ : Bindings) (h : ClosureHead) {w : ℕ} {jx : Indices} → w ≡ word (kind_number h) 0 → jx ≡ ix → (w ∷ []) ++ write_label jx (unfold_head σ h) ≡ write_head ix (unfold_head σ h)
head-label ix σ h e f = rw (e, f) (head-words ix σ h)

pub head-length : (ix : Indices) (σ : Bindings) (h : ClosureHead) → length (write_head ix (unfold_head σ h)) ≡ suc (length (write_label ix (unfold_head σ h)))
head-length ix σ h = sym (ap length (head-words ix σ h))

-- ---- a part, by its kind

module _ (script : List ℕ) (kind start offset : ℕ) (ix : Indices) (σ : Bindings) where
  -- the words of its message, and the message, which stands at the index n
  abbrev label : List ℕ
  label = write_label ix (unfold_head σ (head_of script kind start offset))

  abbrev message_from : ℕ → Message
  message_from n = resolve σ (message_at (drop n script))

  pub label-action : {n : ℕ} → n ≡ start → kind ≡ 2 → write_message ix (one_message (drop offset (items (message_from n)))) ≡ label
  unfolding write_label unfold_head items_left
  label-action f e = ap (λ (n : ℕ). write_message ix (one_message (drop offset (items (message_from n))))) f ∙ sym (ap (λ (h : ClosureHead). write_label ix (unfold_head σ h)) (head-action script kind start offset e))

  pub label-receipt : kind ≡ 3 → label ≡ []
  unfolding write_label unfold_head
  label-receipt e = ap (λ (h : ClosureHead). write_label ix (unfold_head σ h)) (head-receipt script kind start offset e)

  pub label-message : {n : ℕ} → n ≡ start → (kind ≡ 2 → ⊥) → (kind ≡ 3 → ⊥) → start < 65536 → write_message ix (message_from n) ≡ label
  unfolding write_label unfold_head
  label-message {n} f b c s = by_kind script kind start offset (λ h. write_message ix (message_from n) ≡ write_label ix (unfold_head σ h))
      (λ e. ap (λ (o : ℕ). write_message ix (message_from o)) f ∙ ap (λ m. write_message ix (resolve σ m)) (sym (message-word script start (lt-ltb start 65536 s))))
      (λ e. absurd (b e)) (λ e. absurd (c e)) (λ x y z. ap (λ (o : ℕ). write_message ix (message_from o)) f)

  -- the receipts around its body
  pub within-other : (i : ℕ) → (kind ≡ 3 → ⊥) → ix ≡ within (unfold_head σ (head_of script kind start offset)) i ix
  unfolding within unfold_head
  within-other i c = by_kind script kind start offset (λ h. ix ≡ within (unfold_head σ h) i ix) (λ e. refl) (λ e. refl) (λ e. absurd (c e)) (λ x y z. refl)

  pub within-receipt : (i : ℕ) → kind ≡ 3 → (start, i) ∷ ix ≡ within (unfold_head σ (head_of script kind start offset)) i ix
  unfolding within unfold_head
  within-receipt i e = sym (ap (λ (h : ClosureHead). within (unfold_head σ h) i ix) (head-receipt script kind start offset e))

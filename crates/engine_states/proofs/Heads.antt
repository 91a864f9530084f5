-- What the part table and an offset hold of a head, kind by kind. Assumes nothing.
use Prim.Native.Nat.{ℕ, suc, ◌+◌}
use mathlib.Core.Bool.{true, false}
use mathlib.Core.List.{List}
use mathlib.Core.Path.{◌≡◌, refl, sym, ap, ◌∙◌}
use native.Mathlib.Omega.{arith}
use lib.Dec.{eqb}
use lib.ListN.{drop}
use borrow.Author.Tests.{eqb-true, eqb-false}
use Rattle.read_messages.specs.Message.{Message, items, name_of, first_item}
use Rattle.read_messages.specs.Spelling.{message_at}
use Rattle.std.specs.Prelude.{None}
use Rattle.read_messages.specs.declared.First.TheVariants.{Nothing}
use Rattle.read_scripts.specs.Tree.{ambient, action, receipt, output, is_ambient}
use Rattle.theory_closures.specs.Resolve.{resolve}
use Rattle.engine_bindings.specs.Bindings.{message_of}
use Rattle.theory_machine.specs.Moves.{head_name, first_of, spent_head}
use Rattle.base_slices.proofs.Tests.{by_test}
use Rattle.theory_closures.specs.Closure.{ClosureHead, Bindings, items_left, view_under}
use Rattle.engine_states.specs.Represents.{head_of}

module _ (script : List ℕ) (kind start offset : ℕ) where
  abbrev word : Message
  word = message_at (drop start script)

  pub by_kind : (P : ClosureHead → Type 0) → (kind ≡ 1 → P (ambient (message_of script start)))
      → (kind ≡ 2 → P (action (record { offset = offset; message = word }))) → (kind ≡ 3 → P (receipt start))
      → ((kind ≡ 1 → ⊥) → (kind ≡ 2 → ⊥) → (kind ≡ 3 → ⊥) → P (output word)) → P (head_of script kind start offset)
  unfolding head_of
  by_kind P a b r o = by_test (eqb kind 1)
      (λ t. rw t (a (eqb-true kind 1 t)))
      (λ t. by_test (eqb kind 2)
      (λ u. rw (t, u) (b (eqb-true kind 2 u)))
      (λ u. by_test (eqb kind 3)
      (λ v. rw (t, u, v) (r (eqb-true kind 3 v)))
      (λ v. rw (t, u, v) (o (eqb-false kind 1 t) (eqb-false kind 2 u) (eqb-false kind 3 v)))))

  pub head-ambient : kind ≡ 1 → head_of script kind start offset ≡ ambient (message_of script start)
  head-ambient e = by_kind (λ h. h ≡ ambient (message_of script start)) (λ f. refl) (λ f. absurd (omega arith)) (λ f. absurd (omega arith)) (λ a b c. absurd (a e))

  pub head-action : kind ≡ 2 → head_of script kind start offset ≡ action (record { offset = offset; message = word })
  head-action e = by_kind (λ h. h ≡ action (record { offset = offset; message = word })) (λ f. absurd (omega arith)) (λ f. refl) (λ f. absurd (omega arith)) (λ a b c. absurd (b e))

  pub head-receipt : kind ≡ 3 → head_of script kind start offset ≡ receipt start
  head-receipt e = by_kind (λ h. h ≡ receipt start) (λ f. absurd (omega arith)) (λ f. absurd (omega arith)) (λ f. refl) (λ a b c. absurd (c e))

  -- an action with one item more spent; every other part is the same at each offset
  pub head-spent : (σ : Bindings) → head_of script kind start (offset + 1) ≡ spent_head (view_under σ) (head_of script kind start offset)
  unfolding head_of spent_head
  head-spent σ = by_test (eqb kind 1)
      (λ t. rw t)
      (λ t. by_test (eqb kind 2)
      (λ u. let e : offset + 1 ≡ suc offset = omega arith in rw (t, u) (ap (λ (o : ℕ). action (record { offset = o; message = word })) e))
      (λ u. by_test (eqb kind 3) (λ v. rw (t, u, v)) (λ v. rw (t, u, v))))

  -- who is an ambient
  pub is-ambient : kind ≡ 1 → is_ambient (head_of script kind start offset) ≡ true
  unfolding is_ambient
  is-ambient e = ap is_ambient (head-ambient e)

  pub not-ambient : (kind ≡ 1 → ⊥) → is_ambient (head_of script kind start offset) ≡ false
  unfolding is_ambient
  not-ambient n = by_kind (λ h. is_ambient h ≡ false) (λ f. absurd (n f)) (λ f. refl) (λ f. refl) (λ a b c. refl)

  pub kind-ambient : eqb kind 1 ≡ is_ambient (head_of script kind start offset)
  kind-ambient = by_test (eqb kind 1) (λ t. t ∙ sym (is-ambient (eqb-true kind 1 t))) (λ t. t ∙ sym (not-ambient (eqb-false kind 1 t)))

  module _ (σ : Bindings) where
    pub no_name : (kind ≡ 1 → ⊥) → None ≡ head_name (view_under σ) (head_of script kind start offset)
    unfolding head_name
    no_name n = by_kind (λ h. None ≡ head_name (view_under σ) h) (λ f. absurd (n f)) (λ f. refl) (λ f. refl) (λ a b c. refl)

    pub the-name : kind ≡ 1 → name_of (resolve σ (message_of script start)) ≡ head_name (view_under σ) (head_of script kind start offset)
    unfolding head_name
    the-name e = sym (ap (head_name (view_under σ)) (head-ambient e))

    pub no_item : (kind ≡ 2 → ⊥) → Nothing ≡ first_of (view_under σ) (head_of script kind start offset)
    unfolding first_of
    no_item n = by_kind (λ h. Nothing ≡ first_of (view_under σ) h) (λ f. refl) (λ f. absurd (n f)) (λ f. refl) (λ a b c. refl)

    pub the-item : kind ≡ 2 → first_item (drop offset (items (resolve σ word))) ≡ first_of (view_under σ) (head_of script kind start offset)
    unfolding first_of items_left
    the-item e = sym (ap (first_of (view_under σ)) (head-action e))

-- What a part and a body are written with, by the body of the part and by the first part of the body. Assumes nothing.
use Prim.Native.Nat.{ℕ, ◌+◌, ◌^◌, ◌≤◌, ◌<◌}
use mathlib.Core.Bool.{true, false, true≢false}
use mathlib.Core.List.{List, [], ◌∷◌, ◌++◌, append-nil, tail}
use mathlib.Core.Path.{◌≡◌, refl, sym, ap, ◌∙◌, subst}
use native.Mathlib.Omega.{arith}
use lib.ListN.{length}
use Rattle.read_messages.specs.Words.{word}
use Rattle.base_sets.specs.Sets.{members, head_or}
use Rattle.base_sets.proofs.Members.{first-is}
use Rattle.read_scripts.specs.Tree.{ambient, action, receipt, output, close, part, tops, total_over, parts, map_heads, Plain}
use Rattle.read_scripts.specs.Represents.{Held}
use Rattle.theory_closures.specs.Resolve.{resolve}
use Rattle.theory_closures.specs.Closure.{ClosureHead, Closure, Bindings, unfold_head, unfolded}
use Rattle.engine_states.proofs.Holding.{no-cons}
use Rattle.theory_written_trees.specs.Write.{Indices, write_head, within, write_inside, write, write_part}
use Rattle.theory_written_trees.proofs.Trees.{write-part}
use Rattle.write_heads.specs.Heads.{has_body}

-- ---- a part, by its body

pub part_body : (ix : Indices) (i : ℕ) (σ : Bindings) (h : ClosureHead) (b : Plain) → has_body h ≡ true
    → write_head ix (unfold_head σ h) ++ write (within (unfold_head σ h) i ix) (i + length (write_head ix (unfold_head σ h))) b ≡ write_part ix i (unfold_head σ h) b
unfolding has_body write_part write_inside unfold_head
part_body ix i σ (ambient m) b t = refl
part_body ix i σ (action a) b t = refl
part_body ix i σ (receipt v) b t = refl
part_body ix i σ (output m) b t = absurd (true≢false (sym t))

pub part-only : (ix : Indices) (i : ℕ) (σ : Bindings) (h : ClosureHead) (b : Plain) → has_body h ≡ false → write_head ix (unfold_head σ h) ≡ write_part ix i (unfold_head σ h) b
unfolding has_body write_part write_inside unfold_head
part-only ix i σ (ambient m) b t = absurd (true≢false t)
part-only ix i σ (action a) b t = absurd (true≢false t)
part-only ix i σ (receipt v) b t = absurd (true≢false t)
part-only ix i σ (output m) b t = sym (append-nil (write_head ix (output (resolve σ m))))

-- ---- a body, by its first part

unfolded-part : (σ : Bindings) (k : ℕ) (h : ClosureHead) (b r : Closure) → unfolded σ (part k h b r) ≡ part k (unfold_head σ h) (unfolded σ b) (unfolded σ r)
unfolding unfolded map_heads
unfolded-part σ k h b r = refl

write-close : (ix : Indices) (i : ℕ) (σ : Bindings) → write ix i (unfolded σ close) ≡ word 0 0 ∷ []
unfolding unfolded map_heads write
write-close ix i σ = refl

-- a closure with no parts
pub no-tops : (left : List ℕ) → left ≡ [] → (ix : Indices) (i : ℕ) (σ : Bindings) (b : Closure) → left ≡ tops b → word 0 0 ∷ [] ≡ write ix i (unfolded σ b)
unfolding tops
no-tops left z ix i σ close e = sym (write-close ix i σ)
no-tops left z ix i σ (part k h b r) e = absurd (no-cons k (tops r) (sym e ∙ z))

pub no-parts : (fuel : ℕ) → fuel ≡ 0 → (ix : Indices) (i : ℕ) (σ : Bindings) (b : Closure) → parts b ≤ fuel → word 0 0 ∷ [] ≡ write ix i (unfolded σ b)
unfolding total_over
no-parts fuel z ix i σ close m = sym (write-close ix i σ)
no-parts fuel z ix i σ (part k h b r) m = absurd (let y : ⊥ = omega arith in y)

-- the first part and those beside it, as sets give them
pub first_part : (left i l : ℕ) → left < 2 ^ 64 → (left ≡ 0 → ⊥) → i ≡ head_or 64 (members left) → members l ≡ tail (members left) → members left ≡ i ∷ members l
first_part left i l h n f e = first-is left i h n f ∙ ap (λ (ms : List ℕ). i ∷ ms) (sym e)

module _ (σ : Bindings) (k : ℕ → List ℕ) (w : ℕ → ClosureHead) (left : List ℕ) (fuel j : ℕ) (l : List ℕ) (first : left ≡ j ∷ l) where
  -- the words of the first part, and of those beside it
  abbrev first_words : Indices → ℕ → Closure → List ℕ
  first_words ix i b = write_part ix i (unfold_head σ (w j)) (unfolded σ b)

  abbrev both_words : Indices → ℕ → Closure → Closure → List ℕ
  both_words ix i b r = first_words ix i b ++ write ix (i + length (first_words ix i b)) (unfolded σ r)

  pub by_first : (Q : List ℕ → Type 0) (ix : Indices) (i : ℕ)
      → ((b r : Closure) → k j ≡ tops b → Held k w b → l ≡ tops r → Held k w r → parts b + parts r < fuel → Q (both_words ix i b r))
      → (b : Closure) → left ≡ tops b → Held k w b → parts b ≤ fuel → Q (write ix i (unfolded σ b))
  unfolding tops total_over
  by_first Q ix i f close e h m = absurd (no-cons j l (sym first ∙ e))
  by_first Q ix i f (part n g b r) e h m =
      let p : j ≡ n = ap (head_or 0) (sym first ∙ e) in
      let a : w j ≡ g = ap w p ∙ h.1 in
      let c : k j ≡ tops b = ap k p ∙ h.0 in
      let words : both_words ix i b r ≡ write ix i (unfolded σ (part n g b r)) =
      write-part ix i n (unfold_head σ (w j)) (unfolded σ b) (unfolded σ r)
      ∙ ap (λ (x : ClosureHead). write ix i (part n (unfold_head σ x) (unfolded σ b) (unfolded σ r))) a
      ∙ ap (write ix i) (sym (unfolded-part σ n g b r)) in
      subst Q words (f b r c h.2 (ap tail (sym first ∙ e)) h.3 (omega arith))

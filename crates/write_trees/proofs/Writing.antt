-- What the writers of bodies and parts write, by what the writers write that they call. Assumes nothing.
use Prim.Native.Nat.{ℕ, ◌+◌, ◌-◌}
use mathlib.Core.Bool.{true, false}
use mathlib.Core.List.{List, [], ◌∷◌}
use mathlib.Core.Path.{◌≡◌}
use native.Mathlib.Omega.{arith}
use lib.ListN.{length}
use Rattle.read_messages.specs.Words.{word}
use Rattle.theory_closures.specs.Closure.{ClosureHead, Bindings, unfold_head, unfolded}
use Rattle.theory_written_trees.specs.Write.{Indices, write_head, within, write, write_part}
use Rattle.theory_written_trees.proofs.Trees.{some_written}
use Rattle.write_messages.specs.Buffer.{Wrote}
use Rattle.write_messages.proofs.Lending.{lent, joined, Partly, partly-within, wrote_as, wrote_then, wrote-full}
use Rattle.write_heads.specs.Heads.{has_body}
use Rattle.write_heads.proofs.Parts.{no-tops, no-parts, part_body, part-only, by_first}
use Rattle.write_trees.specs.Bodies.{Writes, WritesPart}

module _ {ix : Indices} {σ : Bindings} {k : ℕ → List ℕ} {w : ℕ → ClosureHead} {left : List ℕ} {i fuel : ℕ} where
  -- a buffer of no words has no room for any body
  pub writes-full : {xs ys : List ℕ} → length xs ≡ 0 → Writes ix σ k w left i fuel xs ys 0
  writes-full z = record { within = omega arith; written = λ b e g m. wrote-full (omega (arith, some_written ix i (unfolded σ b))) }

  -- one CLOSE
  pub writes-none : {xs ys : List ℕ} {r : ℕ} → left ≡ [] → Wrote (word 0 0 ∷ []) xs ys r → Writes ix σ k w left i fuel xs ys r
  writes-none z c = record { within = c.within; written = λ b e g m. wrote_as (no-tops left z ix i σ b e) c }

  pub writes_end : {xs ys : List ℕ} {r : ℕ} → fuel ≡ 0 → Wrote (word 0 0 ∷ []) xs ys r → Writes ix σ k w left i fuel xs ys r
  writes_end z c = record { within = c.within; written = λ b e g m. wrote_as (no-parts fuel z ix i σ b m) c }

  -- the first part, and then those beside it
  pub writes_more : (j : ℕ) (l : List ℕ) → left ≡ j ∷ l → {xs ys zs : List ℕ} {m r : ℕ} → Partly xs ys m
      → WritesPart ix σ k w (k j) (w j) i (fuel - 1) xs ys m → Writes ix σ k w l (i + m) (fuel - 1) (lent m ys) zs r → Writes ix σ k w left i fuel xs (joined m ys zs) (r + m)
  writes_more j l first {xs} {ys} {zs} {m} {r} p one' rest = record {
    within = partly-within p rest.within;
    written = by_first σ k w left fuel j l first (λ ws. Wrote ws xs (joined m ys zs) (r + m)) ix i (λ b q tb hb tq hq f.
        wrote_then p (one'.written b tb hb (omega (arith, f))) rest.within (λ z.
        let e : write ix (i + m) (unfolded σ q) ≡ write ix (i + length (write_part ix i (unfold_head σ (w j)) (unfolded σ b))) (unfolded σ q) = rw z in
        wrote_as e (rest.written q tq hq (omega (arith, f)))));
  }

  module _ {h : ClosureHead} {xs ys : List ℕ} {m : ℕ} (head : Wrote (write_head ix (unfold_head σ h)) xs ys m) where
    -- a part's head, and then its body
    pub writes-inside : has_body h ≡ true → {jx : Indices} → jx ≡ within (unfold_head σ h) i ix → {zs : List ℕ} {r : ℕ} → Partly xs ys m
        → Writes jx σ k w left (i + m) fuel (lent m ys) zs r → WritesPart ix σ k w left h i fuel xs (joined m ys zs) (r + m)
    writes-inside t {jx} ej p body = record {
      within = partly-within p body.within;
      written = λ b e g f. wrote_as (part_body ix i σ h (unfolded σ b) t) (wrote_then p head body.within (λ z.
          let q : write jx (i + m) (unfolded σ b) ≡ write (within (unfold_head σ h) i ix) (i + length (write_head ix (unfold_head σ h))) (unfolded σ b) = rw (ej, z) in
          wrote_as q (body.written b e g f)));
    }

    pub writes-only : has_body h ≡ false → WritesPart ix σ k w left h i fuel xs ys m
    writes-only t = record { within = head.within; written = λ b e g f. wrote_as (part-only ix i σ h (unfolded σ b) t) head }

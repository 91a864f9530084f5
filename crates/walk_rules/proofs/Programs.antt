-- A rule and its table in one array: before the first entry, one entry more, and all. Assumes nothing.
use Prim.Native.Nat.{ℕ, ◌+◌, ◌<◌}
use mathlib.Core.List.{List}
use mathlib.Core.Path.{◌≡◌, refl, sym, ◌∙◌, subst}
use native.Mathlib.Omega.{arith}
use lib.Dec.{eqb}
use lib.ListN.{get_or, set, length, length-set, replicate}
use lib.Seq.{get_or-set_same, get_or-set_other}
use borrow.Author.Tests.{eqb-true, eqb-false}
use Rattle.base_slices.proofs.Tests.{by_test}
use Rattle.walk_rules.specs.Walking.{Loading}

pub loading-none : (words rights placings : List ℕ) → Loading words rights placings (replicate 768 0) 0
loading-none words rights placings =
    let none : (j : ℕ) → j < 0 → ⊥ = λ j h. omega arith in
    record { long = refl; word = λ j h. absurd (none j h); right = λ j h. absurd (none j h); number = λ j h. absurd (none j h) }

module _ {words rights placings program : List ℕ} {i w r n : ℕ} (L : Loading words rights placings program i) (low : i < 256) (ew : w ≡ get_or words i 0) (er : r ≡ get_or rights i 0) (en : n ≡ get_or placings i 0) where
  abbrev once : List ℕ
  once = set program i w

  abbrev twice : List ℕ
  twice = set once (256 + i) r

  abbrev thrice : List ℕ
  thrice = set twice (512 + i) n

  twice-long : length twice ≡ 768
  twice-long = length-set once (256 + i) r ∙ length-set program i w ∙ L.long

  past : (k : ℕ) → (k ≡ i → ⊥) → (k ≡ 256 + i → ⊥) → (k ≡ 512 + i → ⊥) → get_or thrice k 0 ≡ get_or program k 0
  past k a b c = get_or-set_other twice (512 + i) k n 0 c ∙ get_or-set_other once (256 + i) k r 0 b ∙ get_or-set_other program i k w 0 a

  -- an entry is the new one, or one of those before it
  split-last : (P : ℕ → Type 0) → P i → ((j : ℕ) → j < i → P j) → (j : ℕ) → j < i + 1 → P j
  split-last P new old j h = by_test (eqb j i) (λ t. subst P (sym (eqb-true j i t)) new) (λ t. let z : j ≡ i → ⊥ = eqb-false j i t in old j (omega arith))

  pub loading-more : Loading words rights placings thrice (i + 1)
  loading-more = record {
    long = length-set twice (512 + i) n ∙ twice-long;
    word = split-last (λ (j : ℕ). get_or thrice j 0 ≡ get_or words j 0)
        (get_or-set_other twice (512 + i) i n 0 (λ z. omega arith) ∙ get_or-set_other once (256 + i) i r 0 (λ z. omega arith) ∙ get_or-set_same program i w 0 (let l = L.long in omega (arith, l)) ∙ ew)
        (λ j g. past j (λ z. omega arith) (λ z. omega arith) (λ z. omega arith) ∙ L.word j g);
    right = split-last (λ (j : ℕ). get_or thrice (256 + j) 0 ≡ get_or rights j 0)
        (get_or-set_other twice (512 + i) (256 + i) n 0 (λ z. omega arith) ∙ get_or-set_same once (256 + i) r 0 (let l : length once ≡ 768 = length-set program i w ∙ L.long in omega (arith, l)) ∙ er)
        (λ j g. past (256 + j) (λ z. omega arith) (λ z. omega arith) (λ z. omega arith) ∙ L.right j g);
    number = split-last (λ (j : ℕ). get_or thrice (512 + j) 0 ≡ get_or placings j 0)
        (get_or-set_same twice (512 + i) n 0 (omega (arith, twice-long)) ∙ en)
        (λ j g. past (512 + j) (λ z. omega arith) (λ z. omega arith) (λ z. omega arith) ∙ L.number j g);
  }

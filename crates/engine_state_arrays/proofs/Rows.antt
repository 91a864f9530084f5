-- The rows of the bindings in the numbers: read, written, and where numbers elsewhere change. Assumes nothing.
use Prim.Native.Nat.{ℕ, zero, suc, ◌+◌, ◌*◌, ◌-◌, ◌≤◌, ◌<◌}
use mathlib.Core.List.{List, ◌∷◌}
use mathlib.Core.Path.{◌≡◌, refl, sym, ap, ap₂, ◌∙◌, subst}
use native.Mathlib.Omega.{arith}
use lib.ListN.{get_or, length, drop, length-drop}
use lib.Seq.{ext_get_or, get_or-drop}
use Rattle.engine_message_words.specs.Words.{binding_at}
use Rattle.engine_message_words.specs.declared.Binding.{Binding}
use Rattle.engine_state_arrays.specs.Lent.{row_at, rows_at}

-- the binding that stands where there is none
abbrev free : Binding
free = record { variable = 0; source = 0; count = 0; size = 0; bulk = 0 }

pub length-rows : (at n : ℕ) (l : List ℕ) → length (rows_at at n l) ≡ n
unfolding rows_at
length-rows at zero l = refl
length-rows at (suc n) l = ap suc (length-rows (at + 5) n l)

pub binding_at-rows : (at n j : ℕ) (l : List ℕ) → j < n → binding_at (rows_at at n l) j ≡ row_at (at + 5 * j) l
unfolding rows_at
binding_at-rows at zero j l m = absurd (let z : ⊥ = omega arith in z)
binding_at-rows at (suc n) zero l m = let e : at ≡ at + 5 * 0 = omega arith in ap (λ (x : ℕ). row_at x l) e
binding_at-rows at (suc n) (suc j) l m =
    let e : at + 5 + 5 * j ≡ at + 5 * suc j = omega arith in
    binding_at-rows (at + 5) n j l (omega arith) ∙ ap (λ (x : ℕ). row_at x l) e

-- rows of numbers that agree there
row-same : (at : ℕ) (l k : List ℕ) → ((j : ℕ) → at ≤ j → j < at + 5 → get_or l j 0 ≡ get_or k j 0) → row_at at l ≡ row_at at k
row-same at l k same =
    let a = same at (omega arith) (omega arith) in
    let b = same (at + 1) (omega arith) (omega arith) in
    let c = same (at + 2) (omega arith) (omega arith) in
    let d = same (at + 3) (omega arith) (omega arith) in
    let e = same (at + 4) (omega arith) (omega arith) in
    λ q. record { variable = a q; source = b q; count = c q; size = d q; bulk = e q }

pub rows-same : (at n : ℕ) (l k : List ℕ) → ((j : ℕ) → at ≤ j → j < at + 5 * n → get_or l j 0 ≡ get_or k j 0) → rows_at at n l ≡ rows_at at n k
unfolding rows_at
rows-same at zero l k same = refl
rows-same at (suc n) l k same = ap₂ (λ (b : Binding) (bs : List Binding). b ∷ bs) (row-same at l k (λ j a b. same j a (omega arith))) (rows-same (at + 5) n l k (λ j a b. same j (omega arith) (omega arith)))

-- ---- written

-- those below i stand where they belong
abbrev pub Written : (rows : List Binding) (i : ℕ) (numbers : List ℕ) → Type 0
Written rows i numbers = (j : ℕ) → j < i → row_at (320 + 5 * j) numbers ≡ binding_at rows j

pub written_all : (rows : List Binding) (numbers : List ℕ) → length rows ≡ 32 → Written rows 32 numbers → rows_at 320 32 numbers ≡ rows
written_all rows numbers long W = ext_get_or free (rows_at 320 32 numbers) rows (length-rows 320 32 numbers ∙ sym long)
    (λ j m. let l : j < 32 = subst (λ (x : ℕ). j < x) (length-rows 320 32 numbers) m in binding_at-rows 320 32 j numbers l ∙ W j l)

-- ---- read

-- the rows from `from` on and below i are read
abbrev pub Read : (numbers : List ℕ) (from i : ℕ) (rows : List Binding) → Type 0
Read numbers from i rows = (j : ℕ) → from ≤ j → j < i → binding_at rows j ≡ row_at (320 + 5 * j) numbers

pub read_all : (numbers : List ℕ) (from : ℕ) (rows : List Binding) → length rows ≡ 32 → Read numbers from 32 rows → drop from rows ≡ drop from (rows_at 320 32 numbers)
read_all numbers from rows long R = ext_get_or free (drop from rows) (drop from (rows_at 320 32 numbers))
    (length-drop from rows ∙ ap (λ (n : ℕ). n - from) (long ∙ sym (length-rows 320 32 numbers)) ∙ sym (length-drop from (rows_at 320 32 numbers)))
    (λ j m.
    let l : from + j < 32 = omega (arith, m, length-drop from rows, long) in
    get_or-drop from rows j free ∙ R (from + j) (omega arith) l ∙ sym (binding_at-rows 320 32 (from + j) numbers l) ∙ sym (get_or-drop from (rows_at 320 32 numbers) j free))

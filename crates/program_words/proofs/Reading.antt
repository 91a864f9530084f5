-- The input's words. Assumes nothing.
use Prim.Native.Nat.{ℕ, zero, suc, ◌+◌, ◌*◌, ◌≤◌, ◌<◌}
use mathlib.Core.List.{List}
use mathlib.Core.Path.{◌≡◌, refl, sym, ap, ◌∙◌, subst}
use native.Mathlib.Nat.{zero-add}
use native.Mathlib.Numerals.{add-one}
use native.Mathlib.Omega.{arith}
use lib.ListN.{length, take, drop, get_or, set}
use lib.Seq.{drop-drop, paste, paste-zero, paste-suc, take-paste, take_all}
use Rattle.program_words.specs.Words.{word_of, words_of}

pub length-words : (n : ℕ) (s : List ℕ) → length (words_of n s) ≡ n
unfolding words_of
length-words zero s = refl
length-words (suc n) s = ap suc (length-words n (drop 4 s))

get_or-words : (n i : ℕ) (s : List ℕ) → i < n → get_or (words_of n s) i 0 ≡ word_of (drop (4 * i) s)
unfolding words_of
get_or-words zero i s l = absurd (let z : ⊥ = omega (arith, l) in z)
get_or-words (suc n) zero s l = refl
get_or-words (suc n) (suc i) s l =
    let e : 4 + 4 * i ≡ 4 * suc i = omega arith in
    get_or-words n i (drop 4 s) (omega (arith, l)) ∙ ap word_of (drop-drop (4 * i) 4 s ∙ ap (λ (k : ℕ). drop k s) e)

-- the first i words stand in the buffer
abbrev pub Unpacked : (old new input : List ℕ) (count i : ℕ) → Type 0
Unpacked old new input count i = (length new ≡ length old) × (new ≡ paste old 0 (words_of count input) i)

pub unpacked-none : (old input : List ℕ) (count : ℕ) → Unpacked old old input count 0
unpacked-none old input count = (refl, paste-zero old 0 (words_of count input))

pub unpacked-next : (old new input : List ℕ) (count i v : ℕ) → i < count → count ≤ length old → length (set new i v) ≡ length new → v ≡ word_of (drop (4 * i) input) → Unpacked old new input count i → Unpacked old (set new i v) input count (i + 1)
unpacked-next old new input count i v l m k e u =
    let a : 0 + i < length old = omega arith in
    let b : i < length (words_of count input) = subst (λ (n : ℕ). i < n) (sym (length-words count input)) l in
    let d : v ≡ get_or (words_of count input) i 0 = e ∙ sym (get_or-words count i input l) in (
      k ∙ u.0,
      (λ t. set (u.1 t) (sym (zero-add i) t) (d t)) ∙ paste-suc old 0 (words_of count input) i 0 a b ∙ ap (λ (n : ℕ). paste old 0 (words_of count input) n) (sym (add-one i)),
    )

pub unpacked-all : (old new input : List ℕ) (count : ℕ) (i : ℕ) → count ≤ i → i ≤ count → Unpacked old new input count i → take count new ≡ words_of count input
unpacked-all old new input count i l m u =
    let e : i ≡ count = omega arith in
    let b : count ≤ length (words_of count input) = omega (arith, length-words count input) in
    let z : 0 ≤ length old = omega arith in
    ap (take count) (u.1 ∙ ap (λ (n : ℕ). paste old 0 (words_of count input) n) e)
    ∙ ap (λ (n : ℕ). take n (paste old 0 (words_of count input) count)) (sym (zero-add count))
    ∙ take-paste old 0 (words_of count input) count z b
    ∙ take_all count (words_of count input) (omega (arith, length-words count input))

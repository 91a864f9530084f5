-- An action's items as they are written, one after another. Assumes nothing.
use Prim.Native.Nat.{ℕ, suc, ◌+◌, ◌-◌, ◌≤◌, ◌<◌}
use mathlib.Core.List.{List, [], ◌∷◌, ◌++◌, append_assoc, append-nil}
use mathlib.Core.Path.{◌≡◌, refl, sym, ap, ◌∙◌}
use native.Mathlib.Omega.{arith}
use lib.ListN.{length, drop, length-append, length-drop, drop_of_length-le}
use lib.Seq.{drop-nil}
use borrow.Author.Tests.{le-leb, lt-leb}
use Rattle.read_messages.specs.Words.{word}
use Rattle.read_messages.specs.Message.{Message}
use Rattle.read_messages.specs.Spelling.{spelled, message_at}
use Rattle.theory_closures.specs.Resolve.{resolve}
use Rattle.base_slices.specs.Sums.{capped}
use Rattle.engine_bindings.specs.Passes.{firsts}
use Rattle.base_slices.proofs.Capping.{whole-count, below-count}
use Rattle.engine_bindings.proofs.Counting.{drop-within}
use Rattle.theory_written_trees.specs.Write.{Indices, write_message, one_message}
use Rattle.write_messages.specs.Passes.{all_written, link, strung}
use Rattle.write_messages.proofs.Words.{some_words, one_written}

pub link-more : (l : ℕ) → 1 < l → word 14 0 ∷ [] ≡ link l
unfolding link
link-more l h = rw (lt-leb l 1 h)

pub link-last : (l : ℕ) → l ≤ 1 → link l ≡ []
unfolding link
link-last l h = rw (le-leb l 1 h)

strung-append : (ix : Indices) (l : ℕ) (a b : List Message) → strung ix l (a ++ b) ≡ strung ix l a ++ strung ix (l - length a) b
unfolding strung
strung-append ix l [] b = let e : l - 0 ≡ l = omega arith in rw e
strung-append ix l (m ∷ a) b =
    let e : l - suc (length a) ≡ l - 1 - length a = omega arith in
    rw (e, strung-append ix (l - 1) a b) (sym (append_assoc (link l ++ write_message ix m) (strung ix (l - 1) a) (strung ix (l - 1 - length a) b)))

-- no item is written with no word
strung-length : (ix : Indices) (l : ℕ) (is : List Message) → length is ≤ length (strung ix l is)
unfolding strung
strung-length ix l [] = omega arith
strung-length ix l (m ∷ is) =
    omega (arith, length-append (link l ++ write_message ix m) (strung ix (l - 1) is), length-append (link l) (write_message ix m), some_words ix m, strung-length ix (l - 1) is)

whole-strung : (ix : Indices) (m : Message) (ms : List Message) → strung ix (suc (length ms)) (m ∷ ms) ≡ write_message ix (one_message (m ∷ ms))
unfolding strung one_message write_message
whole-strung ix m [] = rw (link-last 1 (omega arith)) (append-nil (write_message ix m))
whole-strung ix m (k ∷ ms) =
    let e : suc (suc (length ms)) - 1 ≡ suc (length ms) = omega arith in
    rw (← link-more (suc (suc (length ms))) (omega arith), e, whole-strung ix k ms)

strung-whole : (ix : Indices) (l : ℕ) (is : List Message) → l ≡ length is → 0 < length is → strung ix l is ≡ write_message ix (one_message is)
strung-whole ix l [] e h = absurd (omega arith)
strung-whole ix l (m ∷ is) e h = rw e (whole-strung ix m is)

pub strung-none : (ix : Indices) (l o : ℕ) (x : List Message) → x ≡ [] → strung ix l (drop o x) ≡ []
unfolding strung
strung-none ix l o x e = rw (e, drop-nil {A = Message} o)

-- the item that a message is as a whole
pub strung-single : (ix : Indices) (σ : List (ℕ × Message)) (n : ℕ) (x : List Message) (l : List ℕ) → x ≡ resolve σ (message_at l) ∷ []
    → link n ++ all_written ix σ (firsts 1 (spelled l)) ≡ strung ix n x
unfolding strung
strung-single ix σ n x l e = rw (e, one_written ix σ {l = l} refl) (sym (append-nil (link n ++ write_message ix (resolve σ (message_at l)))))

-- Where what is written is short, the number of the items is the one that is kept.
exact : (ix : Indices) (l o c : ℕ) (a : List Message) → c ≡ capped (length a) → o < c → o + length (strung ix l (drop o a)) < 4294967295 → c ≡ length a
unfolding capped
exact ix l o c a e h b = omega (arith, strung-length ix l (drop o a), length-drop o a)

-- the items before, and those behind
pub strung-split : (ix : Indices) (l o c n : ℕ) (x a b : List Message) → x ≡ a ++ b → c ≡ capped (length a) → o < c → n ≡ l - (c - o)
    → o + length (strung ix l (drop o x)) < 4294967295 → strung ix l (drop o a) ++ strung ix n b ≡ strung ix l (drop o x)
strung-split ix l o c n x a b e p h q w =
    let s : strung ix l (drop o x) ≡ strung ix l (drop o a) ++ strung ix (l - length (drop o a)) b = ap (strung ix l) (sym (drop-within x a b o c e p h)) ∙ strung-append ix l (drop o a) b in
    let k : c ≡ length a = exact ix l o c a p h (omega (arith, ap length s, length-append (strung ix l (drop o a)) (strung ix (l - length (drop o a)) b))) in
    let z : n ≡ l - length (drop o a) = omega (arith, length-drop o a) in
    rw z (sym s)

pub items-none : (ix : Indices) (o c : ℕ) (is : List Message) → c ≡ capped (length is) → c ≤ o → o < 4294967295 → word 13 0 ∷ [] ≡ write_message ix (one_message (drop o is))
items-none ix o c is e h p =
    let z : c ≡ length is = whole-count (length is) o c e h p in
    let d : drop o is ≡ [] = drop_of_length-le is {i = o} (omega arith) in
    rw d (unfold one_message write_message in refl)

pub items-some : (ix : Indices) (o c : ℕ) (is : List Message) → c ≡ capped (length is) → o < c → {x : List Message} → x ≡ is → o + length (write_message ix (one_message (drop o is))) < 4294967295
    → strung ix (c - o) (drop o x) ≡ write_message ix (one_message (drop o is))
items-some ix o c is e h f w =
    let u : o < length is = below-count (length is) o c e h in
    let t : strung ix (length (drop o is)) (drop o is) ≡ write_message ix (one_message (drop o is)) = strung-whole ix (length (drop o is)) (drop o is) refl (omega (arith, length-drop o is)) in
    let k : c ≡ length is = exact ix (length (drop o is)) o c is e h (omega (arith, ap length t)) in
    let z : c - o ≡ length (drop o is) = omega (arith, length-drop o is) in
    rw (f, z) t

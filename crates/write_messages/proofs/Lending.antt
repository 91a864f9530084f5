-- Writing at the front of a buffer, and lending the tail behind it: one law for every lending. Assumes nothing.
use Prim.Native.Nat.{ℕ, ◌+◌, ◌-◌, ◌*◌, ◌^◌, ◌≤◌, ◌<◌}
use mathlib.Core.List.{List, [], ◌∷◌, ◌++◌, append_assoc, append-nil}
use mathlib.Core.Path.{◌≡◌, refl, sym, ap, ◌∙◌}
use native.Mathlib.Omega.{arith}
use lib.ListN.{length, take, drop, set, length-append, length-drop, drop_of_length-le}
use lib.Seq.{take_all, drop-drop, take_at, drop_at}
use Rattle.write_messages.specs.Buffer.{over, Front, Wrote}

-- the tail of the buffer behind m words, as it is lent, and the buffer when the tail comes back as ys
abbrev pub lent : ℕ → List ℕ → List ℕ
lent m xs = take (length xs - m) (drop m xs)

abbrev pub joined : ℕ → List ℕ → List ℕ → List ℕ
joined m xs ys = take m xs ++ (ys ++ drop (length xs - m) (drop m xs))

lent_is : (m : ℕ) (xs : List ℕ) → lent m xs ≡ drop m xs
lent_is m xs = take_all (length xs - m) (drop m xs) (omega (arith, length-drop m xs))

lent_length : (m : ℕ) (xs : List ℕ) → length (lent m xs) ≡ length xs - m
lent_length m xs = ap length (lent_is m xs) ∙ length-drop m xs

none-behind : (m : ℕ) (xs : List ℕ) → drop (length xs - m) (drop m xs) ≡ []
none-behind m xs = drop_of_length-le (drop m xs) {i = length xs - m} (omega (arith, length-drop m xs))

joined_is : (m : ℕ) (xs ys : List ℕ) → joined m xs ys ≡ take m xs ++ ys
joined_is m xs ys = rw (none-behind m xs, append-nil ys)

-- A is written at the front, and B at the front of the tail behind it: together A ++ B.
over-more : (A B xs ys zs : List ℕ) (m : ℕ) → m ≡ length A → ys ≡ over A xs → zs ≡ over B (lent m ys) → joined m ys zs ≡ over (A ++ B) xs
unfolding over
over-more A B xs ys zs m e y z =
    let d : lent m ys ≡ drop (length A) xs = lent_is m ys ∙ ap (drop m) y ∙ drop_at A (drop (length A) xs) m (sym e) in
    let f : take m ys ≡ A = ap (take m) y ∙ take_at A (drop (length A) xs) m (sym e) in
    let g : zs ≡ B ++ drop (length B) (drop (length A) xs) = z ∙ ap (λ (r : List ℕ). B ++ drop (length B) r) d in
    joined_is m ys zs ∙ rw (f, g, length-append A B, drop-drop (length B) (length A) xs) (sym (append_assoc A B (drop (length A + length B) xs)))

-- The first writer says m words, and leaves the buffer xs as ys, with its length: then the tail behind them is lent.
pub record Partly (xs ys : List ℕ) (m : ℕ) : Type 0 where
  pub long : length xs * 4 < 2 ^ 63
  pub within : m ≤ length xs
  pub kept : length ys ≡ length xs

pub partly-lent : {xs ys : List ℕ} {m : ℕ} → Partly xs ys m → length (lent m ys) + m ≡ length xs
partly-lent {xs} {ys} {m} b = omega (arith, lent_length m ys, b.within, b.kept)

pub partly-within : {xs ys : List ℕ} {m r : ℕ} → Partly xs ys m → r ≤ length (lent m ys) → r + m ≤ length xs
partly-within b h = omega (arith, partly-lent b)

pub wrote_as : {A B xs ys : List ℕ} {r : ℕ} → A ≡ B → Wrote A xs ys r → Wrote B xs ys r
wrote_as {A} {B} {xs} {ys} {r} e w = rw (← e) w

pub wrote-if : {A B xs ys : List ℕ} {r : ℕ} → (length B ≤ length xs → A ≡ B) → Wrote A xs ys r → Wrote B xs ys r
wrote-if {A} {B} {xs} {ys} {r} f w = record { within = w.within; right = λ h. (wrote_as (f h) w).right h }

-- one writer after another; what the second writes may go by the number of words that the first wrote
pub wrote_then : {A B xs ys zs : List ℕ} {m r : ℕ} → Partly xs ys m → Wrote A xs ys m → r ≤ length (lent m ys) → (m ≡ length A → Wrote B (lent m ys) zs r) → Wrote (A ++ B) xs (joined m ys zs) (r + m)
wrote_then {A} {B} {xs} {ys} {zs} {m} {r} b f k g = record { within = partly-within b k; right = both }
  where
    both : length (A ++ B) ≤ length xs → Front (A ++ B) xs (joined m ys zs) (r + m)
    both h =
        let l : length (A ++ B) ≡ length A + length B = length-append A B in
        let p = f.right (omega arith) in
        let q = (g p.number).right (omega (arith, partly-lent b, p.number)) in
        record { number = omega (arith, p.number, q.number); content = over-more A B xs ys zs m p.number p.content q.content }

pub wrote-more : {A B xs ys zs : List ℕ} {m r : ℕ} → Partly xs ys m → Wrote A xs ys m → Wrote B (lent m ys) zs r → Wrote (A ++ B) xs (joined m ys zs) (r + m)
wrote-more b f g = wrote_then b f g.within (λ e. g)

pub wrote_none : {A xs : List ℕ} → A ≡ [] → Wrote A xs xs 0
unfolding over
wrote_none {A} {xs} e = record { within = omega arith; right = λ h. record { number = ap length (sym e); content = rw e } }

pub wrote_one : (w : ℕ) (xs : List ℕ) → 0 < length xs → Wrote (w ∷ []) xs (set xs 0 w) 1
unfolding over
wrote_one w [] h = absurd (omega arith)
wrote_one w (x ∷ xs) h = record { within = h; right = λ l. record { number = refl; content = refl } }

-- nothing is said of words that do not fit
pub wrote-full : {A xs ys : List ℕ} → length xs < length A → Wrote A xs ys 0
wrote-full {A} {xs} h = record { within = omega arith; right = λ l. absurd (let z : ⊥ = omega arith in z) }

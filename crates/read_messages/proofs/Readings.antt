-- Laws of readings: taking a reading apart that succeeds, and how a cursor advances. Assumes nothing.
use Prim.Native.Nat.{ℕ, suc, ◌+◌, ◌-◌, ◌≤◌, ◌<◌}
use mathlib.Core.Bool.{Bool, true, false}
use mathlib.Core.List.{List, [], ◌∷◌}
use mathlib.Core.Path.{◌≡◌, refl, ap, ◌∙◌, subst}
use native.Mathlib.Omega.{arith}
use lib.ListN.{length, drop}
use lib.Seq.{drop-drop}
use Rattle.std.specs.Prelude.{Ok, Err}
use Rattle.read_messages.specs.Reading.{Cursor, cursor, Reading, refuse, got, ◌>>=◌, ask, take_word, next_word, is_empty, outcome}
use Rattle.read_messages.specs.declared.Refusal.{Refusal}

-- A refusal is no reading that succeeds.
pub refuse≢got : {A B : Type 0} {q i : ℕ} {a : A} → ◌≡◌ {A = Reading A} (refuse q i) (got a) → B
refuse≢got e = let z : ◌≡◌ {A = ℕ} 0 1 = cc in absurd (let w : ⊥ = omega arith in w)

pub got-inj : {A : Type 0} {a b : A} → ◌≡◌ {A = Reading A} (got a) (got b) → a ≡ b
got-inj e = cc

-- a reading that succeeds had a first part that succeeds
pub bind_inv : {A B : Type 0} (x : Reading A) (k : A → Reading B) (b : B) → (x >>= k) ≡ got b → (a : A) × (x ≡ got a) × (k a ≡ got b)
unfolding ◌>>=◌
bind_inv (refuse q i) k b e = refuse≢got e
bind_inv (got a) k b e = (a, refl, e)

-- the same, for a claim about what is read
pub bind_all : {A B : Type 0} (P : B → Type 0) (x : Reading A) (k : A → Reading B) → ((a : A) → x ≡ got a → (b : B) → k a ≡ got b → P b) → (b : B) → (x >>= k) ≡ got b → P b
unfolding ◌>>=◌
bind_all P (refuse q i) k f b e = refuse≢got e
bind_all P (got a) k f b e = f a refl b e

pub got-all : {B : Type 0} (P : B → Type 0) (a : B) → P a → (b : B) → ◌≡◌ {A = Reading B} (got a) (got b) → P b
got-all P a h b e = subst P (got-inj e) h

-- readings that go on alike are alike
pub bind-cong : {A B : Type 0} (x : Reading A) (k l : A → Reading B) → ((a : A) → x ≡ got a → k a ≡ l a) → (x >>= k) ≡ (x >>= l)
unfolding ◌>>=◌
bind-cong (refuse q i) k l f = refl
bind-cong (got a) k l f = f a refl

pub bind-got : {A B : Type 0} (x : Reading A) (k : A → Reading B) (a : A) → x ≡ got a → (x >>= k) ≡ k a
unfolding ◌>>=◌
bind-got x k a e = rw e

pub bind-refuse : {A B : Type 0} (x : Reading A) (k : A → Reading B) (q i : ℕ) → x ≡ refuse q i → (x >>= k) ≡ refuse q i
unfolding ◌>>=◌
bind-refuse x k q i e = rw e

-- a question that let the reading pass was answered by yes
pub ask-inv : (q i : ℕ) (t : Bool) (u : Unit {0}) → ask q i t ≡ got u → t ≡ true
unfolding ask
ask-inv q i true u e = refl
ask-inv q i false u e = refuse≢got e

pub ask-yes : (q i : ℕ) (t : Bool) → t ≡ true → ask q i t ≡ got tt
unfolding ask
ask-yes q i t e = rw e

pub ask-no : (q i : ℕ) (t : Bool) → t ≡ false → ask q i t ≡ refuse q i
unfolding ask
ask-no q i t e = rw e

-- The cursor d stands behind c: further on in the same words.
pub record Advances (c d : Cursor) : Type 0 where
  pub ahead : c.index ≤ d.index
  pub within : d.index + length d.left ≡ c.index + length c.left
  pub tail : d.left ≡ drop (d.index - c.index) c.left

pub stands : (c : Cursor) → Advances c c
stands c = record { ahead = omega arith; within = refl; tail = let e : c.index - c.index ≡ 0 = omega arith in rw e }

pub advances-on : (c d e : Cursor) → Advances c d → Advances d e → Advances c e
advances-on c d e a b = record {
  ahead = omega (arith, a.ahead, b.ahead);
  within = b.within ∙ a.within;
  tail = b.tail ∙ ap (λ (l : List ℕ). drop (e.index - d.index) l) a.tail ∙ drop-drop (e.index - d.index) (d.index - c.index) c.left
      ∙ (let z : (d.index - c.index) + (e.index - d.index) ≡ e.index - c.index = omega (arith, a.ahead, b.ahead) in rw z);
}

-- the cursor stands in these words
abbrev pub CursorAt : (words : List ℕ) → Cursor → Type 0
CursorAt ws c = c.left ≡ drop c.index ws

pub stands_on : (ws : List ℕ) (c d : Cursor) → Advances c d → CursorAt ws c → CursorAt ws d
stands_on ws c d a s =
    let e : c.index + (d.index - c.index) ≡ d.index = omega (arith, a.ahead) in
    a.tail ∙ ap (λ (l : List ℕ). drop (d.index - c.index) l) s ∙ drop-drop (d.index - c.index) c.index ws ∙ rw e

-- the next word is one further on
pub record Next (c : Cursor) (p : ℕ × Cursor) : Type 0 where
  pub words : c.left ≡ p.0 ∷ p.1.left
  pub index : p.1.index ≡ suc c.index
  pub number : p.1.number ≡ c.number

next_word_lem : (q i n : ℕ) (l : List ℕ) (p : ℕ × Cursor) → take_word q i n l ≡ got p → Next (cursor i n l) p
unfolding take_word
next_word_lem q i n [] p e = refuse≢got e
next_word_lem q i n (w ∷ ws) p e = subst (λ (x : ℕ × Cursor). Next (cursor i n (w ∷ ws)) x) (got-inj e) (record { words = refl; index = refl; number = refl })

pub next : (q : ℕ) (c : Cursor) (p : ℕ × Cursor) → next_word q c ≡ got p → Next c p
next q c p e = next_word_lem q c.index c.number c.left p e

pub next-advances : (c : Cursor) (p : ℕ × Cursor) → Next c p → Advances c p.1
next-advances c p n = record {
  ahead = omega (arith, n.index);
  within = rw (n.index, n.words) (omega arith);
  tail = let z : p.1.index - c.index ≡ 1 = omega (arith, n.index) in rw (z, n.words);
}

-- words behind a cursor are fewer
pub next-shorter : (c : Cursor) (p : ℕ × Cursor) → Next c p → length c.left ≡ suc (length p.1.left)
next-shorter c p n = rw n.words

pub advances-shorter : (c d : Cursor) → Advances c d → length d.left ≤ length c.left
advances-shorter c d a = omega (arith, a.ahead, a.within)

-- at the end there is no next word
take_word-end : (q i n : ℕ) (l : List ℕ) → length l ≡ 0 → take_word q i n l ≡ refuse q i
unfolding take_word
take_word-end q i n [] e = refl
take_word-end q i n (w ∷ ws) e = absurd (omega arith)

pub next-end : (q : ℕ) (c : Cursor) → length c.left ≡ 0 → next_word q c ≡ refuse q c.index
next-end q c h = take_word-end q c.index c.number c.left h

-- whether words are left
pub left-none : (l : List ℕ) → length l ≡ 0 → is_empty l ≡ true
left-none [] h = refl
left-none (w ∷ l) h = absurd (omega arith)

pub left-some : (l : List ℕ) → 0 < length l → is_empty l ≡ false
left-some [] h = absurd (omega arith)
left-some (w ∷ l) h = refl

-- a cursor by its fields
pub placed : (c : Cursor) (i n : ℕ) (l : List ℕ) → c.index ≡ i → c.number ≡ n → c.left ≡ l → c ≡ cursor i n l
placed c i n l ei en el = rw (← ei, ← en, ← el)

-- Outcomes: a reading that was refused, and one that was not.
pub outcome-refused : {A B : Type 0} (x : Reading (A × Cursor)) (k : A × Cursor → Reading (B × Cursor)) (e : Refusal) → outcome x ≡ Err e → outcome (x >>= k) ≡ Err e
unfolding ◌>>=◌ outcome
outcome-refused (refuse q i) k e d = d
outcome-refused (got p) k e d = cc

pub outcome-read : {A : Type 0} (x : Reading (A × Cursor)) (n : ℕ) → outcome x ≡ Ok n → (p : A × Cursor) × (x ≡ got p) × (p.1.index ≡ n)
unfolding outcome
outcome-read (refuse q i) n d = cc
outcome-read (got p) n d = (p, refl, cc)

pub outcome-refuses : {A : Type 0} (x : Reading (A × Cursor)) (e : Refusal) → outcome x ≡ Err e → x ≡ refuse e.question e.place
unfolding outcome
outcome-refuses (refuse q i) e d = let r : ◌≡◌ {A = Refusal} (record { question = q; place = i }) e = cc in cc
outcome-refuses (got p) e d = cc

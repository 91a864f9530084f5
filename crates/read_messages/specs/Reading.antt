-- How the questions at the door are asked: a reading stands at a cursor, and the first question that is answered by no
-- ends it with its number and place. Assumes nothing: these are definitions.
use Rattle.std.specs.Prelude.{ℕ, suc, Bool, true, false, List, [], ◌∷◌, Result, Ok, Err}
use Rattle.read_messages.specs.declared.Refusal.{Refusal}

-- where a reading stands: the index of the next word, the number of the next part, the words that are left
pub record Cursor : Type 0 where
  pub index : ℕ
  pub number : ℕ
  pub left : List ℕ

abbrev pub cursor : (index number : ℕ) → List ℕ → Cursor
cursor i n ws = record { index = i; number = n; left = ws }

-- "The first no ends the call with its number and place", or what was read
pub data Reading (A : Type 0) : Type 0 where
  refuse : (question place : ℕ) → Reading A
  got : A → Reading A

-- one reading after another
infixl 10 ◌>>=◌
unfoldable pub ◌>>=◌ : {A B : Type 0} → Reading A → (A → Reading B) → Reading B
refuse q i >>= k = refuse q i
got a >>= k = k a

-- a question with its number and place, and its answer
unfoldable pub ask : (question place : ℕ) → Bool → Reading (Unit {0})
ask q i true = got tt
ask q i false = refuse q i

-- the words at hand, the first taken off; where there is none, the text does not end: question q, at the length
unfoldable pub take_word : (question index number : ℕ) → List ℕ → Reading (ℕ × Cursor)
take_word q i n [] = refuse q i
take_word q i n (w ∷ ws) = got (w, cursor (suc i) n ws)

-- the next word, and the cursor behind it
abbrev pub next_word : (question : ℕ) → Cursor → Reading (ℕ × Cursor)
next_word q c = take_word q c.index c.number c.left

-- a part begins: the next one has the next number
abbrev pub next_part : Cursor → Cursor
next_part c = cursor c.index (suc c.number) c.left

-- whether no word is left
abbrev pub is_empty : List ℕ → Bool
is_empty [] = true
is_empty (w ∷ ws) = false

-- the refusal of the code by the question of that number, at that place
abbrev pub refusal_at : {A : Type 0} → (question place : ℕ) → Result A Refusal
refusal_at q i = Err (record { question = q; place = i })

-- What a reader of the code answers: the index of the word behind what was read; or the first no's number and place.
unfoldable pub outcome : {A : Type 0} → Reading (A × Cursor) → Result ℕ Refusal
outcome (refuse q i) = refusal_at q i
outcome (got p) = Ok p.1.index

-- To unfold this is to unfold every definition of this module: for a proof by computation.
unfoldable pub computing : Unit {0}
unfolding ◌>>=◌ ask take_word outcome
computing = tt

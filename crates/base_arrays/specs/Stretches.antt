-- A stretch of an array, an array put into a stretch of another, and bytes as numbers. Assumes nothing: these are definitions.
use Rattle.std.specs.Prelude.{ℕ, zero, suc, ◌+◌, ◌≤◌, ◌<◌, List, [], ◌∷◌, ◌≡◌, get_or, length}

module _ {A : Type 0} where
  -- n elements from the i-th on, d where there is none
  unfoldable pub stretch_or : (d : A) (i n : ℕ) → List A → List A
  stretch_or d i zero l = []
  stretch_or d i (suc n) l = get_or l i d ∷ stretch_or d (suc i) n l

  -- `after` is `before` with the elements of `from` at the index `at`
  pub record Put (at : ℕ) (from before after : List A) : Type 0 where
    pub here : (d : A) (i : ℕ) → i < length from → get_or after (at + i) d ≡ get_or from i d
    pub below : (d : A) (j : ℕ) → j < at → get_or after j d ≡ get_or before j d
    pub beyond : (d : A) (j : ℕ) → at + length from ≤ j → get_or after j d ≡ get_or before j d

  -- where the elements of `from` are to be written at the index `at` of `to`, an array of so many
  pub record PutAsked (size at : ℕ) (from to : List A) : Type 0 where
    -- the array has that length
    pub long : length to ≡ size
    -- there is room for the elements from that index on
    pub room : at + length from ≤ size

-- n numbers from the i-th on
abbrev pub stretch : (i n : ℕ) → List ℕ → List ℕ
stretch i n l = stretch_or 0 i n l

-- r has the bytes of `from`, as numbers
pub record Widened (from r : List ℕ) : Type 0 where
  -- each is the number that the byte is
  pub same : r ≡ from
  -- so each is below 256
  pub bytes : (i : ℕ) → i < 64 → get_or r i 0 < 256

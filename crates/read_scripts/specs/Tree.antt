-- The tree of parts (document 01, "The plain machine"): one type for the tree as read, as the plain machine holds it and
-- as closures hold it. Assumes nothing: these are definitions.
use Rattle.std.specs.Prelude.{ℕ, ◌+◌, max, Bool, true, false, cond, List, [], ◌∷◌, eqb, ltb}
use Rattle.read_messages.specs.Message.{Message}

-- What a part is: 1 AMB, 2 ACT, 3 REC, 4 OUT. `A` is what an action is held as; a receipt has its variable, the index of
-- its word.
pub data Head (A : Type 0) : Type 0 where
  ambient : Message → Head A
  action : A → Head A
  receipt : (variable : ℕ) → Head A
  output : Message → Head A

-- A body is its parts by rising number; a part is its number, its head and the body inside it (none in an output).
pub data Body (H : Type 0) : Type 0 where
  close : Body H
  part : (number : ℕ) (head : H) (inside : Body H) (rest : Body H) → Body H

-- one where the test holds
abbrev pub one_if : Bool → ℕ
one_if true = 1
one_if false = 0

module _ {A : Type 0} where
  -- "1 AMB: message, body. 2 ACT (action): message, body. 3 REC (receipt): body; its variable is this
  -- word's index. 4 OUT (output): message."
  unfoldable pub kind_number : Head A → ℕ
  kind_number (ambient m) = 1
  kind_number (action a) = 2
  kind_number (receipt v) = 3
  kind_number (output m) = 4

  unfoldable pub is_ambient : Head A → Bool
  is_ambient (ambient m) = true
  is_ambient (action a) = false
  is_ambient (receipt v) = false
  is_ambient (output m) = false

module _ {H : Type 0} where
  -- the numbers of a body's own parts
  unfoldable pub tops : Body H → List ℕ
  tops close = []
  tops (part i h b r) = i ∷ tops r

  -- the sum of f over all parts, at any depth
  unfoldable pub total_over : (ℕ → H → ℕ) → Body H → ℕ
  total_over f close = 0
  total_over f (part i h b r) = f i h + (total_over f b + total_over f r)

  -- the greatest value of f over all parts, 0 if there are none
  unfoldable pub greatest : (ℕ → H → ℕ) → Body H → ℕ
  greatest f close = 0
  greatest f (part i h b r) = max (f i h) (max (greatest f b) (greatest f r))

  -- "the parts in the tree": how many there are
  abbrev pub parts : Body H → ℕ
  parts b = total_over (λ i h. 1) b

  -- how often part number j stands in the tree
  abbrev pub times_in : ℕ → Body H → ℕ
  times_in j b = total_over (λ i h. one_if (eqb j i)) b

  -- the body with one part more, where its number belongs
  unfoldable pub put : ℕ → H → Body H → Body H → Body H
  put n g b close = part n g b close
  put n g b (part i h s r) = cond (ltb n i) (part n g b (part i h s r)) (cond (eqb n i) (part i h s r) (part i h s (put n g b r)))

  -- the parts of both bodies
  unfoldable pub merge_parts : Body H → Body H → Body H
  merge_parts close k = k
  merge_parts (part i h s r) k = put i h s (merge_parts r k)

-- the same tree with other heads
unfoldable pub map_heads : {G H : Type 0} → (G → H) → Body G → Body H
map_heads f close = close
map_heads f (part i h b r) = part i (f h) (map_heads f b) (map_heads f r)

-- "An action with no items, under no ACT and no REC, is gone and its body stands in its place": `bare` says which heads
-- are such actions.
unfoldable pub settle_by : {A : Type 0} → (Head A → Bool) → Body (Head A) → Body (Head A)
settle_by bare close = close
settle_by bare (part i h b r) =
    cond (bare h) (merge_parts (settle_by bare b) (settle_by bare r))
    (put i h (cond (is_ambient h) (settle_by bare b) b) (settle_by bare r))

-- The plain machine's tree: "An action is held as its items."
abbrev pub PlainHead : Type 0
PlainHead = Head (List Message)

abbrev pub Plain : Type 0
Plain = Body PlainHead

abbrev pub no_items : List Message → Bool
no_items [] = true
no_items (m ∷ ms) = false

unfoldable pub bare : PlainHead → Bool
bare (ambient m) = false
bare (action is) = no_items is
bare (receipt v) = false
bare (output m) = false

unfoldable pub settle : Plain → Plain
settle b = settle_by bare b

-- To unfold this is to unfold every definition of this module: for a proof by computation.
unfoldable pub computing : Unit {0}
unfolding kind_number is_ambient tops total_over greatest put merge_parts map_heads settle_by bare settle
computing = tt

-- The tree written in the script's form (document 01, "The plain machine"): "each body by rising part number, actions as
-- their items (several as PATH item rest; none as one EMPTY), VAR with the REC's new index".
-- Assumes nothing: these are definitions.
use Rattle.std.specs.Prelude.{ℕ, ◌+◌, cond, List, [], ◌∷◌, ◌++◌, length, eqb}
use Rattle.read_messages.specs.Words.{word}
use Rattle.read_messages.specs.Message.{Message, name, variable, enter, exit, opens, empty_message, path}
use Rattle.read_scripts.specs.Tree.{Head, ambient, action, receipt, output, close, part, PlainHead, Plain}

-- where the receipts around now stand: each variable with its receipt's new index
abbrev pub Indices : Type 0
Indices = List (ℕ × ℕ)

unfoldable pub new_index : Indices → ℕ → ℕ
new_index [] v = 0
new_index (p ∷ ps) v = cond (eqb p.0 v) p.1 (new_index ps v)

unfoldable pub write_message : Indices → Message → List ℕ
write_message ix (name n) = word 8 n ∷ []
write_message ix (variable v) = word 9 (new_index ix v) ∷ []
write_message ix (enter m) = word 10 0 ∷ write_message ix m
write_message ix (exit m) = word 11 0 ∷ write_message ix m
write_message ix (opens m) = word 12 0 ∷ write_message ix m
write_message ix empty_message = word 13 0 ∷ []
write_message ix (path m k) = word 14 0 ∷ (write_message ix m ++ write_message ix k)

-- an action's items as one message: "several as PATH item rest; none as one EMPTY"
unfoldable pub one_message : List Message → Message
one_message [] = empty_message
one_message (m ∷ []) = m
one_message (m ∷ (k ∷ ks)) = path m (one_message (k ∷ ks))

-- the words in front of a part's body: its own word, and its message if it has one
unfoldable pub write_head : Indices → Head (List Message) → List ℕ
write_head ix (ambient m) = word 1 0 ∷ write_message ix m
write_head ix (action is) = word 2 0 ∷ write_message ix (one_message is)
write_head ix (receipt v) = word 3 0 ∷ []
write_head ix (output m) = word 4 0 ∷ write_message ix m

-- the receipts around the body of a part whose word has the index i
unfoldable pub within : Head (List Message) → (i : ℕ) → Indices → Indices
within (ambient m) i ix = ix
within (action is) i ix = ix
within (receipt v) i ix = (v, i) ∷ ix
within (output m) i ix = ix

-- the words of a part's body, the first of which has index i: an output has none
unfoldable pub write_inside : Head (List Message) → List ℕ → List ℕ
write_inside (ambient m) ws = ws
write_inside (action is) ws = ws
write_inside (receipt v) ws = ws
write_inside (output m) ws = []

-- the words of the body, the first of which has index i
unfoldable pub write : Indices → (i : ℕ) → Plain → List ℕ
write ix i close = word 0 0 ∷ []
write ix i (part k h b r) =
    let s = write_head ix h in
    let t = s ++ write_inside h (write (within h i ix) (i + length s) b) in
    t ++ write ix (i + length t) r

-- the words of a part, the first of which has index i
unfoldable pub write_part : Indices → (i : ℕ) → PlainHead → Plain → List ℕ
write_part ix i h b = write_head ix h ++ write_inside h (write (within h i ix) (i + length (write_head ix h)) b)

-- To unfold this is to unfold every definition of this module: for a proof by computation.
unfoldable pub computing : Unit {0}
unfolding new_index write_message one_message write_head within write_inside write write_part
computing = tt

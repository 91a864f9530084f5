-- That a `yes` or `no` that the program writes is right, by the paper's own relation, about the call that it reads. Assumes
-- nothing: these are definitions.
use Rattle.std.specs.Prelude.{ℕ, ◌*◌, ◌≤◌, List, [], ◌∷◌, ◌++◌, ◌≡◌, length, take, replicate}
use Rattle.theory_call.specs.Call.{Call}
use Rattle.theory_call.specs.Standing.{Standing, Holds}
use Rattle.program_text.specs.Text.{yes_text, no_text}
use Rattle.program_words.specs.Words.{words_of}

-- a list behind its count
abbrev pub counting : List ℕ → List ℕ
counting ws = length ws ∷ ws

-- "script count, script, move count, moves, rule count, rule, patience"
abbrev pub input_words : Call → List ℕ
input_words c = counting c.script ++ counting c.moves ++ counting c.rule ++ (c.patience ∷ [])

-- The bytes s ask the call c: they are its "little-endian words", "filling the input exactly", at most 24,576 bytes, and "It
-- lends 4,096 words".
pub record Asks (s : List ℕ) (c : Call) : Type 0 where
  pub short : length s ≤ 24576
  pub fills : length s ≡ 4 * length (input_words c)
  pub spells : words_of (length (input_words c)) s ≡ input_words c
  pub lent : c.buffer ≡ replicate 4096 0

-- a text begins with some bytes
abbrev pub Begins : (start text : List ℕ) → Type 0
Begins a t = take (length a) t ≡ a

-- The text t is right about the bytes s: it begins with `yes` only where these ask a call that stands when the walk begins,
-- with a process that satisfies the rule, and with `no` only where the process does not satisfy it.
pub record Right (s t : List ℕ) : Type 0 where
  pub yes : Begins yes_text t → (c : Call) × Asks s c × (x : Standing c) × Holds c x
  pub no : Begins no_text t → (c : Call) × Asks s c × (x : Standing c) × ¬ Holds c x

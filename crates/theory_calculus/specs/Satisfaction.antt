-- Satisfaction: when a tree meets a rule (document 01, "Relation (000, read on normal forms as in 002)"). Not the walk:
-- nothing here counts, and nothing is bounded. Assumes nothing: these are definitions.
use Rattle.std.specs.Prelude.{ℕ, ◌+◌, ◌≤◌, List, ◌∷◌, ◌≡◌, ◌⊎◌, Some}
use Rattle.std.proofs.Math.Option.{some}
use Rattle.read_messages.specs.Message.{Message, name}
use Rattle.read_scripts.specs.Tree.{ambient, close, part, PlainHead, Plain}
use Rattle.theory_machine.specs.Moves.{MoveMade, head_name}
use Rattle.theory_machine.specs.PlainMachine.{plain, move}
use Rattle.read_rule_words.specs.Rule.{Names, term_name, Rule, truth, negation, either, void, at, beside, some-name, sometime, somewhere, placed}

-- "some division of the top parts": the parts of the first body are divided into those of the other two
pub data Divided : Plain → Plain → Plain → Type 0 where
  nothing : Divided close close close
  to_left : {k : ℕ} {h : PlainHead} {i b c d : Plain} → Divided b c d → Divided (part k h i b) (part k h i c) d
  to_right : {k : ℕ} {h : PlainHead} {i b c d : Plain} → Divided b c d → Divided (part k h i b) c (part k h i d)

-- the second body stands directly inside a named ambient of the first
pub data Inside : Plain → Plain → Type 0 where
  first : {k n : ℕ} {h : PlainHead} {b r : Plain} → head_name plain h ≡ Some n → Inside (part k h b r) b
  later : {k : ℕ} {h : PlainHead} {b r c : Plain} → Inside r c → Inside (part k h b r) c

-- "here or inside named ambients down to any depth"
pub data Within : Plain → Plain → Type 0 where
  here : {b : Plain} → Within b b
  deeper : {b c d : Plain} → Inside b c → Within c d → Within b d

-- "some list of moves, the empty one too" leads from the first tree to the second
pub data Reaches : Plain → Plain → Type 0 where
  stay : {b : Plain} → Reaches b b
  go : {b c : Plain} (a t : ℕ) (m : MoveMade (List Message)) → move a t b ≡ some m → Reaches m.body c → Reaches b c

-- "just one top part, an AMB named n": the body is one part with that name, whose inside is c
pub record Alone (n : ℕ) (b c : Plain) : Type 0 where
  pub number : ℕ
  pub head : PlainHead
  pub only : b ≡ part number head c close
  pub named : head_name plain head ≡ Some n

-- "the process wrapped in n"
abbrev pub wrapped : (number name : ℕ) → Plain → Plain
wrapped k n b = part k (ambient (name n)) b close

-- The relation; n is the number of the script's parts, e the names chosen.
unfoldable pub Sat : (n : ℕ) → Names → Rule → Plain → Type 0
Sat n e (truth i) b = Unit {0}
Sat n e (negation i r) b = ¬ Sat n e r b
Sat n e (either i r q) b = Sat n e r b ⊎ Sat n e q b
Sat n e (void i) b = b ≡ close
Sat n e (at i t r) b = (c : Plain) × Alone (term_name e t) b c × Sat n e r c
Sat n e (beside i r q) b = (c : Plain) × (d : Plain) × Divided b c d × Sat n e r c × Sat n e q d
Sat n e (some-name i r) b = (m : ℕ) × (1 ≤ m) × Sat n ((i, m) ∷ e) r b
Sat n e (sometime i r) b = (c : Plain) × Reaches b c × Sat n e r c
Sat n e (somewhere i r) b = (c : Plain) × Within b c × Sat n e r c
Sat n e (placed i j t r) b = Sat n e r (wrapped (n + j) (term_name e t) b)

-- The ambient calculus with public names and its logic, table by table as the paper (000, sections 2.1 and 2.2) prints them,
-- each rule under the paper's label: (Struct Par) is `StructPar`, (Red In) is `RedIn`. Expressions are document 01's messages,
-- formulas its rules. Nothing here knows of part numbers, of the tree of parts, of order or of normal forms. Assumes nothing:
-- these are definitions.
use Rattle.std.specs.Prelude.{ℕ, suc, ◌+◌, ◌≤◌, cond, ◌∷◌, ◌≡◌, ◌⊎◌, eqb}
use Rattle.read_messages.specs.Message.{Message, name, variable, enter, exit, opens, empty_message, path, mentions}
use Rattle.read_messages.specs.Message as message
use Rattle.read_rule_words.specs.Rule.{Names, term_name, Rule, truth, negation, either, void, at, beside, some-name, sometime, somewhere, placed}

infixr 30 ◌‖◌
infix 20 ◌≅◌ ◌⟶◌ ◌⟶*◌ ◌↓◌ ◌↓*◌
-- Expressions and Processes. The expressions are the messages: name n, in M, out M, open M, ε, M.M'. The paper's bound
-- names are the variables here, a vocabulary of their own.
pub data Process : Type 0 where
  𝟎 : Process  -- inactivity
  ◌‖◌ : Process → Process → Process  -- P | Q
  ambient : Message → Process → Process  -- M[P]
  action : Message → Process → Process  -- M.P
  input : ℕ → Process → Process  -- (x).P
  output : Message → Process  -- ⟨M⟩

-- P{x ← M}. Reduction happens under no input, so what a closed process sends has no variables and nothing is captured; an
-- inner input of x hides the outer.
unfoldable pub substitute : ℕ → Message → Process → Process
substitute x m 𝟎 = 𝟎
substitute x m (p ‖ q) = substitute x m p ‖ substitute x m q
substitute x m (ambient n p) = ambient (message.substitute x m n) (substitute x m p)
substitute x m (action n p) = action (message.substitute x m n) (substitute x m p)
substitute x m (input y p) = cond (eqb y x) (input y p) (input y (substitute x m p))
substitute x m (output n) = output (message.substitute x m n)

-- how often a variable stands in a process, free or bound
unfoldable pub occurs : ℕ → Process → ℕ
occurs v 𝟎 = 0
occurs v (p ‖ q) = occurs v p + occurs v q
occurs v (ambient m p) = mentions v m + occurs v p
occurs v (action m p) = mentions v m + occurs v p
occurs v (input x p) = cond (eqb x v) (suc (occurs v p)) (occurs v p)
occurs v (output m) = mentions v m

-- Structural Congruence: P ≡ Q. The paper's (Struct Refl) makes α-equivalent processes congruent: here `StructRefl`,
-- `StructAlpha`, which renames the variable of one input to one that does not occur, and the rules for compositions, ambients,
-- actions and inputs together are it. `StructPath` is the paper's (Struct .).
pub data ◌≅◌ : Process → Process → Type 0 where
  StructRefl : {p : Process} → p ≅ p
  StructAlpha : {x y : ℕ} {p : Process} → occurs y p ≡ 0 → input x p ≅ input y (substitute x (variable y) p)
  StructSymm : {p q : Process} → q ≅ p → p ≅ q
  StructTrans : {p q r : Process} → p ≅ q → q ≅ r → p ≅ r
  StructPar : {p q r : Process} → p ≅ q → p ‖ r ≅ q ‖ r
  StructAmb : {m : Message} {p q : Process} → p ≅ q → ambient m p ≅ ambient m q
  StructAction : {m : Message} {p q : Process} → p ≅ q → action m p ≅ action m q
  StructInput : {x : ℕ} {p q : Process} → p ≅ q → input x p ≅ input x q
  StructParComm : {p q : Process} → p ‖ q ≅ q ‖ p
  StructParAssoc : {p q r : Process} → (p ‖ q) ‖ r ≅ p ‖ (q ‖ r)
  StructZeroPar : {p : Process} → p ‖ 𝟎 ≅ p
  Structε : {p : Process} → action empty_message p ≅ p
  StructPath : {m k : Message} {p : Process} → action (path m k) p ≅ action m (action k p)

-- Reduction: P → Q. `RedIO` is the paper's (Red I/O), `RedCong` its (Red ≡).
pub data ◌⟶◌ : Process → Process → Type 0 where
  RedIn : {n m : ℕ} {p q r : Process} → ambient (name n) (action (enter (name m)) p ‖ q) ‖ ambient (name m) r ⟶ ambient (name m) (ambient (name n) (p ‖ q) ‖ r)
  RedOut : {n m : ℕ} {p q r : Process} → ambient (name m) (ambient (name n) (action (exit (name m)) p ‖ q) ‖ r) ⟶ ambient (name n) (p ‖ q) ‖ ambient (name m) r
  RedOpen : {n : ℕ} {p q : Process} → action (opens (name n)) p ‖ ambient (name n) q ⟶ p ‖ q
  RedIO : {x : ℕ} {m : Message} {p : Process} → output m ‖ input x p ⟶ substitute x m p
  RedPar : {p q r : Process} → p ⟶ q → p ‖ r ⟶ q ‖ r
  RedAmb : {n : ℕ} {p q : Process} → p ⟶ q → ambient (name n) p ⟶ ambient (name n) q
  RedCong : {p p' q q' : Process} → p' ≅ p → p ⟶ q → q ≅ q' → p' ⟶ q'

-- Sublocation: P ↓ Q, (Loc): the second is the whole interior of a top-level ambient of the first, one that has a name
pub data ◌↓◌ : Process → Process → Type 0 where
  Loc : {n : ℕ} {p q r : Process} → p ≅ ambient (name n) q ‖ r → p ↓ q

-- the reflexive and transitive closure of a relation, here of → and of ↓
pub data Star (R : Process → Process → Type 0) : Process → Process → Type 0 where
  stop : {p : Process} → Star R p p
  step : {p q r : Process} → R p q → Star R q r → Star R p r

abbrev pub ◌⟶*◌ : Process → Process → Type 0
◌⟶*◌ = Star ◌⟶◌

abbrev pub ◌↓*◌ : Process → Process → Type 0
◌↓*◌ = Star ◌↓◌

-- Satisfaction: P ⊨ A, where e are the names that the variables of A represent. Names are 1, 2, 3, ..; the paper's T is
-- `truth`, its A @ n is PLACED n A.
unfoldable pub Satisfies : Names → Process → Rule → Type 0
Satisfies e p (truth i) = Unit {0}
Satisfies e p (negation i a) = ¬ Satisfies e p a
Satisfies e p (either i a b) = Satisfies e p a ⊎ Satisfies e p b
Satisfies e p (void i) = p ≅ 𝟎
Satisfies e p (at i t a) = (q : Process) × (p ≅ ambient (name (term_name e t)) q) × Satisfies e q a
Satisfies e p (beside i a b) = (q : Process) × (r : Process) × (p ≅ q ‖ r) × Satisfies e q a × Satisfies e r b
Satisfies e p (some-name i a) = (m : ℕ) × (1 ≤ m) × Satisfies ((i, m) ∷ e) p a
Satisfies e p (sometime i a) = (q : Process) × (p ⟶* q) × Satisfies e q a
Satisfies e p (somewhere i a) = (q : Process) × (p ↓* q) × Satisfies e q a
Satisfies e p (placed i j t a) = Satisfies e (ambient (name (term_name e t)) p) a

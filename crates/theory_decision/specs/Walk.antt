-- The walk of a rule over a process, with its visits (document 01, "The rule and its walk"), over any way of holding
-- processes: a space says what a rule word asks of them. Assumes nothing: these are definitions.
use Rattle.std.specs.Prelude.{ℕ, zero, suc, ◌+◌, max, Bool, true, false, not, cond, List, [], ◌∷◌, ◌++◌, length, ltb}
use Rattle.std.proofs.Math.Option.{Option, none, some}
use Rattle.base_sets.specs.Sets.{numbers_from}
use Rattle.read_rule_words.specs.Rule.{Names, term_name, Rule, truth, negation, either, void, at, beside, some-name, sometime, somewhere, placed, rule_index}

-- What the walk asks of a process.
pub record Space (S : Type 0) : Type 0 where
  pub is_void : S → Bool  -- VOID: no parts
  pub only : (name : ℕ) → S → Option S  -- AT: the inside of its one part, if that is an ambient of the name
  pub divisions : S → List (S × S)  -- BESIDE: a share and the rest, in the walk's order
  pub nexts : S → List S  -- SOMETIME: what stands after one move, in the walk's order
  pub insides : S → List S  -- SOMEWHERE: the insides of the named top ambients, by rising number
  pub wrap : (number name : ℕ) → S → S  -- PLACED: the process as the inside of one ambient

-- visits made, and the greatest depth
pub record Count : Type 0 where
  pub visits : ℕ
  pub deepest : ℕ

-- a walk stops by question 17 or 18 at a rule index, with the visits made; or says yes or no
pub data Walked : Type 0 where
  stopped : (question place visits : ℕ) → Walked
  says : Bool → Count → Walked

-- the call's numbers that the walk needs
pub record Setting : Type 0 where
  pub patience : ℕ
  pub greatest : ℕ  -- G, "the greatest name in script and rule (0 if none)"
  pub parts : ℕ  -- n, "the script's parts"

-- on a yes go on, on a no go on
unfoldable pub on_yes : Walked → (Count → Walked) → Walked
on_yes (stopped q i v) k = stopped q i v
on_yes (says true n) k = k n
on_yes (says false n) k = says false n

unfoldable pub on_no : Walked → (Count → Walked) → Walked
on_no (stopped q i v) k = stopped q i v
on_no (says true n) k = says true n
on_no (says false n) k = k n

unfoldable pub turned : Walked → Walked
turned (stopped q i v) = stopped q i v
turned (says a n) = says (not a) n

-- a no where there is nothing
unfoldable pub if_any : {S : Type 0} → Option S → (S → Walked) → Count → Walked
if_any none k n = says false n
if_any (some c) k n = k c

-- "Loops end at the first yes."
unfoldable pub first_yes : {A : Type 0} → (A → Count → Walked) → List A → Count → Walked
first_yes f [] n = says false n
first_yes f (a ∷ l) n = on_no (f a n) (λ n₁. first_yes f l n₁)

-- "SOME: names 1 to G + d in order, .. d the SOMEs around, itself counted": the last name tried
abbrev pub last_name : Setting → Names → ℕ
last_name s e = s.greatest + suc (length e)

module _ {S : Type 0} (space : Space S) (s : Setting) where
  -- What a rule word does, one line a kind; `visit` visits a rule one deeper.
  unfoldable pub look : (visit : Names → Rule → S → Count → Walked) → Names → Rule → S → Count → Walked
  look visit e (truth i) b n = says true n
  look visit e (negation i r) b n = turned (visit e r b n)
  look visit e (either i r q) b n = on_no (visit e r b n) (λ n₁. visit e q b n₁)
  look visit e (void i) b n = says (space.is_void b) n
  look visit e (at i t r) b n = if_any (space.only (term_name e t) b) (λ c. visit e r c n) n
  look visit e (beside i r q) b n = first_yes (λ d n₁. on_yes (visit e r d.0 n₁) (λ n₂. visit e q d.1 n₂)) (space.divisions b) n
  look visit e (some-name i r) b n = first_yes (λ m n₁. visit ((i, m) ∷ e) r b n₁) (numbers_from 1 (last_name s e)) n
  look visit e (sometime i r) b n = on_no (visit e r b n) (λ n₁. first_yes (λ c n₂. visit e (sometime i r) c n₂) (space.nexts b) n₁)
  look visit e (somewhere i r) b n = on_no (visit e r b n) (λ n₁. first_yes (λ c n₂. visit e (somewhere i r) c n₂) (space.insides b) n₁)
  look visit e (placed i j t r) b n = visit e r (space.wrap (s.parts + j) (term_name e t) b) n

  -- "The walk counts a visit at each rule word met, the first at depth 1, a visit made from it one deeper."
  unfoldable pub counted : (depth : ℕ) → Count → Count
  counted depth n = record { visits = suc n.visits; deepest = max depth n.deepest }

  -- A visit at that depth, `left` depths being allowed from here on. "17. Depth at most 256?", "18. Are visits left?"
  unfoldable pub walk : (left depth : ℕ) → Names → Rule → S → Count → Walked
  walk zero depth e r b n = stopped 17 (rule_index r) n.visits
  walk (suc left) depth e r b n =
      cond (ltb n.visits s.patience)
      (look (λ e₁ r₁ b₁ n₁. walk left (suc depth) e₁ r₁ b₁ n₁) e r b (counted depth n))
      (stopped 18 (rule_index r) n.visits)

  -- the whole walk
  abbrev pub walk_from : Rule → S → Walked
  walk_from r b = walk 256 1 [] r b (record { visits = 0; deepest = 0 })

-- "SOMETIME after each move by rising actor, then target": what `make` makes of the moves of part numbers below `limit`.
-- Everything that lists moves lists them here.
unfoldable pub keep : {S : Type 0} → Option S → List S → List S
keep none l = l
keep (some c) l = c ∷ l

unfoldable pub moves_to : {S : Type 0} → (make : ℕ → Option S) → (targets : List ℕ) → List S
moves_to make [] = []
moves_to make (t ∷ ts) = keep (make t) (moves_to make ts)

unfoldable pub moves_from : {S : Type 0} → (make : ℕ → ℕ → Option S) → (actors targets : List ℕ) → List S
moves_from make [] ts = []
moves_from make (a ∷ l) ts = moves_to (make a) ts ++ moves_from make l ts

unfoldable pub in_order : {S : Type 0} → (limit : ℕ) → (make : (actor target : ℕ) → Option S) → List S
in_order limit make = moves_from make (numbers_from 0 limit) (numbers_from 0 limit)

-- To unfold this is to unfold every definition of this module: for a proof by computation.
unfoldable pub computing : Unit {0}
unfolding numbers_from on_yes on_no turned if_any first_yes look counted walk keep moves_to moves_from in_order
computing = tt

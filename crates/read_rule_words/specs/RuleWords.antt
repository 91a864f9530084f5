-- What the code of `read_rule_words` answers for one word of a rule. Assumes nothing: these are definitions.
use Rattle.std.specs.Prelude.{ℕ, ◌&&◌, ◌||◌, cond, List, length, leb, eqb, Result, Ok}
use Rattle.read_messages.specs.Words.{name_fits}
use Rattle.read_messages.specs.Reading.{refusal_at}
use Rattle.read_messages.specs.declared.Refusal.{Refusal}
use Rattle.read_rule_words.specs.Rule.{Term, constant, chosen}
use Rattle.read_rule_words.specs.ReadRule.{RuleKind, TRUE, NOT, OR, VOID, AT, BESIDE, SOME, SOMETIME, SOMEWHERE, PLACED, OTHER, is_chosen, term_of, operand_fits, term_bound, bound, somes_with}
use Rattle.read_rule_words.specs.declared.RuleTerm.{RuleTerm}
use Rattle.read_rule_words.specs.declared.RuleTerm.TheVariants.{Constant, Chosen}
use Rattle.read_rule_words.specs.declared.RuleShape.{RuleShape}
use Rattle.read_rule_words.specs.declared.RuleShape.TheVariants.{Leaf, One, Two, Choice, Place}

-- "a name 1 to 255, or with bit 27 set the index of a SOME around it": the code's answer by cases
unfoldable pub term_word : Term → RuleTerm
term_word (constant n) = Constant n
term_word (chosen i) = Chosen i

-- "2 and 5 take two rules, 1, 4, 6 to 9 one": what stands inside the rule that begins with a word of that kind, which
-- question 8 let pass
unfoldable pub follow : RuleKind → RuleShape
follow TRUE = Leaf
follow NOT = One
follow OR = Two
follow VOID = Leaf
follow AT = One
follow BESIDE = Two
follow SOME = Choice
follow SOMETIME = One
follow SOMEWHERE = One
follow PLACED = Place
follow OTHER = Leaf

-- question 10 of a word at that place: "Are at most 64 rules around it, and at most 8 SOMEs counting itself?"
unfoldable pub levelled : (place around somes : ℕ) → RuleShape → Result RuleShape Refusal
levelled i around somes a = cond (leb around 64 && leb somes 8) (Ok a) (refusal_at 10 i)

-- questions 8 and 10 of a word whose operand is "zero unless stated"
unfoldable pub asked_plain : (place around somes operand : ℕ) → RuleShape → Result RuleShape Refusal
asked_plain i around somes n a = cond (eqb n 0) (levelled i around somes a) (refusal_at 8 i)

-- questions 8, 9 and 10 of a word of AT or PLACED
unfoldable pub asked_term : (place around : ℕ) (somes : List ℕ) (operand : ℕ) → RuleShape → Result RuleShape Refusal
asked_term i around somes n a =
    cond (name_fits n || is_chosen n) (cond (term_bound somes (term_of n)) (levelled i around (length somes) a) (refusal_at 9 i)) (refusal_at 8 i)

-- What `ask_rule` of the code answers of a word at that place: the first of the questions 8, 9 and 10 that is answered by no,
-- or what follows.
unfoldable pub asked : (place around : ℕ) (somes : List ℕ) → RuleKind → (operand : ℕ) → Result RuleShape Refusal
asked i around somes k n =
    cond (operand_fits k n) (cond (bound somes k n) (levelled i around (somes_with k (length somes)) (follow k)) (refusal_at 9 i)) (refusal_at 8 i)

-- G: names have 28 bits. Assumes nothing.
use Prim.Native.Nat.{ℕ, ◌<◌, max}
use mathlib.Core.Bool.{◌&&◌, ◌||◌}
use mathlib.Core.List.{List, [], ◌∷◌}
use mathlib.Core.Path.{◌≡◌}
use native.Mathlib.Omega.{arith}
use lib.Dec.{ltb, eqb}
use Rattle.base_slices.proofs.Tests.{by_test}
use Rattle.read_messages.specs.Words.{kind, operand}
use Rattle.read_script_words.specs.ScriptWords.{greatest_name}
use Rattle.read_rule_words.specs.Rule.{rule_name, greatest_rule_name}
use Rattle.call_answers.specs.Answering.{Greatest}

operand_small : (w : ℕ) → operand w < 268435456
unfolding operand
operand_small w = omega arith

script-names : (ws : List ℕ) → greatest_name ws < 268435456
unfolding greatest_name
script-names [] = omega arith
script-names (w ∷ ws) = by_test (eqb (kind w) 8) (λ t. rw t (omega (arith, operand_small w, script-names ws))) (λ t. rw t (script-names ws))

rule-name : (w : ℕ) → rule_name w < 268435456
unfolding rule_name
rule-name w = by_test ((eqb (kind w) 4 || eqb (kind w) 9) && ltb (operand w) 134217728) (λ t. rw t (operand_small w)) (λ t. rw t (omega arith))

rule-names : (ws : List ℕ) → greatest_rule_name ws < 268435456
unfolding greatest_rule_name
rule-names [] = omega arith
rule-names (w ∷ ws) = omega (arith, rule-name w, rule-names ws)

-- the greater of both
pub greatest-so : (script words : List ℕ) (g : ℕ) → g ≡ max (greatest_name script) (greatest_rule_name words) → Greatest script words g
greatest-so script words g e = record { most = e; small = omega (arith, rule-names words, script-names script) }

-- Worked readings, by computation: the rules of document 01's examples, and a reading for each of the questions 7 to 12.
use Rattle.std.specs.Prelude.{ℕ, List, [], ◌∷◌, ◌++◌, map, ◌≡◌, refl, replicate}
use Rattle.read_messages.specs.Words
use Rattle.read_messages.specs.Reading
use Rattle.read_messages.specs.Reading.{Reading, refuse, got, cursor}
use Rattle.read_rule_words.specs.Rule.{constant, chosen, truth, negation, either, void, at, beside, some-name, sometime, placed, greatest_rule_name}
use Rattle.read_rule_words.specs.Rule
use Rattle.read_rule_words.specs.ReadRule.{read_whole_rule}
use Rattle.read_rule_words.specs.ReadRule
use Rattle.read_rules.specs.RuleTable.{vacant, turned, entered, tabulate}
use Rattle.read_rules.specs.RuleTable

-- `n` parts of the script, the rule's words, and what is read
abbrev Row : Type 0
Row = ℕ × List ℕ × Reading (Rule.Rule × Reading.Cursor)

-- SOME NOT AT its name TRUE, and SOMETIME AT 2 AT 1 VOID; an OR whose left rule is a BESIDE of two PLACEDs
abbrev nested : Rule.Rule
nested = either 0 (beside 1 (placed 2 0 (constant 1) (truth 3)) (placed 4 1 (constant 2) (truth 5))) (void 6)

abbrev readings : List Row
readings =
    (1, 0x60000000 ∷ 0x10000000 ∷ 0x48000000 ∷ 0x00000000 ∷ [], got (some-name 0 (negation 1 (at 2 (chosen 0) (truth 3))), cursor 4 0 []))
    ∷ (3, 0x70000000 ∷ 0x40000002 ∷ 0x40000001 ∷ 0x30000000 ∷ [], got (sometime 0 (at 1 (constant 2) (at 2 (constant 1) (void 3))), cursor 4 0 []))
    ∷ (62, 0x20000000 ∷ 0x50000000 ∷ 0x90000001 ∷ 0 ∷ 0x90000002 ∷ 0 ∷ 0x30000000 ∷ [], got (nested, cursor 7 2 []))
    ∷ (0, [], refuse 7 0)
    ∷ (0, replicate 257 0, refuse 7 0)
    ∷ (0, 0x18000000 ∷ 0 ∷ [], refuse 8 0)
    ∷ (0, 0x40000000 ∷ 0 ∷ [], refuse 8 0)
    ∷ (0, 0x10000000 ∷ 0xA0000000 ∷ [], refuse 8 1)
    ∷ (0, 0x20000000 ∷ 0x60000000 ∷ 0x48000001 ∷ 0 ∷ 0x98000001 ∷ 0 ∷ [], refuse 9 4)
    ∷ (0, replicate 65 0x10000000 ++ (0 ∷ []), refuse 10 65)
    ∷ (0, replicate 9 0x60000000 ++ (0 ∷ []), refuse 10 8)
    ∷ (0, 0x50000000 ∷ 0x30000000 ∷ [], refuse 11 2)
    ∷ (65, 0x30000000 ∷ 0xFFFFFFFF ∷ [], refuse 11 1)
    ∷ (63, 0x20000000 ∷ 0x50000000 ∷ 0x90000001 ∷ 0 ∷ 0x90000002 ∷ 0 ∷ 0x30000000 ∷ [], refuse 12 0)
    ∷ []

read-rightly : map (λ (r : Row). read_whole_rule r.0 r.1) readings ≡ map (λ (r : Row). r.2) readings
unfolding Words.computing Reading.computing ReadRule.computing
read-rightly = refl

-- where the right rules start, and the places of the PLACED words
tabulated : tabulate nested vacant ≡ turned 0 6 (entered 4 1 (turned 1 4 (entered 2 0 vacant)))
unfolding RuleTable.computing Rule.computing
tabulated = refl

-- the greatest name among plain operands
greatest : greatest_rule_name (0x20000000 ∷ 0x60000000 ∷ 0x48000001 ∷ 0x90000007 ∷ 0x40000003 ∷ 0x100000FF ∷ []) ≡ 7
unfolding Rule.computing Words.computing
greatest = refl

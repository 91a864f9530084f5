-- Rules whose variables are those of SOMEs around them, and what this says of the names that AT and PLACED then mean. That
-- every rule that is read is one is a law (proofs/Closing.antt). Assumes nothing: these are definitions.
use Rattle.std.specs.Prelude.{ℕ, true, ◌≡◌}
use mathlib.Core.List.{List, ◌∷◌, Memᴰ}
use Rattle.read_messages.specs.Words.{member}
use Rattle.read_rule_words.specs.Rule.{Term, constant, chosen, Names, chosen_name, Rule, truth, negation, either, void, at, beside, some-name, sometime, somewhere, placed}

-- "a name 1 to 255, or .. the index of a SOME around it", `somes` being the indices of the SOMEs around
abbrev pub TermClosed : (somes : List ℕ) → Term → Type 0
TermClosed somes (constant n) = Unit {0}
TermClosed somes (chosen i) = member i somes ≡ true

-- "Is the variable's SOME around it?": so at every word of the rule
abbrev pub RuleClosed : (somes : List ℕ) → Rule → Type 0
RuleClosed somes (truth i) = Unit {0}
RuleClosed somes (negation i r) = RuleClosed somes r
RuleClosed somes (either i r q) = RuleClosed somes r × RuleClosed somes q
RuleClosed somes (void i) = Unit {0}
RuleClosed somes (at i t r) = TermClosed somes t × RuleClosed somes r
RuleClosed somes (beside i r q) = RuleClosed somes r × RuleClosed somes q
RuleClosed somes (some-name i r) = RuleClosed (i ∷ somes) r
RuleClosed somes (sometime i r) = RuleClosed somes r
RuleClosed somes (somewhere i r) = RuleClosed somes r
RuleClosed somes (placed i j t r) = TermClosed somes t × RuleClosed somes r

-- the name that is looked up is one that was chosen, and chosen for this very SOME
abbrev pub Chosen : Names → ℕ → Type 0
Chosen e i = (m : ℕ) × Memᴰ (i, m) e × (chosen_name e i ≡ m)

abbrev pub TermNamed : Names → Term → Type 0
TermNamed e (constant n) = Unit {0}
TermNamed e (chosen i) = Chosen e i

-- So at every word of the rule, whatever names its SOMEs choose: e grows as it does in the paper's relation and in the walk,
-- so that these never look up a name that was not chosen.
abbrev pub RuleNamed : Names → Rule → Type 0
RuleNamed e (truth i) = Unit {0}
RuleNamed e (negation i r) = RuleNamed e r
RuleNamed e (either i r q) = RuleNamed e r × RuleNamed e q
RuleNamed e (void i) = Unit {0}
RuleNamed e (at i t r) = TermNamed e t × RuleNamed e r
RuleNamed e (beside i r q) = RuleNamed e r × RuleNamed e q
RuleNamed e (some-name i r) = (m : ℕ) → RuleNamed ((i, m) ∷ e) r
RuleNamed e (sometime i r) = RuleNamed e r
RuleNamed e (somewhere i r) = RuleNamed e r
RuleNamed e (placed i j t r) = TermNamed e t × RuleNamed e r

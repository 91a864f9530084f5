-- Laws of rule words: the term that one says, its kind, and the greatest name. Assumes nothing.
use Prim.Native.Nat.{ℕ, zero, suc}
use mathlib.Core.List.{List, [], ◌∷◌}
use mathlib.Core.Path.{◌≡◌, refl, subst}
use lib.ListN.{get_or}
use Rattle.read_messages.specs.Words.{kind, greatest_of}
use Rattle.read_messages.proofs.Folds.{greatest-from}
use Rattle.read_rule_words.specs.Rule.{Term, constant, chosen, rule_name, greatest_rule_name}
use Rattle.read_rule_words.specs.ReadRule.{RuleKind, TRUE, NOT, OR, VOID, AT, BESIDE, SOME, SOMETIME, SOMEWHERE, PLACED, OTHER, rule_kind}
use Rattle.read_rule_words.specs.RuleWords.{term_word}
use Rattle.read_rule_words.specs.declared.RuleTerm.TheVariants.{Constant, Chosen}

-- which term it is, by the code's answer
pub constant-told : (t : Term) (n : ℕ) → Constant n ≡ term_word t → t ≡ constant n
unfolding term_word
constant-told (constant m) n e = let z : m ≡ n = cc in rw z
constant-told (chosen i) n e = cc

pub chosen-told : (t : Term) (i : ℕ) → Chosen i ≡ term_word t → t ≡ chosen i
unfolding term_word
chosen-told (constant n) i e = cc
chosen-told (chosen j) i e = let z : j ≡ i = cc in rw z

-- a kind by its number
abbrev Numbered : RuleKind → ℕ → Type 0
Numbered TRUE k = k ≡ 0
Numbered NOT k = k ≡ 1
Numbered OR k = k ≡ 2
Numbered VOID k = k ≡ 3
Numbered AT k = k ≡ 4
Numbered BESIDE k = k ≡ 5
Numbered SOME k = k ≡ 6
Numbered SOMETIME k = k ≡ 7
Numbered SOMEWHERE k = k ≡ 8
Numbered PLACED k = k ≡ 9
Numbered OTHER k = Unit {0}

abbrev kind_of : ℕ → RuleKind
kind_of k = get_or (TRUE ∷ NOT ∷ OR ∷ VOID ∷ AT ∷ BESIDE ∷ SOME ∷ SOMETIME ∷ SOMEWHERE ∷ PLACED ∷ []) k OTHER

kind-number : (k : ℕ) → Numbered (kind_of k) k
kind-number zero = refl
kind-number (suc zero) = refl
kind-number (suc (suc zero)) = refl
kind-number (suc (suc (suc zero))) = refl
kind-number (suc (suc (suc (suc zero)))) = refl
kind-number (suc (suc (suc (suc (suc zero))))) = refl
kind-number (suc (suc (suc (suc (suc (suc zero)))))) = refl
kind-number (suc (suc (suc (suc (suc (suc (suc zero))))))) = refl
kind-number (suc (suc (suc (suc (suc (suc (suc (suc zero)))))))) = refl
kind-number (suc (suc (suc (suc (suc (suc (suc (suc (suc zero))))))))) = refl
kind-number (suc (suc (suc (suc (suc (suc (suc (suc (suc (suc k)))))))))) = tt

pub kind-told : (w : ℕ) (k : RuleKind) → rule_kind w ≡ k → Numbered k (kind w)
unfolding rule_kind
kind-told w k e = subst (λ (x : RuleKind). Numbered x (kind w)) e (kind-number (kind w))

pub names-greatest : (ws : List ℕ) → greatest_of rule_name ws ≡ greatest_rule_name ws
unfolding greatest_rule_name
names-greatest = greatest-from rule_name greatest_rule_name refl (λ w ws. refl)

-- The name that a term says, by the names chosen so far. Assumes nothing.
use Prim.Native.Nat.{ℕ, ◌≤◌}
use mathlib.Core.List.{List}
use mathlib.Core.Path.{◌≡◌, sym, ap, ◌∙◌}
use mathlib.Core.Bool.{cond}
use native.Mathlib.Omega.{arith}
use lib.Dec.{ltb}
use lib.ListN.{get_or, length, get_or-eq_default}
use borrow.Author.Tests.{ltb-false}
use Rattle.base_slices.proofs.Tests.{by_test}
use Rattle.read_rule_words.specs.Rule.{Term}
use Rattle.read_rule_words.specs.RuleWords.{term_word}
use Rattle.read_rule_words.specs.declared.RuleTerm.{RuleTerm}
use Rattle.read_rule_words.specs.declared.RuleTerm.TheVariants as terms
use Rattle.read_rule_words.proofs.Words.{constant-told, chosen-told}
use Rattle.walk_stages.specs.Visits.{name_said}

module _ (choices : List ℕ) (t : Term) where
  pub said-constant : (n : ℕ) (y : RuleTerm) → y ≡ terms.Constant n → y ≡ term_word t → n ≡ name_said choices t
  unfolding name_said
  said-constant n y f e = sym (ap (name_said choices) (constant-told t n (sym f ∙ e)))

  -- the name at an index, 0 where there is none
  index_said : length choices ≡ 256 → (i : ℕ) → get_or choices i 0 ≡ cond (ltb i 256) (get_or choices i 0) 0
  index_said long i =
      by_test (ltb i 256)
      (λ e. sym (rw e))
      (λ e. let h : length choices ≤ i = omega (arith, ltb-false i 256 e, long) in get_or-eq_default choices 0 h ∙ sym (rw e))

  pub said-chosen : (i : ℕ) (y : RuleTerm) → y ≡ terms.Chosen i → y ≡ term_word t → length choices ≡ 256 → get_or choices i 0 ≡ name_said choices t
  unfolding name_said
  said-chosen i y f e long = index_said long i ∙ sym (ap (name_said choices) (chosen-told t i (sym f ∙ e)))

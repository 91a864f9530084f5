-- The parts of a closure counted through the sets that hold it. Assumes nothing.
use Prim.Native.Nat.{ℕ, ◌+◌, ◌-◌, ◌≤◌}
use mathlib.Core.List.{List, [], ◌∷◌, tail}
use mathlib.Core.Path.{◌≡◌, refl, sym, ap, ◌∙◌}
use native.Mathlib.Omega.{arith}
use Rattle.base_sets.specs.Sets.{head_or}
use Rattle.read_scripts.specs.Tree.{close, part, tops, total_over, parts}
use Rattle.read_scripts.specs.Represents.{Held}
use Rattle.theory_closures.specs.Closure.{ClosureHead, Closure}
use Rattle.engine_states.specs.Searches.{CountsParts}
use Rattle.engine_states.proofs.Holding.{no-cons}

module _ (k : ℕ → List ℕ) (left : List ℕ) (fuel : ℕ) where
  pub count_none : left ≡ [] → CountsParts k left fuel 0
  unfolding tops total_over
  count_none z w close e h m = refl
  count_none z w (part i g s r) e h m = absurd (no-cons i (tops r) (sym e ∙ z))

  module _ (i a b : ℕ) (l : List ℕ) (first : left ≡ i ∷ l) (inside : CountsParts k (k i) (fuel - 1) a) (rest : CountsParts k l (fuel - 1) b) where
    by_first : (w : ℕ → ClosureHead) (c : Closure) → left ≡ tops c → Held k w c → parts c ≤ fuel → parts c ≡ 1 + a + b
    unfolding tops total_over
    by_first w close e h m = absurd (no-cons i l (sym first ∙ e))
    by_first w (part j g s r) e h m =
        let p : i ≡ j = ap (head_or 0) (sym first ∙ e) in
        let x : a ≡ parts s = inside w s (ap k p ∙ h.0) h.2 (omega arith) in
        let y : b ≡ parts r = rest w r (ap tail (sym first ∙ e)) h.3 (omega arith) in
        omega arith

    pub count-part : CountsParts k left fuel (1 + a + b)
    count-part w c e h m = sym (by_first w c e h m)

    pub count-many : fuel ≤ 64 → 64 ≤ a + b → CountsParts k left fuel 65
    count-many few more w c e h m = absurd (let z : ⊥ = omega (arith, by_first w c e h m) in z)

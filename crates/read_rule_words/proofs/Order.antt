-- The PLACED words of a rule that is read are numbered in their order. Assumes nothing.
use Prim.Native.Nat.{ℕ, ◌≤◌}
use mathlib.Core.List.{List}
use mathlib.Core.Path.{◌≡◌, subst}
use native.Mathlib.Omega.{arith}
use Rattle.read_messages.specs.Reading.{Cursor, got}
use Rattle.read_messages.proofs.Readings.{Next}
use Rattle.read_rule_words.specs.Rule.{Rule, Later, truth, negation, either, void, at, beside, some-name, sometime, somewhere, placed}
use Rattle.read_rule_words.specs.ReadRule.{read_whole_rule}
use Rattle.read_rule_words.proofs.Cases.{Cases, whole-rule-case}

pub later-down : (m n : ℕ) (r : Rule) → m ≤ n → Later n r → Later m r
later-down m n (truth i) l h = tt
later-down m n (negation i r) l h = later-down m n r l h
later-down m n (either i r q) l h = (later-down m n r l h.0, later-down m n q l h.1)
later-down m n (void i) l h = tt
later-down m n (at i t r) l h = later-down m n r l h
later-down m n (beside i r q) l h = (later-down m n r l h.0, later-down m n q l h.1)
later-down m n (some-name i r) l h = later-down m n r l h
later-down m n (sometime i r) l h = later-down m n r l h
later-down m n (somewhere i r) l h = later-down m n r l h
later-down m n (placed i j t r) l h = let k : n ≤ j = h.0 in (omega arith, h.1)

-- what is claimed where a rule was read from c on, p being the rule and the cursor behind it
abbrev pub Ordered : List ℕ → Cursor → Rule × Cursor → Type 0
Ordered somes c p = Later c.number p.0 × (c.number ≤ p.1.number)

module _ (c : Cursor) (q : ℕ × Cursor) (n : Next c q) where
  one-ordered : (p : Rule × Cursor) → Later q.1.number p.0 × (q.1.number ≤ p.1.number) → Later c.number p.0 × (c.number ≤ p.1.number)
  one-ordered p h = subst (λ (x : ℕ). Later x p.0 × (x ≤ p.1.number)) n.number h

  two-ordered : (p r : Rule × Cursor) → Later q.1.number p.0 × (q.1.number ≤ p.1.number) → Later p.1.number r.0 × (p.1.number ≤ r.1.number)
      → (Later c.number p.0 × Later c.number r.0) × (c.number ≤ r.1.number)
  two-ordered p r h g =
      let (x, y) = one-ordered p h in
      let u : c.number ≤ p.1.number = y in
      let v : p.1.number ≤ r.1.number = g.1 in
      ((x, later-down c.number p.1.number r.0 u g.0), omega arith)

ordered-cases : Cases Ordered
ordered-cases = record {
  leaves = λ s c q n. (λ k. (tt, omega (arith, n.number)), λ k. (tt, omega (arith, n.number)));
  ones = λ s c q p n h. (λ k. one-ordered c q n p h, λ k. one-ordered c q n p h, λ k. one-ordered c q n p h);
  twos = λ s c q p r n h g. (λ k. two-ordered c q n p r h g, λ k. two-ordered c q n p r h g);
  ats = λ s c q p n k o h. one-ordered c q n p h;
  chooses = λ s c q p n k l h. one-ordered c q n p h;
  placings = λ s c q p n k o h. ((omega (arith, n.number), h.0), omega (arith, n.number, h.1));
}

-- THEOREM: in a rule that is read, the PLACED words inside a PLACED word have later numbers.
pub rule-ordered : (n : ℕ) (ws : List ℕ) (p : Rule × Cursor) → read_whole_rule n ws ≡ got p → Later 0 p.0
rule-ordered n ws p e = (whole-rule-case Ordered ordered-cases n ws p e).0

-- The walk decides satisfaction: a yes means that the tree meets the rule, a no that it does not. The names 1 to G + d
-- decide SOME, since a name beyond them can be exchanged for the last of them. Assumes nothing.
use Prim.Native.Nat.{ℕ, zero, suc, ◌+◌, ◌≤◌, ◌<◌}
use mathlib.Core.Bool.{Bool, true, false, cond}
use mathlib.Core.List.Memᴰ
use mathlib.Core.List.{List, [], ◌∷◌, Memᴰ}
use mathlib.Core.Path.{◌≡◌, refl, sym, ap₂, ◌∙◌, subst}
use mathlib.Core.Logic.{◌⊎◌, inl, inr}
use mathlib.Core.Option.{Option, none, some}
use native.Mathlib.Omega.{arith}
use lib.Dec.{eqb, ltb}
use lib.ListN.{length}
use Rattle.base_sets.specs.Sets.{numbers_from}
use borrow.Author.Tests.{eqb-true, eqb-false, eq-eqb, ne_eqb, ltb-true, ltb-false}
use Rattle.read_messages.specs.Message.{Message}
use Rattle.read_scripts.specs.Tree.{close, part, Plain}
use Rattle.theory_machine.specs.Moves.{MoveMade}
use Rattle.theory_machine.specs.PlainMachine.{move}
use Rattle.base_slices.proofs.Tests.{by_test}
use Rattle.theory_machine.proofs.Options.{some_is, none≢some}
use Rattle.read_rule_words.specs.Rule.{Term, Rule, truth, negation, either, void, at, beside, some-name, sometime, somewhere, placed, Names, term_name}
use Rattle.theory_calculus.specs.Satisfaction.{Within, here, deeper, Reaches, stay, go, wrapped, Sat}
use Rattle.theory_decision.specs.Divisions.{is_void, divisions}
use Rattle.theory_decision.specs.Walk.{Count, Walked, stopped, says, Setting, on_yes, on_no, turned, if_any, first_yes, last_name, look, counted, walk}
use Rattle.theory_decision.specs.PlainWalk.{only, insides, nexts, plain_space}
use Rattle.theory_decision.proofs.Renaming.{rename_names, rename_rule, rename_tree, Permutation, Same, sat-rename}
use Rattle.theory_decision.proofs.Fits.{Fits, NamesAll, RuleAll, move-fits, inside-fits, divided-fits, alone-fits, wrapped-fits, term-all, names_more, term-more, fits_more, tree-still, rule-still, names-still}
use Rattle.theory_decision.proofs.Listed.{in_span, of-span, Next, of-nexts, in-nexts, in-divisions, of-divisions, of-insides, in-insides, of-only, in-only}

-- the answer is right about P
pub data Reflects (P : Type 0) : Bool → Type 0 where
  holds : P → Reflects P true
  fails : ¬ P → Reflects P false

pub elim_true : {P : Type 0} → Reflects P true → P
elim_true (holds p) = p

pub elim_false : {P : Type 0} → Reflects P false → ¬ P
elim_false (fails n) = n

iff : {P Q : Type 0} {a : Bool} → (P → Q) → (Q → P) → Reflects P a → Reflects Q a
iff f g (holds p) = holds (f p)
iff f g (fails n) = fails (λ q. n (g q))

pub stopped≢says : {B : Type 0} {q i v : ℕ} {a : Bool} {n : Count} → stopped q i v ≡ says a n → B
stopped≢says e = let z : ◌≡◌ {A = ℕ} 0 1 = cc in absurd (let w : ⊥ = omega arith in w)

as_said : {P : Type 0} {a b : Bool} {n m : Count} → says a n ≡ says b m → Reflects P a → Reflects P b
as_said {P} {a} {b} e h = let q : a ≡ b = cc in subst (Reflects P) q h

-- whatever the walk w says is right about P
abbrev pub Right : Type 0 → Walked → Type 0
Right P w = (a : Bool) (m : Count) → w ≡ says a m → Reflects P a

on_no-right : (P Q : Type 0) (w : Walked) (k : Count → Walked) → Right P w → ((n : Count) → Right Q (k n)) → Right (P ⊎ Q) (on_no w k)
unfolding on_no
on_no-right P Q (stopped q i v) k f g a m e = stopped≢says e
on_no-right P Q (says true n) k f g a m e = as_said e (holds (inl (elim_true (f true n refl))))
on_no-right P Q (says false n) k f g a m e = iff (λ y. inr y) (λ s. elim s [ inl x ↦ absurd (elim_false (f false n refl) x) | inr y ↦ y ]) (g n a m e)

on_yes-right : (P Q : Type 0) (w : Walked) (k : Count → Walked) → Right P w → ((n : Count) → Right Q (k n)) → Right (P × Q) (on_yes w k)
unfolding on_yes
on_yes-right P Q (stopped q i v) k f g a m e = stopped≢says e
on_yes-right P Q (says true n) k f g a m e = iff (λ y. (elim_true (f true n refl), y)) (λ s. s.1) (g n a m e)
on_yes-right P Q (says false n) k f g a m e = as_said e (fails (λ s. elim_false (f false n refl) s.0))

turned_right : (P : Type 0) (w : Walked) → Right P w → Right (¬ P) (turned w)
unfolding turned
turned_right P (stopped q i v) f a m e = stopped≢says e
turned_right P (says true n) f a m e = as_said e (fails (λ g. g (elim_true (f true n refl))))
turned_right P (says false n) f a m e = as_said e (holds (elim_false (f false n refl)))

if_any-right : {S : Type 0} (P : S → Type 0) (x : Option S) (f : S → Walked) (n : Count) → ((c : S) → x ≡ some c → Right (P c) (f c)) → Right ((c : S) × (x ≡ some c) × P c) (if_any x f n)
unfolding if_any
if_any-right P none f n h a m e = as_said e (fails (λ s. none≢some s.1))
if_any-right P (some c) f n h a m e = iff (λ p. (c, refl, p)) (λ s. subst P (sym (some_is s.1)) s.2) (h c refl a m e)

-- some element of a list has P
abbrev Some : {A : Type 0} → (A → Type 0) → List A → Type 0
Some {A} P l = (x : A) × Memᴰ x l × P x

first_yes-right : {A : Type 0} (P : A → Type 0) (f : A → Count → Walked) (l : List A) → ((x : A) → Memᴰ x l → (k : Count) → Right (P x) (f x k)) →
    (k : Count) → Right (Some P l) (first_yes f l k)
unfolding first_yes
first_yes-right P f [] h k a m e = as_said e (fails (λ s. Memᴰ.not-nil s.1))
first_yes-right P f (x ∷ l) h k a m e =
    iff
    (λ s. elim s [ inl p ↦ (x, Memᴰ.head refl, p) | inr t ↦ (t.0, Memᴰ.tail t.1, t.2) ])
    (λ s. elim (Memᴰ.cases_cons s.1) [ inl q ↦ inl (subst P q s.2) | inr t ↦ inr (s.0, t, s.2) ])
    (on_no-right (P x) (Some P l) (f x k) _ (h x (Memᴰ.head refl) k) (λ n. first_yes-right P f l (λ y p. h y (Memᴰ.tail p)) n) a m e)

void-right : (b : Plain) → Reflects (b ≡ close) (is_void b)
unfolding is_void
void-right close = holds refl
void-right (part k h i b) = fails (λ e. let z : ◌≡◌ {A = ℕ} 0 1 = cc in absurd (let w : ⊥ = omega arith in w))

within-cases : (P : Plain → Type 0) {b c : Plain} → Within b c → P c → P b ⊎ Some (λ (d : Plain). (x : Plain) × Within d x × P x) (insides b)
within-cases P here p = inl p
within-cases P (deeper {c = c} {d = d} i w) p = inr (c, in-insides i, (d, w, p))

reach-cases : (P : Plain → Type 0) (l : Plain → List Plain) {b c : Plain} → ((a t : ℕ) (m : MoveMade (List Message)) → move a t b ≡ some m → Memᴰ m.body (l b)) →
    Reaches b c → P c → P b ⊎ Some (λ (d : Plain). (x : Plain) × Reaches d x × P x) (l b)
reach-cases P l f stay p = inl p
reach-cases P l f (go {b = b} {c = c} a t m e r) p = inr (m.body, f a t m e, (c, r, p))

of-next : {b c d : Plain} → Next b c → Reaches c d → Reaches b d
of-next {b} {c} {d} x r = go x.0 x.1 x.2 x.3 (subst (λ (y : Plain). Reaches y d) x.4 r)

-- two names exchanged
exchange : ℕ → ℕ → ℕ → ℕ
exchange x y n = cond (eqb n x) y (cond (eqb n y) x n)

exchange-first : (x y n : ℕ) → n ≡ x → exchange x y n ≡ y
unfolding exchange
exchange-first x y n e = rw (eq-eqb n x e)

exchange-second : (x y n : ℕ) → n ≡ y → exchange x y n ≡ x
unfolding exchange
exchange-second x y n e = by_test (eqb n x) (λ t. rw t (sym e ∙ eqb-true n x t)) (λ t. rw (t, eq-eqb n y e))

exchange-other : (x y n : ℕ) → ¬ (n ≡ x) → ¬ (n ≡ y) → exchange x y n ≡ n
unfolding exchange
exchange-other x y n d f = rw (ne_eqb n x d, ne_eqb n y f)

exchange-cases : (P : ℕ → Type 0) (x y n : ℕ) → (n ≡ x → P y) → (n ≡ y → P x) → (¬ (n ≡ x) → ¬ (n ≡ y) → P n) → P (exchange x y n)
exchange-cases P x y n f g h = by_test (eqb n x)
    (λ t. let e = eqb-true n x t in rw (exchange-first x y n e) (f e))
    (λ t. by_test (eqb n y)
    (λ u. let e = eqb-true n y u in rw (exchange-second x y n e) (g e))
    (λ u. rw (exchange-other x y n (eqb-false n x t) (eqb-false n y u)) (h (eqb-false n x t) (eqb-false n y u))))

swapping : (x y : ℕ) → 1 ≤ x → 1 ≤ y → Permutation
swapping x y hx hy = record {
  to = exchange x y;
  back = exchange x y;
  back_to = twice;
  to_back = twice;
  positive = low;
  back-positive = low;
  null = exchange-other x y 0 (λ e. omega arith) (λ e. omega arith);
}
  where
    twice : (n : ℕ) → exchange x y (exchange x y n) ≡ n
    twice n = exchange-cases (λ (m : ℕ). exchange x y m ≡ n) x y n
        (λ e. exchange-second x y y refl ∙ sym e)
        (λ e. exchange-first x y x refl ∙ sym e)
        (λ d f. exchange-other x y n d f)

    low : (n : ℕ) → 1 ≤ n → 1 ≤ exchange x y n
    low n h = exchange-cases (λ (m : ℕ). 1 ≤ m) x y n (λ e. hy) (λ e. hx) (λ d f. h)

sat-exchange : (x y : ℕ) → 1 ≤ x → 1 ≤ y → (n : ℕ) (e : Names) (r : Rule) (b : Plain) → Sat n e r b → Sat n (rename_names (exchange x y) e) (rename_rule (exchange x y) r) (rename_tree (exchange x y) b)
unfolding swapping Same
sat-exchange x y hx hy n e r b S = (sat-rename (swapping x y hx hy) n r e b).0 S

-- What the walk knows of what it visits: the names chosen, the rule and the tree hold no name above G + (the SOMEs
-- around), and every part number is below the limit, those that PLACED gives too.
pub record Known (limit : ℕ) (s : Setting) (e : Names) (r : Rule) (b : Plain) : Type 0 where
  pub names : NamesAll (λ (n : ℕ). n ≤ s.greatest + length e) e
  pub rule : RuleAll (λ (j : ℕ). s.parts + j < limit) (λ (n : ℕ). n ≤ s.greatest) r
  pub tree : Fits (λ (k : ℕ). k < limit) (λ (n : ℕ). n ≤ s.greatest + length e) b

module _ (limit : ℕ) (s : Setting) where
  -- A name that is not among the first G + d may be exchanged for the last of them.
  fresh : (e : Names) (r : Rule) (b : Plain) → Known limit s e r b → (i m : ℕ) → 1 ≤ m → Sat s.parts ((i, m) ∷ e) r b → Some (λ (x : ℕ). Sat s.parts ((i, x) ∷ e) r b) (numbers_from 1 (last_name s e))
  unfolding rename_names
  fresh e r b K i m h S =
      let F : ℕ = last_name s e in
      by_test (ltb F m)
      (λ t.
      let l = ltb-true F m t in
      let f : ℕ → ℕ = exchange F m in
      let still : (n : ℕ) → n ≤ s.greatest + length e → f n ≡ n = λ n q. exchange-other F m n (λ w. omega arith) (λ w. omega arith) in
      let low : (n : ℕ) → n ≤ s.greatest → f n ≡ n = λ n q. still n (omega arith) in
      let qe : rename_names f ((i, m) ∷ e) ≡ (i, F) ∷ e = ap₂ (λ (x : ℕ) (y : Names). (i, x) ∷ y) (exchange-second F m m refl) (names-still _ f still e K.names) in
      let S₁ = sat-exchange F m (omega arith) h s.parts ((i, m) ∷ e) r b S in
      let S₂ = subst (λ (x : Names). Sat s.parts x (rename_rule f r) (rename_tree f b)) qe S₁ in
      let S₃ = subst (λ (x : Rule). Sat s.parts ((i, F) ∷ e) x (rename_tree f b)) (rule-still _ f low _ r K.rule) S₂ in
      (F, in_span 1 F F (omega arith) (omega arith), subst (λ (x : Plain). Sat s.parts ((i, F) ∷ e) r x) (tree-still _ f still _ b K.tree) S₃))
      (λ t. (m, in_span 1 F m h (omega (arith, ltb-false F m t)), S))

  -- what is known of what is visited next
  known-rule : (e : Names) (r q : Rule) (b : Plain) → Known limit s e r b → RuleAll (λ (j : ℕ). s.parts + j < limit) (λ (n : ℕ). n ≤ s.greatest) q → Known limit s e q b
  known-rule e r q b K x = record { names = K.names; rule = x; tree = K.tree }

  known-tree : (e : Names) (r : Rule) (b c : Plain) → Known limit s e r b → Fits (λ (k : ℕ). k < limit) (λ (n : ℕ). n ≤ s.greatest + length e) c → Known limit s e r c
  known-tree e r b c K y = record { names = K.names; rule = K.rule; tree = y }

  known_next : (e : Names) (r : Rule) (b c : Plain) → Known limit s e r b → Next b c → Known limit s e r c
  known_next e r b c K (a, t, m, q, p) = known-tree e r b c K (subst (Fits _ _) (sym p) (move-fits _ _ a t b m q K.tree).2)

  known-chosen : (e : Names) (i : ℕ) (r : Rule) (b : Plain) → Known limit s e r b → (m : ℕ) → Memᴰ m (numbers_from 1 (last_name s e)) → Known limit s ((i, m) ∷ e) r b
  known-chosen e i r b K m p =
      let h = of-span 1 _ m p in
      let up : (n : ℕ) → n ≤ s.greatest + length e → n ≤ s.greatest + length ((i, m) ∷ e) = λ n q. omega arith in
      record { names = (omega arith, names_more _ _ up e K.names); rule = K.rule; tree = fits_more _ _ _ _ (λ k q. q) up b K.tree }

  known-placed : (e : Names) (i j : ℕ) (t : Term) (r : Rule) (b : Plain) → Known limit s e (placed i j t r) b → Known limit s e r (wrapped (s.parts + j) (term_name e t) b)
  known-placed e i j t r b K = record {
    names = K.names;
    rule = K.rule.2;
    tree = wrapped-fits _ _ (s.parts + j) (term_name e t) b K.rule.0
        (term-all (λ (n : ℕ). n ≤ s.greatest + length e) (omega arith) e t K.names (term-more _ _ (λ n q. omega arith) t K.rule.1)) K.tree;
  }

  -- a visit is right about what it knows
  unfoldable pub Good : (Names → Rule → Plain → Count → Walked) → Type 0
  Good v = (e : Names) (r : Rule) (b : Plain) → Known limit s e r b → (k : Count) → Right (Sat s.parts e r b) (v e r b k)

  look-right : (v : Names → Rule → Plain → Count → Walked) → Good v → Good (look (plain_space limit) s v)
  unfolding look Sat Good
  look-right v g e (truth i) b K k a m q = as_said q (holds tt)
  look-right v g e (negation i r) b K k a m q = turned_right _ _ (g e r b (known-rule e _ r b K K.rule) k) a m q
  look-right v g e (either i r p) b K k a m q =
      on_no-right _ _ _ _ (g e r b (known-rule e _ r b K K.rule.0) k) (λ n. g e p b (known-rule e _ p b K K.rule.1) n) a m q
  look-right v g e (void i) b K k a m q = as_said q (void-right b)
  look-right v g e (at i t r) b K k a m q =
      let K₁ = known-rule e _ r b K K.rule.1 in
      iff (λ z. (z.0, of-only (term_name e t) b z.0 z.1, z.2)) (λ z. (z.0, in-only z.1, z.2))
      (if_any-right (Sat s.parts e r) (only (term_name e t) b) _ _ (λ c p. g e r c (known-tree e r b c K₁ (alone-fits _ _ (of-only (term_name e t) b c p) K.tree)) k) a m q)
  look-right v g e (beside i r p) b K k a m q =
      iff (λ z. (z.0.0, z.0.1, of-divisions b z.0 z.1, z.2.0, z.2.1)) (λ z. ((z.0, z.1), in-divisions z.2, (z.3, z.4)))
      (first_yes-right (λ d. Sat s.parts e r d.0 × Sat s.parts e p d.1) _ (divisions b)
      (λ d w n. let y = divided-fits _ _ (of-divisions b d w) K.tree in
      on_yes-right _ _ _ _ (g e r d.0 (known-tree e r b _ (known-rule e _ r b K K.rule.0) y.0) n) (λ n₁. g e p d.1 (known-tree e p b _ (known-rule e _ p b K K.rule.1) y.1) n₁)) k a m q)
  look-right v g e (some-name i r) b K k a m q =
      let K₁ = known-rule e _ r b K K.rule in
      iff (λ z. (z.0, (of-span 1 _ z.0 z.1).0, z.2)) (λ z. fresh e r b K₁ i z.0 z.1 z.2)
      (first_yes-right (λ x. Sat s.parts ((i, x) ∷ e) r b) _ (numbers_from 1 (last_name s e)) (λ x w n. g ((i, x) ∷ e) r b (known-chosen e i r b K₁ x w) n) k a m q)
  look-right v g e (sometime i r) b K k a m q =
      iff (λ z. elim z [ inl x ↦ (b, stay, x) | inr y ↦ (y.2.0, of-next (of-nexts limit b y.0 y.1) y.2.1, y.2.2) ])
      (λ z. reach-cases (Sat s.parts e r) (nexts limit) (in-nexts limit _ b K.tree) z.1 z.2)
      (on_no-right _ _ _ _ (g e r b (known-rule e _ r b K K.rule) k)
      (λ n. first_yes-right (λ c. Sat s.parts e (sometime i r) c) _ (nexts limit b) (λ c w n₁. g e (sometime i r) c (known_next e _ b c K (of-nexts limit b c w)) n₁) n) a m q)
  look-right v g e (somewhere i r) b K k a m q =
      iff (λ z. elim z [ inl x ↦ (b, here, x) | inr y ↦ (y.2.0, deeper (of-insides b y.0 y.1) y.2.1, y.2.2) ])
      (λ z. within-cases (Sat s.parts e r) z.1 z.2)
      (on_no-right _ _ _ _ (g e r b (known-rule e _ r b K K.rule) k)
      (λ n. first_yes-right (λ c. Sat s.parts e (somewhere i r) c) _ (insides b) (λ c w n₁. g e (somewhere i r) c (known-tree e _ b c K (inside-fits _ _ (of-insides b c w) K.tree)) n₁) n) a m q)
  look-right v g e (placed i j t r) b K k a m q = g e r _ (known-placed e i j t r b K) k a m q

  -- THEOREM: what the walk says is so.
  pub walk-right : (left depth : ℕ) → Good (walk (plain_space limit) s left depth)
  unfolding walk Good
  walk-right zero depth e r b K k a m q = stopped≢says q
  walk-right (suc l) depth e r b K k a m q =
      by_test (ltb k.visits s.patience)
      (λ t. look-right _ (λ e₁ r₁ b₁ K₁ k₁. walk-right l (suc depth) e₁ r₁ b₁ K₁ k₁) e r b K (counted (plain_space limit) s depth k) a m (rw t at q))
      (λ t. stopped≢says (rw t at q))

  pub walk-yes : (left depth : ℕ) (e : Names) (r : Rule) (b : Plain) (n m : Count) → Known limit s e r b → walk (plain_space limit) s left depth e r b n ≡ says true m → Sat s.parts e r b
  unfolding Good
  walk-yes left depth e r b n m K q = elim_true (walk-right left depth e r b K n true m q)

  pub walk_no : (left depth : ℕ) (e : Names) (r : Rule) (b : Plain) (n m : Count) → Known limit s e r b → walk (plain_space limit) s left depth e r b n ≡ says false m → ¬ Sat s.parts e r b
  unfolding Good
  walk_no left depth e r b n m K q = elim_false (walk-right left depth e r b K n false m q)

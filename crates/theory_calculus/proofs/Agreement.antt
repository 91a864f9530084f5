-- Satisfaction read on trees is the paper's satisfaction of the process that the tree represents (000, section 2.2).
-- Assumes nothing.
use Prim.Native.Nat.{ℕ, suc, ◌+◌}
use mathlib.Core.List.{◌∷◌}
use mathlib.Core.Path.{◌≡◌, refl, sym, ap, ◌∙◌, subst}
use mathlib.Core.Logic.{inl, inr, ◌↔◌}
use native.Mathlib.Omega.{arith}
use Rattle.read_messages.specs.Message.{name, name_of}
use Rattle.read_scripts.specs.Tree.{Head, close, part, PlainHead, Plain}
use Rattle.theory_machine.specs.Moves.{head_name}
use Rattle.theory_machine.proofs.Inversion.{plain-name}
use Rattle.read_rule_words.specs.Rule.{Names, term_name, Rule, truth, negation, either, void, at, beside, some-name, sometime, somewhere, placed, Later}
use Rattle.theory_calculus.specs.Satisfaction.{Inside, first, later, Within, here, deeper, Reaches, stay, go, Alone, wrapped, Sat}
use Rattle.theory_calculus.specs.Order.{HasPart, front, behind}
use Rattle.theory_calculus.specs.Calculus.{Process, 𝟎, ambient, ◌≅◌, StructRefl, StructSymm, StructTrans, StructAmb, StructZeroPar, RedCong, stop, step, ◌⟶*◌, Loc, ◌↓*◌, Satisfies}
use Rattle.theory_calculus.specs.TreeProcess.{piece, process}
use Rattle.theory_calculus.proofs.Divisions.{as-nothing, as-both, divided-congruent}
use Rattle.theory_calculus.proofs.Picks.{has-ambient, as-ambient, part-process}
use Rattle.theory_calculus.proofs.Reductions.{move-reduces}
use Rattle.theory_calculus.proofs.Steps.{reduction-step}
use Rattle.theory_calculus.proofs.Runs.{step_move}
use Rattle.theory_calculus.proofs.Kept.{Good, good-move, good-divided, good-part, good_placed}

-- a later process, and a process further in, of a congruent process
later-congruent : {p q x : Process} → p ⟶* x → p ≅ q → (y : Process) × (q ⟶* y) × (x ≅ y)
later-congruent {q = q} stop h = (q, stop, h)
later-congruent {x = x} (step s t) h = (x, step (RedCong (StructSymm h) s StructRefl) t, StructRefl)

lower-congruent : {p q x : Process} → p ↓* x → p ≅ q → (y : Process) × (q ↓* y) × (x ≅ y)
lower-congruent {q = q} stop h = (q, stop, h)
lower-congruent {x = x} (step (Loc s) t) h = (x, step (Loc (StructTrans (StructSymm h) s)) t, StructRefl)

-- THEOREM: congruent processes satisfy the same rules.
pub congruent-satisfies : (r : Rule) (e : Names) (p q : Process) → p ≅ q → Satisfies e p r → Satisfies e q r
unfolding Satisfies
congruent-satisfies (truth i) e p q h s = tt
congruent-satisfies (negation i r) e p q h s = λ x. s (congruent-satisfies r e q p (StructSymm h) x)
congruent-satisfies (either i r t) e p q h s = elim s [ inl x ↦ inl (congruent-satisfies r e p q h x) | inr x ↦ inr (congruent-satisfies t e p q h x) ]
congruent-satisfies (void i) e p q h s = StructTrans (StructSymm h) s
congruent-satisfies (at i t r) e p q h s = (s.0, StructTrans (StructSymm h) s.1, s.2)
congruent-satisfies (beside i r t) e p q h s = (s.0, s.1, StructTrans (StructSymm h) s.2, s.3, s.4)
congruent-satisfies (some-name i r) e p q h s = (s.0, s.1, congruent-satisfies r ((i, s.0) ∷ e) p q h s.2)
congruent-satisfies (sometime i r) e p q h s = let x = later-congruent s.1 h in (x.0, x.1, congruent-satisfies r e s.0 x.0 x.2 s.2)
congruent-satisfies (somewhere i r) e p q h s = let x = lower-congruent s.1 h in (x.0, x.1, congruent-satisfies r e s.0 x.0 x.2 s.2)
congruent-satisfies (placed i j t r) e p q h s = congruent-satisfies r e _ _ (StructAmb h) s

module _ (n : ℕ) where
  -- moves and reductions (000, proposition 3.4)
  reaches-reduction : {b c : Plain} → Reaches b c → Good n b → (process b ⟶* process c) × Good n c
  reaches-reduction stay g = (stop, g)
  reaches-reduction (go {b = b} a t m e x) g =
      let y = reaches-reduction x (good-move n b a t m g e) in
      (step (move-reduces a t b m g.distinct g.once e) y.0, y.1)

  -- the tree c is good, and represents a process congruent to q
  abbrev TreeOf : Process → Plain → Type 0
  TreeOf q c = (process c ≅ q) × Good n c

  reduction-reaches : {p q : Process} → p ⟶* q → (b : Plain) → Good n b → process b ≅ p → (c : Plain) × Reaches b c × TreeOf q c
  reduction-reaches stop b g h = (b, stay, (h, g))
  reduction-reaches (step x y) b g h =
      let u = reduction-step x b g.settled g.once g.unbound h in
      let w = step_move u.1 g.distinct in
      let z = reduction-reaches y w.2.body (good-move n b w.0 w.1 w.2 g w.3) (StructTrans w.4 u.2) in
      (z.0, go w.0 w.1 w.2 w.3 z.1, z.2)

  -- insides and sublocations (000, proposition 3.3)
  part-inside : {b i c : Plain} {k m : ℕ} → HasPart b k (Head.ambient (name m)) i c → Inside b i
  unfolding head_name name_of
  part-inside front = first refl
  part-inside (behind p) = later (part-inside p)

  inside-part : {b c : Plain} → Inside b c → (k : ℕ) × (m : ℕ) × (r : Plain) × HasPart b k (Head.ambient (name m)) c r
  inside-part (first {k = k} {n = m} {h = h} {b = b} {r = r} e) = (k, m, r, subst (λ g. HasPart (part k g b r) k (Head.ambient (name m)) b r) (sym (plain-name h m e)) front)
  inside-part (later x) = let y = inside-part x in (y.0, y.1, _, behind y.3)

  within-sublocation : {b c : Plain} → Within b c → Good n b → (process b ↓* process c) × Good n c
  unfolding piece
  within-sublocation here g = (stop, g)
  within-sublocation (deeper {b = b} {c = c} x y) g =
      let p = inside-part x in
      let z = within-sublocation y (good-part n b p.2 c p.0 (name p.1) g p.3) in
      (step (Loc (part-process p.3)) z.0, z.1)

  sublocation-within : {p q : Process} → p ↓* q → (b : Plain) → Good n b → process b ≅ p → (c : Plain) × Within b c × TreeOf q c
  sublocation-within stop b g h = (b, here, (h, g))
  sublocation-within (step (Loc {n = m} {q = q} {r = r} x) y) b g h =
      let u = has-ambient b g.settled (name m) q r (StructTrans h x) in
      let z = sublocation-within y u.0.inside (good-part n b u.0.others u.0.inside u.0.number (name m) g u.0.at) u.1 in
      (z.0, deeper (part-inside u.0.at) z.1, z.2)

wrapped-process : (k n : ℕ) (b : Plain) → process (wrapped k n b) ≅ ambient (name n) (process b)
unfolding process piece
wrapped-process k n b = StructZeroPar

close-process : process close ≅ 𝟎
unfolding process
close-process = StructRefl

-- the one part of a body is a wrapping
alone-wrapped : (n : ℕ) (b c : Plain) (x : Alone n b c) → b ≡ wrapped x.number n c
alone-wrapped n b c x = x.only ∙ ap (λ (h : PlainHead). part x.number h c close) (plain-name x.head n x.named)

wrapped-alone : (k n : ℕ) (b c : Plain) → b ≡ wrapped k n c → Alone n b c
unfolding head_name name_of
wrapped-alone k n b c e = record { number = k; head = Head.ambient (name n); only = e; named = refl }

good-inside : (n k m : ℕ) (b c : Plain) → Good n b → b ≡ wrapped k m c → Good n c
good-inside n k m b c g e = good-part n (wrapped k m c) close c k (name m) (subst (Good n) e g) front

-- THEOREM: a good tree meets a rule just if its process satisfies it.
pub agree : (n : ℕ) (r : Rule) (q : ℕ) → Later q r → (e : Names) (b : Plain) → Good (n + q) b → Sat n e r b ↔ Satisfies e (process b) r
unfolding Sat Satisfies
agree n (truth i) q w e b g = (λ _. tt, λ _. tt)
agree n (negation i r) q w e b g = let a = agree n r q w e b g in (λ x y. x (a.1 y), λ x y. x (a.0 y))
agree n (either i r s) q w e b g = (
  λ x. elim x [ inl y ↦ inl ((agree n r q w.0 e b g).0 y) | inr y ↦ inr ((agree n s q w.1 e b g).0 y) ],
  λ x. elim x [ inl y ↦ inl ((agree n r q w.0 e b g).1 y) | inr y ↦ inr ((agree n s q w.1 e b g).1 y) ],
)
agree n (void i) q w e b g = (λ x. rw x close-process, λ x. as-nothing b g.settled x)
agree n (at i t r) q w e b g =
    let m : ℕ = term_name e t in (
      λ x.
          let f = alone-wrapped m b x.0 x.1 in (
            process x.0,
            subst (λ c. process c ≅ ambient (name m) (process x.0)) (sym f) (wrapped-process x.1.number m x.0),
            (agree n r q w e x.0 (good-inside (n + q) x.1.number m b x.0 g f)).0 x.2,
          ),
      λ x.
          let y = as-ambient b g.settled (name m) x.0 x.1 in (
            y.1,
            wrapped-alone y.0 m b y.1 y.2,
            (agree n r q w e y.1 (good-inside (n + q) y.0 m b y.1 g y.2)).1 (congruent-satisfies r e x.0 (process y.1) (StructSymm y.3) x.2),
          ),
    )
agree n (beside i r s) q w e b g = (
  λ x.
      let d = good-divided (n + q) b x.0 x.1 g x.2 in
      (process x.0, process x.1, divided-congruent x.2, (agree n r q w.0 e x.0 d.0).0 x.3, (agree n s q w.1 e x.1 d.1).0 x.4),
  λ x.
      let y = as-both b g.settled x.0 x.1 x.2 in
      let d = good-divided (n + q) b y.0 y.1 g y.2 in (
        y.0,
        y.1,
        y.2,
        (agree n r q w.0 e y.0 d.0).1 (congruent-satisfies r e x.0 (process y.0) (StructSymm y.3) x.3),
        (agree n s q w.1 e y.1 d.1).1 (congruent-satisfies s e x.1 (process y.1) (StructSymm y.4) x.4),
      ),
)
agree n (some-name i r) q w e b g =
    (λ x. (x.0, x.1, (agree n r q w ((i, x.0) ∷ e) b g).0 x.2), λ x. (x.0, x.1, (agree n r q w ((i, x.0) ∷ e) b g).1 x.2))
agree n (sometime i r) q w e b g = (
  λ x. let y = reaches-reduction (n + q) x.1 g in (process x.0, y.0, (agree n r q w e x.0 y.1).0 x.2),
  λ x.
      let y = reduction-reaches (n + q) x.1 b g StructRefl in
      (y.0, y.1, (agree n r q w e y.0 y.2.1).1 (congruent-satisfies r e x.0 (process y.0) (StructSymm y.2.0) x.2)),
)
agree n (somewhere i r) q w e b g = (
  λ x. let y = within-sublocation (n + q) x.1 g in (process x.0, y.0, (agree n r q w e x.0 y.1).0 x.2),
  λ x.
      let y = sublocation-within (n + q) x.1 b g StructRefl in
      (y.0, y.1, (agree n r q w e y.0 y.2.1).1 (congruent-satisfies r e x.0 (process y.0) (StructSymm y.2.0) x.2)),
)
agree n (placed i j t r) q w e b g =
    let m : ℕ = term_name e t in
    let c : Plain = wrapped (n + j) m b in
    let good : Good (n + suc j) c = subst (λ (u : ℕ). Good u c) (omega arith) (good_placed (n + q) (n + j) m b g (omega (arith, w.0))) in
    let a = agree n r (suc j) w.1 e c good in (
      λ x. congruent-satisfies r e (process c) (ambient (name m) (process b)) (wrapped-process (n + j) m b) (a.0 x),
      λ x. a.1 (congruent-satisfies r e (ambient (name m) (process b)) (process c) (StructSymm (wrapped-process (n + j) m b)) x),
    )

-- THEOREM: trees that represent congruent processes meet the same rules. They may differ in order, in numbers and in the names
-- of variables.
pub same-sat : (n : ℕ) (r : Rule) → Later 0 r → (e : Names) (b c : Plain) → Good (n + 0) b → Good (n + 0) c → process b ≅ process c → Sat n e r b ↔ Sat n e r c
same-sat n r w e b c g h p =
    let x = agree n r 0 w e b g in
    let y = agree n r 0 w e c h in
    (λ z. y.1 (congruent-satisfies r e (process b) (process c) p (x.0 z)), λ z. x.1 (congruent-satisfies r e (process c) (process b) (StructSymm p) (y.0 z)))

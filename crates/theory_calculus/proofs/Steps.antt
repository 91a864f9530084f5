-- A reduction of the process of a tree is a step of the tree, told without numbers (000, proposition 3.4, the other way).
-- Assumes nothing.
use Prim.Native.Nat.{ℕ}
use mathlib.Core.List.{List, ◌∷◌}
use mathlib.Core.Path.{◌≡◌, refl}
use native.Mathlib.Omega.{arith}
use Rattle.read_messages.specs.Message.{Message, name, enter, exit, opens, items}
use Rattle.read_scripts.specs.Tree.{Head, Plain}
use Rattle.theory_machine.specs.PlainMachine.{substitute_body}
use Rattle.theory_calculus.specs.Satisfaction.{Divided}
use Rattle.theory_calculus.specs.Order.{HasPart}
use Rattle.theory_calculus.specs.Calculus.{Process, 𝟎, ◌‖◌, ambient, action, input, output, ◌≅◌, StructRefl, StructSymm, StructTrans, StructAmb, StructParComm, StructParAssoc, StructZeroPar, ◌⟶◌, RedIn, RedOut, RedOpen, RedIO, RedPar, RedAmb, RedCong}
use Rattle.theory_calculus.specs.TreeProcess.{prefix, process}
use Rattle.theory_calculus.proofs.Congruences.{par-both}
use Rattle.theory_calculus.proofs.Substitutions.{Closed, input-substitute, closed-cong, closed-both, closed-ambient, closed-output}
use Rattle.theory_calculus.proofs.Divisions.{Item, Settled, as-both, divided-congruent, divided-settled}
use Rattle.theory_calculus.proofs.Picks.{part-total, divided-total, part-divided, has-ambient, has-receipt, has-output, has-action}
use Rattle.theory_calculus.proofs.Processes.{Once, bindings, binds, own-binds, substitute-process}

-- one step of the tree, and the process that then stands
pub data TreeStep : Plain → Process → Type 0 where
  opening : {b b₁ b₂ i j : Plain} {a t n : ℕ} {is : List Message} → HasPart b t (Head.ambient (name n)) i b₁ → HasPart b₁ a (Head.action (opens (name n) ∷ is)) j b₂ →
      TreeStep b ((prefix is (process j) ‖ process i) ‖ process b₂)
  taking : {b b₁ b₂ i j : Plain} {a t v : ℕ} {m : Message} → HasPart b a (Head.receipt v) j b₁ → HasPart b₁ t (Head.output m) i b₂ →
      TreeStep b (process (substitute_body v m j) ‖ process b₂)
  entering : {b b₁ b₂ i i₁ j room : Plain} {a t k n m : ℕ} {is : List Message} →
      HasPart b k (Head.ambient (name n)) i b₁ → HasPart i a (Head.action (enter (name m) ∷ is)) j i₁ → HasPart b₁ t (Head.ambient (name m)) room b₂ →
      TreeStep b (ambient (name m) (ambient (name n) (prefix is (process j) ‖ process i₁) ‖ process room) ‖ process b₂)
  leaving : {b b₁ i i₁ j room room₁ : Plain} {a t k n m : ℕ} {is : List Message} →
      HasPart b t (Head.ambient (name m)) room b₁ → HasPart room k (Head.ambient (name n)) i room₁ → HasPart i a (Head.action (exit (name m) ∷ is)) j i₁ →
      TreeStep b ((ambient (name n) (prefix is (process j) ‖ process i₁) ‖ ambient (name m) (process room₁)) ‖ process b₁)
  inside : {b b₁ i : Plain} {k n : ℕ} {p : Process} → HasPart b k (Head.ambient (name n)) i b₁ → TreeStep i p → TreeStep b (ambient (name n) p ‖ process b₁)

-- a step of b after which a process congruent to q stands
abbrev pub Stepped : Plain → Process → Type 0
Stepped b q = (p : Process) × TreeStep b p × (p ≅ q)

beside : {b c d : Plain} → Divided b c d → {p : Process} → p ‖ process b ≅ (p ‖ process c) ‖ process d
beside x = StructTrans (par-both StructRefl (divided-congruent x)) (StructSymm StructParAssoc)

-- a step of a share is a step of the whole
step-divided : {b c d : Plain} {p : Process} → Divided b c d → TreeStep c p → Stepped b (p ‖ process d)
step-divided x (opening t a) = let y = part-divided x t in let z = part-divided y.2 a in (_, opening y.1 z.1, beside z.2)
step-divided x (taking a t) = let y = part-divided x a in let z = part-divided y.2 t in (_, taking y.1 z.1, beside z.2)
step-divided x (entering k a t) = let y = part-divided x k in let z = part-divided y.2 t in (_, entering y.1 a z.1, beside z.2)
step-divided x (leaving t k a) = let y = part-divided x t in (_, leaving y.1 k a, beside y.2)
step-divided x (inside k g) = let y = part-divided x k in (_, inside y.1 g, beside y.2)

item-opens : (m : Message) → Item (opens m)
unfolding items
item-opens m = refl

item-enter : (m : Message) → Item (enter m)
unfolding items
item-enter m = refl

item-exit : (m : Message) → Item (exit m)
unfolding items
item-exit m = refl

-- p itself, beside nothing
alone : {p q : Process} → p ≅ q → p ≅ q ‖ 𝟎
alone h = StructTrans h (StructSymm StructZeroPar)

-- THEOREM: a reduction is a step.
pub reduction-step : {p q : Process} → p ⟶ q → (b : Plain) → Settled b → Once b → Closed (process b) → process b ≅ p → Stepped b q
reduction-step (RedIn {n = n} {m = m} {p = p} {q = q} {r = r}) b w u c e =
    let x = has-ambient b w (name n) (action (enter (name m)) p ‖ q) (ambient (name m) r) e in
    let y = has-action x.0.inside x.2 (enter (name m)) (item-enter (name m)) p q x.1 in
    let z = has-ambient x.0.others x.0.settled (name m) r 𝟎 (alone x.0.congruent) in
    (_, entering x.0.at y.1.at z.0.at, StructTrans (par-both (StructAmb (par-both (StructAmb (par-both y.2 y.1.congruent)) z.1)) z.0.congruent) StructZeroPar)
reduction-step (RedOut {n = n} {m = m} {p = p} {q = q} {r = r}) b w u c e =
    let x = has-ambient b w (name m) (ambient (name n) (action (exit (name m)) p ‖ q) ‖ r) 𝟎 (alone e) in
    let y = has-ambient x.0.inside x.2 (name n) (action (exit (name m)) p ‖ q) r x.1 in
    let z = has-action y.0.inside y.2 (exit (name m)) (item-exit (name m)) p q y.1 in
    (_, leaving x.0.at y.0.at z.1.at, StructTrans (par-both (par-both (StructAmb (par-both z.2 z.1.congruent)) (StructAmb y.0.congruent)) x.0.congruent) StructZeroPar)
reduction-step (RedOpen {n = n} {p = p} {q = q}) b w u c e =
    let x = has-ambient b w (name n) q (action (opens (name n)) p) (StructTrans e StructParComm) in
    let y = has-action x.0.others x.0.settled (opens (name n)) (item-opens (name n)) p 𝟎 (alone x.0.congruent) in
    (_, opening x.0.at y.1.at, StructTrans (par-both (par-both y.2 x.1) y.1.congruent) StructZeroPar)
reduction-step (RedIO {x = v} {m = m} {p = p}) b w u c e =
    let x = has-receipt b w v p (output m) (StructTrans e StructParComm) in
    let y = has-output x.1.others x.1.settled m 𝟎 (alone x.1.congruent) in
    let clear : bindings x.0 x.1.inside ≡ 0 = omega (arith, u x.0, part-total (λ k h. binds x.0 h) x.1.at, own-binds x.0) in
    let same = input-substitute x.0 v m (closed-output m (closed-both (output m) (input v p) (closed-cong e c)).0) (process x.1.inside) p x.2 in
    (_, taking x.1.at y.at, StructTrans (par-both (StructTrans (substitute-process x.0 m x.1.inside clear) same) y.congruent) StructZeroPar)
reduction-step (RedPar {p = p} {r = r} h) b w u c e =
    let x = as-both b w p r e in
    let s = divided-settled x.2 w in
    let y = reduction-step h x.0 s.0 (λ v. omega (arith, u v, divided-total (λ k h. binds v h) x.2)) (closed-both (process x.0) (process x.1) (closed-cong (divided-congruent x.2) c)).0 x.3 in
    let z = step-divided x.2 y.1 in
    (z.0, z.1, StructTrans z.2 (par-both y.2 x.4))
reduction-step (RedAmb {n = n} {p = p} h) b w u c e =
    let x = has-ambient b w (name n) p 𝟎 (alone e) in
    let y = reduction-step h x.0.inside x.2 (λ v. omega (arith, u v, part-total (λ k h. binds v h) x.0.at)) (closed-cong (StructSymm x.1) (closed-ambient (name n) p (closed-cong e c))) x.1 in
    (_, inside x.0.at y.1, StructTrans (par-both (StructAmb y.2) x.0.congruent) StructZeroPar)
reduction-step (RedCong i h j) b w u c e = let x = reduction-step h b w u c (StructTrans e i) in (x.0, x.1, StructTrans x.2 j)

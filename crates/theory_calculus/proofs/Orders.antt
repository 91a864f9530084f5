-- Trees that differ only in order, numbers and variables represent congruent processes and meet the same rules, and a move of
-- one is matched by a move of the other. Assumes nothing.
use Prim.Native.Nat.{ℕ, ◌+◌}
use mathlib.Core.List.{List}
use mathlib.Core.Path.{◌≡◌, refl}
use mathlib.Core.Logic.{◌↔◌}
use mathlib.Core.Option.{some}
use native.Mathlib.Omega.{arith}
use Rattle.read_messages.specs.Message.{Message, variable}
use Rattle.read_scripts.specs.Tree.{Head, part, total_over, PlainHead, Plain}
use Rattle.theory_machine.specs.Moves.{MoveMade}
use Rattle.theory_machine.specs.PlainMachine.{move}
use Rattle.read_rule_words.specs.Rule.{Names, Rule, Later}
use Rattle.theory_calculus.specs.Satisfaction.{Sat}
use Rattle.theory_calculus.specs.Order.{HasPart, Reordered, nothing, among, receipt}
use Rattle.theory_calculus.specs.Calculus.{◌≅◌, StructRefl, StructAlpha, StructSymm, StructTrans, StructInput, substitute, occurs}
use Rattle.theory_calculus.specs.TreeProcess.{piece, process}
use Rattle.theory_calculus.proofs.Congruences.{par-both}
use Rattle.theory_calculus.proofs.Picks.{part-process}
use Rattle.theory_calculus.proofs.Processes.{Once, binds, bindings, own-binds, piece-cong, substitute-process}
use Rattle.theory_calculus.proofs.Reductions.{move-reduces}
use Rattle.theory_calculus.proofs.Steps.{reduction-step}
use Rattle.theory_calculus.proofs.Runs.{step_move}
use Rattle.theory_calculus.proofs.Kept.{Good, binds-shrinks}
use Rattle.theory_calculus.proofs.Agreement.{same-sat}

-- one part, and the others, matched
matched : (k : ℕ) (h : PlainHead) (i r : Plain) {l : ℕ} {g : PlainHead} {j q c : Plain} → HasPart c l g j q → piece h (process i) ≅ piece g (process j) → process r ≅ process q →
    process (part k h i r) ≅ process c
unfolding process
matched k h i r p a b = StructTrans (par-both a b) (StructSymm (part-process p))

renamed-receipt : (i j : Plain) (u v : ℕ) → occurs u (process i) ≡ 0 → substitute v (variable u) (process i) ≅ process j → piece (Head.receipt v) (process i) ≅ piece (Head.receipt u) (process j)
unfolding piece
renamed-receipt i j u v z h = StructTrans (StructAlpha z) (StructInput h)

part-bindings : (v k : ℕ) (h : PlainHead) (i r : Plain) → bindings v (part k h i r) ≡ binds v h + (bindings v i + bindings v r)
unfolding total_over
part-bindings v k h i r = refl

-- THEOREM: they represent congruent processes.
pub reordered-congruent : {b c : Plain} → Reordered b c → Once b → process b ≅ process c
reordered-congruent nothing o = StructRefl
reordered-congruent (among {k = k} {h = h} {i = i} {r = r} p x y) o =
    matched k h i r p (piece-cong h (reordered-congruent x (λ v. omega (arith, o v, part-bindings v k h i r)))) (reordered-congruent y (λ v. omega (arith, o v, part-bindings v k h i r)))
reordered-congruent (receipt {k = k} {u = u} {v = v} {i = i} {j = j} {r = r} p z x y) o =
    let once : (w : ℕ) → bindings w (part k (Head.receipt v) i r) ≡ binds w (Head.receipt v) + (bindings w i + bindings w r) = λ w. part-bindings w k (Head.receipt v) i r in
    let clear : bindings v i ≡ 0 = omega (arith, o v, once v, own-binds v) in
    let inner = reordered-congruent x (λ w. omega (arith, o w, once w, (binds-shrinks w).delivers v (variable u) i)) in
    matched k (Head.receipt v) i r p (renamed-receipt i j u v z (StructTrans (StructSymm (substitute-process v (variable u) i clear)) inner)) (reordered-congruent y (λ w. omega (arith, o w, once w)))

-- THEOREM: where two trees represent congruent processes, a move of one is matched by a move of the other.
pub move-matched : (n : ℕ) (b c : Plain) → Good n b → Good n c → process b ≅ process c → (a t : ℕ) (m : MoveMade (List Message)) → move a t b ≡ some m →
    (a' : ℕ) × (t' : ℕ) × (m' : MoveMade (List Message)) × (move a' t' c ≡ some m') × (process m.body ≅ process m'.body)
move-matched n b c g h p a t m e =
    let x = reduction-step (move-reduces a t b m g.distinct g.once e) c h.settled h.once h.unbound (StructSymm p) in
    let y = step_move x.1 h.distinct in
    (y.0, y.1, y.2, y.3, StructSymm (StructTrans y.4 x.2))

-- THEOREM: reordered trees meet the same rules.
pub reordered-sat : (n : ℕ) (r : Rule) → Later 0 r → (e : Names) (b c : Plain) → Good (n + 0) b → Good (n + 0) c → Reordered b c → Sat n e r b ↔ Sat n e r c
reordered-sat n r w e b c g h x = same-sat n r w e b c g h (reordered-congruent x g.once)

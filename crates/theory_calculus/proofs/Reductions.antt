-- A move of the plain machine is a reduction of the process (000, proposition 3.4, one way), where no number stands twice and
-- no variable is bound twice. Assumes nothing.
use Prim.Native.Nat.{ℕ, ◌+◌, ◌≤◌}
use mathlib.Core.List.{List, ◌∷◌}
use mathlib.Core.Path.{◌≡◌, sym, ap, ◌∙◌}
use mathlib.Core.Option.{some}
use native.Mathlib.Omega.{arith}
use lib.Dec.{eqb}
use Rattle.read_messages.specs.Message.{Message, name, enter, exit, opens}
use Rattle.std.specs.Prelude.{Some}
use Rattle.read_scripts.specs.Tree.{Head, one_if, total_over, times_in, put, PlainHead, Plain}
use Rattle.theory_machine.specs.Bodies.{find_part, remove_part, alter}
use Rattle.theory_machine.specs.Moves.{MoveMade, head_name, spent_head, spend, move_here}
use Rattle.theory_machine.specs.PlainMachine.{rest, substitute_body, plain, move}
use Rattle.read_scripts.proofs.Numbers.{own-times}
use Rattle.theory_machine.proofs.Inversion.{Opened, Received, Entered, Exited, Here, by-open, by-receive, by-enter, by-exit, here-inv, Makes, now, inner, outer, plain-name, plain-enter, plain-exit, plain-open, move-inv}
use Rattle.theory_machine.proofs.Sums.{find-remove_part, apart, find-total, remove_part-total, alter-total, entered-target, received-target, spend-total, made-total}
use Rattle.theory_calculus.specs.Calculus.{Process, ◌‖◌, ambient, action, input, output, ◌≅◌, StructRefl, StructSymm, StructTrans, StructPar, StructAmb, StructParComm, StructParAssoc, ◌⟶◌, RedIn, RedOut, RedOpen, RedIO, RedPar, RedAmb, RedCong}
use Rattle.theory_calculus.specs.TreeProcess.{prefix, piece, process}
use Rattle.theory_calculus.proofs.Congruences.{par-both, par-swap}
use Rattle.theory_calculus.proofs.Processes.{Distinct, Once, times-shrinks, put-process, merge-process, alter-process, alter-merge, find-process, settle-process, binds, bindings, own-binds, substitute-process}

-- what a count of numbers sees of a part that is found
counted : (j a : ℕ) (b : Plain) (p : PlainHead × Plain) → find_part a b ≡ some p → one_if (eqb j a) + (times_in j p.1 + times_in j (remove_part a b)) ≤ times_in j b
counted j a b p e = find-total (λ k h. one_if (eqb j k)) a b p e

dropped : (j a : ℕ) (b : Plain) → times_in j (remove_part a b) ≤ times_in j b
dropped j a b = remove_part-total (λ k h. one_if (eqb j k)) a b

spends-times : (j a : ℕ) (b : Plain) → times_in j (spend plain a b) ≤ times_in j b
spends-times j a b = spend-total plain (λ k h. one_if (eqb j k)) 0 (times-shrinks j) a b

module _ (t : ℕ) (b : Plain) {n : ℕ} {goal : PlainHead} {room : Plain} (d : times_in t b ≤ 1) (e : find_part t b ≡ some (goal, room)) (w : head_name plain goal ≡ Some n) where
  -- a named ambient found, beside the others; and with its inside altered
  find-named : process b ≅ ambient (name n) (process room) ‖ process (remove_part t b)
  unfolding piece
  find-named = rw (plain-name goal n w) at (find-process t b (goal, room) d e)

  alter-named : (G : Plain → Plain) → process (alter t (λ h. h) G b) ≅ ambient (name n) (process (G room)) ‖ process (remove_part t b)
  unfolding piece
  alter-named G = rw (plain-name goal n w) at (alter-process t (λ h. h) G b (goal, room) d e)

-- an action with the first item i, beside the others; and with that item spent
module _ (a : ℕ) (b : Plain) {i : Message} {is : List Message} {doer : PlainHead} {after : Plain} (d : times_in a b ≤ 1) (e : find_part a b ≡ some (doer, after)) (f : doer ≡ Head.action (i ∷ is)) where
  find-action : process b ≅ action i (prefix is (process after)) ‖ process (remove_part a b)
  unfolding piece prefix
  find-action = rw f at (find-process a b (doer, after) d e)

  spend-action : process (spend plain a b) ≅ prefix is (process after) ‖ process (remove_part a b)
  unfolding piece spent_head rest
  spend-action = rw f at (alter-process a (spent_head plain) (λ s. s) b (doer, after) d e)

-- p | (q | r) to (q | p) | r
pull : {p q r : Process} → p ‖ (q ‖ r) ≅ (q ‖ p) ‖ r
pull = StructTrans par-swap (StructSymm StructParAssoc)

action≢ambient : {is : List Message} {m : Message} → ¬ (◌≡◌ {A = PlainHead} (Head.action is) (Head.ambient m))
action≢ambient e = let z : ◌≡◌ {A = ℕ} 0 1 = cc in omega arith

-- What stands before and after each move: the left and the right side of a reduction rule, beside what is not concerned.
module _ {a t : ℕ} {b c : Plain} (d : Distinct b) where
  module _ (x : Opened plain a t b c) (is : List Message) (f : x.doer ≡ Head.action (opens (name x.sought) ∷ is)) where
    -- the actor stands beside the target, not inside it
    opened-actor : find_part a (remove_part t b) ≡ some (x.doer, x.after)
    opened-actor =
        find-remove_part a t b (apart a t b x.actor x.target (λ z.
        action≢ambient (sym f ∙ ap (λ (p : PlainHead × Plain). p.0) z ∙ plain-name x.goal x.sought x.named))) ∙ x.actor

    opened-before : process b ≅ (action (opens (name x.sought)) (prefix is (process x.after)) ‖ ambient (name x.sought) (process x.room)) ‖ process (remove_part a (remove_part t b))
    opened-before =
        StructTrans (find-named t b (d t) x.target x.named)
        (StructTrans (par-both StructRefl (find-action a (remove_part t b) (omega (arith, d a, dropped a t b)) opened-actor f)) pull)

    pub opened_after : process c ≅ (prefix is (process x.after) ‖ process x.room) ‖ process (remove_part a (remove_part t b))
    opened_after =
        let y = counted a t b _ x.target in
        let z = counted a a (remove_part t b) _ opened-actor in
        let clear : times_in a x.room ≡ 0 = omega (arith, d a, own-times a) in
        rw (x.result, alter-merge a (spent_head plain) (λ s. s) x.room (remove_part t b) clear)
        (StructTrans (merge-process x.room (spend plain a (remove_part t b)) (λ j. omega (arith, d j, counted j t b _ x.target, spends-times j a (remove_part t b))))
        (StructTrans (par-both StructRefl (spend-action a (remove_part t b) (omega (arith, d a)) opened-actor f)) pull))

  module _ {news : List (ℕ × Message)} (x : Received plain a t b c news) where
    received-before : process b ≅ (output x.sent ‖ input x.bound (process x.after)) ‖ process (remove_part t (remove_part a b))
    unfolding piece
    received-before =
        StructTrans (find-process a b _ (d a) x.actor)
        (StructTrans (par-both StructRefl (find-process t (remove_part a b) _ (omega (arith, d t, dropped t a b)) (received-target plain x))) pull)

    pub received-after : process c ≅ process (substitute_body x.bound x.sent x.after) ‖ process (remove_part t (remove_part a b))
    received-after =
        rw x.result (merge-process (substitute_body x.bound x.sent x.after) (remove_part t (remove_part a b)) (λ j. omega (
          arith,
          d j,
          counted j a b _ x.actor,
          dropped j t (remove_part a b),
          (times-shrinks j).delivers x.bound x.sent x.after,
        )))

  module _ (x : Entered plain a t b c) (is : List Message) (f : x.doer ≡ Head.action (enter (name x.sought) ∷ is)) where
    target_once : times_in t (remove_part x.mover b) ≤ 1
    target_once = omega (arith, d t, dropped t x.mover b)

    actor-entering : times_in a x.inside ≤ 1
    actor-entering = omega (arith, d a, counted a x.mover b _ x.around)

    entered-before : process b ≅
        (ambient (name x.own) (action (enter (name x.sought)) (prefix is (process x.after)) ‖ process (remove_part a x.inside)) ‖ ambient (name x.sought) (process x.room)) ‖ process (remove_part t (remove_part x.mover b))
    entered-before =
        StructTrans (find-named x.mover b (d x.mover) x.around x.shell-named)
        (StructTrans (par-both (StructAmb (find-action a x.inside actor-entering x.actor f)) (find-named t (remove_part x.mover b) target_once (entered-target plain x) x.named)) (StructSymm StructParAssoc))

    pub entered-after : process c ≅
        ambient (name x.sought) (ambient (name x.own) (prefix is (process x.after) ‖ process (remove_part a x.inside)) ‖ process x.room) ‖ process (remove_part t (remove_part x.mover b))
    unfolding piece
    entered-after =
        let k : ℕ = x.mover in
        let s : Plain = spend plain a x.inside in
        let y = counted k k b _ x.around in
        let z = counted k t (remove_part k b) _ (entered-target plain x) in
        let clear : times_in k x.room ≡ 0 = omega (arith, d k, own-times k) in
        rw (x.result, plain-name x.shell x.own x.shell-named)
        (StructTrans (alter-named t (remove_part k b) target_once (entered-target plain x) x.named (put k (Head.ambient (name x.own)) s))
        (StructPar (StructAmb (StructTrans (put-process k (Head.ambient (name x.own)) s x.room clear) (StructPar (StructAmb (spend-action a x.inside actor-entering x.actor f)))))))

  module _ (x : Exited plain a t b c) (is : List Message) (f : x.doer ≡ Head.action (exit (name x.sought) ∷ is)) where
    actor-leaving : times_in a x.inside ≤ 1
    actor-leaving = omega (arith, d a, counted a t b _ x.target, counted a x.mover x.room _ x.around)

    exited-before : process b ≅
        ambient (name x.sought) (ambient (name x.own) (action (exit (name x.sought)) (prefix is (process x.after)) ‖ process (remove_part a x.inside)) ‖ process (remove_part x.mover x.room)) ‖ process (remove_part t b)
    exited-before =
        StructTrans (find-named t b (d t) x.target x.named)
        (StructPar (StructAmb (StructTrans (find-named x.mover x.room (omega (arith, d x.mover, counted x.mover t b _ x.target)) x.around x.shell-named)
        (StructPar (StructAmb (find-action a x.inside actor-leaving x.actor f))))))

    pub exited-after : process c ≅
        (ambient (name x.own) (prefix is (process x.after) ‖ process (remove_part a x.inside)) ‖ ambient (name x.sought) (process (remove_part x.mover x.room))) ‖ process (remove_part t b)
    unfolding piece
    exited-after =
        let k : ℕ = x.mover in
        let y = counted k t b _ x.target in
        let z = counted k k x.room _ x.around in
        let moved = alter-total (λ i h. one_if (eqb k i)) t (λ g. g) (remove_part k) b _ x.target in
        let clear : times_in k (alter t (λ g. g) (remove_part k) b) ≡ 0 = omega (arith, d k, own-times k) in
        rw (x.result, plain-name x.shell x.own x.shell-named)
        (StructTrans (put-process k (Head.ambient (name x.own)) (spend plain a x.inside) (alter t (λ g. g) (remove_part k) b) clear)
        (StructTrans (par-both (StructAmb (spend-action a x.inside actor-leaving x.actor f)) (alter-named t b (d t) x.target x.named (remove_part k))) (StructSymm StructParAssoc)))

  here-reduces : {news : List (ℕ × Message)} → Once b → Here plain a t b c news → process b ⟶ process c
  here-reduces u (by-open x e) = let (is, f) = plain-open x.doer x.sought x.asked in RedCong (opened-before x is f) (RedPar RedOpen) (StructSymm (opened_after x is f))
  here-reduces u (by-receive x) =
      let clear : bindings x.bound x.after ≡ 0 = omega (arith, u x.bound, find-total (λ k h. binds x.bound h) a b _ x.actor, own-binds x.bound) in
      RedCong (received-before x) (RedPar RedIO) (StructSymm (StructTrans (received-after x) (StructPar (substitute-process x.bound x.sent x.after clear))))
  here-reduces u (by-enter x e) = let (is, f) = plain-enter x.doer x.sought x.asked in RedCong (entered-before x is f) (RedPar RedIn) (StructSymm (entered-after x is f))
  here-reduces u (by-exit x e) = let (is, f) = plain-exit x.doer x.sought x.asked in RedCong (exited-before x is f) (RedPar RedOut) (StructSymm (exited-after x is f))

makes-reduces : (a t : ℕ) {b c : Plain} {news : List (ℕ × Message)} → Distinct b → Once b → Makes plain (move_here plain a t) b c news → process b ⟶ process c
unfolding process piece total_over
makes-reduces a t d u (now {b} m e) = here-reduces d u (here-inv plain a t b m e)
makes-reduces a t d u (inner {n = n} {h = h} e x) = rw (plain-name h n e) (RedPar (RedAmb (makes-reduces a t (λ j. omega (arith, d j)) (λ v. omega (arith, u v)) x)))
makes-reduces a t d u (outer x) = RedCong StructParComm (RedPar (makes-reduces a t (λ j. omega (arith, d j)) (λ v. omega (arith, u v)) x)) StructParComm

-- THEOREM: a move is a reduction.
pub move-reduces : (a t : ℕ) (b : Plain) (m : MoveMade (List Message)) → Distinct b → Once b → move a t b ≡ some m → process b ⟶ process m.body
move-reduces a t b m d u e =
    let x = move-inv a t b m e in
    let less : Distinct x.0 = λ j. omega (arith, d j, made-total plain (λ k h. one_if (eqb j k)) 0 (times-shrinks j) a t x.1) in
    rw x.2 (RedCong StructRefl (makes-reduces a t d u x.1) (StructSymm (settle-process x.0 less)))

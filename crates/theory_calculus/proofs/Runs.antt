-- A step told without numbers is a move of the plain machine, where no two parts have one number. Assumes nothing.
use Prim.Native.Nat.{ℕ, ◌+◌, ◌≤◌}
use mathlib.Core.Bool.{Bool, true, false, cond}
use mathlib.Core.List.{List, [], ◌∷◌}
use mathlib.Core.Path.{◌≡◌, refl, sym, ap, ap₂, ◌∙◌, subst}
use mathlib.Core.Option.{Option, none, some, or_else}
use native.Mathlib.Omega.{arith}
use lib.Dec.{eqb}
use Rattle.base_sets.specs.Sets.{elem}
use Rattle.read_messages.specs.Message.{Message, name, enter, exit, opens, name_of, asks, first_item}
use Rattle.std.specs.Prelude.{Some}
use Rattle.read_scripts.specs.Tree.{Head, close, part, one_if, total_over, tops, times_in, put, merge_parts, PlainHead, Plain}
use Rattle.theory_machine.specs.Bodies.{◌>>=◌, check, find_part, remove_part, alter, holder}
use Rattle.theory_machine.specs.Moves.{is_named, same_name, to_enter, to_exit, to_open, MoveMade, variable_of, message_of, quiet, onward, head_name, first_of, spend, enter_move, exit_move, open_move, receive_move, move_here, anywhere}
use Rattle.theory_machine.specs.Moves as moves
use Rattle.theory_machine.specs.PlainMachine.{substitute_body, plain, settled, settled_by, move}
use Rattle.base_slices.proofs.Tests.{by_test, eqb_same}
use Rattle.read_scripts.proofs.Numbers.{own-times, one_none}
use Rattle.theory_machine.proofs.Options.{none≢some, bind-some, bind-none}
use Rattle.theory_machine.proofs.Inversion.{Opened, Received, Entered, Exited}
use Rattle.theory_machine.proofs.Sums.{find_none, remove_part-none, anywhere-total}
use Rattle.theory_calculus.specs.Order.{HasPart, front, behind}
use Rattle.theory_calculus.specs.Calculus.{Process, ◌‖◌, ambient, ◌≅◌, StructRefl, StructTrans, StructPar, StructAmb}
use Rattle.theory_calculus.specs.TreeProcess.{prefix, piece, process}
use Rattle.theory_calculus.proofs.Congruences.{par-both, par-swap}
use Rattle.theory_calculus.proofs.Picks.{part-total, part-swap}
use Rattle.theory_calculus.proofs.Processes.{Distinct, times-shrinks, settle-process}
use Rattle.theory_calculus.proofs.Reductions.{opened_after, received-after, entered-after, exited-after}
use Rattle.theory_calculus.proofs.Steps.{TreeStep, opening, taking, entering, leaving, inside}

-- a part that is picked, as the count of a number sees it
part-times : {b i c : Plain} {k : ℕ} {h : PlainHead} (j : ℕ) → HasPart b k h i c → times_in j b ≡ one_if (eqb j k) + (times_in j i + times_in j c)
part-times j p = part-total (λ k h. one_if (eqb j k)) p

-- the part that is picked is the one found
part-find : {b i c : Plain} {k : ℕ} {h : PlainHead} → HasPart b k h i c → times_in k b ≤ 1 → find_part k b ≡ some (h, i)
unfolding find_part total_over
part-find (front {k = k}) d = rw (eqb_same k)
part-find (behind {k = k} {l = l} p) d = rw (one_none (eqb k l) (omega (arith, part-times k p, own-times k))) (part-find p (omega arith))

-- and what is left without it are the others
part-remove_part : {b i c : Plain} {k : ℕ} {h : PlainHead} → HasPart b k h i c → times_in k b ≤ 1 → remove_part k b ≡ c
unfolding remove_part total_over
part-remove_part (front {k = k} {r = r}) d = rw (eqb_same k) (remove_part-none k r (omega (arith, own-times k)))
part-remove_part (behind {k = k} {l = l} {g = g} {j = j} p) d =
    rw (one_none (eqb k l) (omega (arith, part-times k p, own-times k))) (ap (part l g j) (part-remove_part p (omega arith)))

-- what is inside a part is not found beside it
deeper-none : {b i c : Plain} {k : ℕ} {h : PlainHead} (a : ℕ) → HasPart b k h i c → times_in a b ≤ 1 → 1 ≤ times_in a i → find_part a b ≡ none
unfolding find_part total_over
deeper-none a (front {k = k} {r = r}) d n = rw (one_none (eqb a k) (omega arith)) (find_none a r (omega arith))
deeper-none a (behind {l = l} p) d n = rw (one_none (eqb a l) (omega (arith, part-times a p))) (deeper-none a p (omega arith) n)

-- the numbers of a body's own parts are those that are found
part-tops : {b i c : Plain} {k : ℕ} {h : PlainHead} → HasPart b k h i c → elem k (tops b) ≡ true
unfolding elem tops
part-tops (front {k = k}) = rw (eqb_same k)
part-tops (behind {k = k} {l = l} p) = by_test (eqb k l) (λ t. rw t) (λ t. rw t (part-tops p))

tops-none : (a : ℕ) (b : Plain) → find_part a b ≡ none → elem a (tops b) ≡ false
unfolding find_part elem tops
tops-none a close e = refl
tops-none a (part k h b r) e = by_test (eqb a k) (λ t. none≢some (sym (rw t at e))) (λ t. rw t (tops-none a r (rw t at e)))

absent-tops : (a : ℕ) (b : Plain) → times_in a b ≡ 0 → elem a (tops b) ≡ false
absent-tops a b z = tops-none a b (find_none a b z)

holder-absent : (a : ℕ) (b : Plain) → times_in a b ≡ 0 → holder a b ≡ none
unfolding holder total_over
holder-absent a close z = refl
holder-absent a (part k h b r) z = rw (absent-tops a b (omega arith)) (holder-absent a r (omega arith))

holder-some : {b i c j i₁ : Plain} {k a : ℕ} {h g : PlainHead} → HasPart b k h i c → HasPart i a g j i₁ → times_in a b ≤ 1 → holder a b ≡ some k
unfolding holder total_over
holder-some front q d = rw (part-tops q)
holder-some {a = a} (behind {j = j} p) q d = rw (absent-tops a j (omega (arith, part-times a p, part-times a q, own-times a))) (holder-some p q (omega arith))

holder-none : {b i c j i₁ : Plain} {k l : ℕ} {h g : PlainHead} (a : ℕ) → HasPart b k h i c → HasPart i l g j i₁ → times_in a b ≤ 1 → 1 ≤ times_in a j → holder a b ≡ none
unfolding holder total_over
holder-none a (front {i = i} {r = r}) q d n = rw (tops-none a i (deeper-none a q (omega arith) n)) (holder-absent a r (omega (arith, part-times a q)))
holder-none a (behind {j = j} p) q d n = rw (absent-tops a j (omega (arith, part-times a p, part-times a q))) (holder-none a p q (omega arith) n)

-- the same name twice passes the test
same-name : (n : ℕ) → same_name (Some n) (Some n) ≡ true
unfolding same_name
same-name n = eqb_same n

named-is : (n : ℕ) → is_named (Some n) ≡ true
unfolding is_named
named-is n = refl

passes : (t : Bool) → t ≡ true → check t ≡ some tt
unfolding check
passes t e = rw e

-- the second look-up finds nothing
second_none : {A B C : Type 0} (x : Option A) (y : Option B) (k : A → B → Option C) → y ≡ none → (x >>= λ a. (y >>= k a)) ≡ none
unfolding ◌>>=◌
second_none none y k e = refl
second_none (some a) y k e = bind-none (k a) e

-- Where the parts of a move are found, it is made.
module _ {a t : ℕ} {b c : Plain} where
  open_made : Opened plain a t b c → open_move plain a t b ≡ some (quiet c)
  unfolding open_move to_open
  open_made x =
      bind-some _ x.target ∙ bind-some _ x.actor
      ∙ bind-some _ (passes _ (rw (x.asked, x.named) (same-name x.sought))) ∙ ap (λ (s : Plain). some (quiet s)) (sym x.result)

  receive-made : {news : List (ℕ × Message)} → Received plain a t b c news → receive_move plain a t b ≡ some (record { body = c; news = news })
  unfolding receive_move variable_of message_of
  receive-made x =
      bind-some _ x.target ∙ bind-some _ x.actor ∙ bind-some _ refl ∙ bind-some _ refl
      ∙ ap₂ (λ (s : Plain) (l : List (ℕ × Message)). some (record { body = s; news = l })) (sym x.result) (sym x.told)

  enter-made : (x : Entered plain a t b c) → holder a b ≡ some x.mover → enter_move plain a t b ≡ some (quiet c)
  unfolding enter_move to_enter
  enter-made x w =
      bind-some _ x.target ∙ bind-some _ w ∙ bind-some _ x.around ∙ bind-some _ x.actor
      ∙ bind-some _ (passes _ (rw (x.another, x.shell-named, named-is x.own, x.asked, x.named) (same-name x.sought))) ∙ ap (λ (s : Plain). some (quiet s)) (sym x.result)

  exit-made : (x : Exited plain a t b c) → holder a x.room ≡ some x.mover → exit_move plain a t b ≡ some (quiet c)
  unfolding exit_move to_exit
  exit-made x w =
      bind-some _ x.target ∙ bind-some _ w ∙ bind-some _ x.around ∙ bind-some _ x.actor
      ∙ bind-some _ (passes _ (rw (x.shell-named, named-is x.own, x.asked, x.named) (same-name x.sought))) ∙ ap (λ (s : Plain). some (quiet s)) (sym x.result)

module _ (a t : ℕ) (b : Plain) where
  -- an action opens, a receipt does not
  open-receipt : {v : ℕ} {j : Plain} {p : PlainHead × Plain} → find_part t b ≡ some p → find_part a b ≡ some (Head.receipt v, j) → open_move plain a t b ≡ none
  unfolding open_move first_of to_open same_name check
  open-receipt e f = bind-some _ e ∙ bind-some _ f ∙ bind-none _ refl

  open-unfound : find_part a b ≡ none → open_move plain a t b ≡ none
  unfolding open_move
  open-unfound e = second_none (find_part t b) (find_part a b) _ e

  receive-unfound : find_part a b ≡ none → receive_move plain a t b ≡ none
  unfolding receive_move
  receive-unfound e = second_none (find_part t b) (find_part a b) _ e

  enter-unfound : holder a b ≡ none → enter_move plain a t b ≡ none
  unfolding enter_move
  enter-unfound e = second_none (find_part t b) (holder a b) _ e

  -- without its target no move is made
  here-none : find_part t b ≡ none → move_here plain a t b ≡ none
  unfolding move_here open_move receive_move enter_move exit_move or_else ◌>>=◌
  here-none e = rw e

or_some : {A : Type 0} {x : Option A} {c : A} (y : Option A) → x ≡ some c → or_else x y ≡ some c
unfolding or_else
or_some y e = rw e

or-none : {A : Type 0} {x : Option A} (y : Option A) → x ≡ none → or_else x y ≡ y
unfolding or_else
or-none y e = rw e

onward-none : {x : Option (MoveMade (List Message))} (w : Plain → Plain) → x ≡ none → onward w x ≡ none
unfolding onward
onward-none w e = rw e

onward-some : {x : Option (MoveMade (List Message))} {m : MoveMade (List Message)} (w : Plain → Plain) → x ≡ some m → onward w x ≡ some (record { body = w m.body; news = m.news })
unfolding onward
onward-some w e = rw e

cond-none : {A : Type 0} (t : Bool) {x : Option A} → x ≡ none → cond t x none ≡ none
cond-none true e = e
cond-none false e = refl

module _ (a t : ℕ) where
  -- a move of the machine, before the tree is settled
  abbrev made : Plain → Option (MoveMade (List Message))
  made b = anywhere plain (move_here plain a t) b

  abbrev within : Plain → Option (MoveMade (List Message))
  within b = moves.inside plain (move_here plain a t) b

  absent-within : (b : Plain) → times_in t b ≡ 0 → within b ≡ none
  unfolding moves.inside total_over
  absent-within close z = refl
  absent-within (part k h b r) z =
      or-none _ (onward-none _ (cond-none (is_named (head_name plain h)) (or-none _ (here-none a t b (find_none t b (omega arith))) ∙ absent-within b (omega arith))))
      ∙ onward-none _ (absent-within r (omega arith))

  absent : (b : Plain) → times_in t b ≡ 0 → made b ≡ none
  absent b z = or-none _ (here-none a t b (find_none t b z)) ∙ absent-within b z

  -- a move inside a named ambient of b
  within-part : {b i c : Plain} {k n : ℕ} (m : MoveMade (List Message)) → HasPart b k (Head.ambient (name n)) i c → times_in t b ≤ 1 → 1 ≤ times_in t i → made i ≡ some m →
      (l : MoveMade (List Message)) × (within b ≡ some l) × (process l.body ≅ ambient (name n) (process m.body) ‖ process c)
  unfolding process piece head_name name_of is_named moves.inside total_over
  within-part m (front {k = k} {i = i} {r = r}) d w e = (_, or_some _ (onward-some (λ s. part k _ s r) e), StructRefl)
  within-part m (behind {l = l} {g = g} {j = j} {r = r} p) d w e =
      let z : times_in t j ≡ 0 = omega (arith, part-times t p) in
      let x = within-part m p (omega arith) w e in (
        _,
        or-none _ (onward-none _ (cond-none (is_named (head_name plain g)) (absent j z))) ∙ onward-some (part l g j) x.1,
        StructTrans (par-both StructRefl x.2) par-swap,
      )

-- a move of b, before the tree is settled, after which a process congruent to p stands
record Run (b : Plain) (p : Process) : Type 0 where
  actor : ℕ
  target : ℕ
  moved : MoveMade (List Message)
  is_made : made actor target b ≡ some moved
  congruent : process moved.body ≅ p
  present : 1 ≤ times_in target b

inside-distinct : {b i c : Plain} {k : ℕ} {h : PlainHead} → HasPart b k h i c → Distinct b → Distinct i
inside-distinct p d j = omega (arith, d j, part-times j p)

others-distinct : {b i c : Plain} {k : ℕ} {h : PlainHead} → HasPart b k h i c → Distinct b → Distinct c
others-distinct p d j = omega (arith, d j, part-times j p)

part-present : {b i c : Plain} {k : ℕ} {h : PlainHead} → HasPart b k h i c → 1 ≤ times_in k b
part-present {k = k} p = omega (arith, part-times k p, own-times k)

-- what is left without two parts
remove_part-two : {b c e i j : Plain} {k l : ℕ} {h g : PlainHead} → HasPart b k h i c → HasPart c l g j e → Distinct b → remove_part l (remove_part k b) ≡ e
remove_part-two {k = k} {l = l} p q d = ap (remove_part l) (part-remove_part p (d k)) ∙ part-remove_part q (others-distinct p d l)

run-open : {b b₁ b₂ i j : Plain} {a t n : ℕ} {is : List Message} → Distinct b → HasPart b t (Head.ambient (name n)) i b₁ → HasPart b₁ a (Head.action (opens (name n) ∷ is)) j b₂ →
    Run b ((prefix is (process j) ‖ process i) ‖ process b₂)
unfolding first_of first_item asks head_name name_of move_here
run-open {b} {b₁} {b₂} {i} {j} {a} {t} {n} {is} d q p =
    let x : Opened plain a t b (spend plain a (merge_parts i (remove_part t b))) = record {
      sought = n;
      doer = Head.action (opens (name n) ∷ is);
      goal = Head.ambient (name n);
      after = j;
      room = i;
      actor = part-find (part-swap q p).1 (d a);
      target = part-find q (d t);
      asked = refl;
      named = refl;
      result = refl;
    } in
    record {
      actor = a;
      target = t;
      moved = quiet (spend plain a (merge_parts i (remove_part t b)));
      is_made = or_some _ (or_some _ (open_made x));
      congruent = rw (remove_part-two q p d) at (opened_after d x is refl);
      present = part-present q;
    }

run_take : {b b₁ b₂ i j : Plain} {a t v : ℕ} {m : Message} → Distinct b → HasPart b a (Head.receipt v) j b₁ → HasPart b₁ t (Head.output m) i b₂ →
    Run b (process (substitute_body v m j) ‖ process b₂)
unfolding move_here
run_take {b} {b₁} {b₂} {i} {j} {a} {t} {v} {m} d p q =
    let c : Plain = merge_parts (substitute_body v m j) (remove_part t (remove_part a b)) in
    let x : Received plain a t b c ((v, m) ∷ []) = record {
      bound = v;
      sent = m;
      after = j;
      idle = i;
      actor = part-find p (d a);
      target = part-find (part-swap p q).1 (d t);
      told = refl;
      result = refl;
    } in
    record {
      actor = a;
      target = t;
      moved = record { body = c; news = (v, m) ∷ [] };
      is_made = or_some _ (or-none _ (open-receipt a t b x.target x.actor) ∙ or_some _ (receive-made x));
      congruent = subst (λ (s : Plain). process c ≅ process (substitute_body v m j) ‖ process s) (remove_part-two p q d) (received-after d x);
      present = omega (arith, part-present q, part-times t p);
    }

run_enter : {b b₁ b₂ i i₁ j room : Plain} {a t k n m : ℕ} {is : List Message} → Distinct b →
    HasPart b k (Head.ambient (name n)) i b₁ → HasPart i a (Head.action (enter (name m) ∷ is)) j i₁ → HasPart b₁ t (Head.ambient (name m)) room b₂ →
    Run b (ambient (name m) (ambient (name n) (prefix is (process j) ‖ process i₁) ‖ process room) ‖ process b₂)
unfolding first_of first_item asks head_name name_of move_here
run_enter {b} {b₁} {b₂} {i} {i₁} {j} {room} {a} {t} {k} {n} {m} {is} d p o q =
    let c : Plain = alter t (λ e. e) (put k (Head.ambient (name n)) (spend plain a i)) (remove_part k b) in
    let x : Entered plain a t b c = record {
      sought = m;
      own = n;
      mover = k;
      shell = Head.ambient (name n);
      inside = i;
      doer = Head.action (enter (name m) ∷ is);
      after = j;
      goal = Head.ambient (name m);
      room = room;
      around = part-find p (d k);
      actor = part-find o (inside-distinct p d a);
      target = part-find (part-swap p q).1 (d t);
      another = one_none (eqb k t) (omega (arith, d k, part-times k p, part-times k q, own-times k));
      shell-named = refl;
      asked = refl;
      named = refl;
      result = refl;
    } in
    let none_here : find_part a b ≡ none = deeper-none a p (d a) (part-present o) in
    record {
      actor = a;
      target = t;
      moved = quiet c;
      is_made = or_some _ (or-none _ (open-unfound a t b none_here) ∙ or-none _ (receive-unfound a t b none_here) ∙ or_some _ (enter-made x (holder-some p o (d a))));
      congruent = rw (remove_part-two p q d, part-remove_part o (inside-distinct p d a)) at (entered-after d x is refl);
      present = omega (arith, part-present q, part-times t p);
    }

run-leave : {b b₁ i i₁ j room room₁ : Plain} {a t k n m : ℕ} {is : List Message} → Distinct b →
    HasPart b t (Head.ambient (name m)) room b₁ → HasPart room k (Head.ambient (name n)) i room₁ → HasPart i a (Head.action (exit (name m) ∷ is)) j i₁ →
    Run b ((ambient (name n) (prefix is (process j) ‖ process i₁) ‖ ambient (name m) (process room₁)) ‖ process b₁)
unfolding first_of first_item asks head_name name_of move_here
run-leave {b} {b₁} {i} {i₁} {j} {room} {room₁} {a} {t} {k} {n} {m} {is} d q p o =
    let e : Distinct room = inside-distinct q d in
    let c : Plain = put k (Head.ambient (name n)) (spend plain a i) (alter t (λ g. g) (remove_part k) b) in
    let x : Exited plain a t b c = record {
      sought = m;
      own = n;
      mover = k;
      shell = Head.ambient (name n);
      inside = i;
      doer = Head.action (exit (name m) ∷ is);
      after = j;
      goal = Head.ambient (name m);
      room = room;
      target = part-find q (d t);
      around = part-find p (e k);
      actor = part-find o (inside-distinct p e a);
      another = tt;
      shell-named = refl;
      asked = refl;
      named = refl;
      result = refl;
    } in
    let none_here : find_part a b ≡ none = deeper-none a q (d a) (omega (arith, part-present o, part-times a p)) in
    record {
      actor = a;
      target = t;
      moved = quiet c;
      is_made = or_some _ (or-none _ (open-unfound a t b none_here) ∙ or-none _ (receive-unfound a t b none_here)
          ∙ or-none _ (enter-unfound a t b (holder-none a q p (d a) (part-present o))) ∙ exit-made x (holder-some p o (e a)));
      congruent = rw (part-remove_part o (inside-distinct p e a), part-remove_part p (e k), part-remove_part q (d t)) at (exited-after d x is refl);
      present = part-present q;
    }

step_run : {b : Plain} {p : Process} → TreeStep b p → Distinct b → Run b p
step_run (opening q p) d = run-open d q p
step_run (taking p q) d = run_take d p q
step_run (entering p o q) d = run_enter d p o q
step_run (leaving q p o) d = run-leave d q p o
step_run (inside {b = b} p g) d =
    let x = step_run g (inside-distinct p d) in
    let y = within-part x.actor x.target x.moved p (d x.target) x.present x.is_made in
    record {
      actor = x.actor;
      target = x.target;
      moved = y.0;
      is_made = or-none _ (here-none x.actor x.target b (deeper-none x.target p (d x.target) x.present)) ∙ y.1;
      congruent = StructTrans y.2 (StructPar (StructAmb x.congruent));
      present = omega (arith, x.present, part-times x.target p);
    }

settled-some : (x : Option (MoveMade (List Message))) (m : MoveMade (List Message)) → x ≡ some m → settled_by x ≡ some (settled m)
unfolding settled_by
settled-some x m e = rw e

-- THEOREM: a step is a move.
pub step_move : {b : Plain} {p : Process} → TreeStep b p → Distinct b → (a : ℕ) × (t : ℕ) × (m : MoveMade (List Message)) × (move a t b ≡ some m) × (process m.body ≅ p)
unfolding move
step_move {b} g d =
    let x = step_run g d in
    let less : Distinct x.moved.body = λ j. omega (arith, d j, anywhere-total plain (λ k h. one_if (eqb j k)) 0 (times-shrinks j) x.actor x.target b x.moved x.is_made) in
    (x.actor, x.target, settled x.moved, settled-some _ x.moved x.is_made, StructTrans (settle-process x.moved.body less) x.congruent)

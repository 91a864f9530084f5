-- What patience and the lent buffers can't change: more of them leaves every answer as it is that was not refused for want of
-- them, and two accepted calls that are alike answer alike. Assumes nothing.
use Prim.Native.Nat.{ℕ, ◌+◌, ◌≤◌, min, max}
use mathlib.Core.Bool.{Bool, true, ◌&&◌}
use mathlib.Core.List.{List, [], ◌∷◌, ◌++◌}
use mathlib.Core.Path.{◌≡◌, refl, sym, ap, ◌∙◌, subst}
use mathlib.Core.Logic.{◌⊎◌, inl, inr}
use native.Mathlib.Omega.{arith}
use lib.Dec.{leb}
use lib.ListN.{length, drop, length-append, length-take}
use lib.Seq.{take_at}
use borrow.Author.Tests.{leb-true, le-leb}
use Rattle.read_messages.specs.Reading.{Cursor, Reading, refuse, got, ◌>>=◌}
use Rattle.read_messages.proofs.Readings.{refuse≢got, bind-cong}
use Rattle.theory_machine.specs.PlainMachine.{Machine}
use Rattle.base_slices.proofs.Tests.{by_test}
use Rattle.read_rule_words.specs.Rule.{Rule}
use Rattle.read_rule_words.specs.ReadRule.{read_whole_rule}
use Rattle.theory_decision.specs.Walk.{Count, Walked, says}
use Rattle.theory_decision.specs.PlainWalk.{plain_space}
use Rattle.theory_decision.proofs.Deciding.{stopped≢says}
use Rattle.theory_decision.proofs.Patience.{Tired, Kept, walk-patient}
use Rattle.theory_call.specs.Call.{Call, accepted, refused, Answer, left_by, refusal, standing_words, finish, walked, Start, parts_of, setting, rule_run, starting, question, asking, terms, door, answer, accepting, roomy}
use Rattle.theory_call.specs.Standing.{Standing}
use Rattle.theory_call.specs.Steadfast.{Alike, onto, Steadfast, Wanting, NoLess, Lasting, with_patience, Patient}
use Rattle.theory_call.proofs.Asking.{asking-no}
use Rattle.theory_call.proofs.Entering.{door-patience, door-unasked, door-unread}
use Rattle.theory_call.proofs.Answers.{walk_of, answer-ends, answer-unread, answer-shut, answer-run, answer-walked}
use Rattle.theory_call.proofs.Verdicts.{answer-stands}

-- ---- the questions that ask numbers

-- a question that asks for patience or for room: 13 or 21
abbrev Lacks : ℕ → Type 0
Lacks q = (q ≡ 13) ⊎ (q ≡ 21)

-- with more patience and a longer list only such a question can answer otherwise
abbrev TermsSame : (p k l q m : ℕ) → Type 0
TermsSame p k l q m = ((i : ℕ) × Lacks i × (asking (terms p k l) ≡ refuse i 0)) ⊎ (asking (terms q k m) ≡ asking (terms p k l))

terms-patient : (p k l q m : ℕ) → p ≤ q → q ≤ 16777216 → l ≤ m → TermsSame p k l q m
terms-patient p k l q m less allowed longer = by_test (leb 1 p)
    (λ t. let h : 1 ≤ p = leb-true 1 p t in
    let a : leb p 16777216 ≡ true = le-leb p 16777216 (omega arith) in
    let b : leb 1 q ≡ true = le-leb 1 q (omega arith) in
    let d : leb q 16777216 ≡ true = le-leb q 16777216 allowed in
    let calm : (leb 1 p && leb p 16777216) ≡ true = rw (t, a) in
    by_test (leb 256 l)
    (λ u. let v : leb 256 m ≡ true = le-leb 256 m (omega (arith, leb-true 256 l u)) in inr (rw (t, a, b, d, u, v)))
    (λ u. by_test (leb k 4096)
    (λ f. inl (21, inr refl, asking-no (question 13 0 (leb 1 p && leb p 16777216) ∷ question 14 0 (leb k 4096) ∷ []) (question 21 0 (leb 256 l)) [] (calm, (f, tt)) u))
    (λ f. inr (asking-no (question 13 0 (leb 1 q && leb q 16777216) ∷ []) (question 14 0 (leb k 4096)) _ (rw (b, d), tt) f
    ∙ sym (asking-no (question 13 0 (leb 1 p && leb p 16777216) ∷ []) (question 14 0 (leb k 4096)) _ (calm, tt) f)))))
    (λ t. inl (13, inl refl, asking-no [] (question 13 0 (leb 1 p && leb p 16777216)) _ tt (rw t)))

-- the same script, moves and rule with another patience and other buffers
abbrev with : Call → (patience : ℕ) (buffer list : List ℕ) → Call
with c p b l = record { script = c.script; moves = c.moves; rule = c.rule; patience = p; buffer = b; list = l }

-- questions 7 to 14 and 21
module _ (c : Call) (p : ℕ) (b l : List ℕ) (less : c.patience ≤ p) (allowed : p ≤ 16777216) (longer : length c.list ≤ length l) where
  abbrev DoorSame : Start → Type 0
  DoorSame s = ((i : ℕ) × Lacks i × (door c s ≡ refuse i 0)) ⊎ (door (with c p b l) s ≡ door c s)

  door-patient : (s : Start) → DoorSame s
  unfolding door
  door-patient s = asked (terms-patient c.patience k (length c.list) p (length l) less allowed longer)
    where
      k : ℕ
      k = s.made + length c.moves

      read : (x : Reading (Rule × Cursor)) → read_whole_rule (parts_of s) c.rule ≡ x → (i : ℕ) → Lacks i → asking (terms c.patience k (length c.list)) ≡ refuse i 0 → DoorSame s
      read (refuse q j) e i a x = inr (door-unread (with c p b l) s q j e ∙ sym (door-unread c s q j e))
      read (got r) e i a x = inl (i, a, door-unasked c s r e i 0 x)

      asked : TermsSame c.patience k (length c.list) p (length l) → DoorSame s
      asked (inl x) = read (read_whole_rule (parts_of s) c.rule) refl x.0 x.1 x.2
      asked (inr x) = inr (bind-cong (read_whole_rule (parts_of s) c.rule) _ _ (λ r e. ap (λ (t : Reading (Unit {0})). t >>= (λ u. got r)) x))

  -- where questions 7 to 14 and 21 let the one call in, they let the other in
  door-same : (s : Start) (r : Rule × Cursor) → door c s ≡ got r → door (with c p b l) s ≡ got r
  door-same s r e = elim (door-patient s) [ inl x ↦ refuse≢got (sym x.2 ∙ e) | inr x ↦ x ∙ e ]

  -- what stands in the one call stands in the other
  carried : Standing c → Standing (with c p b l)
  unfolding starting
  carried s = record { start = s.start; rule = s.rule; machine = s.machine; starts = s.starts; enters = door-same s.start s.rule s.enters; moves-made = s.moves-made }

  -- and its walk is the same, unless it was stopped by question 18
  walk_same : (s : Standing c) → Kept (walk_of c s) (walk_of (with c p b l) (carried s))
  unfolding carried
  walk_same s = walk-patient (plain_space (parts_of s.start + s.rule.1.number)) (setting c s.start) p less s.rule.0 s.machine.tree

  -- so the answer is told by the walk of the one call
  answer-same : (s : Standing c) (w : Walked) → walk_of c s ≡ w → Tired w ⊎ (answer (with c p b l) ≡ walked (with c p b l) s.machine w)
  unfolding carried
  answer-same s w e = elim (walk_same s) [ inl x ↦ inl (x.0, x.1, sym e ∙ x.2) | inr x ↦ inr (answer-walked (with c p b l) (carried s) ∙ ap (walked (with c p b l) s.machine) (x ∙ e)) ]

same-question : {A : Type 0} {q i r j : ℕ} → ◌≡◌ {A = Reading A} (refuse q i) (refuse r j) → q ≡ r
same-question e = cc

tired-says : {B : Type 0} {a : Bool} {n : Count} → Tired (says a n) → B
tired-says x = stopped≢says (sym x.2)

-- question 19: a tree that fits a buffer fits one that is no shorter
roomy-more : (c : Call) (p : ℕ) (b l : List ℕ) (m : Machine) → length c.buffer ≤ length b → roomy c m ≡ true → roomy (with c p b l) m ≡ true
roomy-more c p b l m h t = le-leb (length (standing_words m)) (min (length b) 268435456) (omega (arith, leb-true (length (standing_words m)) (min (length c.buffer) 268435456) t))

finish-roomy : (c : Call) (m : Machine) (a : Bool) (n : Count) → roomy c m ≡ true → finish c m a n ≡ accepting c m a n
unfolding finish
finish-roomy c m a n t = rw t

-- an answer that is accepted, given in another buffer
accepting-onto : (c : Call) (p : ℕ) (b l : List ℕ) (m : Machine) (a : Bool) (n : Count) → accepting (with c p b l) m a n ≡ onto b (accepting c m a n)
accepting-onto c p b l m a n = rw (take_at (standing_words m) (drop (length (standing_words m)) c.buffer) (length (standing_words m)) refl)

-- what a question lacks that refuses is wanted
lacks-wanting : (q i j : ℕ) → Lacks j → q ≡ j → Wanting (refused q i)
lacks-wanting q i j (inl x) e = inl (e ∙ x)
lacks-wanting q i j (inr x) e = inr (inr (inr (e ∙ x)))

module _ (c : Call) (p : ℕ) (b l : List ℕ) (less : c.patience ≤ p) (allowed : p ≤ 16777216) (room : length c.buffer ≤ length b) (longer : length c.list ≤ length l) where
  lasts : Wanting (answer c).verdict ⊎ (answer (with c p b l) ≡ onto b (answer c))
  unfolding starting refusal rule_run walked
  lasts = answer-ends c (λ r. Wanting r.verdict ⊎ (answer (with c p b l) ≡ onto b r)) (record {
    unread = λ q i e. inr (answer-unread (with c p b l) q i e);
    shut = λ s e q i x. elim (door-patient c p b l less allowed longer s) [ inl y ↦ inl (lacks-wanting q i y.0 y.1 (same-question (sym x ∙ y.2))) | inr y ↦ inr (answer-shut (with c p b l) s e q i (y ∙ x)) ];
    stuck = λ s e r x q i h. inr (answer-run (with c p b l) s e r (door-same c p b l less allowed longer s r x) ∙ ap (rule_run (with c p b l) s r) h);
    tired = λ s q i v e. elim (answer-same c p b l less allowed longer s _ e) [ inl x ↦ inl (inr (inl (let y = x.2 in cc))) | inr x ↦ inr x ];
    unfit = λ s a n e t. inl (inr (inr (inl refl)));
    done = λ s a n e t. elim (answer-same c p b l less allowed longer s _ e) [ inl x ↦ tired-says x | inr x ↦ inr (x ∙ finish-roomy (with c p b l) s.machine a n (roomy-more c p b l s.machine room t) ∙ accepting-onto c p b l s.machine a n) ];
  })

called : (c d : Call) → Alike c d → with c d.patience d.buffer d.list ≡ d
called c d x = rw (x.script, x.moves, x.rule)

-- THEOREM: more patience and more room change an answer only where it was refused for want of them.
pub answer-lasts : (c : Call) → Lasting c
unfolding Lasting
answer-lasts c d x l = subst (λ (e : Call). Wanting (answer c).verdict ⊎ (answer e ≡ onto d.buffer (answer c))) (called c d x) (lasts c d.patience d.buffer d.list l.patience l.allowed l.room l.list-room)

-- ---- accepted calls

-- what is accepted was not refused
accepted-lasts : (c : Call) (a : Bool) → (answer c).verdict ≡ accepted a → (d : Call) → Alike c d → NoLess c d → answer d ≡ onto d.buffer (answer c)
unfolding Lasting
accepted-lasts c a e d x l = elim (answer-lasts c d x l) [ inl w ↦ absurd (subst Wanting e w) | inr y ↦ y ]

-- an answer's words stand in its buffer
words-within : (c : Call) → (answer c).words ≤ length (answer c).buffer
unfolding refusal
words-within c =
    let none : (b : List ℕ) → 0 ≤ length b = λ b. omega arith in
    answer-ends c (λ r. r.words ≤ length r.buffer) (record {
      unread = λ q i e. none c.buffer;
      shut = λ s e q i d. none c.buffer;
      stuck = λ s e r d q i h. none c.buffer;
      tired = λ s q i v e. none c.buffer;
      unfit = λ s a n e l. none c.buffer;
      done = λ s a n e l. omega (arith, length-append (standing_words s.machine) (drop (length (standing_words s.machine)) c.buffer));
    })

-- an answer is given in its own call's buffer
onto-own : (c : Call) → onto c.buffer (answer c) ≡ answer c
unfolding refusal
onto-own c = answer-ends c (λ r. onto c.buffer r ≡ r) (record {
  unread = λ q i e. refl;
  shut = λ s e q i d. refl;
  stuck = λ s e r d q i h. refl;
  tired = λ s q i v e. refl;
  unfit = λ s a n e l. refl;
  done = λ s a n e l. sym (accepting-onto c c.patience c.buffer c.list s.machine a n);
})

-- of two buffers one after the other the last counts
onto-again : (a : Answer) (b l : List ℕ) → a.words ≤ length a.buffer → onto b (onto l a) ≡ onto b a
onto-again a b l h =
    let n : length (left_by a) ≡ a.words = omega (arith, length-take a.words a.buffer) in
    rw (take_at (left_by a) (drop a.words l) a.words n)

-- THEOREM: two accepted calls that are alike answer alike.
pub answer-steadfast : (c : Call) → Steadfast c
unfolding Steadfast
answer-steadfast c d x a b e f =
    let s = answer-stands c a e in
    let t = answer-stands d b f in
    let p : ℕ = max c.patience d.patience in
    let l : List ℕ = c.buffer ++ d.buffer in
    let k : List ℕ = c.list ++ d.list in
    let both : Call = with c p l k in
    let m : p ≤ 16777216 = omega (arith, door-patience c s.start s.rule s.enters, door-patience d t.start t.rule t.enters) in
    let u : NoLess c both = record { patience = omega arith; allowed = m; room = omega (arith, length-append c.buffer d.buffer); list-room = omega (arith, length-append c.list d.list) } in
    let v : NoLess d both = record { patience = omega arith; allowed = m; room = omega (arith, length-append c.buffer d.buffer); list-room = omega (arith, length-append c.list d.list) } in
    let g : answer both ≡ onto l (answer c) = accepted-lasts c a e both (record { script = refl; moves = refl; rule = refl }) u in
    let h : answer both ≡ onto l (answer d) = accepted-lasts d b f both (record { script = sym x.script; moves = sym x.moves; rule = sym x.rule }) v in
    sym (onto-own d) ∙ sym (onto-again (answer d) d.buffer l (words-within d)) ∙ ap (onto d.buffer) (sym h ∙ g) ∙ onto-again (answer c) d.buffer l (words-within c)

-- THEOREM: more patience leaves an accepted call's answer as it is.
pub answer-patient : (c : Call) → Patient c
unfolding Patient
answer-patient c p l m a e = accepted-lasts c a e (with_patience p c) (record { script = refl; moves = refl; rule = refl }) (record { patience = l; allowed = m; room = omega arith; list-room = omega arith }) ∙ onto-own c

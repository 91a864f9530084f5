-- The answer taken apart, once for all: the ways in which a call ends. So a call that is accepted stands, and its walk says
-- its answer. Assumes nothing.
use Prim.Native.Nat.{ℕ}
use mathlib.Core.Bool.{Bool, true, false}
use mathlib.Core.Path.{◌≡◌, refl, sym, ap, ◌∙◌}
use native.Mathlib.Omega.{arith}
use lib.ListN.{length}
use Rattle.read_messages.specs.Reading.{Cursor, Reading, refuse, got}
use Rattle.read_messages.proofs.Readings.{got-inj}
use Rattle.base_slices.proofs.Tests.{by_test}
use Rattle.read_rule_words.specs.Rule.{Rule}
use Rattle.theory_decision.specs.Walk.{Count, Walked, stopped, says}
use Rattle.theory_call.specs.Call.{Call, Answer, accepted, refused, refusal, Ran, halted, completed, run, finish, walked, Start, parts_of, walked_on, rule_run, starting, door, opened, onward, begins, answer, roomy, accepting}
use Rattle.theory_call.specs.Standing.{Standing}
use Rattle.theory_call.proofs.Runs.{completed-is}

-- the walk of a call that stands
abbrev pub walk_of : (c : Call) → Standing c → Walked
walk_of c s = walked_on c s.start s.rule s.machine

-- P holds of every answer in which the call may end
pub record Endings (c : Call) (P : Answer → Type 0) : Type 0 where
  -- questions 1 to 6
  pub unread : (q i : ℕ) → starting c ≡ refuse q i → P (refusal q i 0 0 c.buffer)
  -- questions 7 to 14
  pub shut : (s : Start) → starting c ≡ got s → (q i : ℕ) → door c s ≡ refuse q i → P (refusal q i 0 0 c.buffer)
  -- questions 15 and 16
  pub stuck : (s : Start) → starting c ≡ got s → (r : Rule × Cursor) → door c s ≡ got r → (q i : ℕ) → run (parts_of s) 0 c.moves s.machine ≡ halted q i → P (refusal q i i 0 c.buffer)
  -- questions 17 and 18
  pub tired : (s : Standing c) (q i v : ℕ) → walk_of c s ≡ stopped q i v → P (refusal q i (length c.moves) v c.buffer)
  -- question 19
  pub unfit : (s : Standing c) (a : Bool) (n : Count) → walk_of c s ≡ says a n → roomy c s.machine ≡ false → P (refusal 19 0 (length c.moves) n.visits c.buffer)
  pub done : (s : Standing c) (a : Bool) (n : Count) → walk_of c s ≡ says a n → roomy c s.machine ≡ true → P (accepting c s.machine a n)

module _ (c : Call) (P : Answer → Type 0) (E : Endings c P) where
  finish-ends : (s : Standing c) (a : Bool) (n : Count) → walk_of c s ≡ says a n → P (finish c s.machine a n)
  unfolding finish
  finish-ends s a n e = by_test (roomy c s.machine) (λ t. rw t (E.done s a n e t)) (λ t. rw t (E.unfit s a n e t))

  walked-ends : (s : Standing c) (w : Walked) → walk_of c s ≡ w → P (walked c s.machine w)
  unfolding walked
  walked-ends s (stopped q i v) e = E.tired s q i v e
  walked-ends s (says a n) e = finish-ends s a n e

  module _ (s : Start) (es : starting c ≡ got s) where
    run_ends : (r : Rule × Cursor) → door c s ≡ got r → (x : Ran) → run (parts_of s) 0 c.moves s.machine ≡ x → P (rule_run c s r x)
    unfolding rule_run
    run_ends r er (halted q i) e = E.stuck s es r er q i e
    run_ends r er (completed m) e = walked-ends (record { start = s; rule = r; machine = m; starts = es; enters = er; moves-made = e }) (walked_on c s r m) refl

    opened-ends : (x : Reading (Rule × Cursor)) → door c s ≡ x → P (opened c s x)
    unfolding opened
    opened-ends (refuse q i) e = E.shut s es q i e
    opened-ends (got r) e = run_ends r e (run (parts_of s) 0 c.moves s.machine) refl

  begins-ends : (x : Reading Start) → starting c ≡ x → P (begins c x)
  unfolding begins onward
  begins-ends (refuse q i) e = E.unread q i e
  begins-ends (got s) e = opened-ends s e (door c s) refl

  -- THEOREM: what holds of every end of a call holds of its answer.
  pub answer-ends : P (answer c)
  unfolding answer
  answer-ends = begins-ends (starting c) refl

-- ---- the other way round: a call that ends so answers so

module _ (c : Call) where
  pub answer-unread : (q i : ℕ) → starting c ≡ refuse q i → answer c ≡ refusal q i 0 0 c.buffer
  unfolding answer begins
  answer-unread q i e = rw e

  module _ (s : Start) (es : starting c ≡ got s) where
    pub answer-shut : (q i : ℕ) → door c s ≡ refuse q i → answer c ≡ refusal q i 0 0 c.buffer
    unfolding answer begins onward opened
    answer-shut q i e = rw (es, e)

    pub answer-run : (r : Rule × Cursor) → door c s ≡ got r → answer c ≡ rule_run c s r (run (parts_of s) 0 c.moves s.machine)
    unfolding answer begins onward opened
    answer-run r e = rw (es, e)

  -- what a call that stands answers is told by its walk
  pub answer-walked : (s : Standing c) → answer c ≡ walked c s.machine (walk_of c s)
  unfolding rule_run
  answer-walked s = answer-run s.start s.starts s.rule s.enters ∙ ap (rule_run c s.start s.rule) s.moves-made

-- ---- an accepted call

pub refused≢accepted : {B : Type 0} {q i : ℕ} {a : Bool} → refused q i ≡ accepted a → B
refused≢accepted e = let z : ◌≡◌ {A = ℕ} 0 1 = cc in absurd (let w : ⊥ = omega arith in w)

accepted-is : {a b : Bool} → accepted a ≡ accepted b → a ≡ b
accepted-is e = cc

-- the walk of an accepted call
abbrev pub Says : (c : Call) → Standing c → Bool → Type 0
Says c s a = (k : Count) × (walk_of c s ≡ says a k)

-- THEOREM: a call that is accepted stands, and its walk says its answer.
pub answer-inv : (c : Call) (a : Bool) → (answer c).verdict ≡ accepted a → (s : Standing c) × Says c s a
unfolding refusal
answer-inv c a = answer-ends c (λ r. r.verdict ≡ accepted a → (s : Standing c) × Says c s a) (record {
  unread = λ q i e x. refused≢accepted x;
  shut = λ s e q i d x. refused≢accepted x;
  stuck = λ s e r d q i h x. refused≢accepted x;
  tired = λ s q i v e x. refused≢accepted x;
  unfit = λ s b n e l x. refused≢accepted x;
  done = λ s b n e l x. (s, (n, e ∙ ap (λ (y : Bool). says y n) (accepted-is x)));
})

-- THEOREM: the call determines what stands.
pub record Same (c : Call) (s t : Standing c) : Type 0 where
  pub start : s.start ≡ t.start
  pub rule : s.rule ≡ t.rule
  pub machine : s.machine ≡ t.machine

pub same : (c : Call) (s t : Standing c) → Same c s t
same c s t =
    let e : s.start ≡ t.start = got-inj (sym s.starts ∙ t.starts) in
    record {
      start = e;
      rule = got-inj (sym s.enters ∙ ap (λ (x : Start). door c x) e ∙ t.enters);
      machine = completed-is (sym s.moves-made ∙ ap (λ (x : Start). run (parts_of x) 0 c.moves x.machine) e ∙ t.moves-made);
    }

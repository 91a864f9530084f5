-- A list of moves is a chain of the paper's reductions, as long as the list, from the script as it is written: for every call,
-- of the whole list where it is accepted and of what was made of it where it is refused. Assumes nothing.
use Prim.Native.Nat.{ℕ, suc, ◌+◌, ◌≤◌}
use mathlib.Core.Bool.{Bool, true, false}
use mathlib.Core.List.{List, [], ◌∷◌}
use mathlib.Core.Option.{Option, none, some}
use mathlib.Core.Path.{◌≡◌, refl, sym, ap, ◌∙◌, subst}
use native.Mathlib.Omega.{arith}
use lib.ListN.{length, length-take, take}
use lib.Seq.{take_all}
use Rattle.read_messages.specs.Reading.{Cursor, got}
use Rattle.read_messages.proofs.Readings.{got-inj}
use Rattle.read_messages.specs.Message.{Message}
use Rattle.read_scripts.specs.Script.{Script, read_script}
use Rattle.theory_machine.specs.Moves.{MoveMade}
use Rattle.theory_machine.specs.PlainMachine.{move, Machine}
use Rattle.base_slices.proofs.Tests.{by_test}
use Rattle.theory_calculus.specs.Calculus.{StructRefl, StructSymm}
use Rattle.theory_calculus.specs.TreeProcess.{process}
use Rattle.theory_calculus.specs.Written.{stop, Leads}
use Rattle.theory_calculus.specs.Written as calculus
use Rattle.theory_calculus.proofs.Writings.{leads-congruent, leads-step}
use Rattle.theory_calculus.proofs.Reductions.{move-reduces}
use Rattle.theory_calculus.proofs.Kept.{Good, good-move}
use Rattle.theory_calculus.proofs.Agreement.{congruent-satisfies}
use Rattle.theory_call.specs.Call.{Call, Verdict, accepted, refused, Ran, halted, completed, actor, target, move_fits, after_move, if_made, run, begun, refusal, Start, parts_of, starting, answer}
use Rattle.theory_call.specs.Standing.{Standing, After, Reduced, ReducedWhole, Reduces}
use Rattle.theory_call.proofs.Runs.{run_none, run_step}
use Rattle.theory_call.proofs.Begun.{script-written, script-good}
use Rattle.theory_call.proofs.Entering.{starting-got, start-reads}
use Rattle.theory_call.proofs.Answers.{answer-ends, refused≢accepted}
use Rattle.theory_call.proofs.Verdicts.{answer-stands, verdict-yes, verdict-no}

-- ---- a list that is made

-- every word of a list that is made is one reduction
pub run-leads : (n : ℕ) (i : ℕ) (ws : List ℕ) (m l : Machine) → Good n m.tree → run n i ws m ≡ completed l → Leads (length ws) (process m.tree) (process l.tree)
run-leads n i [] m l g e = subst (λ (k : Machine). Leads 0 (process m.tree) (process k.tree)) (run_none n i m l e) (process m.tree, stop, StructRefl)
run-leads n i (w ∷ ws) m l g e =
    let s = run_step n i w ws m l e in
    leads-step (move-reduces (actor w) (target w) m.tree s.result g.distinct g.once s.makes)
    (run-leads n (suc i) ws (after_move m s.result) l (good-move n m.tree (actor w) (target w) s.result g s.makes) s.goes)

-- THEOREM: a list that is made leads from the script as written to the process of the tree that stands, in as many reductions
-- as it has words.
pub list-leads : (ws : List ℕ) (p : Script × Cursor) → read_script ws ≡ got p → (moves : List ℕ) (m : Machine) → run p.1.number 0 moves (begun p.0) ≡ completed m
    → Leads (length moves) (calculus.written p.0) (process m.tree)
list-leads ws p e moves m d = leads-congruent (StructSymm (script-written ws p e)) (run-leads p.1.number 0 moves (begun p.0) m (script-good ws p e) d)

-- THEOREM: and so the first k moves of a call's list, where they are made.
pub first_reduced : (c : Call) (p : Script × Cursor) → read_script c.script ≡ got p → (k : ℕ) (m : Machine) → k ≤ length c.moves → After c p k m → Reduced c p k m
first_reduced c p e k m l a =
    let n : length (take k c.moves) ≡ k = omega (arith, length-take k c.moves) in
    let x : Leads k (calculus.written p.0) (process m.tree) = subst (λ (j : ℕ). Leads j (calculus.written p.0) (process m.tree)) n (list-leads c.script p e (take k c.moves) m a) in
    record { within = l; made = a; last = x.0; steps = x.1; congruent = x.2 }

-- ---- a list that halts

-- the first k words are made
abbrev Begins : (n i : ℕ) → List ℕ → Machine → (k : ℕ) → Type 0
Begins n i ws m k = (k ≤ length ws) × (l : Machine) × (run n i (take k ws) m ≡ completed l)

-- the words before the one at which a list from the index i on halts
abbrev Before : (n i : ℕ) → List ℕ → Machine → Ran → Type 0
Before n i ws m (halted q j) = (k : ℕ) × (j ≡ i + k) × Begins n i ws m k
Before n i ws m (completed l) = Unit {0}

none_before : (n i q : ℕ) (ws : List ℕ) (m : Machine) → Before n i ws m (halted q i)
unfolding run
none_before n i q ws m = (0, omega arith, (omega arith, m, refl))

one-before : (n i w : ℕ) (ws : List ℕ) (m : Machine) (s : MoveMade (List Message)) → move_fits n w ≡ true → move (actor w) (target w) m.tree ≡ some s
    → (x : Ran) → Before n (suc i) ws (after_move m s) x → Before n i (w ∷ ws) m x
unfolding run if_made
one-before n i w ws m s t e (halted q j) (k, d, (l, r, h)) = (suc k, omega arith, (omega arith, r, rw (t, e) h))
one-before n i w ws m s t e (completed l) x = tt

made-before : (n i w : ℕ) (ws : List ℕ) (m : Machine) → move_fits n w ≡ true → ((s : MoveMade (List Message)) → Before n (suc i) ws (after_move m s) (run n (suc i) ws (after_move m s)))
    → (o : Option (MoveMade (List Message))) → move (actor w) (target w) m.tree ≡ o → Before n i (w ∷ ws) m (if_made i m o (λ l. run n (suc i) ws l))
unfolding if_made
made-before n i w ws m t f none e = none_before n i 16 (w ∷ ws) m
made-before n i w ws m t f (some s) e = one-before n i w ws m s t e (run n (suc i) ws (after_move m s)) (f s)

-- "A refused word changes nothing and ends the list, so the moves made are those before it."
pub halts-before : (n i : ℕ) (ws : List ℕ) (m : Machine) → Before n i ws m (run n i ws m)
unfolding run
halts-before n i [] m = tt
halts-before n i (w ∷ ws) m = by_test (move_fits n w)
    (λ t. rw t (made-before n i w ws m t (λ s. halts-before n (suc i) ws (after_move m s)) (move (actor w) (target w) m.tree) refl))
    (λ t. rw t (none_before n i 15 (w ∷ ws) m))

-- ---- what the call answers

-- where a list halts, the words before that are made; where it does not, all are
halted-begins : (n : ℕ) (ws : List ℕ) (m : Machine) (q i : ℕ) → run n 0 ws m ≡ halted q i → Begins n 0 ws m i
halted-begins n ws m q i e =
    let (k, d, x) = subst (Before n 0 ws m) e (halts-before n 0 ws m) in
    let z : k ≡ i = omega arith in
    subst (Begins n 0 ws m) z x

completed-begins : (n : ℕ) (ws : List ℕ) (m l : Machine) → run n 0 ws m ≡ completed l → Begins n 0 ws m (length ws)
completed-begins n ws m l e =
    let all : take (length ws) ws ≡ ws = take_all (length ws) ws (omega arith) in
    (omega arith, l, ap (λ (k : List ℕ). run n 0 k m) all ∙ e)

none-begins : (n : ℕ) (ws : List ℕ) (m : Machine) → Begins n 0 ws m 0
unfolding run
none-begins n ws m = (omega arith, m, refl)

module _ (c : Call) where
  -- the moves that an answer tells are made
  answer-begins : (p : Script × Cursor) → read_script c.script ≡ got p → Begins p.1.number 0 c.moves (begun p.0) (answer c).moves
  unfolding refusal
  answer-begins p e =
      let unmoved = none-begins p.1.number c.moves (begun p.0) in
      let own : (s : Start) → starting c ≡ got s → (k : ℕ) → Begins (parts_of s) 0 c.moves s.machine k → Begins p.1.number 0 c.moves (begun p.0) k =
      λ s d k x. subst (λ (s : Start). Begins (parts_of s) 0 c.moves s.machine k) (got-inj (sym d ∙ starting-got c p e)) x in
      let all : (s : Standing c) → Begins p.1.number 0 c.moves (begun p.0) (length c.moves) =
      λ s. own s.start s.starts (length c.moves) (completed-begins (parts_of s.start) c.moves s.start.machine s.machine s.moves-made) in
      answer-ends c (λ a. Begins p.1.number 0 c.moves (begun p.0) a.moves) (record {
        unread = λ q i d. unmoved;
        shut = λ s d q i h. unmoved;
        stuck = λ s d r h q i x. own s d i (halted-begins (parts_of s) c.moves s.machine q i x);
        tired = λ s q i v d. all s;
        unfit = λ s a n d l. all s;
        done = λ s a n d l. all s;
      })

  -- an accepted call makes all of its moves
  pub accepted-moves : (a : Bool) → (answer c).verdict ≡ accepted a → (answer c).moves ≡ length c.moves
  unfolding refusal
  accepted-moves a = answer-ends c (λ r. r.verdict ≡ accepted a → r.moves ≡ length c.moves) (record {
    unread = λ q i e x. refused≢accepted x;
    shut = λ s e q i d x. refused≢accepted x;
    stuck = λ s e r d q i h x. refused≢accepted x;
    tired = λ s q i v e x. refl;
    unfit = λ s b n e l x. refl;
    done = λ s b n e l x. refl;
  })

  -- what stands after the whole list is what the list leads to
  pub standing-reduced : (s : Standing c) (k : ℕ) → k ≡ length c.moves → Reduced c s.start.read k s.machine
  standing-reduced s k e =
      let (r, own) = start-reads c s.start s.starts in
      let all : take k c.moves ≡ c.moves = take_all k c.moves (omega arith) in
      let made = ap (λ (x : Start). run (parts_of s.start) 0 c.moves x.machine) (sym own) ∙ s.moves-made in
      first_reduced c s.start.read r k s.machine (omega arith) (ap (λ (l : List ℕ). run (parts_of s.start) 0 l (begun s.start.read.0)) all ∙ made)

  whole-reduced : (a : Bool) (k : ℕ) → (answer c).verdict ≡ accepted a → (answer c).moves ≡ k → ReducedWhole c k
  whole-reduced a k e d =
      let s = answer-stands c a e in
      let n : k ≡ length c.moves = sym d ∙ accepted-moves a e in
      record { standing = s; chain = standing-reduced s k n; whole = n }

  -- THEOREM: for every call, the moves that it answers are a chain of the paper's reductions from the script as written, and
  -- its yes or no is about the process that they lead to.
  pub reduces : (v : Verdict) (k : ℕ) → (answer c).verdict ≡ v → (answer c).moves ≡ k → Reduces c v k
  unfolding Reduces
  reduces (accepted true) k e d =
      let w = whole-reduced true k e d in
      let s = w.standing in
      let x = w.chain in
      (w, congruent-satisfies s.rule.0 [] (process s.machine.tree) x.last (StructSymm x.congruent) (verdict-yes c s e))
  reduces (accepted false) k e d =
      let w = whole-reduced false k e d in
      let s = w.standing in
      let x = w.chain in
      (w, λ h. verdict-no c s e (congruent-satisfies s.rule.0 [] x.last (process s.machine.tree) x.congruent h))
  reduces (refused q i) k e d = λ p r.
      let (l, m, a) = answer-begins p r in
      (m, first_reduced c p r k m (omega (arith, d)) (subst (λ (j : ℕ). After c p j m) d a))

-- The end of a call: question 19, and what is counted and written where it is answered by yes. Assumes nothing.
use Prim.Native.Nat.{ℕ, suc, ◌+◌, ◌*◌, ◌-◌}
use mathlib.Core.Bool.{Bool, true, false, cond}
use mathlib.Core.List.{List, [], ◌∷◌}
use mathlib.Core.Path.{◌≡◌, refl, sym, ap, ◌∙◌, subst}
use native.Mathlib.Omega.{arith}
use lib.ListN.{length, drop, length-drop}
use Rattle.std.specs.Prelude.{Result, Ok, Err}
use Rattle.read_messages.specs.declared.Refusal.{Refusal}
use Rattle.read_scripts.specs.Tree.{parts}
use Rattle.engine_message_words.specs.declared.Binding.{Binding}
use Rattle.engine_bindings.specs.Bindings.{bindings_in}
use Rattle.engine_held_bindings.specs.Held.{bindings_of}
use Rattle.theory_machine.specs.PlainMachine.{Machine, weight_of}
use Rattle.theory_machine.proofs.Sums.{map-total}
use Rattle.theory_closures.specs.Closure.{Closure, unfold_head, unfolded, unfold_machine}
use Rattle.engine_states.specs.Represents.{bound_in, Represents}
use Rattle.engine_states.specs.declared.State.{State}
use Rattle.write_messages.specs.Buffer.{over}
use Rattle.theory_written_trees.specs.Write.{write}
use Rattle.write_trees.specs.Room.{room, unfit, answered, buffered, Fitted}
use Rattle.theory_decision.specs.Walk.{Count, says}
use Rattle.walk_stages.specs.Visits.{count_of, walked_of}
use Rattle.walk_stages.specs.declared.Counts.{Counts}
use Rattle.walk_stages.specs.declared.Walked.{Walked}
use Rattle.walk_stages.specs.declared.Walked.TheVariants.{Yes, No, Stopped}
use Rattle.theory_call.specs.Call.{Call, accepted, refusal, standing_words, finish, roomy, accepting, walked}
use Rattle.theory_call.specs.Call as plain
use Rattle.call_answers.specs.Answering.{verdict_of, answer_of, Refusing, call_of}
use Rattle.checker.specs.Calling.{ComesTo}
use Rattle.call_answers.specs.declared.Answer.{Answer}
use Rattle.call_answers.specs.declared.Verdict.{Verdict}

-- ---- the writer's answer taken apart

abbrev question_of : Result ℕ Refusal → ℕ
question_of (Ok n) = 0
question_of (Err r) = suc r.question

abbrev place_of : Result ℕ Refusal → ℕ
place_of (Ok n) = 0
place_of (Err r) = r.place

abbrev words_of : Result ℕ Refusal → ℕ
words_of (Ok n) = n
words_of (Err r) = 0

module _ (c : Call) (m : Machine) (a : Bool) (n : Count) (r : Answer) (after : List ℕ) where
  -- what the call's end comes to, u saying whether the tree fits
  abbrev ended : Bool → plain.Answer
  ended u = cond u (accepting c m a n) (refusal 19 0 (length c.moves) n.visits c.buffer)

  unfits : (u : Bool) (x : Refusal) (k : ℕ) → k ≡ length c.moves → Err x ≡ cond u (Ok (length (standing_words m))) (Err unfit) → after ≡ cond u (over (standing_words m) c.buffer) c.buffer
      → ((b : List ℕ) → answer_of r b ≡ refusal x.question x.place k n.visits b) → answer_of r after ≡ ended u
  unfits true x k em e w d = absurd (let z : suc x.question ≡ 0 = ap question_of e in let o : ⊥ = omega arith in o)
  unfits false x k em e w d =
      let y : suc x.question ≡ 20 = ap question_of e in
      let q19 : x.question ≡ 19 = omega arith in
      let p0 : x.place ≡ 0 = ap place_of e in
      d after ∙ (λ i. refusal (q19 i) (p0 i) (em i) n.visits (w i))

  fits : (u : Bool) (k : ℕ) → Ok k ≡ cond u (Ok (length (standing_words m))) (Err unfit) → after ≡ cond u (over (standing_words m) c.buffer) c.buffer
      → verdict_of r.verdict ≡ accepted a → r.moves ≡ length c.moves → r.visits ≡ n.visits → r.deepest ≡ n.deepest → r.weight ≡ weight_of m → r.words ≡ k → answer_of r after ≡ ended u
  unfolding over answer_of
  fits true k e w ev em es ed ew ek =
      let k0 : k ≡ length (standing_words m) = ap words_of e in
      λ i. record { verdict = ev i; moves = em i; visits = es i; deepest = ed i; weight = ew i; words = (ek ∙ k0) i; buffer = w i }
  fits false k e w ev em es ed ew ek = absurd (let z : 0 ≡ 20 = ap question_of e in let o : ⊥ = omega arith in o)

  module _ (wrote : after ≡ buffered (standing_words m) c.buffer) where
    ends-refused : (x : Refusal) (k : ℕ) → k ≡ length c.moves → Err x ≡ answered (standing_words m) c.buffer → ((b : List ℕ) → answer_of r b ≡ refusal x.question x.place k n.visits b) → answer_of r after ≡ finish c m a n
    unfolding finish answered buffered room
    ends-refused x k em e d = unfits (roomy c m) x k em e wrote d

    ends_words : (k : ℕ) → Ok k ≡ answered (standing_words m) c.buffer → verdict_of r.verdict ≡ accepted a → r.moves ≡ length c.moves → r.visits ≡ n.visits → r.deepest ≡ n.deepest
        → r.weight ≡ weight_of m → r.words ≡ k → answer_of r after ≡ finish c m a n
    unfolding finish answered buffered room
    ends_words k e ev em es ed ew ek = fits (roomy c m) k e wrote ev em es ed ew ek

-- ---- the weight

as_many : (script : List ℕ) (bs : List Binding) → length (bindings_in script bs) ≡ length bs
unfolding bindings_in
as_many script [] = refl
as_many script (b ∷ bs) = ap suc (as_many script bs)

-- the receipts made are the bindings that are held
weighs-so : (script : List ℕ) (s : State) (b : Closure) → length s.bindings.rows ≡ 32 → (w : ℕ) → w ≡ parts b + 2 * (32 - s.bindings.first)
    → w ≡ weight_of (unfold_machine (record { tree = b; bindings = bound_in script s }))
unfolding weight_of unfold_machine unfolded bindings_of
weighs-so script s b long w e =
    let many : length (bound_in script s) ≡ 32 - s.bindings.first
    = as_many script (drop s.bindings.first s.bindings.rows) ∙ length-drop s.bindings.first s.bindings.rows ∙ ap (λ (k : ℕ). k - s.bindings.first) long in
    e ∙ (λ i. sym (map-total (λ j h. 1) (unfold_head (bound_in script s)) b) i + 2 * sym many i)

-- ---- what a call comes to, from the writer's answer and from the walk's

module _ (script kinds starts : List ℕ) (s : State) (moves : ℕ) (before after : List ℕ) where
  -- the writer's answer, for every closure that the state represents
  abbrev Writes : Result ℕ Refusal → Type 0
  Writes x = (weight spent : ℕ) (b : Closure) → Represents script kinds starts weight spent s b → Fitted (write [] 0 (unfolded (bound_in script s) b)) before after x

  module _ (x : Result ℕ Refusal) (yes : Bool) (counts : Counts) where
    pub finishes-refused : (r : Answer) (y : Refusal) → x ≡ Err y → Writes x → Refusing r (refusal y.question y.place moves counts.visits) → ComesTo script kinds starts s moves before after r (says yes (count_of counts))
    unfolding unfold_machine walked
    finishes-refused r y e f g = record {
      ends = λ made rule patience list weight spent b em R.
          let w = f weight spent b R in
          ends-refused (call_of script made rule patience before list) (unfold_machine (record { tree = b; bindings = bound_in script s })) yes (count_of counts) r after w.left y moves em (sym e ∙ w.said) g.answered;
    }

    pub finishes-words : (v : Verdict) (weighed words : ℕ) → x ≡ Ok words → Writes x → verdict_of v ≡ accepted yes → length s.bindings.rows ≡ 32
        → ((script kinds starts : List ℕ) (weight spent : ℕ) (b : Closure) → Represents script kinds starts weight spent s b → weighed ≡ parts b + 2 * (32 - s.bindings.first))
        → ComesTo script kinds starts s moves before after (record { verdict = v; moves = moves; visits = counts.visits; deepest = counts.deepest; weight = weighed; words = words; count = 0 }) (says yes (count_of counts))
    unfolding unfold_machine walked
    finishes-words v weighed words e f ev long h = record {
      ends = λ made rule patience list weight spent b em R.
          let w = f weight spent b R in
          ends_words (call_of script made rule patience before list) (unfold_machine (record { tree = b; bindings = bound_in script s })) yes (count_of counts) _ after w.left words (sym e ∙ w.said) ev em refl refl
          (weighs-so script s b long weighed (h script kinds starts weight spent b R)) refl;
    }

  module _ (w : Walked) (r : Answer) where
    abbrev walking : Walked → Type 0
    walking u = ComesTo script kinds starts s moves before after r (walked_of u)

    pub walks-yes : (n : Counts) → w ≡ Yes n → ComesTo script kinds starts s moves before after r (says true (count_of n)) → walking w
    unfolding walked_of
    walks-yes n e x = subst walking (sym e) x

    pub walks-no : (n : Counts) → w ≡ No n → ComesTo script kinds starts s moves before after r (says false (count_of n)) → walking w
    unfolding walked_of
    walks-no n e x = subst walking (sym e) x

    pub walks-stopped : (q i v : ℕ) → w ≡ Stopped q i v → Refusing r (refusal q i moves v) → after ≡ before → walking w
    unfolding walked walked_of
    walks-stopped q i v e f d = subst walking (sym e) (record { ends = λ made rule patience list weight spent b em R. f.answered after ∙ (λ t. refusal q i (em t) v (d t)) })

-- The end of the call: the walk's answer on the state that stands is the call's, and so decided by the paper's own relation.
-- Assumes nothing.
use Prim.Native.Nat.{ℕ, ◌+◌, ◌-◌, ◌≤◌}
use mathlib.Core.Bool.{true}
use mathlib.Core.List.{List, [], ◌++◌}
use mathlib.Core.Path.{◌≡◌, refl, sym, ap, ◌∙◌, subst, transport}
use native.Mathlib.Omega.{arith}
use lib.Dec.{eqb}
use lib.ListN.{length, take, drop, length-take}
use Rattle.read_messages.specs.Reading.{Cursor}
use Rattle.read_scripts.specs.Tree.{one_if, times_in}
use Rattle.read_scripts.specs.Script.{Script}
use Rattle.read_scripts.specs.declared.Table.{Table}
use Rattle.theory_machine.specs.PlainMachine.{Machine}
use Rattle.theory_machine.proofs.Sums.{map-total}
use Rattle.base_slices.proofs.Tests.{by_test}
use Rattle.read_rule_words.specs.Rule.{Rule, sometime, Later}
use Rattle.read_rules.specs.declared.RuleTable.{RuleTable}
use Rattle.read_rules.proofs.Inversion.{rule_told}
use Rattle.theory_closures.specs.Closure.{unfold_head, unfolded, unfold_machine}
use Rattle.engine_states.specs.Represents.{bound_in}
use Rattle.engine_states.specs.declared.State.{State}
use Rattle.theory_decision.specs.Walk.{says, walk, walk_from}
use Rattle.theory_decision.specs.ClosureWalk.{closure_space}
use Rattle.walk_stages.specs.Visits.{machine_of, walked_of, Walks}
use Rattle.walk_itineraries.specs.Leading.{LeadsTo}
use Rattle.walk_rules.specs.Walking.{Routed}
use Rattle.walk_stages.specs.declared.Counts.{Counts}
use Rattle.walk_stages.specs.declared.Limits.{Limits}
use Rattle.walk_stages.specs.declared.Walked.{Walked}
use Rattle.walk_stages.specs.declared.Walked.TheVariants.{Yes, No, Stopped}
use Rattle.read_rule_words.proofs.Order.{rule-ordered}
use Rattle.theory_call.specs.Call.{Call, accepted, left_by, refusal, roomy, finish, walked, start_of, setting, answer}
use Rattle.theory_call.specs.Call as plain
use Rattle.theory_call.specs.ClosureCall.{completed, closure_run, unfold_ran, begun}
use Rattle.call_answers.specs.Answering.{verdict_of, answer_of, call_of, CallGives, Greatest}
use Rattle.call_answers.specs.declared.Answer.{Answer}
use Rattle.checker.specs.Calling.{StateHeld, WalkSays, ComesTo}
use Rattle.theory_call.specs.Standing.{Standing, Decides, Reduces, Returned, Readmitted, MovesBounded, WeightBounded, Weighed}
use Rattle.theory_call.specs.Itinerary.{Leads, FirstSometime, Itinerary, Unlisted, Listed}
use Rattle.call_itineraries.specs.Showing.{ShowsMoves}
use Rattle.theory_call.proofs.ClosureRuns.{started-unfolded, moves-bounded}
use Rattle.theory_call.proofs.Runs.{weight-holds}
use Rattle.theory_call.proofs.Entering.{starting-got}
use Rattle.theory_call.proofs.Small.{weight-bounded}
use Rattle.theory_call.proofs.Reducing.{reduces}
use Rattle.theory_call.proofs.Leaving.{returned, readmitted}
use Rattle.theory_call.proofs.Called.{run-leaves-good, answers-walked}
use Rattle.theory_call.proofs.Itineraries.{closure-leads}
use Rattle.theory_call.proofs.Verdicts.{no-is-yes, refusal-is-yes, yes-or-not, standing-good, decides}
use Rattle.checker.proofs.Calling.{number_is, enters, short}

-- ---- questions 17 to 19

-- a verdict that is yes is the walk's
yes-walked : (c : Call) (m : Machine) (w : Walked) → (walked c m (walked_of w)).verdict ≡ accepted true → (n : Counts) × (w ≡ Yes n)
unfolding walked walked_of finish refusal
yes-walked c m (Yes n) e = (n, refl)
yes-walked c m (No n) e = by_test (roomy c m) (λ t. no-is-yes (rw t at e)) (λ t. refusal-is-yes (rw t at e))
yes-walked c m (Stopped q i v) e = refusal-is-yes e

module _ {script moves words : List ℕ} {patience : ℕ} {list : List ℕ} {t : Table} {u : RuleTable} {s : State} (S : StateHeld script moves words patience list t u s) where
  abbrev script-read : Script × Cursor
  script-read = S.entered.both.held.read

  abbrev rule-read : Rule × Cursor
  rule-read = S.entered.both.ruled.read

  abbrev n : ℕ
  n = script-read.1.number

  number : t.count ≡ n
  number = number_is S.entered.both.held

  counted : u.count ≡ rule-read.1.number
  counted = S.entered.both.ruled.tabled.counted

  made : closure_run n 0 moves (begun script-read.0) ≡ completed S.machine
  made = subst (λ (k : ℕ). closure_run k 0 moves (begun script-read.0) ≡ completed S.machine) number S.runs

  module _ (buffer : List ℕ) where
    abbrev c : Call
    c = call_of script moves words patience buffer list

    standing : Standing c
    unfolding unfold_ran
    standing = record {
      start = start_of script script-read;
      rule = rule-read;
      machine = unfold_machine S.machine;
      starts = starting-got c script-read S.entered.both.held.reads;
      enters = enters S.entered buffer;
      moves-made = started-unfolded script script-read S.entered.both.held.reads n moves ∙ ap unfold_ran made;
    }

  -- no part has a number from n on
  below : (i : ℕ) → t.count ≤ i → times_in i S.machine.tree ≡ 0
  unfolding unfold_machine unfolded standing
  below i l =
      let z : n ≤ i = omega (arith, number) in
      sym (map-total (λ k h. one_if (eqb i k)) (unfold_head S.machine.bindings) S.machine.tree) ∙ (standing-good (c []) (standing [])).below i z

  -- ---- what the walk says and finds

  module _ (greatest : ℕ) (G : Greatest script words greatest) where
    abbrev limits : Limits
    limits = record { patience = patience; greatest = greatest; parts = t.count; limit = t.count + u.count }

    later : Later 0 rule-read.0
    later = rule-ordered t.count words rule-read S.entered.both.ruled.reads

    whole_says : (w : Walked) → Walks words u script t.kinds t.starts s limits w → (buffer : List ℕ)
        → walked_of w ≡ walk_from (closure_space (n + rule-read.1.number)) (setting (c buffer) (start_of script script-read)) rule-read.0 S.machine
    whole_says w W buffer =
        W t.count (length moves) S.machine.tree rule-read S.entered.both.ruled.tabled later refl S.represents (omega arith) below (omega (arith, short S.entered))
        ∙ (λ i. walk_from (closure_space (number i + counted i)) (record { patience = patience; greatest = G.most i; parts = number i }) rule-read.0 (record { tree = S.machine.tree; bindings = S.bound i }))

    -- words that lead on from the state lead on from what stands
    there-leads : (q : Rule) → rule-read.0 ≡ sometime 0 q → (ws : List ℕ) → LeadsTo limits [] q (machine_of script s S.machine.tree) ws → Leads n (unfold_machine S.machine) q ws
    unfolding standing
    there-leads q first ws L =
        closure-leads (c []) (standing []) q first S.machine (run-leaves-good script script-read S.entered.both.held.reads n moves S.machine made) refl ws L.end
        (transport (λ i. closure_run (number i) 0 ws (record { tree = S.machine.tree; bindings = S.bound i }) ≡ completed L.end) (L.made 0))
        L.left (257 - L.left) L.first L.last
        (transport (λ i. walk (closure_space (number i + counted i)) (record { patience = patience; greatest = G.most i; parts = number i }) L.left (257 - L.left) [] q L.end L.first ≡ says true L.last) L.meets)

    -- THEOREM: the engine's walk says and finds what the definitions ask.
    walk-says : (w : Walked) (count : ℕ) (found : List ℕ) → Walks words u script t.kinds t.starts s limits w → Routed words u script t.kinds t.starts s limits w count found → WalkSays S w count found
    walk-says w count found W R = record {
      says = whole_says w W;
      few = R.few;
      array = R.array;
      leads = λ q first m e. there-leads q first (take count found)
          (R.moves t.count (length moves) S.machine.tree rule-read S.entered.both.ruled.tabled later refl S.represents (omega arith) below (omega (arith, short S.entered)) q first m e);
      others = R.others;
    }

  -- THEOREM: what the walk says, with the tree that stands, is the call's answer.
  says-answers : (buffer : List ℕ) (w : Walked) → walked_of w ≡ walk_from (closure_space (n + rule-read.1.number)) (setting (c buffer) (start_of script script-read)) rule-read.0 S.machine
      → walked (c buffer) (unfold_machine (record { tree = S.machine.tree; bindings = bound_in script s })) (walked_of w) ≡ answer (c buffer)
  says-answers buffer w d =
      (λ i. walked (c buffer) (unfold_machine (record { tree = S.machine.tree; bindings = S.bound i })) (d i))
      ∙ sym (answers-walked (c buffer) script-read S.entered.both.held.reads rule-read (enters S.entered buffer) S.machine made)

  -- ---- what the call gives by it

  module _ (w : Walked) (count : ℕ) (found : List ℕ) (W : WalkSays S w count found) (k : ℕ) (ek : k ≡ length moves) (buffer after : List ℕ) (a : Answer)
      (C : ComesTo script t.kinds t.starts s k buffer after a (walked_of w)) where
    comes : answer_of a after ≡ walked (c buffer) (unfold_machine (record { tree = S.machine.tree; bindings = bound_in script s })) (walked_of w)
    comes = C.ends moves words patience list t.count (length moves) S.machine.tree ek S.represents

    -- where the rule begins with SOMETIME and the answer is yes, the words found are an itinerary
    found-leads : verdict_of a.verdict ≡ accepted true → FirstSometime (c buffer) → (r : Answer) (listed : List ℕ) → r.count ≡ count → listed ≡ take count found ++ drop count list → Itinerary (c buffer) r.count listed
    unfolding answer_of standing
    found-leads y f r listed er el =
        let (q, eq, ei, R) = rule_told words u [] rule-read.0 0 7 S.entered.both.ruled.tabled.ruled S.entered.both.ruled.tabled.first f in
        let (m, em) = yes-walked (c buffer) _ w (sym (ap (λ (x : plain.Answer). x.verdict) comes) ∙ y) in
        record {
          standing = standing buffer;
          inner = q;
          first = eq;
          moves = take count found;
          leads = W.leads q eq m em;
          counted = er ∙ (let z : count ≡ length (take count found) = omega (arith, W.few, W.array, length-take count found) in z);
          few = omega (arith, er, W.few);
          written = el ∙ ap (λ (j : ℕ). take count found ++ drop j list) (sym er);
        }

    -- THEOREM: the answer with that itinerary is what the call gives.
    pub shows-gives : (r : Answer) (listed : List ℕ) → ShowsMoves a count found list r listed → CallGives (c buffer) r after listed
    unfolding answer_of
    shows-gives r listed X =
        let v : verdict_of r.verdict ≡ verdict_of a.verdict = ap (λ (x : plain.Answer). x.verdict) (X.same after) in
        record {
          answered = X.same after ∙ comes ∙ says-answers buffer w (W.says buffer);
          listed = record {
            shown = λ y f. let z = sym v ∙ y in found-leads z f r listed (X.counted z) (X.written z);
            others = λ no. yes-or-not (verdict_of a.verdict) (λ z. unfirst z (λ f. no (v ∙ z, f))) (λ z. record { none = X.uncounted z; unwritten = X.unwritten z });
          };
        }
      where
        -- yes, to a rule that begins with another word
        unfirst : verdict_of a.verdict ≡ accepted true → ¬ FirstSometime (c buffer) → Unlisted (c buffer) r.count listed
        unfirst z f =
            let e : count ≡ 0 = W.others f in
            record { none = X.counted z ∙ e; unwritten = X.written z ∙ ap (λ (j : ℕ). take j found ++ drop j list) e }

-- the same, with all that it is about as arguments
pub walk-standing-says : (script moves words : List ℕ) (patience : ℕ) (list : List ℕ) (t : Table) (u : RuleTable) (s : State) (S : StateHeld script moves words patience list t u s) (greatest : ℕ) → Greatest script words greatest
    → (w : Walked) (count : ℕ) (found : List ℕ) → Walks words u script t.kinds t.starts s (record { patience = patience; greatest = greatest; parts = t.count; limit = t.count + u.count }) w
    → Routed words u script t.kinds t.starts s (record { patience = patience; greatest = greatest; parts = t.count; limit = t.count + u.count }) w count found → WalkSays S w count found
walk-standing-says script moves words patience list t u s S g G w count found W R = walk-says S g G w count found W R

-- ---- demand 2

-- THEOREM: an answer that is the plain machine's, with the buffer, is decided by the paper's own relation, keeps the bound and
-- the weight, and its moves are the paper's reductions; the trees that they leave are read again as they are written.
pub call_kept : (c : Call) (r : Answer) (b l : List ℕ) → CallGives c r b l
    → (answer_of r b ≡ answer c)
    × (Decides c (verdict_of r.verdict)
    × (MovesBounded c.script r.moves
    × (Weighed c r.weight
    × (Reduces c (verdict_of r.verdict) r.moves
    × (Returned c (verdict_of r.verdict) (take r.words b)
    × (Readmitted (verdict_of r.verdict) (take r.words b) × Listed c (verdict_of r.verdict ≡ accepted true) r.count l))))))
unfolding answer_of
call_kept c r b l g =
    let e : answer_of r b ≡ answer c = g.answered in
    let v : (answer c).verdict ≡ verdict_of r.verdict = sym (ap (λ (a : plain.Answer). a.verdict) e) in
    let m : (answer c).moves ≡ r.moves = sym (ap (λ (a : plain.Answer). a.moves) e) in
    let w : (answer c).weight ≡ r.weight = sym (ap (λ (a : plain.Answer). a.weight) e) in
    let left : left_by (answer c) ≡ take r.words b = sym (ap (λ (a : plain.Answer). left_by a) e) in
    (e, (decides c _ v, (subst (MovesBounded c.script) m (moves-bounded c), (record { each = weight-holds c; told = subst (WeightBounded c.script) w (weight-bounded c) }, (reduces c _ _ v m, (returned c _ _ v left, (readmitted c _ _ v left, g.listed)))))))

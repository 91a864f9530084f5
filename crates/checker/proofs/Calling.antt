-- The call up to the moves: what the readers' answers say, and how the list ends, told by the closure machine's run.
-- Assumes nothing.
use Prim.Native.Nat.{ℕ, ◌+◌, ◌≤◌}
use mathlib.Core.List.{List, []}
use mathlib.Core.Path.{◌≡◌, refl, sym, ap, ◌∙◌, subst, transport}
use native.Mathlib.Omega.{arith}
use lib.ListN.{length, take}
use lib.Seq.{take_all}
use Rattle.read_messages.specs.Reading.{Cursor, Reading, refuse, got}
use Rattle.read_scripts.specs.Tree.{parts}
use Rattle.read_scripts.specs.Script.{Script}
use Rattle.read_scripts.specs.Represents.{Tabled}
use Rattle.read_scripts.specs.Represents as read
use Rattle.read_scripts.specs.declared.Table.{Table}
use Rattle.read_scripts.proofs.Tabled.{script-number, script-accepted}
use Rattle.read_rule_words.specs.Rule.{Rule}
use Rattle.read_rule_words.specs.ReadRule.{read_whole_rule}
use Rattle.read_rules.specs.Ruled as ruled
use Rattle.read_rules.proofs.Tabled.{rule-accepted}
use Rattle.read_rules.specs.declared.RuleTable.{RuleTable}
use Rattle.theory_closures.specs.Closure.{ClosureMachine, settle_under, closure_of, Bindings}
use Rattle.engine_states.specs.Represents.{bound_in, Ready, Represents}
use Rattle.engine_states.specs.declared.State.{State}
use Rattle.engine_state_arrays.specs.Lent.{kinds_in, starts_in, own_state, Small}
use Rattle.theory_call.specs.Call as plain
use Rattle.theory_call.specs.Call.{Call, refusal, start_of, asking, terms, door, answer}
use Rattle.theory_call.specs.ClosureCall.{ClosureRan, halted, completed, closure_run, begun}
use Rattle.call_lists.specs.Running.{Ended, ended_of, made_of, Left, Runs, Runnable, ListRan}
use Rattle.call_answers.specs.Answering.{Refusing, call_of, CallGives}
use Rattle.call_answers.specs.declared.Answer.{Answer}
use Rattle.call_answers.proofs.Terms.{Asked, ok≢err, asked-refused}
use Rattle.call_answers.proofs.Refusals.{gives-refusal}
use Rattle.walk_itineraries.specs.declared.Led.{Led}
use Rattle.checker.specs.Calling.{ScriptHeld, RuleHeld, Entered, StateHeld, Walkable, WalkSays, Concludable}
use Rattle.std.specs.Prelude.{Result, Ok, Err}
use Rattle.read_messages.specs.declared.Refusal.{Refusal}
use Rattle.theory_call.proofs.Entering.{terms-few, terms-long, door-unread, own-unasked, own-got}
use Rattle.theory_call.proofs.Called.{answers-door, answers-halted}

-- ---- what the readers' answers say

pub script-held : (ws : List ℕ) (r : Result Table Refusal) (t : Table) → read.Answers ws r → r ≡ Ok t → ScriptHeld ws t
script-held ws r t A d = let (p, x, T) = script-accepted ws r t A d in record { read = p; reads = x; tabled = T }

pub rule-held : (k : ℕ) (ws : List ℕ) (r : Result RuleTable Refusal) (t : RuleTable) → ruled.Answers k ws r → r ≡ Ok t → RuleHeld k ws t
rule-held k ws r t A d = let (p, x, T) = rule-accepted k ws r t A d in record { read = p; reads = x; tabled = T }

-- ---- how a list ends

module _ (script kinds starts : List ℕ) (r : State) (weight spent : ℕ) where
  left-made : (x : ClosureRan) → Left script kinds starts r weight spent x → (m : ClosureMachine) × (x ≡ completed m) × Represents script kinds starts weight spent r m.tree × (bound_in script r ≡ m.bindings)
  left-made (halted q i) e = absurd e
  left-made (completed m) e = (m, refl, e.0, e.1)

ends-halted : (r : Refusal) (x : ClosureRan) → Err r ≡ ended_of x → x ≡ halted r.question r.place
unfolding ended_of
ends-halted r (halted p j) e = let a : p ≡ r.question = cc in let b : j ≡ r.place = cc in λ k. halted (a k) (b k)
ends-halted r (completed m) e = ok≢err (sym e)

-- ---- questions 7 to 16

-- the part table counts the parts that are read
pub number_is : {script : List ℕ} {t : Table} (H : ScriptHeld script t) → t.count ≡ H.read.1.number
number_is {script} H = H.tabled.counted ∙ sym (script-number script H.read H.reads)

module _ {script : List ℕ} {t : Table} (H : ScriptHeld script t) (words : List ℕ) where
  reads-rule : (x : Reading (Rule × Cursor)) → read_whole_rule t.count words ≡ x → read_whole_rule H.read.1.number words ≡ x
  reads-rule x e = subst (λ (k : ℕ). read_whole_rule k words ≡ x) (number_is H) e

  module _ (moves : List ℕ) (patience : ℕ) (buffer list : List ℕ) (r : Refusal) where
    abbrev c : Call
    c = call_of script moves words patience buffer list

    abbrev refused-so : plain.Answer
    refused-so = refusal r.question r.place 0 0 buffer

    pub says-rule : read_whole_rule t.count words ≡ refuse r.question r.place → answer c ≡ refused-so
    says-rule e = answers-door c H.read H.reads r.question r.place (door-unread c (start_of script H.read) r.question r.place (reads-rule (refuse r.question r.place) e))

    pub says-terms : {u : RuleTable} → RuleHeld t.count words u → (x : Result (Unit {0}) Refusal) → x ≡ Asked patience (length moves) (length list) → x ≡ Err r → answer c ≡ refused-so
    says-terms R x e d = answers-door c H.read H.reads r.question r.place (own-unasked c H.read R.read (reads-rule (got R.read) R.reads) r.question r.place (asked-refused (asking (terms patience (length moves) (length list))) r (sym e ∙ d)))

-- the arrays that are lent hold the state that the list begins with, and it represents the script's closure
pub record Began (script : List ℕ) (t : Table) (s : State) (sets numbers : List ℕ) : Type 0 where
  pub kinds : kinds_in numbers ≡ t.kinds
  pub starts : starts_in numbers ≡ t.starts
  pub small : Small numbers
  pub state : own_state sets numbers ≡ s
  pub ready : Ready script t.kinds t.starts s
  pub none : bound_in script s ≡ []
  pub first : (count : ℕ) (b : Script) → Tabled script (record { kinds = t.kinds; starts = t.starts; kids = t.kids; count = count }) b
      → Represents script t.kinds t.starts (parts b) 0 s (settle_under [] (closure_of b))

module _ {script moves words : List ℕ} {patience : ℕ} {list : List ℕ} {t : Table} {u : RuleTable} (L : Entered script moves words patience list t u) where
  pub enters : (buffer : List ℕ) → door (call_of script moves words patience buffer list) (start_of script L.both.held.read) ≡ got L.both.ruled.read
  enters buffer = own-got (call_of script moves words patience buffer list) L.both.held.read L.both.ruled.read (reads-rule L.both.held words (got L.both.ruled.read) L.both.ruled.reads) L.asked

  pub short : length moves ≤ 4096
  short = terms-few patience (length moves) (length list) L.asked

  pub long : 256 ≤ length list
  long = terms-long patience (length moves) (length list) L.asked

  abbrev run : List ℕ → ClosureRan
  run ws = closure_run t.count 0 ws (begun L.both.held.read.0)

  -- the list ends as the closure machine's that begins with the script, and leaves that state
  abbrev Ends : Ended → State → Type 0
  Ends e r = (e ≡ ended_of (run moves)) × Left script t.kinds t.starts r t.count (0 + made_of moves e) (run (take (made_of moves e) moves))

  list-halted : (buffer : List ℕ) (x : Refusal) (r : State) → Ends (Err x) r → answer (call_of script moves words patience buffer list) ≡ refusal x.question x.place x.place 0 buffer
  list-halted buffer x r g = answers-halted (call_of script moves words patience buffer list) L.both.held.read L.both.held.reads L.both.ruled.read (enters buffer) x.question x.place
      (subst (λ (k : ℕ). closure_run k 0 moves (begun L.both.held.read.0) ≡ halted x.question x.place) (number_is L.both.held) (ends-halted x _ g.0))

  list-made : (r : State) → Ends (Ok tt) r → StateHeld script moves words patience list t u r
  list-made r g =
      let z : 0 + length moves ≡ length moves = omega arith in
      let (m, x, R, d) = left-made script t.kinds t.starts r t.count (0 + length moves) _ g.1 in
      record {
        entered = L;
        machine = m;
        runs = ap run (sym (take_all (length moves) moves (omega arith))) ∙ x;
        represents = subst (λ (k : ℕ). Represents script t.kinds t.starts t.count k r m.tree) z R;
        bound = d;
      }

  module _ {s : State} {sets numbers : List ℕ} (B : Began script t s sets numbers) where
    pub runnable : length sets ≡ 131 → length numbers ≡ 481 → Runnable script sets numbers moves t.count
    runnable l m = record {
      few = L.both.held.tabled.few;
      short = short;
      lends = record { sets-long = l; numbers-long = m; small = B.small; ready = transport (λ q. Ready script (sym B.kinds q) (sym B.starts q) (sym B.state q)) B.ready };
    }

    module _ {sets₁ numbers₁ : List ℕ} {x : Ended} (R : ListRan script sets numbers moves t.count sets₁ numbers₁ x) where
      abbrev state_left : State
      state_left = own_state sets₁ numbers₁

      ran : Ends x state_left
      ran =
          let b = settle_under [] (closure_of L.both.held.read.0) in
          let represents = subst (λ (k : ℕ). Represents script t.kinds t.starts k 0 s b) (sym L.both.held.tabled.counted) (B.first t.count L.both.held.read.0 L.both.held.tabled) in
          let g : Runs script t.kinds t.starts t.count moves s x state_left = transport (λ q. Runs script (B.kinds q) (B.starts q) t.count moves (B.state q) x state_left) R.runs in
          subst (λ (σ : Bindings). (x ≡ ended_of (closure_run t.count 0 moves (record { tree = b; bindings = σ }))) × Left script t.kinds t.starts state_left t.count (0 + made_of moves x) (closure_run t.count 0 (take (made_of moves x) moves) (record { tree = b; bindings = σ }))) B.none
          (g t.count 0 b (omega (arith, short)) represents)

      pub list-refused : {y : Refusal} (r : Answer) (buffer : List ℕ) → x ≡ Err y → Refusing r (refusal y.question y.place y.place 0) → CallGives (call_of script moves words patience buffer list) r buffer list
      list-refused {y} r buffer d f = gives-refusal (call_of script moves words patience buffer list) r y.question y.place y.place 0 f (list-halted buffer y state_left (transport (λ z. Ends (d z) state_left) ran))

      -- the state that is borrowed where all moves are made
      module _ (d : x ≡ Ok tt) {k l : List ℕ} {b : State} (f : Small numbers₁ → (k ≡ kinds_in numbers₁) × (l ≡ starts_in numbers₁) × (b ≡ state_left)) where
        stood : StateHeld script moves words patience list t u b
        stood = list-made b (transport (λ z. Ends (d z) (sym (f R.lends.small).2 z)) ran)

        pub list-walkable : Walkable script t u b
        list-walkable = record {
          writable = record {
            ready = transport (λ z. Ready script ((R.same-kinds ∙ B.kinds) z) ((R.same-starts ∙ B.starts) z) (sym (f R.lends.small).2 z)) R.lends.ready;
            scripted = record { placed = λ i. omega (arith, L.both.held.tabled.low i); spent = λ i. omega (arith, stood.represents.spends i, short) };
          };
          room = L.both.ruled.tabled.room;
        }

        module _ (w : Led) {found : List ℕ} (W : (made lent : List ℕ) (S : StateHeld script made words patience lent t u b) → WalkSays S w.walked w.count found) where
          -- the walk is made on the machine that stands: its answer can be told, and its moves listed
          pub list-concludable : Concludable script t b w.count found list
          list-concludable = record { writable = list-walkable.writable; listable = record { few = (W moves list stood).few; array = (W moves list stood).array; room = long } }

          pub list-answered : (r : Answer) (after buffer listed : List ℕ)
              → ((made rule : List ℕ) (p : ℕ) (v : RuleTable) (S : StateHeld script made rule p list t v b) → length moves ≡ length made → WalkSays S w.walked w.count found → CallGives (call_of script made rule p buffer list) r after listed)
              → CallGives (call_of script moves words patience buffer list) r after listed
          list-answered r after buffer listed g = g moves words patience u stood refl (W moves list stood)

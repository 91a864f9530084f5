-- No answer is large: the place of a refusal and the moves made are at most 4,096, the weight at most 64.
-- Assumes nothing.
use Prim.Native.Nat.{ℕ, zero, suc, ◌+◌, ◌≤◌}
use mathlib.Core.Bool.{true, false}
use mathlib.Core.List.{List, [], ◌∷◌}
use mathlib.Core.Option.{Option, none, some}
use mathlib.Core.Path.{◌≡◌, sym, ◌∙◌, subst}
use native.Mathlib.Omega.{arith}
use lib.Dec.{ltb}
use lib.ListN.{length}
use Rattle.read_messages.specs.Reading.{Cursor, got}
use Rattle.read_messages.specs.Message.{Message}
use Rattle.read_messages.proofs.Readings.{got-inj}
use Rattle.read_messages.proofs.Places.{Within, bind-within}
use Rattle.read_scripts.specs.Tree.{parts}
use Rattle.read_scripts.specs.Script.{read_script}
use Rattle.read_scripts.proofs.Tabled.{script-tabled}
use Rattle.read_scripts.proofs.Places.{script-within}
use Rattle.read_rule_words.specs.Rule.{Names, Rule, truth, negation, either, void, at, beside, some-name, sometime, somewhere, placed, rule_index}
use Rattle.read_rule_words.specs.ReadRule.{read_whole_rule}
use Rattle.read_rules.specs.Ruled.{Ruled}
use Rattle.read_rules.specs.RuleTable.{vacant, tabulate}
use Rattle.read_rules.specs.declared.RuleTable.{RuleTable}
use Rattle.read_rules.proofs.Tabled.{rule-tabled}
use Rattle.theory_machine.specs.Moves.{MoveMade}
use Rattle.theory_machine.specs.PlainMachine.{move, Machine, weight_of}
use Rattle.base_slices.proofs.Tests.{by_test}
use Rattle.theory_decision.specs.Walk.{Space, Count, Walked, stopped, says, Setting, on_yes, on_no, turned, if_any, first_yes, look, counted, walk, walk_from}
use Rattle.theory_decision.specs.PlainWalk.{plain_space}
use Rattle.theory_call.specs.Call.{Call, Verdict, accepted, refused, Answer, refusal, Ran, halted, completed, actor, target, move_fits, if_made, run, Start, parts_of, setting, starting, answer}
use Rattle.theory_call.specs.Standing.{Standing, WeightBounded}
use Rattle.theory_call.proofs.Runs.{run-weighed}
use Rattle.theory_call.proofs.Entering.{starting-got, start-all, door-inv, door-few, door-within}
use Rattle.theory_call.proofs.Answers.{walk_of, answer-ends}

-- ---- the walk stops at a word of the rule

-- a walk that stops does so at a place that is at most x
abbrev Stops : ℕ → Walked → Type 0
Stops x (stopped q i v) = i ≤ x
Stops x (says a n) = Unit {0}

module _ (x : ℕ) where
  turned-stops : (w : Walked) → Stops x w → Stops x (turned w)
  unfolding turned
  turned-stops (stopped q i v) h = h
  turned-stops (says a n) h = tt

  no-stops : (w : Walked) (k : Count → Walked) → Stops x w → ((n : Count) → Stops x (k n)) → Stops x (on_no w k)
  unfolding on_no
  no-stops (stopped q i v) k h f = h
  no-stops (says true n) k h f = tt
  no-stops (says false n) k h f = f n

  yes-stops : (w : Walked) (k : Count → Walked) → Stops x w → ((n : Count) → Stops x (k n)) → Stops x (on_yes w k)
  unfolding on_yes
  yes-stops (stopped q i v) k h f = h
  yes-stops (says true n) k h f = f n
  yes-stops (says false n) k h f = tt

  any-stops : {S : Type 0} (o : Option S) (k : S → Walked) (n : Count) → ((c : S) → Stops x (k c)) → Stops x (if_any o k n)
  unfolding if_any
  any-stops none k n f = tt
  any-stops (some c) k n f = f c

  first_stops : {A : Type 0} (f : A → Count → Walked) → ((a : A) (n : Count) → Stops x (f a n)) → (l : List A) (n : Count) → Stops x (first_yes f l n)
  unfolding first_yes
  first_stops f h [] n = tt
  first_stops f h (a ∷ l) n = no-stops (f a n) _ (h a n) (λ n₁. first_stops f h l n₁)

module _ (words : List ℕ) (t : RuleTable) where
  -- a rule's own word is one of the words
  ruled-index : (somes : List ℕ) (r : Rule) → Ruled words t somes r → rule_index r ≤ length words
  unfolding rule_index
  ruled-index somes (truth i) h = omega (arith, h.inside)
  ruled-index somes (negation i r) h = omega (arith, h.0.inside)
  ruled-index somes (either i r q) h = omega (arith, h.0.inside)
  ruled-index somes (void i) h = omega (arith, h.inside)
  ruled-index somes (at i n r) h = omega (arith, h.0.inside)
  ruled-index somes (beside i r q) h = omega (arith, h.0.inside)
  ruled-index somes (some-name i r) h = omega (arith, h.0.inside)
  ruled-index somes (sometime i r) h = omega (arith, h.0.inside)
  ruled-index somes (somewhere i r) h = omega (arith, h.0.inside)
  ruled-index somes (placed i j n r) h = omega (arith, h.0.inside)

  module _ {S : Type 0} (space : Space S) (s : Setting) where
    -- visits that stop at one of the words
    abbrev StopsAll : (Names → Rule → S → Count → Walked) → Type 0
    StopsAll visit = (e : Names) (somes : List ℕ) (r : Rule) (b : S) (n : Count) → Ruled words t somes r → Stops (length words) (visit e r b n)

    look-stops : (visit : Names → Rule → S → Count → Walked) → StopsAll visit → StopsAll (look space s visit)
    unfolding look
    look-stops visit f e somes (truth i) b n h = tt
    look-stops visit f e somes (negation i r) b n h = turned-stops (length words) (visit e r b n) (f e somes r b n h.2)
    look-stops visit f e somes (either i r q) b n h = no-stops (length words) (visit e r b n) _ (f e somes r b n h.2) (λ n₁. f e somes q b n₁ h.4)
    look-stops visit f e somes (void i) b n h = tt
    look-stops visit f e somes (at i m r) b n h = any-stops (length words) _ _ n (λ c. f e somes r c n h.2)
    look-stops visit f e somes (beside i r q) b n h =
        first_stops (length words) _ (λ d n₁. yes-stops (length words) (visit e r d.0 n₁) _ (f e somes r d.0 n₁ h.2) (λ n₂. f e somes q d.1 n₂ h.4)) (space.divisions b) n
    look-stops visit f e somes (some-name i r) b n h = first_stops (length words) _ (λ m n₁. f ((i, m) ∷ e) (i ∷ somes) r b n₁ h.2) _ n
    look-stops visit f e somes (sometime i r) b n h =
        no-stops (length words) (visit e r b n) _ (f e somes r b n h.2) (λ n₁. first_stops (length words) _ (λ c n₂. f e somes (sometime i r) c n₂ h) (space.nexts b) n₁)
    look-stops visit f e somes (somewhere i r) b n h =
        no-stops (length words) (visit e r b n) _ (f e somes r b n h.2) (λ n₁. first_stops (length words) _ (λ c n₂. f e somes (somewhere i r) c n₂ h) (space.insides b) n₁)
    look-stops visit f e somes (placed i j m r) b n h = f e somes r _ n h.2

    walk-stops : (left depth : ℕ) → StopsAll (walk space s left depth)
    unfolding walk
    walk-stops zero depth e somes r b n h = ruled-index somes r h
    walk-stops (suc left) depth e somes r b n h =
        by_test (ltb n.visits s.patience)
        (λ u. rw u (look-stops (λ e₁ r₁ b₁ n₁. walk space s left (suc depth) e₁ r₁ b₁ n₁) (walk-stops left (suc depth)) e somes r b (counted space s depth n) h))
        (λ u. rw u (ruled-index somes r h))

stops-sooner : (x y : ℕ) (w : Walked) → x ≤ y → Stops x w → Stops y w
stops-sooner x y (stopped q i v) l h = omega arith
stops-sooner x y (says a n) l h = tt

-- the walk of a rule that is read stops at one of its words, of which there are at most 256
whole-stops : {S : Type 0} (space : Space S) (s : Setting) (n : ℕ) (ws : List ℕ) (p : Rule × Cursor) → read_whole_rule n ws ≡ got p → (b : S) → Stops 256 (walk_from space s p.0 b)
whole-stops space s n ws p e b =
    let T = rule-tabled n ws p e in
    stops-sooner (length ws) 256 (walk_from space s p.0 b) T.few (walk-stops ws (tabulate p.0 vacant) space s 256 1 [] [] p.0 b (record { visits = 0; deepest = 0 }) T.ruled)

-- ---- a list of moves halts at one of its words

abbrev Halts : ℕ → Ran → Type 0
Halts x (halted q i) = i ≤ x
Halts x (completed m) = Unit {0}

made-halts : (x i : ℕ) (m : Machine) (o : Option (MoveMade (List Message))) (k : Machine → Ran) → i ≤ x → ((l : Machine) → Halts x (k l)) → Halts x (if_made i m o k)
unfolding if_made
made-halts x i m none k h f = h
made-halts x i m (some s) k h f = f _

run-halts : (x n i : ℕ) (ws : List ℕ) (m : Machine) → i + length ws ≤ x → Halts x (run n i ws m)
unfolding run
run-halts x n i [] m h = tt
run-halts x n i (w ∷ ws) m h =
    by_test (move_fits n w)
    (λ t. rw t (made-halts x i m (move (actor w) (target w) m.tree) _ (omega arith) (λ l. run-halts x n (suc i) ws l (omega arith))))
    (λ t. rw t (let l : i ≤ x = omega arith in l))

-- ---- the answer

-- a refusal's place is at most x
abbrev pub PlaceWithin : ℕ → Verdict → Type 0
PlaceWithin x (accepted a) = Unit {0}
PlaceWithin x (refused q i) = i ≤ x

pub record Small (a : Answer) : Type 0 where
  pub place : PlaceWithin 4096 a.verdict
  pub moves : a.moves ≤ 4096
  pub weight : a.weight ≤ 64

refusal-small : (q i m v : ℕ) (b : List ℕ) → i ≤ 4096 → m ≤ 4096 → Small (refusal q i m v b)
unfolding refusal
refusal-small q i m v b h k = record { place = h; moves = k; weight = omega arith }

module _ (c : Call) where
  starting-within : Within 1024 (starting c)
  unfolding starting
  starting-within = bind-within 1024 (read_script c.script) _ (script-within c.script) (λ p e. tt)

  -- a start weighs at most the script's parts, of which there are at most 64
  pub start-parts : (s : Start) → starting c ≡ got s → parts s.read.0 ≤ 64
  start-parts = start-all c (λ s. parts s.read.0 ≤ 64) (λ p e. let T = script-tabled c.script p e in omega (arith, T.few, T.counted))

  pub standing-weight : (s : Standing c) → weight_of s.machine ≤ parts s.start.read.0
  standing-weight s =
      start-all c (λ t. run (parts_of t) 0 c.moves t.machine ≡ completed s.machine → weight_of s.machine ≤ parts t.read.0)
      (λ p e x. run-weighed p.1.number c.moves p.0 s.machine x) s.start s.starts s.moves-made

  few : (s : Standing c) → length c.moves ≤ 4096
  few s = let l = door-few c s.start s.rule s.enters in omega (arith, l)

  stops : (s : Standing c) → Stops 256 (walk_of c s)
  stops s = whole-stops (plain_space (parts_of s.start + s.rule.1.number)) (setting c s.start) (parts_of s.start) c.rule s.rule (door-inv c s.start s.rule s.enters).0 s.machine.tree

  -- THEOREM: whatever a call is lent, its answer is small.
  pub answer-small : Small (answer c)
  answer-small = answer-ends c Small (record {
    unread = λ q i e. let h : i ≤ 1024 = subst (Within 1024) e starting-within in refusal-small q i 0 0 c.buffer (omega arith) (omega arith);
    shut = λ s e q i d. let h : i ≤ 256 = subst (Within 256) d (door-within c s) in refusal-small q i 0 0 c.buffer (omega arith) (omega arith);
    stuck = λ s e r d q i x.
        let l = door-few c s r d in
        let h : i ≤ 4096 = subst (Halts 4096) x (run-halts 4096 (parts_of s) 0 c.moves s.machine (omega (arith, l))) in refusal-small q i i 0 c.buffer h h;
    tired = λ s q i v e. let h : i ≤ 256 = subst (Stops 256) e (stops s) in refusal-small q i (length c.moves) v c.buffer (omega arith) (few s);
    unfit = λ s a n e l. refusal-small 19 0 (length c.moves) n.visits c.buffer (omega arith) (few s);
    done = λ s a n e l. record { place = tt; moves = few s; weight = omega (arith, standing-weight s, start-parts s.start s.starts) };
  })

  -- THEOREM: the weight that is answered is at most the script's parts.
  pub weight-bounded : WeightBounded c.script (answer c).weight
  unfolding WeightBounded refusal
  weight-bounded p e =
      let none : 0 ≤ parts p.0 = omega arith in
      answer-ends c (λ a. a.weight ≤ parts p.0) (record {
        unread = λ q i d. none;
        shut = λ s d q i h. none;
        stuck = λ s d r h q i x. none;
        tired = λ s q i v d. none;
        unfit = λ s a n d l. none;
        done = λ s a n d l. subst (λ (t : Start). weight_of s.machine ≤ parts t.read.0) (got-inj (sym s.starts ∙ starting-got c p e)) (standing-weight s);
      })

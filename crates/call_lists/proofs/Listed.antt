-- The engine's run of a list of moves, turn by turn. Assumes nothing.
use Prim.Native.Nat.{ℕ, suc, ◌+◌, ◌≤◌, ◌<◌}
use mathlib.Core.Bool.{Bool, true, false, true≢false, and-eq-true_iff}
use mathlib.Core.List.{List, [], ◌∷◌, ◌++◌, append-nil, append_assoc}
use mathlib.Core.Option.{Option, none, some}
use mathlib.Core.Path.{◌≡◌, refl, sym, ap, ◌∙◌, subst, transport}
use native.Mathlib.Omega.{arith}
use lib.Dec.{ltb, eqb}
use lib.ListN.{get_or, take, drop, length, take-append-drop, drop_of_length-le}
use lib.Seq.{drop-cons, take-suc}
use borrow.Author.Tests.{ltb-true}
use Rattle.read_messages.specs.Words.{kind, operand}
use Rattle.theory_closures.specs.Closure.{Closure, Bindings, closure_move, ClosureMachine}
use Rattle.engine_states.specs.Represents.{bound_in, Represents}
use Rattle.engine_states.specs.declared.State.{State}
use Rattle.engine_state_arrays.specs.Lent.{kinds_in, starts_in, own_state, LentReady}
use Rattle.engine_targets.specs.Targets.{is_some}
use Rattle.engine_targets.specs.Makes.{Makes, MakesOrLeaves}
use Rattle.theory_call.specs.Call.{actor, target, move_fits}
use Rattle.theory_call.specs.ClosureCall.{halted, completed, after_move, if_made, closure_run}
use Rattle.std.specs.Prelude.{Ok, Err}
use Rattle.call_lists.specs.Running.{Ended, ended_of, Left, Runs, ListRan}

-- stopped by that question at that place
abbrev pub stopped : (question place : ℕ) → Ended
stopped q i = Err (record { question = q; place = i })

-- the word at an index, and those behind it
drop-word : (l : List ℕ) (i : ℕ) → i < length l → drop i l ≡ get_or l i 0 ∷ drop (i + 1) l
drop-word l i m = drop-cons l i 0 m ∙ ap (λ (j : ℕ). get_or l i 0 ∷ drop j l) (let e : suc i ≡ i + 1 = omega arith in e)

take_next : (l : List ℕ) (i : ℕ) (ws : List ℕ) → i < length l → take (suc i) l ++ ws ≡ take i l ++ (get_or l i 0 ∷ ws)
take_next l i ws m = ap (λ (k : List ℕ). k ++ ws) (take-suc l i 0 m) ∙ append_assoc (take i l) (get_or l i 0 ∷ []) ws

no-some : {A : Type 0} (x : Option A) → is_some x ≡ false → x ≡ none
unfolding is_some
no-some none e = refl
no-some (some a) e = absurd (true≢false e)

module _ (script kinds starts : List ℕ) (n : ℕ) (moves : List ℕ) (s : State) where
  -- the machine that s represents
  abbrev from : Closure → ClosureMachine
  from b = record { tree = b; bindings = bound_in script s }

  -- a machine that the state r represents after i moves, and which goes on as the first one
  pub record Reached (weight spent : ℕ) (b : Closure) (i : ℕ) (r : State) : Type 0 where
    pub machine : ClosureMachine
    pub goes : (ws : List ℕ) → closure_run n 0 (take i moves ++ ws) (from b) ≡ closure_run n i ws machine
    pub stands : Represents script kinds starts weight (spent + i) r machine.tree
    pub bound : bound_in script r ≡ machine.bindings

  -- i moves are made
  abbrev pub Going : (i : ℕ) → State → Type 0
  Going i r = (weight spent : ℕ) (b : Closure) → spent + length moves < 4294967295 → Represents script kinds starts weight spent s b → Reached weight spent b i r

  going-none : Going 0 s
  going-none weight spent b few R = record {
    machine = from b;
    goes = λ ws. refl;
    stands = let e : spent ≡ spent + 0 = omega arith in subst (λ (k : ℕ). Represents script kinds starts weight k s b) e R;
    bound = refl;
  }

  module _ (i : ℕ) (r : State) (G : Going i r) where
    -- the list, and its first i moves, by the machine that is reached
    whole : (weight spent : ℕ) (b : Closure) (q : Reached weight spent b i r) → closure_run n 0 moves (from b) ≡ closure_run n i (drop i moves) q.machine
    whole weight spent b q = ap (λ (ws : List ℕ). closure_run n 0 ws (from b)) (sym (take-append-drop i moves)) ∙ q.goes (drop i moves)

    left : (weight spent : ℕ) (b : Closure) → Reached weight spent b i r → Left script kinds starts r weight (spent + i) (closure_run n 0 (take i moves) (from b))
    unfolding closure_run
    left weight spent b q =
        let e : closure_run n 0 (take i moves) (from b) ≡ completed q.machine = ap (λ (ws : List ℕ). closure_run n 0 ws (from b)) (sym (append-nil (take i moves))) ∙ q.goes [] in
        subst (Left script kinds starts r weight (spent + i)) (sym e) (q.stands, q.bound)

    -- the list is made
    going-ends : length moves ≤ i → i ≤ length moves → Runs script kinds starts n moves s (Ok tt) r
    unfolding closure_run ended_of
    going-ends m l weight spent b few R =
        let q = G weight spent b few R in
        let e : closure_run n 0 moves (from b) ≡ completed q.machine = whole weight spent b q ∙ ap (λ (ws : List ℕ). closure_run n i ws q.machine) (drop_of_length-le moves m) in
        let d : i ≡ length moves = omega arith in
        (sym (ap ended_of e), subst (λ (k : ℕ). Left script kinds starts r weight (spent + k) (closure_run n 0 (take k moves) (from b))) d (left weight spent b q))

    module _ (m : i < length moves) where
      abbrev w : ℕ
      w = get_or moves i 0

      abbrev behind : List ℕ
      behind = drop (i + 1) moves

      -- the rest of the run, from the word at i on
      on : (M : ClosureMachine) → closure_run n i (drop i moves) M ≡ closure_run n i (w ∷ behind) M
      on M = ap (λ (ws : List ℕ). closure_run n i ws M) (drop-word moves i m)

      -- question 15
      going-unfit : move_fits n w ≡ false → Runs script kinds starts n moves s (stopped 15 i) r
      unfolding closure_run ended_of
      going-unfit e weight spent b few R =
          let q = G weight spent b few R in
          let d : closure_run n i (w ∷ behind) q.machine ≡ halted 15 i = rw e in
          (sym (ap ended_of (whole weight spent b q ∙ on q.machine ∙ d)), left weight spent b q)

      module _ (fits : move_fits n w ≡ true) (t : State) (made : Bool) (T : MakesOrLeaves script kinds starts r t made (actor w) (target w)) where
        -- what was tried, of the machine that is reached
        tried : (weight spent : ℕ) (b : Closure) → spent + length moves < 4294967295 → (q : Reached weight spent b i r)
            → (made ≡ is_some (closure_move q.machine.bindings (actor w) (target w) q.machine.tree)) × (made ≡ true → Makes script kinds starts r t weight (spent + i + 1) (actor w) (target w) q.machine.tree)
        tried weight spent b few q =
            let x = T.1 weight (spent + i) q.machine.tree (omega arith) q.stands in
            (x.0 ∙ ap (λ (σ : Bindings). is_some (closure_move σ (actor w) (target w) q.machine.tree)) q.bound, x.1)

        -- question 16
        going-stuck : made ≡ false → Runs script kinds starts n moves s (stopped 16 i) t
        unfolding closure_run if_made ended_of
        going-stuck e weight spent b few R =
            let q = G weight spent b few R in
            let x = no-some (closure_move q.machine.bindings (actor w) (target w) q.machine.tree) (sym (tried weight spent b few q).0 ∙ e) in
            let d : closure_run n i (w ∷ behind) q.machine ≡ halted 16 i = rw (fits, x) in (
              sym (ap ended_of (whole weight spent b q ∙ on q.machine ∙ d)),
              subst (λ (k : State). Left script kinds starts k weight (spent + i) (closure_run n 0 (take i moves) (from b))) (sym (T.0 e)) (left weight spent b q),
            )

        -- one move more
        going_on : made ≡ true → Going (i + 1) t
        unfolding closure_run if_made
        going_on e weight spent b few R =
            let q = G weight spent b few R in
            let (v, is, stands, bound) = (tried weight spent b few q).1 e in
            let is₁ : closure_move q.machine.bindings (actor w) (target w) q.machine.tree ≡ some v = ap (λ (σ : Bindings). closure_move σ (actor w) (target w) q.machine.tree) (sym q.bound) ∙ is in
            let d : (ws : List ℕ) → closure_run n i (w ∷ ws) q.machine ≡ closure_run n (suc i) ws (after_move q.machine v) = λ ws. rw (fits, is₁) in
            let one : suc i ≡ i + 1 = omega arith in
            let deep : spent + i + 1 ≡ spent + (i + 1) = omega arith in
            record {
              machine = after_move q.machine v;
              goes = subst (λ (j : ℕ). (ws : List ℕ) → closure_run n 0 (take j moves ++ ws) (from b) ≡ closure_run n j ws (after_move q.machine v)) one
                  (λ ws. ap (λ (l : List ℕ). closure_run n 0 l (from b)) (take_next moves i ws m) ∙ q.goes (w ∷ ws) ∙ d ws);
              stands = subst (λ (k : ℕ). Represents script kinds starts weight k t v.body) deep stands;
              bound = bound ∙ ap (λ (σ : Bindings). v.news ++ σ) q.bound;
            }

-- ---- the turns of the loop, on arrays that are lent

-- i moves are made, and the arrays hold the state behind them
pub record Turn (script sets₀ numbers₀ moves : List ℕ) (n i : ℕ) (sets numbers : List ℕ) : Type 0 where
  pub within : i ≤ length moves
  pub lends : LentReady script sets numbers
  pub same-kinds : kinds_in numbers ≡ kinds_in numbers₀
  pub same-starts : starts_in numbers ≡ starts_in numbers₀
  pub going : Going script (kinds_in numbers₀) (starts_in numbers₀) n moves (own_state sets₀ numbers₀) i (own_state sets numbers)

module _ (script sets₀ numbers₀ moves : List ℕ) (n : ℕ) where
  pub turn-none : LentReady script sets₀ numbers₀ → Turn script sets₀ numbers₀ moves n 0 sets₀ numbers₀
  turn-none l = record { within = omega arith; lends = l; same-kinds = refl; same-starts = refl; going = going-none script (kinds_in numbers₀) (starts_in numbers₀) n moves (own_state sets₀ numbers₀) }

  module _ (i : ℕ) (sets numbers : List ℕ) (T : Turn script sets₀ numbers₀ moves n i sets numbers) where
    -- the list ends with this turn, which has changed nothing
    ended : (e : Ended) → Runs script (kinds_in numbers₀) (starts_in numbers₀) n moves (own_state sets₀ numbers₀) e (own_state sets numbers) → ListRan script sets₀ numbers₀ moves n sets numbers e
    ended e r = record { lends = T.lends; same-kinds = T.same-kinds; same-starts = T.same-starts; runs = r }

    pub turn-ends : length moves ≤ i → ListRan script sets₀ numbers₀ moves n sets numbers (Ok tt)
    turn-ends m = ended (Ok tt) (going-ends _ _ _ _ _ _ _ _ T.going m T.within)

    module _ (m : i < length moves) (f : Bool) (asked : f ≡ move_fits n (get_or moves i 0)) where
      pub turn-unfit : f ≡ false → ListRan script sets₀ numbers₀ moves n sets numbers (stopped 15 i)
      turn-unfit e = ended (stopped 15 i) (going-unfit _ _ _ _ _ _ _ _ T.going m (sym asked ∙ e))

      module _ (fits : f ≡ true) (a b : ℕ) (ea : a ≡ actor (get_or moves i 0)) (eb : b ≡ target (get_or moves i 0)) (sets₁ numbers₁ : List ℕ) (L : LentReady script sets₁ numbers₁)
          (ek : kinds_in numbers₁ ≡ kinds_in numbers) (es : starts_in numbers₁ ≡ starts_in numbers) (made : Bool)
          (X : MakesOrLeaves script (kinds_in numbers) (starts_in numbers) (own_state sets numbers) (own_state sets₁ numbers₁) made a b) where
        -- by the move word, and by the part table that the list began with
        tried-so : MakesOrLeaves script (kinds_in numbers₀) (starts_in numbers₀) (own_state sets numbers) (own_state sets₁ numbers₁) made (actor (get_or moves i 0)) (target (get_or moves i 0))
        tried-so = transport (λ q. MakesOrLeaves script (T.same-kinds q) (T.same-starts q) (own_state sets numbers) (own_state sets₁ numbers₁) made (ea q) (eb q)) X

        pub turn-stuck : made ≡ false → ListRan script sets₀ numbers₀ moves n sets₁ numbers₁ (stopped 16 i)
        turn-stuck e = record { lends = L; same-kinds = ek ∙ T.same-kinds; same-starts = es ∙ T.same-starts; runs = going-stuck _ _ _ _ _ _ _ _ T.going m (sym asked ∙ fits) _ made tried-so e }

        pub turn_on : made ≡ true → Turn script sets₀ numbers₀ moves n (i + 1) sets₁ numbers₁
        turn_on e = record { within = omega arith; lends = L; same-kinds = ek ∙ T.same-kinds; same-starts = es ∙ T.same-starts; going = going_on _ _ _ _ _ _ _ _ T.going m (sym asked ∙ fits) _ made tried-so e }

-- a word that fits names parts of the script, of which there are at most 64
module _ (n w a : ℕ) (f : Bool) (few : n ≤ 64) (asked : f ≡ move_fits n w) (e : f ≡ true) where
  fitting : (actor w < n) × (target w < n)
  unfolding move_fits
  fitting =
      let x = (and-eq-true_iff (ltb (actor w) n) (ltb (target w) n)).0 ((and-eq-true_iff (ltb (operand w) 65536) _).0 ((and-eq-true_iff (eqb (kind w) 1) _).0 (sym asked ∙ e)).1).1 in
      (ltb-true (actor w) n x.0, ltb-true (target w) n x.1)

  pub actor-small : a ≡ actor w → a < 64
  actor-small d = omega (arith, fitting.0)

  pub target_small : a ≡ target w → a < 64
  target_small d = omega (arith, fitting.1)

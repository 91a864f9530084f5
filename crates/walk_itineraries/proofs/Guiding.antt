-- What a visit at SOMETIME answers, by how it begins and by its moves, and where they lead. Assumes nothing.
use Prim.Native.Nat.{ℕ, suc, ◌+◌, ◌-◌, ◌^◌, ◌≤◌, ◌<◌, max}
use mathlib.Core.List.{List, ◌∷◌}
use mathlib.Core.Path.{◌≡◌, refl, sym, ap, ap₂, ◌∙◌, subst}
use native.Mathlib.Omega.{arith}
use lib.ListN.{get_or, set, length}
use Rattle.base_sets.specs.Sets.{members, head_or}
use Rattle.read_messages.specs.Words.{kind}
use Rattle.read_scripts.specs.Represents.{body_in}
use Rattle.read_rule_words.specs.Rule.{Rule, sometime, Later}
use Rattle.read_rules.specs.Ruled.{Ruled}
use Rattle.theory_closures.specs.Closure.{Bindings}
use Rattle.engine_states.specs.Searches.{Located}
use Rattle.engine_states.specs.Represents.{bound_in}
use Rattle.engine_states.specs.declared.State.{State}
use Rattle.engine_targets.specs.Targets.{TargetsOf}
use Rattle.engine_targets.specs.Makes.{Moves}
use Rattle.base_arrays.specs.Stretches.{stretch_or, stretch}
use Rattle.engine_state_arrays.specs.Lent.{kinds_in, starts_in, state_in}
use Rattle.theory_decision.specs.Walk.{Count, on_no, look}
use Rattle.theory_decision.specs.Walk as spec
use Rattle.theory_call.specs.ClosureCall.{closure_run}
use Rattle.walk_stages.specs.Visits.{count_of, walked_of, indices, Lendable, Scene, here, visits, Visits}
use Rattle.walk_stages.specs.declared.Counts.{Counts}
use Rattle.walk_stages.specs.declared.Limits.{Limits}
use Rattle.walk_stages.specs.declared.Walked.{Walked}
use Rattle.walk_stages.specs.declared.Walked.TheVariants.{Yes, No, Stopped}
use Rattle.walk_stages.proofs.Loops.{NotNo, no-goes, no-stops}
use Rattle.walk_stages.proofs.Targeted.{move-low}
use Rattle.walk_stages.proofs.Scenes.{scene-told, scene-deeper, scene-moved}
use Rattle.walk_stages.proofs.Members.{walk_more}
use Rattle.walk_stages.proofs.Turns.{first-told, Trying, trying-ends, turn_moved, turn-stops}
use Rattle.walk_itineraries.specs.Leading.{move_word, LeadsTo, Sometimes, moves_tried, visited, Begins, Leads}
use Rattle.walk_itineraries.proofs.Moving.{stretch-before, leads-before}

-- ---- answers are of one kind

stopped-yes : (q p v : ℕ) (n : Counts) → Stopped q p v ≡ Yes n → ⊥
stopped-yes q p v n e = let z : ◌≡◌ {A = ℕ} 0 1 = cc in omega arith

stopped-no : (q p v : ℕ) (n : Counts) → Stopped q p v ≡ No n → ⊥
stopped-no q p v n e = let z : ◌≡◌ {A = ℕ} 0 1 = cc in omega arith

no-yes : (c n : Counts) → No c ≡ Yes n → ⊥
no-yes c n e = let z : ◌≡◌ {A = ℕ} 0 1 = cc in omega arith

stopped-stays : (q p v : ℕ) (k : Count → spec.Walked) → walked_of (Stopped q p v) ≡ on_no (walked_of (Stopped q p v)) k
unfolding on_no walked_of
stopped-stays q p v k = refl

-- what the visit answers, as the laws of the walk's moves ask it
pub leads-there : {program script sets numbers choices : List ℕ} {top somes left index : ℕ} {limits : Limits} {c : Counts} {r : Walked} {count : ℕ} {list : List ℕ}
    → Leads program script sets numbers choices top somes left index limits c r count list → (Y : Scene program script sets numbers choices top somes left index limits) (q : Rule) → Y.rule ≡ sometime index q
    → walked_of r ≡ visits limits left Y.names (sometime index q) (here script sets numbers top Y.tree) (count_of c)
leads-there L Y q e = L.answers q (record { scene = Y; is = e })

module _ (program script sets numbers choices : List ℕ) (top somes left index : ℕ) (limits : Limits) (c : Counts) where
  abbrev Here : Rule → Type 0
  Here q = Sometimes program script sets numbers choices top somes left index limits q

  abbrev Begun : Walked → Type 0
  Begun r = Begins program script sets numbers choices top somes left index limits c r

  abbrev Led : Walked → ℕ → List ℕ → Type 0
  Led r count list = Leads program script sets numbers choices top somes left index limits c r count list

  abbrev tried : (q : Rule) → Here q → Count → spec.Walked
  tried q X = moves_tried program script sets numbers choices top somes left index limits q X

  abbrev state : State
  state = state_in sets numbers top

  abbrev σ : Bindings
  σ = bound_in script state

  -- the scene with as many depths left, as the laws of the moves say it
  abbrev deeper : (q : Rule) → 0 < left → Here q → Scene program script sets numbers choices top somes (suc (left - 1)) index limits
  deeper q z X = scene-deeper program script sets numbers choices top somes left index limits (suc (left - 1)) (omega arith) X.scene

  -- ---- how it begins

  -- a visit that stops
  pub begins-stopped : (q p v : ℕ) → Visits program script sets numbers choices top somes left index limits c (Stopped q p v) → Begun (Stopped q p v)
  begins-stopped q p v said = record {
    goes = λ r X.
        sym (said X.scene ∙ ap (λ (y : Rule). visits limits left X.scene.names y (here script sets numbers top X.scene.tree) (count_of c)) X.is)
        ∙ stopped-stays q p v (tried r X);
    meets = λ r X n e. absurd (stopped-yes q p v n e);
    depths = λ n e. absurd (stopped-no q p v n e);
  }

  -- the visit of the inner rule
  module _ (z : left ≡ 0 → ⊥) (l : left ≤ 256) (v : c.visits < limits.patience) (n : Counts) (a : n.visits ≡ c.visits + 1) (b : n.deepest ≡ max (257 - left) c.deepest) (r : Walked)
      (said : Visits program script sets numbers choices top somes (left - 1) (index + 1) limits n r) where
    some_left : 0 < left
    some_left = omega arith

    inner-told : (q : Rule) (X : Here q) → walked_of r ≡ visits limits (left - 1) X.scene.names q (here script sets numbers top X.scene.tree) (count_of n)
    inner-told q X =
        let R = subst (Ruled X.scene.words X.scene.table (indices X.scene.names)) X.is X.scene.stage.ruled in
        first-told program script sets numbers choices top somes (left - 1) index limits n r said (deeper q some_left X) q R.2 R.1 (subst (Later X.scene.from) X.is X.scene.stage.later)

    pub begins-inner : Begun r
    unfolding look walked_of
    begins-inner = record {
      goes = λ q X.
          walk_more limits X.scene.names (sometime index q) (here script sets numbers top X.scene.tree) left c n z l v a b
          ∙ ap (λ (y : spec.Walked). on_no y (tried q X)) (sym (inner-told q X));
      meets = λ q X m e. (count_of n, sym (inner-told q X) ∙ ap walked_of e);
      depths = λ m e. some_left;
    }

  -- ---- where it leads

  -- no move is made
  pub leads-first : (r : Walked) (list : List ℕ) → Begun r → NotNo r → Led r 0 list
  unfolding stretch_or closure_run
  leads-first r list B h = record {
    answers = λ q X. no-stops r (walked_of r) refl (tried q X) h ∙ sym (B.goes q X);
    few = omega arith;
    moves = λ q X f n e.
        let (k, m) = B.meets q X n e in
        record { end = here script sets numbers top X.scene.tree; made = λ i. refl; left = left - 1; first = k; last = count_of n; meets = m };
  }

  -- the moves are tried
  module _ (begun : Walked) (B : Begun begun) (d : Counts) (eb : begun ≡ No d) where
    abbrev Trial : (targets : List ℕ) (now : Counts) (from rest : ℕ) → Type 0
    Trial targets now from rest = Trying program script sets numbers choices top somes (left - 1) index limits targets d now from rest

    depth-left : 0 < left
    depth-left = B.depths d eb

    tried-told : (q : Rule) (X : Here q) → visited program script sets numbers choices top somes left index limits c q X ≡ tried q X (count_of d)
    tried-told q X = B.goes q X ∙ no-goes begun (walked_of begun) refl (tried q X) d eb

    -- none leads to a yes
    pub leads-none : (targets : List ℕ) (now : Counts) (from rest : ℕ) → Trial targets now from rest → rest ≡ 0 → (list : List ℕ) → Led (No now) 0 list
    leads-none targets now from rest N z list = record {
      answers = λ q X. trying-ends program script sets numbers choices top somes (left - 1) index limits targets d now from rest N z (deeper q depth-left X) q X.is ∙ sym (tried-told q X);
      few = omega arith;
      moves = λ q X f n e. absurd (no-yes now n e);
    }

    -- one of them does, or a visit behind it stops
    module _ (homes targets : List ℕ) (P : Located (members (get_or sets 129 0)) (body_in state.kids) (λ i. get_or homes i 0))
        (T : (a : ℕ) → a < limits.limit → TargetsOf (body_in state.kids) (get_or state.notes.acts a 0) (members (get_or state.notes.aims a 0)) (λ i. get_or homes i 0) a (members (get_or targets a 0)))
        (now : Counts) (from rest t : ℕ) (N : Trial targets now from rest) (small : rest < 2 ^ 64) (some-turns : rest ≡ 0 → ⊥) (et : t ≡ head_or 64 (members rest))
        (sets' numbers' : List ℕ) (top' : ℕ) (L : Lendable script sets' numbers' top') (ek : kinds_in numbers' ≡ kinds_in numbers) (es : starts_in numbers' ≡ starts_in numbers)
        (M : Moves script (kinds_in numbers) (starts_in numbers) state (state_in sets' numbers' top') (λ i. get_or homes i 0) (from - 1) t)
        (x : Walked) (count : ℕ) (list : List ℕ) (Z : Leads program script sets' numbers' choices top' somes (left - 1) index limits now x count list) where
      -- the words from the visit's own index on
      words-on : (w : ℕ) → left ≤ 256 → length list ≡ 256 → stretch (256 - left) (count + 1) (set list (256 - left) w) ≡ w ∷ stretch (256 - (left - 1)) count list
      words-on w l long =
          let e : count + 1 ≡ suc count = omega arith in
          let f : suc (256 - left) ≡ 256 - (left - 1) = omega (arith, depth-left) in
          ap (λ (k : ℕ). stretch (256 - left) k (set list (256 - left) w)) e
          ∙ stretch-before (256 - left) count w list (omega (arith, depth-left))
          ∙ ap (λ (k : ℕ). w ∷ stretch k count list) f

      -- where the move leads
      moved : (q : Rule) (X : Here q) → X.scene.from ≡ 0 → (n : Counts) → x ≡ Yes n
          → LeadsTo limits X.scene.names q (here script sets numbers top X.scene.tree) (move_word (from - 1) t ∷ stretch (256 - (left - 1)) count list)
      moved q X f n e =
          let Y = deeper q depth-left X in
          let (m, em, R, bound) = turn_moved program script sets numbers choices top somes (left - 1) index limits homes targets P T d now from rest t N small some-turns et sets' numbers' top' L ek es M Y q X.is in
          let S = scene-moved program script sets numbers choices top somes (left - 1) index limits Y sets' numbers' top' L ek es (from - 1) t m em R in
          let D = Z.moves q (record { scene = S; is = X.is }) f n e in
          let low = move-low σ limits.parts (from - 1) t X.scene.tree m (λ i h. X.scene.stage.below i (omega (arith, f))) em in
          leads-before limits X.scene.names q (here script sets numbers top X.scene.tree) (from - 1) t m (stretch (256 - (left - 1)) count list) em low.0 low.1 (omega (arith, X.scene.stage.within, X.scene.stage.few))
          (subst (λ (τ : Bindings). LeadsTo limits X.scene.names q (record { tree = m.body; bindings = τ }) (stretch (256 - (left - 1)) count list)) bound D)

      -- with the move's word in the list before those that lead on from it
      pub leads-move : NotNo x → left ≤ 256 → length list ≡ 256 → (k : ℕ) (list' : List ℕ) → list' ≡ set list (256 - left) (move_word (from - 1) t) → k ≡ count + 1 → Led x k list'
      leads-move h l long k list' el em = record {
        answers = λ q X.
            turn-stops program script sets numbers choices top somes (left - 1) index limits homes targets P T d now from rest t N small some-turns et sets' numbers' top' L ek es M x (leads-there Z) h (deeper q depth-left X) q X.is
            ∙ sym (tried-told q X);
        few = omega (arith, Z.few, depth-left);
        moves = λ q X f n e.
            let w = move_word (from - 1) t in
            let ws : stretch (256 - left) k list' ≡ w ∷ stretch (256 - (left - 1)) count list =
            ap₂ (λ (m : ℕ) (y : List ℕ). stretch (256 - left) m y) em el ∙ words-on w l long in
            subst (LeadsTo limits X.scene.names q (here script sets numbers top X.scene.tree)) (sym ws) (moved q X f n e);
      }

  -- where the word is SOMETIME, it is what any visit there answers
  pub leads-visits : (r : Walked) (count : ℕ) (list : List ℕ) → kind (get_or program index 0) ≡ 7 → Led r count list → Visits program script sets numbers choices top somes left index limits c r
  leads-visits r count list e G X =
      let (q, eq, ei, R) = scene-told program script sets numbers choices top somes left index limits X 7 e in
      G.answers q (record { scene = X; is = eq }) ∙ ap (λ (y : Rule). visits limits left X.names y (here script sets numbers top X.tree) (count_of c)) (sym eq)

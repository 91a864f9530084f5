-- The loops of the walk's members, turn by turn: what is left of a loop answers what the whole of it does. For each loop it
-- holds at the start, again after a turn that says no, and tells the answer where a turn ends it or none is left.
-- Assumes nothing.
use Prim.Native.Nat.{ℕ, suc, ◌+◌, ◌-◌, ◌^◌, ◌≤◌, ◌<◌}
use mathlib.Core.List.{List, [], ◌∷◌, map, tail}
use mathlib.Core.Option.{some}
use mathlib.Core.Path.{◌≡◌, refl, sym, ap, ◌∙◌, subst}
use native.Mathlib.Omega.{arith}
use lib.ListN.{get_or, length}
use lib.Pow.{pow_pos}
use Rattle.read_messages.specs.Words.{kind}
use Rattle.base_sets.specs.Sets.{members, elem, head_or, in_both, numbers_from}
use Rattle.base_shares.specs.Shares.{picked}
use Rattle.base_sets.proofs.Members.{members_step}
use Rattle.base_shares.proofs.Divisions.{share-first}
use Rattle.read_scripts.specs.Tree.{tops, times_in}
use Rattle.read_scripts.specs.Represents.{body_in}
use Rattle.read_rule_words.specs.Rule.{Names, Rule, beside, some-name, sometime, somewhere, rule_index, Later}
use Rattle.read_rules.specs.Ruled.{Ruled}
use Rattle.read_rules.proofs.Inversion.{Told}
use Rattle.theory_closures.specs.Closure.{Closure, ClosureHead, ClosureMachine, Bindings, closure_move}
use Rattle.engine_states.specs.Searches.{home, Located}
use Rattle.engine_states.specs.Represents.{heads, bound_in}
use Rattle.engine_states.specs.declared.State.{State}
use Rattle.engine_targets.specs.Targets.{is_some, TargetsOf}
use Rattle.engine_targets.specs.Makes.{Makes, Moves}
use Rattle.engine_targets.proofs.Aiming.{state-homes, state-targets}
use Rattle.base_arrays.specs.Stretches.{stretch}
use Rattle.engine_state_arrays.specs.Lent.{kinds_in, starts_in, state_in}
use Rattle.base_arrays.proofs.Copying.{length-stretch, get_or-stretch}
use Rattle.theory_decision.specs.Divisions.{divisions}
use Rattle.theory_decision.specs.Walk.{Count, on_yes, first_yes, look, last_name}
use Rattle.theory_decision.specs.Walk as spec
use Rattle.theory_decision.specs.ClosureWalk.{closure_space, shares, insides, nexts}
use Rattle.theory_decision.specs.ClosureWalk as over
use Rattle.walk_stages.specs.Order.{pairs_left, pairs_behind, Turns}
use Rattle.walk_stages.specs.Visits.{count_of, walked_of, setting_of, indices, Lendable, Scene, here, visits, Visits, Looks, Splits}
use Rattle.walk_stages.specs.declared.Counts.{Counts}
use Rattle.walk_stages.specs.declared.Limits.{Limits}
use Rattle.walk_stages.specs.declared.Walked.{Walked}
use Rattle.walk_stages.specs.declared.Walked.TheVariants.{No}
use Rattle.walk_stages.proofs.Loops.{NotNo, no-goes, no-stops, first-none, first_goes, first_stops, first-last, span-first, span_none}
use Rattle.walk_stages.proofs.Focused.{top-told, lent-told}
use Rattle.walk_stages.proofs.Divided.{Shared, shared_last, shared-next, remaining, remaining-all, remaining-first, remaining-none}
use Rattle.walk_stages.proofs.Rooms.{Rooms, rooms-first, rooms-none, rooms-told}
use Rattle.walk_stages.proofs.Targeted.{after, after-made, after_is}
use Rattle.walk_stages.proofs.Trials.{turns-first, turns-fewer, Tried, tried-holds, tried-makes, tried-again, tried-stops, tried-ends, nexts-made}
use Rattle.walk_stages.proofs.Scenes.{scene-told, scene-piece, scene-inner, scene-chosen, scene-moved, Inside}

-- a loop over the members of a set: those behind its first are fewer
pub rest-shorter : (m i others : ℕ) → m < 2 ^ 64 → (m ≡ 0 → ⊥) → i ≡ head_or 64 (members m) → members others ≡ tail (members m) → length (members others) < length (members m)
rest-shorter m i others small some_left first rest =
    let e : length (members m) ≡ suc (length (members others)) = ap length (members_step m i others small some_left first rest) in
    omega (arith, e)

module _ (program script sets numbers choices : List ℕ) (top somes left index : ℕ) (limits : Limits) where
  abbrev Here : Type 0
  Here = Scene program script sets numbers choices top somes (suc left) index limits

  abbrev state : State
  state = state_in sets numbers top

  abbrev σ : Bindings
  σ = bound_in script state

  abbrev k : ℕ → List ℕ
  k = body_in state.kids

  abbrev w : ℕ → ClosureHead
  w = heads script (kinds_in numbers) (starts_in numbers) state.offsets

  told : (X : Here) (j : ℕ) → kind (get_or program index 0) ≡ j → Told X.words X.table (indices X.names) j index X.rule
  told X j e = scene-told program script sets numbers choices top somes (suc left) index limits X j e

  -- what the word asks, where the rule there is q
  abbrev asks : Here → Rule → Counts → spec.Walked
  asks X q c = look (closure_space limits.limit) (setting_of limits) (visits limits left) X.names q (here script sets numbers top X.tree) (count_of c)

  as-told : (X : Here) (q : Rule) (c : Counts) → X.rule ≡ q → asks X q c ≡ asks X X.rule c
  as-told X q c e = ap (λ (x : Rule). asks X x c) (sym e)

  few : (X : Here) → X.spent < 4294967295
  few X = omega (arith, X.stage.slack)

  tops-told : (X : Here) → members top ≡ tops X.tree
  tops-told X = top-told script (kinds_in numbers) (starts_in numbers) X.weight X.spent state X.tree (stretch 0 65 sets) top refl (length-stretch 0 65 sets) X.stage.represents

  -- the rule that is visited, as one inside itself
  itself : (X : Here) (q : Rule) → X.rule ≡ q → Inside program script sets numbers choices top somes left index limits X q index
  itself X q e = record {
    ruled = subst (Ruled X.words X.table (indices X.names)) e X.stage.ruled;
    stood = ap rule_index (sym e) ∙ X.stage.stood;
    later = subst (Later X.from) e X.stage.later;
  }

  -- ---- BESIDE, share by share

  abbrev halves : Here → (q p : Rule) → ClosureMachine × ClosureMachine → Count → spec.Walked
  halves X q p d n = on_yes (visits limits left X.names q d.0 n) (λ m. visits limits left X.names p d.1 m)

  pub record Dividing (c now : Counts) (share : ℕ) : Type 0 where
    pub shared : Shared top share
    pub same : (X : Here) (q p : Rule) → X.rule ≡ beside index q p
        → first_yes (halves X q p) (map (shares σ) (divisions X.tree)) (count_of c) ≡ first_yes (halves X q p) (map (shares σ) (remaining X.tree shared.rank)) (count_of now)

  pub dividing-holds : (c : Counts) → Dividing c c 0
  dividing-holds c = record {
    shared = record { rank = 0; below = pow_pos (length (members top)); is = share-first top };
    same = λ X q p e. ap (λ (l : List (Closure × Closure)). first_yes (halves X q p) (map (shares σ) l) (count_of c)) (sym (remaining-all X.tree));
  }

  module _ (c now : Counts) (share : ℕ) (D : Dividing c now share) (x : Walked) (Z : Splits program script sets numbers choices top somes left index limits now x share) where
    abbrev place-now : ℕ
    place-now = D.shared.rank

    -- the division by the share comes first
    turn : (X : Here) (q p : Rule) → X.rule ≡ beside index q p
        → (d : Closure × Closure) × (remaining X.tree place-now ≡ d ∷ remaining X.tree (suc place-now)) × (walked_of x ≡ halves X q p (shares σ d) (count_of now))
    turn X q p e =
        let (d, r, v) = remaining-first X.tree top share D.shared (tops-told X) k w X.stage.represents.held in
        (d, r, Z X q p d e v)

    pub dividing-again : (d : Counts) → x ≡ No d → top < 2 ^ 64 → share < 2 ^ 64 → (share ≡ top → ⊥) → (next : ℕ) → next < 2 ^ 64
        → ((j : ℕ) → suc j < 2 ^ length (members top) → members share ≡ picked (members top) j → members next ≡ picked (members top) (suc j)) → Dividing c d next × (share < next)
    dividing-again d ex ht hs n next hn promise =
        let (T, p, l) = shared-next top share next ht hs hn promise D.shared n in (
          record {
            shared = T;
            same = λ X q p₁ e.
                let (h, r, v) = turn X q p₁ e in
                D.same X q p₁ e
                ∙ ap (λ (y : List (Closure × Closure)). first_yes (halves X q p₁) (map (shares σ) y) (count_of now)) r
                ∙ first_goes (halves X q p₁) (shares σ h) (map (shares σ) (remaining X.tree (suc place-now))) (count_of now) x d v ex
                ∙ ap (λ (y : ℕ). first_yes (halves X q p₁) (map (shares σ) (remaining X.tree y)) (count_of d)) (sym p);
          },
          l,
        )

    pub dividing-stops : NotNo x → Looks program script sets numbers choices top somes left index limits c x 5
    unfolding look
    dividing-stops h X e =
        let (q, p, eq, ei, R, ej, S) = told X 5 e in
        let (d, r, v) = turn X q p eq in
        first_stops (halves X q p) (shares σ d) (map (shares σ) (remaining X.tree (suc place-now))) (count_of now) x v h
        ∙ sym (D.same X q p eq ∙ ap (λ (y : List (Closure × Closure)). first_yes (halves X q p) (map (shares σ) y) (count_of now)) r)
        ∙ as-told X (beside index q p) c eq

    pub dividing-ends : top < 2 ^ 64 → share < 2 ^ 64 → share ≡ top → Looks program script sets numbers choices top somes left index limits c x 5
    unfolding look
    dividing-ends ht hs es X e =
        let (q, p, eq, ei, R, ej, S) = told X 5 e in
        let (d, r, v) = turn X q p eq in
        let end : remaining X.tree (suc place-now) ≡ [] = remaining-none X.tree top share D.shared (tops-told X) (shared_last top share ht hs D.shared es) in
        v ∙ sym (first-last (halves X q p) (shares σ d) (count_of now))
        ∙ sym (D.same X q p eq ∙ ap (λ (y : List (Closure × Closure)). first_yes (halves X q p) (map (shares σ) y) (count_of now)) (r ∙ ap (λ (y : List (Closure × Closure)). d ∷ y) end))
        ∙ as-told X (beside index q p) c eq

  -- ---- SOME, name by name

  abbrev naming : Here → (q : Rule) → ℕ → Count → spec.Walked
  naming X q m n = visits limits left ((index, m) ∷ X.names) q (here script sets numbers top X.tree) n

  pub Naming : (c now : Counts) (n : ℕ) → Type 0
  Naming c now n = (X : Here) (q : Rule) → X.rule ≡ some-name index q
      → first_yes (naming X q) (numbers_from 1 (last_name (setting_of limits) X.names)) (count_of c) ≡ first_yes (naming X q) (numbers_from n (limits.greatest + somes + 2 - n)) (count_of now)

  pub naming-holds : (c : Counts) → Naming c c 1
  unfolding Naming
  naming-holds c X q e =
      let z : last_name (setting_of limits) X.names ≡ limits.greatest + somes + 2 - 1 = let h = X.stage.named.number in omega (arith, h) in
      ap (λ (y : ℕ). first_yes (naming X q) (numbers_from 1 y) (count_of c)) z

  module _ (c now : Counts) (n : ℕ) (N : Naming c now n) (low : n ≤ limits.greatest + somes + 1) (more : List ℕ) (en : get_or more index 0 ≡ n)
      (others : (i : ℕ) → (i ≡ index → ⊥) → get_or more i 0 ≡ get_or choices i 0) (x : Walked) (visited : Visits program script sets numbers more top (somes + 1) left (index + 1) limits now x) where
    turn-named : (X : Here) (q : Rule) → X.rule ≡ some-name index q → walked_of x ≡ naming X q n (count_of now)
    turn-named X q e =
        let R = subst (Ruled X.words X.table (indices X.names)) e X.stage.ruled in
        visited (scene-chosen program script sets numbers choices top somes left index limits X more n en others (omega arith) q (index + 1) R.2 R.1 (subst (Later X.from) e X.stage.later))

    step-named : numbers_from n (limits.greatest + somes + 2 - n) ≡ n ∷ numbers_from (n + 1) (limits.greatest + somes + 2 - (n + 1))
    step-named =
        let z : suc n ≡ n + 1 = omega arith in
        span-first n (limits.greatest + somes + 2) (omega arith) ∙ ap (λ (y : ℕ). n ∷ numbers_from y (limits.greatest + somes + 2 - y)) z

    pub naming-again : (d : Counts) → x ≡ No d → Naming c d (n + 1)
    unfolding Naming
    naming-again d ex X q e =
        N X q e ∙ ap (λ (l : List ℕ). first_yes (naming X q) l (count_of now)) step-named
        ∙ first_goes (naming X q) n (numbers_from (n + 1) (limits.greatest + somes + 2 - (n + 1))) (count_of now) x d (turn-named X q e) ex

    pub naming-stops : NotNo x → Looks program script sets numbers choices top somes left index limits c x 6
    unfolding look Naming
    naming-stops h X e =
        let (q, eq, ei, R, f) = told X 6 e in
        first_stops (naming X q) n (numbers_from (n + 1) (limits.greatest + somes + 2 - (n + 1))) (count_of now) x (turn-named X q eq) h
        ∙ sym (N X q eq ∙ ap (λ (l : List ℕ). first_yes (naming X q) l (count_of now)) step-named)
        ∙ as-told X (some-name index q) c eq

  pub naming-ends : (c now : Counts) (n : ℕ) → Naming c now n → limits.greatest + somes + 1 < n → Looks program script sets numbers choices top somes left index limits c (No now) 6
  unfolding look Naming
  naming-ends c now n N h X e =
      let (q, eq, ei, R, f) = told X 6 e in
      first-none (naming X q) now
      ∙ sym (N X q eq ∙ ap (λ (l : List ℕ). first_yes (naming X q) l (count_of now)) (span_none n (limits.greatest + somes + 2) (omega arith)))
      ∙ as-told X (some-name index q) c eq

  -- more SOMEs than the reader lets in
  pub naming-none : (c : Counts) (r : Walked) → 8 ≤ somes → Looks program script sets numbers choices top somes left index limits c r 6
  naming-none c r h X e =
      let (q, eq, ei, R, f) = told X 6 e in
      absurd (let z : ⊥ = omega (arith, f, names-long X.names, X.stage.named.number) in z)
    where
      names-long : (e : Names) → length (indices e) ≡ length e
      names-long [] = refl
      names-long (p ∷ e) = ap suc (names-long e)

  -- ---- SOMETIME and SOMEWHERE: the inner rule first

  module _ (c : Counts) (x : Walked) (visited : Visits program script sets numbers choices top somes left (index + 1) limits c x) where
    pub first-told : (X : Here) (q : Rule) → Ruled X.words X.table (indices X.names) q → rule_index q ≡ index + 1 → Later X.from q → walked_of x ≡ visits limits left X.names q (here script sets numbers top X.tree) (count_of c)
    first-told X q R e L = visited (scene-inner program script sets numbers choices top somes left index limits X q (index + 1) (record { ruled = R; stood = e; later = L }))

    pub somewhere-first : NotNo x → Looks program script sets numbers choices top somes left index limits c x 8
    unfolding look
    somewhere-first h X e =
        let (q, eq, ei, R) = told X 8 e in
        no-stops x (visits limits left X.names q (here script sets numbers top X.tree) (count_of c)) (first-told X q R ei (subst (Later X.from) eq X.stage.later)) _ h
        ∙ as-told X (somewhere index q) c eq

    pub sometime-first : NotNo x → Looks program script sets numbers choices top somes left index limits c x 7
    unfolding look
    sometime-first h X e =
        let (q, eq, ei, R) = told X 7 e in
        no-stops x (visits limits left X.names q (here script sets numbers top X.tree) (count_of c)) (first-told X q R ei (subst (Later X.from) eq X.stage.later)) _ h
        ∙ as-told X (sometime index q) c eq

    -- and on no what the loop answers
    module _ (d : Counts) (ex : x ≡ No d) (r : Walked) where
      pub somewhere-then : ((X : Here) (q : Rule) → X.rule ≡ somewhere index q → walked_of r ≡ first_yes (λ m n. visits limits left X.names (somewhere index q) m n) (insides σ X.tree) (count_of d))
          → Looks program script sets numbers choices top somes left index limits c r 8
      unfolding look
      somewhere-then F X e =
          let (q, eq, ei, R) = told X 8 e in
          F X q eq
          ∙ sym (no-goes x (visits limits left X.names q (here script sets numbers top X.tree) (count_of c)) (first-told X q R ei (subst (Later X.from) eq X.stage.later))
          (λ n₁. first_yes (λ m n. visits limits left X.names (somewhere index q) m n) (insides σ X.tree) n₁) d ex)
          ∙ as-told X (somewhere index q) c eq

      pub sometime-then : ((X : Here) (q : Rule) → X.rule ≡ sometime index q → walked_of r ≡ first_yes (λ m n. visits limits left X.names (sometime index q) m n) (nexts σ limits.limit X.tree) (count_of d))
          → Looks program script sets numbers choices top somes left index limits c r 7
      unfolding look
      sometime-then F X e =
          let (q, eq, ei, R) = told X 7 e in
          F X q eq
          ∙ sym (no-goes x (visits limits left X.names q (here script sets numbers top X.tree) (count_of c)) (first-told X q R ei (subst (Later X.from) eq X.stage.later))
          (λ n₁. first_yes (λ m n. visits limits left X.names (sometime index q) m n) (nexts σ limits.limit X.tree) n₁) d ex)
          ∙ as-told X (sometime index q) c eq

  -- ---- SOMEWHERE, room by room

  abbrev seeking : Here → (q : Rule) → ClosureMachine → Count → spec.Walked
  seeking X q m n = visits limits left X.names (somewhere index q) m n

  pub Seeking : (c now : Counts) (rest : ℕ) → Type 0
  Seeking c now rest = (X : Here) (q : Rule) → X.rule ≡ somewhere index q
      → (cs : List Closure) × Rooms k w X.tree (members rest) cs × (first_yes (seeking X q) (insides σ X.tree) (count_of c) ≡ first_yes (seeking X q) (map (over.beside σ) cs) (count_of now))

  pub seeking-holds : (c : Counts) (rest : ℕ) → members rest ≡ in_both (members top) (members (get_or sets 129 0)) → Seeking c c rest
  unfolding Seeking
  seeking-holds c rest e X q eq =
      let (cs, i, R) = rooms-told script (kinds_in numbers) (starts_in numbers) X.weight X.spent state X.tree (stretch 0 65 sets) top refl (length-stretch 0 65 sets) X.stage.represents X.stage.ready (few X) rest e in
      (cs, R, ap (λ (l : List ClosureMachine). first_yes (seeking X q) l (count_of c)) i)

  module _ (c now : Counts) (rest i others : ℕ) (N : Seeking c now rest) (small : rest < 2 ^ 64) (some_left : rest ≡ 0 → ⊥) (ei : i ≡ head_or 64 (members rest)) (eo : members others ≡ tail (members rest))
      (x : Walked) (visited : Visits program script sets numbers choices (get_or sets i 0) somes left index limits now x) where
    turn-sought : (X : Here) (q : Rule) → X.rule ≡ somewhere index q
        → (d : Closure) × (ds : List Closure) × (walked_of x ≡ seeking X q (over.beside σ d) (count_of now)) × Rooms k w X.tree (members others) ds
        × (first_yes (seeking X q) (insides σ X.tree) (count_of c) ≡ first_yes (seeking X q) (over.beside σ d ∷ map (over.beside σ) ds) (count_of now))
    unfolding Seeking
    turn-sought X q e =
        let (cs, R, f) = N X q e in
        let (low, (d, ds, ec, room, Q)) = rooms-first k w X.tree rest i others cs small some_left ei eo R in
        let z : 0 + i ≡ i = omega arith in
        let own : members (get_or sets i 0) ≡ tops d =
        ap members (sym (get_or-stretch 0 65 i sets (omega arith) ∙ ap (λ (y : ℕ). get_or sets y 0) z))
        ∙ sym (lent-told script (kinds_in numbers) (starts_in numbers) X.weight X.spent state X.tree (stretch 0 65 sets) top refl (length-stretch 0 65 sets) X.stage.represents i (λ h. omega arith))
        ∙ room.own in (
          d,
          ds,
          visited (scene-piece program script sets numbers choices top somes left index limits X d (get_or sets i 0) room.piece own (somewhere index q) index (itself X (somewhere index q) e)),
          Q,
          f ∙ ap (λ (l : List Closure). first_yes (seeking X q) (map (over.beside σ) l) (count_of now)) ec,
        )

    pub seeking-again : (d : Counts) → x ≡ No d → Seeking c d others
    unfolding Seeking
    seeking-again d ex X q e =
        let (a, ds, v, Q, f) = turn-sought X q e in
        (ds, Q, f ∙ first_goes (seeking X q) (over.beside σ a) (map (over.beside σ) ds) (count_of now) x d v ex)

    pub seeking-stops : NotNo x → (X : Here) (q : Rule) → X.rule ≡ somewhere index q → walked_of x ≡ first_yes (seeking X q) (insides σ X.tree) (count_of c)
    seeking-stops h X q e =
        let (a, ds, v, Q, f) = turn-sought X q e in
        first_stops (seeking X q) (over.beside σ a) (map (over.beside σ) ds) (count_of now) x v h ∙ sym f

  pub seeking-ends : (c now : Counts) (rest : ℕ) → Seeking c now rest → rest ≡ 0 → (X : Here) (q : Rule) → X.rule ≡ somewhere index q → walked_of (No now) ≡ first_yes (seeking X q) (insides σ X.tree) (count_of c)
  unfolding Seeking
  seeking-ends c now rest N z X q e =
      let (cs, R, f) = N X q e in
      first-none (seeking X q) now ∙ sym (f ∙ ap (λ (l : List Closure). first_yes (seeking X q) (map (over.beside σ) l) (count_of now)) (rooms-none k w X.tree rest cs z R))

  -- ---- SOMETIME, move by move

  abbrev trying : Here → (q : Rule) → ClosureMachine → Count → spec.Walked
  trying X q m n = visits limits left X.names (sometime index q) m n

  -- no part is numbered the limit or more
  low_told : (X : Here) (i : ℕ) → limits.limit ≤ i → times_in i X.tree ≡ 0
  low_told X i h = X.stage.below i (omega (arith, X.stage.within))

  -- the turn before `from` with the members of `rest`
  pub record Trying (targets : List ℕ) (c now : Counts) (from rest : ℕ) : Type 0 where
    pub pairs : List (ℕ × ℕ)
    pub turn : Turns targets limits.limit from rest pairs
    pub tried : (X : Here) (q : Rule) → X.rule ≡ sometime index q → Tried (after σ X.tree) (trying X q) (nexts σ limits.limit X.tree) c now pairs

  -- the turn behind has fewer
  module _ (targets : List ℕ) (c now : Counts) (from rest : ℕ) (N : Trying targets c now from rest) (small : rest < 2 ^ 64) (some_left : rest ≡ 0 → ⊥) where
    pub trying-less : (from' rest' : ℕ) → Turns targets limits.limit from' rest' (pairs_behind targets limits.limit from rest)
        → length (pairs_left targets limits.limit from' rest') < length (pairs_left targets limits.limit from rest)
    trying-less from' rest' next = turns-fewer targets limits.limit from rest small some_left N.pairs N.turn from' rest' next

  -- the homes and the targets that are found
  module _ (homes targets : List ℕ) (P : Located (members (get_or sets 129 0)) (body_in state.kids) (λ i. get_or homes i 0))
      (T : (a : ℕ) → a < limits.limit → TargetsOf (body_in state.kids) (get_or state.notes.acts a 0) (members (get_or state.notes.aims a 0)) (λ i. get_or homes i 0) a (members (get_or targets a 0))) where
    placed : (X : Here) (i : ℕ) → i < 64 → get_or homes i 0 ≡ home σ i X.tree
    placed X = state-homes script (kinds_in numbers) (starts_in numbers) X.weight X.spent state X.tree X.stage.ready (few X) X.stage.represents (λ i. get_or homes i 0) P

    aimed : (X : Here) (a : ℕ) → a < limits.limit → (t : ℕ) → t < 64 → elem t (members (get_or targets a 0)) ≡ is_some (closure_move σ a t X.tree)
    aimed X a h =
        let low : a < 64 = omega (arith, X.stage.few) in
        state-targets script (kinds_in numbers) (starts_in numbers) X.weight X.spent state X.tree X.stage.ready (few X) X.stage.represents (λ i. get_or homes i 0) P a low (members (get_or targets a 0)) (T a h)

    pub trying-holds : (c : Counts) (from rest : ℕ) → Turns targets limits.limit from rest (pairs_behind targets limits.limit 0 0) → Trying targets c c from rest
    trying-holds c from rest U = record {
      pairs = pairs_behind targets limits.limit 0 0;
      turn = U;
      tried = λ X q e. tried-holds (after σ X.tree) (trying X q) (pairs_behind targets limits.limit 0 0) (nexts σ limits.limit X.tree) (nexts-made σ limits.limit X.tree X.stage.few (low_told X) targets (aimed X)) c;
    }

    module _ (c now : Counts) (from rest t : ℕ) (N : Trying targets c now from rest) (small : rest < 2 ^ 64) (some_left : rest ≡ 0 → ⊥) (et : t ≡ head_or 64 (members rest)) where
      abbrev a : ℕ
      a = from - 1

      abbrev others : List (ℕ × ℕ)
      others = pairs_behind targets limits.limit from rest

      tried-first : (X : Here) (q : Rule) → X.rule ≡ sometime index q → Tried (after σ X.tree) (trying X q) (nexts σ limits.limit X.tree) c now ((a, t) ∷ others)
      tried-first X q e = subst (λ (l : List (ℕ × ℕ)). Tried (after σ X.tree) (trying X q) (nexts σ limits.limit X.tree) c now l) (turns-first N.turn small some_left t et) (N.tried X q e)

      -- the move leads to the next state
      module _ (sets' numbers' : List ℕ) (top' : ℕ) (L : Lendable script sets' numbers' top') (ek : kinds_in numbers' ≡ kinds_in numbers) (es : starts_in numbers' ≡ starts_in numbers)
          (M : Moves script (kinds_in numbers) (starts_in numbers) state (state_in sets' numbers' top') (λ i. get_or homes i 0) a t) where
        -- which represents what the move makes of the closure
        pub turn_moved : (X : Here) (q : Rule) → X.rule ≡ sometime index q → Makes script (kinds_in numbers) (starts_in numbers) state (state_in sets' numbers' top') X.weight (X.spent + 1) a t X.tree
        turn_moved X q e =
            let is = tried-makes (after σ X.tree) (trying X q) (nexts σ limits.limit X.tree) c now a t others (tried-first X q e) in
            M X.weight X.spent X.tree (omega (arith, X.stage.slack)) X.stage.represents (placed X, after-made σ X.tree a t is)

        -- the visit of SOMETIME that is made there
        module _ (x : Walked) (visited : (Y : Scene program script sets' numbers' choices top' somes left index limits) (q : Rule) → Y.rule ≡ sometime index q
            → walked_of x ≡ visits limits left Y.names (sometime index q) (here script sets' numbers' top' Y.tree) (count_of now)) where
          turn-tried : (X : Here) (q : Rule) → X.rule ≡ sometime index q → (m : ClosureMachine) × (after σ X.tree a t ≡ some m) × (walked_of x ≡ trying X q m (count_of now))
          turn-tried X q e =
              let (m, em, R, eb) = turn_moved X q e in (
                here script sets' numbers' top' m.body,
                after_is σ (bound_in script (state_in sets' numbers' top')) X.tree a t m em eb,
                visited (scene-moved program script sets numbers choices top somes left index limits X sets' numbers' top' L ek es a t m em R) q e,
              )

          pub turn-again : (d : Counts) → x ≡ No d → (from' rest' : ℕ) → Turns targets limits.limit from' rest' others → Trying targets c d from' rest'
          turn-again d ex from' rest' next = record {
            pairs = others;
            turn = next;
            tried = λ X q e.
                let (m, is, v) = turn-tried X q e in
                tried-again (after σ X.tree) (trying X q) (nexts σ limits.limit X.tree) c now a t others (tried-first X q e) m is x v d ex;
          }

          pub turn-stops : NotNo x → (X : Here) (q : Rule) → X.rule ≡ sometime index q → walked_of x ≡ first_yes (trying X q) (nexts σ limits.limit X.tree) (count_of c)
          turn-stops h X q e =
              let (m, is, v) = turn-tried X q e in
              tried-stops (after σ X.tree) (trying X q) (nexts σ limits.limit X.tree) c now a t others (tried-first X q e) m is x v h

        -- any visit that is made there is one of SOMETIME
        module _ (x : Walked) (visited : Visits program script sets' numbers' choices top' somes left index limits now x) where
          as-sometime : (Y : Scene program script sets' numbers' choices top' somes left index limits) (q : Rule) → Y.rule ≡ sometime index q
              → walked_of x ≡ visits limits left Y.names (sometime index q) (here script sets' numbers' top' Y.tree) (count_of now)
          as-sometime Y q e = visited Y ∙ ap (λ (y : Rule). visits limits left Y.names y (here script sets' numbers' top' Y.tree) (count_of now)) e

          pub trying-again : (d : Counts) → x ≡ No d → (from' rest' : ℕ) → Turns targets limits.limit from' rest' others → Trying targets c d from' rest'
          trying-again = turn-again x as-sometime

          pub trying-stops : NotNo x → (X : Here) (q : Rule) → X.rule ≡ sometime index q → walked_of x ≡ first_yes (trying X q) (nexts σ limits.limit X.tree) (count_of c)
          trying-stops = turn-stops x as-sometime

  pub trying-ends : (targets : List ℕ) (c now : Counts) (from rest : ℕ) → Trying targets c now from rest → rest ≡ 0 → (X : Here) (q : Rule) → X.rule ≡ sometime index q → walked_of (No now) ≡ first_yes (trying X q) (nexts σ limits.limit X.tree) (count_of c)
  trying-ends targets c now from rest N z X q e = tried-ends (after σ X.tree) (trying X q) (nexts σ limits.limit X.tree) c now N.pairs (N.tried X q e) (N.turn.ends z)

-- A loop over possible moves, each of them an outer number and an inner one: turn by turn, over any visit and whatever makes
-- something of a move. What is left of the loop answers what the whole of it does. Assumes nothing.
use Prim.Native.Nat.{ℕ, zero, suc, ◌+◌, ◌-◌, ◌^◌, ◌≤◌, ◌<◌}
use mathlib.Core.Bool.{true, false}
use mathlib.Core.List.{List, [], ◌∷◌, ◌++◌, tail}
use mathlib.Core.Option.{Option, none, some}
use mathlib.Core.Path.{◌≡◌, refl, sym, ap, ap₂, ◌∙◌, subst}
use native.Mathlib.Omega.{arith}
use lib.ListN.{get_or, length}
use Rattle.base_sets.specs.Sets.{members, elem, head_or, numbers_from}
use Rattle.base_sets.proofs.Members.{members-empty, first-is}
use Rattle.theory_closures.specs.Closure.{Closure, Bindings, closure_move}
use Rattle.engine_targets.specs.Targets.{is_some}
use Rattle.theory_decision.specs.Walk.{Count, first_yes, keep, moves_to, moves_from, in_order}
use Rattle.theory_decision.specs.Walk as spec
use Rattle.theory_decision.specs.ClosureWalk.{nexts}
use Rattle.walk_stages.specs.Order.{paired, pairs_from, pairs_left, pairs_behind, TurnWithin, Turns}
use Rattle.walk_stages.specs.Visits.{count_of, walked_of}
use Rattle.walk_stages.specs.declared.Counts.{Counts}
use Rattle.walk_stages.specs.declared.Walked.{Walked}
use Rattle.walk_stages.specs.declared.Walked.TheVariants.{No}
use Rattle.walk_stages.proofs.Loops.{NotNo, first-none, first_goes, first_stops}
use Rattle.walk_stages.proofs.Targeted.{Each, to-members, after, after-some, Low, move-high}

-- ---- turns

paired-first : (o i : ℕ) (l : List ℕ) (k : List (ℕ × ℕ)) → paired o (i ∷ l) ++ k ≡ (o, i) ∷ (paired o l ++ k)
unfolding paired
paired-first o i l k = refl

paired_none : (o : ℕ) (k : List (ℕ × ℕ)) → paired o (members 0) ++ k ≡ k
unfolding paired
paired_none o k = ap (λ (l : List ℕ). paired o l ++ k) members-empty

-- behind an empty set all is left
behind-none : (inner : List ℕ) (limit from : ℕ) → pairs_behind inner limit from 0 ≡ pairs_from inner from (limit - from)
unfolding paired
behind-none inner limit from = ap (λ (l : List ℕ). paired (from - 1) (tail l) ++ pairs_from inner from (limit - from)) members-empty

-- What is left while the next turn is sought, of the pairs l: the inner ones that are left, then the outer numbers from `from` on.
pub record Seeks (inner : List ℕ) (limit from rest : ℕ) (l : List (ℕ × ℕ)) : Type 0 where
  pub pairs : l ≡ pairs_left inner limit from rest
  pub within : TurnWithin limit from rest

pub within_none : (limit from : ℕ) → TurnWithin limit from 0
within_none limit from = record { begun = λ n. absurd (n refl); low = λ n. absurd (n refl) }

-- it begins with what is behind the first move of the turn before
pub seeks-all : (inner : List ℕ) (limit from rest r : ℕ) → rest ≡ 0 → r ≡ rest → Seeks inner limit from r (pairs_behind inner limit from rest)
seeks-all inner limit from rest r z e = rw (e, z) record {
  pairs = behind-none inner limit from ∙ sym (paired_none (from - 1) (pairs_from inner from (limit - from)));
  within = within_none limit from;
}

pub seeks-others : (inner : List ℕ) (limit from rest others r : ℕ) → TurnWithin limit from rest → (rest ≡ 0 → ⊥) → members others ≡ tail (members rest) → r ≡ others → Seeks inner limit from r (pairs_behind inner limit from rest)
seeks-others inner limit from rest others r w n e x = rw x record {
  pairs = ap (λ (l : List ℕ). paired (from - 1) l ++ pairs_from inner from (limit - from)) (sym e);
  within = record { begun = λ m. w.begun n; low = λ m. w.low n };
}

module _ (inner : List ℕ) (limit from rest : ℕ) (l : List (ℕ × ℕ)) (S : Seeks inner limit from rest l) where
  -- some are left
  pub seeks-here : (rest ≡ 0 → ⊥) → Turns inner limit from rest l
  seeks-here n = record { pairs = S.pairs; within = S.within; ends = λ z. absurd (n z) }

  -- none is left, and the next outer number's set is looked at
  pub seeks-on : from < limit → rest ≡ 0 → Seeks inner limit (from + 1) (get_or inner from 0) l
  unfolding pairs_from
  seeks-on h z =
      let e : limit - from ≡ suc (limit - suc from) = omega arith in
      let o : from + 1 - 1 ≡ from = omega arith in
      let s : suc from ≡ from + 1 = omega arith in
      record {
        pairs = S.pairs ∙ ap (λ (m : ℕ). pairs_left inner limit from m) z ∙ paired_none (from - 1) (pairs_from inner from (limit - from)) ∙ ap (pairs_from inner from) e
            ∙ ap₂ (λ (m : ℕ) (k : ℕ). paired m (members (get_or inner from 0)) ++ pairs_from inner k (limit - k)) (sym o) s;
        within = record { begun = λ n. omega arith; low = λ n. omega arith };
      }

  -- no outer number is left
  pub seeks-last : limit ≤ from → Turns inner limit from rest l
  unfolding pairs_from
  seeks-last h =
      let e : limit - from ≡ 0 = omega arith in
      record { pairs = S.pairs; within = S.within; ends = λ z. S.pairs ∙ ap (λ (m : ℕ). pairs_left inner limit from m) z ∙ paired_none (from - 1) (pairs_from inner from (limit - from)) ∙ ap (pairs_from inner from) e }

-- the turn's first move, and what is behind it
pub turns-first : {inner : List ℕ} {limit from rest : ℕ} {l : List (ℕ × ℕ)} → Turns inner limit from rest l → rest < 2 ^ 64 → (rest ≡ 0 → ⊥) → (t : ℕ) → t ≡ head_or 64 (members rest)
    → l ≡ (from - 1, t) ∷ pairs_behind inner limit from rest
turns-first {inner} {limit} {from} {rest} {l} T small n t e =
    T.pairs ∙ ap (λ (m : List ℕ). paired (from - 1) m ++ pairs_from inner from (limit - from)) (first-is rest t small n e) ∙ paired-first (from - 1) t (tail (members rest)) (pairs_from inner from (limit - from))

-- the turn behind it has fewer
pub turns-fewer : (inner : List ℕ) (limit from rest : ℕ) → rest < 2 ^ 64 → (rest ≡ 0 → ⊥) → (l : List (ℕ × ℕ)) → Turns inner limit from rest l → (from' rest' : ℕ)
    → Turns inner limit from' rest' (pairs_behind inner limit from rest) → length (pairs_left inner limit from' rest') < length (pairs_left inner limit from rest)
turns-fewer inner limit from rest small n l T from' rest' U =
    let x : length (pairs_left inner limit from rest) ≡ suc (length (pairs_behind inner limit from rest)) = ap length (sym T.pairs ∙ turns-first T small n (head_or 64 (members rest)) refl) in
    let y : length (pairs_behind inner limit from rest) ≡ length (pairs_left inner limit from' rest') = ap length U.pairs in
    omega (arith, x, y)

-- ---- what is made of the moves

module _ {S : Type 0} (make : ℕ → ℕ → Option S) where
  unfoldable pub made_of : List (ℕ × ℕ) → List S
  made_of [] = []
  made_of (p ∷ l) = keep (make p.0 p.1) (made_of l)

  -- each of the moves makes something
  unfoldable pub AllMade : List (ℕ × ℕ) → Type 0
  AllMade [] = Unit {0}
  AllMade (p ∷ l) = (is_some (make p.0 p.1) ≡ true) × AllMade l

  made-first : (o i : ℕ) (l : List (ℕ × ℕ)) (m : S) → make o i ≡ some m → made_of ((o, i) ∷ l) ≡ m ∷ made_of l
  unfolding made_of keep
  made-first o i l m e = rw e

  made_none : made_of [] ≡ []
  unfolding made_of
  made_none = refl

  keep_append : (x : Option S) (l k : List S) → keep x l ++ k ≡ keep x (l ++ k)
  unfolding keep
  keep_append none l k = refl
  keep_append (some c) l k = refl

  made-paired : (o : ℕ) (l : List ℕ) (k : List (ℕ × ℕ)) → moves_to (make o) l ++ made_of k ≡ made_of (paired o l ++ k)
  unfolding moves_to paired made_of
  made-paired o [] k = refl
  made-paired o (i ∷ l) k = keep_append (make o i) (moves_to (make o) l) (made_of k) ∙ ap (keep (make o i)) (made-paired o l k)

  all-paired : (o : ℕ) (l : List ℕ) (k : List (ℕ × ℕ)) → Each (make o) l → AllMade k → AllMade (paired o l ++ k)
  unfolding paired AllMade
  all-paired o [] k e a = a
  all-paired o (i ∷ l) k e a = (e.0, all-paired o l k e.1 a)

  -- each outer number's set says with which inner ones it makes something
  module _ (inner : List ℕ) (limit : ℕ) (few : limit ≤ 64) (told : (o : ℕ) → o < limit → (i : ℕ) → i < 64 → elem i (members (get_or inner o 0)) ≡ is_some (make o i))
      (high : (o i : ℕ) → limit ≤ i → is_some (make o i) ≡ false) where
    made-from : (o n : ℕ) → o + n ≤ limit → (moves_from make (numbers_from o n) (numbers_from 0 limit) ≡ made_of (pairs_from inner o n)) × AllMade (pairs_from inner o n)
    unfolding numbers_from moves_from pairs_from made_of AllMade
    made-from o zero h = (refl, tt)
    made-from o (suc n) h =
        let (e, a) = made-from (suc o) n (omega arith) in
        let (d, b) = to-members (make o) (get_or inner o 0) limit few (told o (omega arith)) (high o) in (
          ap₂ (λ (x : List S) (y : List S). x ++ y) d e ∙ made-paired o (members (get_or inner o 0)) (pairs_from inner (suc o) n),
          all-paired o (members (get_or inner o 0)) (pairs_from inner (suc o) n) b a,
        )

    -- THEOREM: what is made in the walk's order is what is made of the members of these sets.
    pub made-order : (in_order limit make ≡ made_of (pairs_from inner 0 (limit - 0))) × AllMade (pairs_from inner 0 (limit - 0))
    unfolding in_order
    made-order =
        let e : limit ≡ limit - 0 = omega arith in
        let (d, a) = made-from 0 limit (omega arith) in
        (d ∙ ap (λ (n : ℕ). made_of (pairs_from inner 0 n)) e, subst (λ (n : ℕ). AllMade (pairs_from inner 0 n)) e a)

  -- ---- the loop

  module _ (f : S → Count → spec.Walked) where
    -- The moves l are left, with the counts `now`, of a loop over `all` that began with the counts c.
    pub record Tried (all : List S) (c now : Counts) (l : List (ℕ × ℕ)) : Type 0 where
      pub made : AllMade l
      pub same : first_yes f all (count_of c) ≡ first_yes f (made_of l) (count_of now)

    pub tried-holds : (l : List (ℕ × ℕ)) (all : List S) → (all ≡ made_of l) × AllMade l → (c : Counts) → Tried all c c l
    tried-holds l all e c = record { made = e.1; same = ap (λ (y : List S). first_yes f y (count_of c)) e.0 }

    module _ (all : List S) (c now : Counts) (o i : ℕ) (l : List (ℕ × ℕ)) (T : Tried all c now ((o, i) ∷ l)) where
      pub tried-makes : is_some (make o i) ≡ true
      unfolding AllMade
      tried-makes = T.made.0

      module _ (m : S) (is : make o i ≡ some m) (x : Walked) (visited : walked_of x ≡ f m (count_of now)) where
        first-tried : first_yes f all (count_of c) ≡ first_yes f (m ∷ made_of l) (count_of now)
        first-tried = T.same ∙ ap (λ (y : List S). first_yes f y (count_of now)) (made-first o i l m is)

        pub tried-again : (d : Counts) → x ≡ No d → Tried all c d l
        unfolding AllMade
        tried-again d ex = record { made = T.made.1; same = first-tried ∙ first_goes f m (made_of l) (count_of now) x d visited ex }

        pub tried-stops : NotNo x → walked_of x ≡ first_yes f all (count_of c)
        tried-stops h = first_stops f m (made_of l) (count_of now) x visited h ∙ sym first-tried

    pub tried-ends : (all : List S) (c now : Counts) (l : List (ℕ × ℕ)) → Tried all c now l → l ≡ [] → walked_of (No now) ≡ first_yes f all (count_of c)
    tried-ends all c now l T e = first-none f now ∙ sym (T.same ∙ ap (λ (y : List S). first_yes f y (count_of now)) (ap made_of e ∙ made_none))

-- THEOREM: what stands after one move of the closure, in the walk's order, is what is made of the targets of each actor.
pub nexts-made : (σ : Bindings) (limit : ℕ) (b : Closure) → limit ≤ 64 → Low limit b → (targets : List ℕ)
    → ((a : ℕ) → a < limit → (t : ℕ) → t < 64 → elem t (members (get_or targets a 0)) ≡ is_some (closure_move σ a t b))
    → (nexts σ limit b ≡ made_of (after σ b) (pairs_behind targets limit 0 0)) × AllMade (after σ b) (pairs_behind targets limit 0 0)
unfolding nexts
nexts-made σ limit b few l targets told =
    subst (λ (k : List (ℕ × ℕ)). (in_order limit (after σ b) ≡ made_of (after σ b) k) × AllMade (after σ b) k) (sym (behind-none targets limit 0))
    (made-order (after σ b) targets limit few
    (λ a h t s. told a h t s ∙ sym (after-some σ (closure_move σ a t b)))
    (λ a t g. after-some σ (closure_move σ a t b) ∙ move-high σ limit a t b l g))

-- Tallies: counts over the parts of a closure that go by another count inside some receipts. No move makes one greater, but
-- for what a receipt lets out; so each part of the invariant, and the bound, is a tally. Assumes nothing.
use Prim.Native.Nat.{ℕ, ◌+◌, ◌≤◌}
use mathlib.Core.Bool.{Bool, true, false, cond, false≢true}
use mathlib.Core.List.{[], ◌∷◌, ◌++◌}
use mathlib.Core.Path.{◌≡◌, refl, ap, ◌∙◌, subst}
use mathlib.Core.Option.{Option, none, some}
use native.Mathlib.Omega.{arith}
use lib.Dec.{eqb, ltb}
use borrow.Author.Tests.{eqb-true}
use Rattle.read_messages.specs.Message.{Message}
use Rattle.std.specs.Prelude.{Some}
use Rattle.read_scripts.specs.Tree.{ambient, action, receipt, output, is_ambient, close, part, total_over, put, merge_parts, settle_by}
use Rattle.theory_machine.specs.Bodies.{find_part, remove_part, alter}
use Rattle.theory_machine.specs.Moves.{MoveMade, head_name, spent_head, spend, move_here, anywhere}
use Rattle.base_slices.proofs.Tests.{by_test}
use Rattle.theory_machine.proofs.Options.{some_is, none≢some}
use Rattle.theory_machine.proofs.Inversion.{head_name-inv, Here, by-open, by-receive, by-enter, by-exit, here-inv, Makes, now, inner, outer, anywhere-inv}
use Rattle.theory_machine.proofs.Sums.{entered-target, received-target}
use Rattle.theory_closures.specs.Closure.{Action, ClosureHead, Closure, Bindings, spent_one, view_under, all_spent, settle_under, settled_under, closure_move}

pub record Tally : Type 0 where
  pub own : ℕ → ClosureHead → ℕ  -- what a part counts by its number and its head
  pub shut : ClosureHead → Bool  -- the receipts inside which every part counts by `guarded`
  pub guarded : ℕ → ClosureHead → ℕ
  pub ambients : (m : Message) → shut (ambient m) ≡ false
  pub actions : (a : Action) → shut (action a) ≡ false
  pub spends : (k : ℕ) (a : Action) → own k (action (spent_one a)) ≤ own k (action a)

module _ (T : Tally) where
  unfoldable pub tally_of : Closure → ℕ
  tally_of close = 0
  tally_of (part i h b r) = T.own i h + (cond (T.shut h) (total_over T.guarded b) (tally_of b) + tally_of r)

  -- one part by itself
  abbrev pub alone : ℕ → ClosureHead → Closure → ℕ
  alone i h b = T.own i h + cond (T.shut h) (total_over T.guarded b) (tally_of b)

  pub open-inside : (h : ClosureHead) (b : Closure) → T.shut h ≡ false → cond (T.shut h) (total_over T.guarded b) (tally_of b) ≡ tally_of b
  open-inside h b e = rw e

  pub of_part : (i : ℕ) (h : ClosureHead) (b r : Closure) → T.shut h ≡ false → tally_of (part i h b r) ≡ T.own i h + (tally_of b + tally_of r)
  unfolding tally_of
  of_part i h b r e = rw e

  -- an ambient with a name is not shut
  pub named-open : (σ : Bindings) (h : ClosureHead) (n : ℕ) → head_name (view_under σ) h ≡ Some n → T.shut h ≡ false
  named-open σ h n e = let x = head_name-inv (view_under σ) h n e in ap T.shut x.1 ∙ T.ambients x.0

  pub of-remove_part : (a : ℕ) (b : Closure) → tally_of (remove_part a b) ≤ tally_of b
  unfolding remove_part tally_of
  of-remove_part a close = omega arith
  of-remove_part a (part i h b r) = by_test (eqb a i) (λ t. rw t (omega (arith, of-remove_part a r))) (λ t. rw t (omega (arith, of-remove_part a r)))

  pub of-find : (a : ℕ) (b : Closure) (p : ClosureHead × Closure) → find_part a b ≡ some p → alone a p.0 p.1 + tally_of (remove_part a b) ≤ tally_of b
  unfolding find_part remove_part tally_of
  of-find a close p e = none≢some e
  of-find a (part i h b r) p e = by_test (eqb a i)
      (λ t.
      let q : (h, b) ≡ p = some_is (rw t at e) in
      rw (t, ← q, eqb-true a i t) (omega (arith, of-remove_part a r)))
      (λ t. rw t (omega (arith, of-find a r p (rw t at e))))

  pub of-put : (n : ℕ) (g : ClosureHead) (s b : Closure) → tally_of (put n g s b) ≤ alone n g s + tally_of b
  unfolding put tally_of
  of-put n g s close = omega arith
  of-put n g s (part i h b r) = by_test (ltb n i) (λ t. rw t (omega arith))
      (λ t. by_test (eqb n i) (λ u. rw (t, u) (omega arith)) (λ u. rw (t, u) (omega (arith, of-put n g s r))))

  pub of-merge : (b c : Closure) → tally_of (merge_parts b c) ≤ tally_of b + tally_of c
  unfolding merge_parts tally_of
  of-merge close c = omega arith
  of-merge (part i h b r) c = omega (arith, of-put i h b (merge_parts r c), of-merge r c)

  -- the inside of one part that is not shut is altered
  pub of-alter : (n : ℕ) (G : Closure → Closure) (b : Closure) (p : ClosureHead × Closure) → find_part n b ≡ some p → T.shut p.0 ≡ false →
      tally_of (alter n (λ e. e) G b) + tally_of p.1 ≡ tally_of b + tally_of (G p.1)
  unfolding find_part alter tally_of
  of-alter n G close p e s = none≢some e
  of-alter n G (part i h b r) p e s = by_test (eqb n i)
      (λ t.
      let q : (h, b) ≡ p = some_is (rw t at e) in
      let z : T.shut h ≡ false = ap (λ (x : ClosureHead × Closure). T.shut x.0) q ∙ s in
      rw (t, ← q, open-inside h b z, open-inside h (G b) z) (omega arith))
      (λ t. rw t (omega (arith, of-alter n G r p (rw t at e) s)))

  module _ (σ : Bindings) where
    spent-less : (k : ℕ) (h : ClosureHead) (b : Closure) → alone k (spent_head (view_under σ) h) b ≤ alone k h b
    unfolding spent_head
    spent-less k (ambient m) b = omega arith
    spent-less k (action a) b = omega (arith, open-inside (action a) b (T.actions a), open-inside (action (spent_one a)) b (T.actions (spent_one a)), T.spends k a)
    spent-less k (receipt v) b = omega arith
    spent-less k (output m) b = omega arith

    of-spend : (n : ℕ) (b : Closure) → tally_of (spend (view_under σ) n b) ≤ tally_of b
    unfolding alter tally_of
    of-spend n close = omega arith
    of-spend n (part i h b r) = by_test (eqb n i) (λ t. rw t (omega (arith, spent-less i h b))) (λ t. rw t (omega (arith, of-spend n r)))

    -- exactly, where the actor is found
    pub of-spent : (n : ℕ) (b : Closure) (a : Action) (s : Closure) → find_part n b ≡ some (action a, s) →
        tally_of (spend (view_under σ) n b) + T.own n (action a) ≡ tally_of b + T.own n (action (spent_one a))
    unfolding find_part alter tally_of spent_head
    of-spent n close a s e = none≢some e
    of-spent n (part i h b r) a s e = by_test (eqb n i)
        (λ t.
        let q : (h, b) ≡ (action a, s) = some_is (rw t at e) in
        rw (t, ap (λ (x : ClosureHead × Closure). x.0) q, eqb-true n i t)
        (omega (arith, open-inside (action a) b (T.actions a), open-inside (action (spent_one a)) b (T.actions (spent_one a)))))
        (λ t. rw t (omega (arith, of-spent n r a s (rw t at e))))

    spent-open : (h : ClosureHead) → all_spent σ h ≡ true → T.shut h ≡ false
    unfolding all_spent
    spent-open (ambient m) e = T.ambients m
    spent-open (action a) e = T.actions a
    spent-open (receipt v) e = absurd (false≢true e)
    spent-open (output m) e = absurd (false≢true e)

    ambient-open : (h : ClosureHead) → is_ambient h ≡ true → T.shut h ≡ false
    unfolding is_ambient
    ambient-open (ambient m) e = T.ambients m
    ambient-open (action a) e = T.actions a
    ambient-open (receipt v) e = absurd (false≢true e)
    ambient-open (output m) e = absurd (false≢true e)

    pub of-settle : (b : Closure) → tally_of (settle_under σ b) ≤ tally_of b
    unfolding settle_by tally_of
    of-settle close = omega arith
    of-settle (part i h b r) = by_test (all_spent σ h)
        (λ t. rw t (omega (arith, open-inside h b (spent-open h t), of-merge (settle_under σ b) (settle_under σ r), of-settle b, of-settle r)))
        (λ t. by_test (is_ambient h)
        (λ u. rw (t, u) (omega (arith, open-inside h b (ambient-open h u), open-inside h (settle_under σ b) (ambient-open h u), of-put i h (settle_under σ b) (settle_under σ r), of-settle b, of-settle r)))
        (λ u. rw (t, u) (omega (arith, of-put i h b (settle_under σ r), of-settle r))))

-- A receipt is made: both parts go, and what was inside the receipt stands there.
pub record Takes (b c : Closure) (news : Bindings) : Type 0 where
  pub taker : ℕ
  pub giver : ℕ
  pub bound : ℕ
  pub sent : Message
  pub inner : Closure
  pub idle : Closure
  pub told : news ≡ (bound, sent) ∷ []
  pub law : (T : Tally) → tally_of T c + (alone T taker (receipt bound) inner + alone T giver (output sent) idle) ≤ tally_of T b + tally_of T inner

-- A move spends an item, and no tally rises; or a receipt is made.
pub data TallyStep (b c : Closure) (news : Bindings) : Type 0 where
  spends : news ≡ [] → ((T : Tally) → tally_of T c ≤ tally_of T b) → TallyStep b c news
  takes : Takes b c news → TallyStep b c news

module _ (σ : Bindings) where
  pub here-step : (a t : ℕ) (b c : Closure) (news : Bindings) → Here (view_under σ) a t b c news → TallyStep b c news
  here-step a t b c news (by-open x e) = spends e (λ T. rw x.result (omega (
    arith,
    of-spend T σ a (merge_parts x.room (remove_part t b)),
    of-merge T x.room (remove_part t b),
    of-find T t b _ x.target,
    open-inside T x.goal x.room (named-open T σ x.goal x.sought x.named),
  )))
  here-step a t b c news (by-receive x) = takes (record {
    taker = a;
    giver = t;
    bound = x.bound;
    sent = x.sent;
    inner = x.after;
    idle = x.idle;
    told = x.told;
    law = λ T. rw x.result (omega (
      arith,
      of-merge T x.after (remove_part t (remove_part a b)),
      of-find T a b _ x.actor,
      of-find T t (remove_part a b) _ (received-target (view_under σ) x),
    ));
  })
  here-step a t b c news (by-enter x e) = spends e (λ T. rw x.result (omega (
    arith,
    of-alter T t (put x.mover x.shell (spend (view_under σ) a x.inside)) (remove_part x.mover b) _ (entered-target (view_under σ) x) (named-open T σ x.goal x.sought x.named),
    of-put T x.mover x.shell (spend (view_under σ) a x.inside) x.room,
    of-spend T σ a x.inside,
    of-find T x.mover b _ x.around,
    open-inside T x.shell x.inside (named-open T σ x.shell x.own x.shell-named),
    open-inside T x.shell (spend (view_under σ) a x.inside) (named-open T σ x.shell x.own x.shell-named),
  )))
  here-step a t b c news (by-exit x e) = spends e (λ T. rw x.result (omega (
    arith,
    of-put T x.mover x.shell (spend (view_under σ) a x.inside) (alter t (λ g. g) (remove_part x.mover) b),
    of-alter T t (remove_part x.mover) b _ x.target (named-open T σ x.goal x.sought x.named),
    of-spend T σ a x.inside,
    of-find T x.mover x.room _ x.around,
    open-inside T x.shell x.inside (named-open T σ x.shell x.own x.shell-named),
    open-inside T x.shell (spend (view_under σ) a x.inside) (named-open T σ x.shell x.own x.shell-named),
  )))

-- a step in a body is a step of what stands around it, and settling afterwards changes nothing in that
lift : (b c d e : Closure) (news : Bindings) → ((T : Tally) → tally_of T e + tally_of T b ≤ tally_of T d + tally_of T c) → TallyStep b c news → TallyStep d e news
lift b c d e news f (spends q l) = spends q (λ T. omega (arith, l T, f T))
lift b c d e news f (takes x) = takes (record {
  taker = x.taker;
  giver = x.giver;
  bound = x.bound;
  sent = x.sent;
  inner = x.inner;
  idle = x.idle;
  told = x.told;
  law = λ T. omega (arith, x.law T, f T);
})

module _ (σ : Bindings) (a t : ℕ) where
  -- THEOREM: what a move does to every tally, before the closure is settled and after.
  pub makes-step : {b c : Closure} {news : Bindings} → Makes (view_under σ) (move_here (view_under σ) a t) b c news → TallyStep b c news
  unfolding tally_of
  makes-step (now {b} m e) = here-step σ a t b m.body m.news (here-inv (view_under σ) a t b m e)
  makes-step (inner {k} {n} {h} {b} {c} {r} {news} e x) = lift b c (part k h b r) (part k h c r) news
      (λ T. omega (arith, open-inside T h b (named-open T σ h n e), open-inside T h c (named-open T σ h n e))) (makes-step x)
  makes-step (outer {k} {h} {b} {c} {r} {news} x) = lift r c (part k h b r) (part k h b c) news (λ T. omega arith) (makes-step x)

  -- a closure move that is made: the step, and then the closure is settled under the bindings that hold after it
  pub record Moves (b : Closure) (m : MoveMade Action) : Type 0 where
    pub unsettled : Closure
    pub makes : Makes (view_under σ) (move_here (view_under σ) a t) b unsettled m.news
    pub settled : m.body ≡ settle_under (m.news ++ σ) unsettled

  settled-inv : (b : Closure) (x : Option (MoveMade Action)) → anywhere (view_under σ) (move_here (view_under σ) a t) b ≡ x → (m : MoveMade Action) → settled_under σ x ≡ some m → Moves b m
  unfolding settled_under
  settled-inv b none q m e = none≢some e
  settled-inv b (some l) q m e = subst (Moves b) (some_is e) (record { unsettled = l.body; makes = anywhere-inv (view_under σ) (move_here (view_under σ) a t) b l q; settled = refl })

  pub closure-inv : (b : Closure) (m : MoveMade Action) → closure_move σ a t b ≡ some m → Moves b m
  unfolding closure_move
  closure-inv b m e = settled-inv b (anywhere (view_under σ) (move_here (view_under σ) a t) b) refl m e

  pub move_step : (b : Closure) (m : MoveMade Action) → closure_move σ a t b ≡ some m → TallyStep b m.body m.news
  move_step b m e =
      let x = closure-inv b m e in
      lift b x.unsettled b m.body m.news
      (λ T. omega (arith, of-settle T (m.news ++ σ) x.unsettled, ap (tally_of T) x.settled)) (makes-step x.makes)

-- THE BOUND: each move makes a receipt or raises one offset, and no offset passes s ^ (r + 1); so every move takes one from
-- a budget that is at most r + a × s ^ (r + 1) when the script begins. Assumes nothing.
use Prim.Native.Nat.{ℕ, zero, suc, ◌+◌, ◌-◌, ◌*◌, ◌^◌, ◌≤◌, ◌<◌}
use mathlib.Core.Bool.{false, cond}
use mathlib.Core.List.{List, [], ◌∷◌, ◌++◌}
use mathlib.Core.Path.{◌≡◌, refl, sym, ap, ◌∙◌, subst}
use mathlib.Core.Option.{some}
use native.Mathlib.Omega.{arith}
use native.Mathlib.Nat.{pow-zero, pow-succ', mul_assoc, mul-le-mul_right, pow-le-pow_right, le_trans}
use lib.Dec.{eqb, ltb}
use lib.ListN.{length, length-append, drop}
use borrow.Author.Tests.{eq-eqb, leb-false}
use Rattle.read_messages.specs.Message.{Message, name, variable, enter, exit, opens, empty_message, path, items, first_item, substitute}
use Rattle.read_messages.specs.declared.First.{First}
use Rattle.read_messages.specs.declared.First.TheVariants.{Nothing}
use Rattle.read_messages.specs.Reading.{Cursor, got}
use Rattle.read_scripts.specs.Tree.{Head, ambient, action, receipt, output, Body, close, part, one_if, total_over, times_in, greatest, put, merge_parts, map_heads, no_items}
use Rattle.read_scripts.specs.Script.{Script, read_script}
use Rattle.read_scripts.specs.Measures.{receipts_in, actions_in, most_items, moves_bound, is_receipt, is_action, items_of}
use Rattle.theory_closures.specs.Resolve.{resolve}
use Rattle.theory_machine.specs.Bodies.{find_part, remove_part, alter}
use Rattle.theory_machine.specs.Moves.{MoveMade, first_of, spend, move_here}
use Rattle.base_slices.proofs.Tests.{by_test}
use Rattle.theory_machine.proofs.Inversion.{head_name-inv, Here, by-open, by-receive, by-enter, by-exit, here-inv, Makes, now, inner, outer, found}
use Rattle.theory_machine.proofs.Sums.{find-remove_part, find-total, apart, entered-target, by-numbers, made-total, settle-total}
use Rattle.theory_closures.specs.Closure.{Action, ClosureHead, Closure, Bindings, items_left, view_under, all_spent, settle_under, closure_move, whole_head, closure_of}
use Rattle.theory_closures.proofs.Tallies.{Tally, tally_of, of-remove_part, of-find, of-put, of-merge, of-alter, of-spent, of-settle, TallyStep, spends, takes, closure-inv, move_step}
use Rattle.theory_closures.proofs.Simulation.{none_left_lem}
use Rattle.theory_closures.proofs.Started.{script-distinct}

-- ---- the items of a message under bindings

abbrev long : Message → ℕ
long m = length (items m)

-- every message of the bindings has at most s items
abbrev Small : ℕ → Bindings → Type 0
Small s [] = Unit {0}
Small s (p ∷ σ) = (long p.1 ≤ s) × Small s σ

long-substitute : (s v : ℕ) (r m : Message) → 1 ≤ s → long r ≤ s → long (substitute v r m) ≤ long m * s
unfolding items substitute
long-substitute s v r (name n) h l = omega arith
long-substitute s v r (variable u) h l = by_test (eqb u v) (λ t. rw t (omega arith)) (λ t. rw t (omega arith))
long-substitute s v r (enter m) h l = omega arith
long-substitute s v r (exit m) h l = omega arith
long-substitute s v r (opens m) h l = omega arith
long-substitute s v r empty_message h l = omega arith
long-substitute s v r (path m k) h l = omega (
  arith,
  length-append (items (substitute v r m)) (items (substitute v r k)),
  ap (λ (n : ℕ). n * s) (length-append (items m) (items k)),
  long-substitute s v r m h l,
  long-substitute s v r k h l,
)

long-resolve : (s : ℕ) (σ : Bindings) (m : Message) → 1 ≤ s → Small s σ → long (resolve σ m) ≤ long m * s ^ length σ
unfolding resolve
long-resolve s [] m h o = rw (pow-zero s) (omega arith)
long-resolve s (p ∷ σ) m h o =
    rw (pow-succ' s (length σ), ← mul_assoc (long m) s (s ^ length σ))
    (le_trans (long-resolve s σ (substitute p.0 p.1 m) h o.1) (mul-le-mul_right (s ^ length σ) (long-substitute s p.0 p.1 m h o.0)))

-- a message with no items has none under any bindings
none-resolve : (σ : Bindings) (m : Message) → long m ≡ 0 → long (resolve σ m) ≡ 0
unfolding resolve
none-resolve [] m h = h
none-resolve (p ∷ σ) m h =
    let f = long-substitute (suc (long p.1)) p.0 p.1 m (omega arith) (omega arith) in
    none-resolve σ (substitute p.0 p.1 m) (omega (arith, rw h at f))

-- an offset that lies under the items of its message lies under the bound
offset-bound : (s r o : ℕ) (σ : Bindings) (m : Message) → long m ≤ s → Small s σ → length σ ≤ r → o < long (resolve σ m) → o < s ^ suc r
offset-bound zero r o σ m l b k h = absurd (let w : ⊥ = omega (arith, none-resolve σ m (omega arith)) in w)
offset-bound (suc s) r o σ m l b k h =
    le_trans h (le_trans (long-resolve (suc s) σ m (omega arith) b) (le_trans (mul-le-mul_right (suc s ^ length σ) l)
    (rw (← pow-succ' (suc s) (length σ)) (pow-le-pow_right (omega arith) (omega arith)))))

-- ---- the actor of a move has items left

record Active (σ : Bindings) (h : ClosureHead) : Type 0 where
  held : Action
  same : h ≡ action held
  left : held.offset < long (resolve σ held.message)

first_some : (l : List Message) → ¬ (Nothing ≡ first_item l) → no_items l ≡ false
unfolding first_item
first_some [] d = absurd (d refl)
first_some (m ∷ l) d = refl

active : (σ : Bindings) (h : ClosureHead) → ¬ (Nothing ≡ first_of (view_under σ) h) → Active σ h
unfolding first_of items_left
active σ (ambient m) d = absurd (d refl)
active σ (action a) d = record {
  held = a;
  same = refl;
  left = leb-false (long (resolve σ a.message)) a.offset (sym (none_left_lem a.offset (items (resolve σ a.message))) ∙ first_some (drop a.offset (items (resolve σ a.message))) d);
}
active σ (receipt v) d = absurd (d refl)
active σ (output m) d = absurd (d refl)

-- what an action asks for is something
asks : (σ : Bindings) (h : ClosureHead) (f : First) → first_of (view_under σ) h ≡ f → ¬ (Nothing ≡ f) → Active σ h
asks σ h f e d = active σ h (λ z. d (z ∙ e))

-- ---- a part that is found stays where others are put

find-put : {H : Type 0} (a n : ℕ) (g : H) (s b : Body H) → eqb a n ≡ false → find_part a (put n g s b) ≡ find_part a b
unfolding find_part put
find-put a n g s close d = rw d
find-put a n g s (part i h b r) d = by_test (ltb n i)
    (λ t. rw (t, d))
    (λ t. by_test (eqb n i) (λ u. rw (t, u)) (λ u. rw (t, u) (ap (cond (eqb a i) (some (h, b))) (find-put a n g s r d))))

find-merge : {H : Type 0} (a : ℕ) (b c : Body H) → times_in a b ≡ 0 → find_part a (merge_parts b c) ≡ find_part a c
unfolding merge_parts total_over
find-merge a close c z = refl
find-merge a (part i h b r) c z =
    find-put a i h b (merge_parts r c) (by_test (eqb a i) (λ t. absurd (omega (arith, rw t at z))) (λ t. t)) ∙ find-merge a r c (omega arith)

-- ---- the tallies of the bound

-- the items of a part's message
abbrev long_in : ClosureHead → ℕ
long_in (ambient m) = long m
long_in (action a) = long a.message
long_in (receipt v) = 0
long_in (output m) = long m

-- what the messages have beyond s items
abbrev excess : ℕ → Tally
excess s = record {
  own = λ k h. long_in h - s;
  shut = λ h. false;
  guarded = λ k h. 0;
  ambients = λ m. refl;
  actions = λ a. refl;
  spends = λ k a. omega arith;
}

abbrev is_received : ClosureHead → ℕ
is_received (ambient m) = 0
is_received (action a) = 0
is_received (receipt v) = 1
is_received (output m) = 0

abbrev receiving : Tally
receiving = record {
  own = λ k h. is_received h;
  shut = λ h. false;
  guarded = λ k h. 0;
  ambients = λ m. refl;
  actions = λ a. refl;
  spends = λ k a. omega arith;
}

-- the moves that are left at the most: one for each receipt, and for each action what its offset lacks of B
abbrev due : ℕ → ClosureHead → ℕ
due B (ambient m) = 0
due B (action a) = B - a.offset
due B (receipt v) = 1
due B (output m) = 0

abbrev pub budget : ℕ → Tally
budget B = record {
  own = λ k h. due B h;
  shut = λ h. false;
  guarded = λ k h. 0;
  ambients = λ m. refl;
  actions = λ a. refl;
  spends = λ k a. omega arith;
}

action≢ambient : {a : Action} {m : Message} {P : Type 0} → ◌≡◌ {A = ClosureHead} (action a) (ambient m) → P
action≢ambient e = let z : ◌≡◌ {A = ℕ} 0 1 = cc in absurd (omega arith)

-- ---- what a move costs

abbrev Distinct : Closure → Type 0
Distinct b = (j : ℕ) → times_in j b ≤ 1

module _ (s r : ℕ) (σ : Bindings) (small : Small s σ) (few : length σ ≤ r) where
  B : ℕ
  B = s ^ suc r

  -- the actor is found, and its message has at most s items
  spent-costs : (n : ℕ) (b c : Closure) (h : ClosureHead) → find_part n b ≡ some (h, c) → Active σ h → long_in h ≤ s → tally_of (budget B) (spend (view_under σ) n b) + 1 ≤ tally_of (budget B) b
  unfolding B
  spent-costs n b c h e x l =
      let a = x.held in
      let o : a.offset < B = offset-bound s r a.offset σ a.message (subst (λ (g : ClosureHead). long_in g ≤ s) x.same l) small few x.left in
      omega (arith, of-spent (budget B) σ n b a c (found e x.same))

  -- a part of a tree whose messages have at most s items has one
  found-short : (n : ℕ) (b c : Closure) (h : ClosureHead) → find_part n b ≡ some (h, c) → tally_of (excess s) b ≡ 0 → (long_in h ≤ s) × (tally_of (excess s) c ≡ 0)
  found-short n b c h e z = let f = of-find (excess s) n b (h, c) e in (omega arith, omega arith)

  here-costs : (a t : ℕ) (b c : Closure) (news : Bindings) → Here (view_under σ) a t b c news → tally_of (excess s) b ≡ 0 → Distinct b → tally_of (budget B) c + 1 ≤ tally_of (budget B) b
  here-costs a t b c news (by-open x e) z d =
      let k = asks σ x.doer _ x.asked (λ w. let q : ◌≡◌ {A = ℕ} 0 1 = cc in omega arith) in
      let g = head_name-inv (view_under σ) x.goal x.sought x.named in
      let n : eqb a t ≡ false = apart a t b x.actor x.target (λ w. action≢ambient (sym k.same ∙ ap (λ (p : ClosureHead × Closure). p.0) w ∙ g.1)) in
      let f : find_part a (remove_part t b) ≡ some (x.doer, x.after) = find-remove_part a t b n ∙ x.actor in
      let l : times_in a x.room ≡ 0 = omega (arith, ap one_if (eq-eqb a a refl), find-total (λ i h. one_if (eqb a i)) t b _ x.target, find-total (λ i h. one_if (eqb a i)) a (remove_part t b) _ f, d a) in
      rw x.result (omega (
        arith,
        spent-costs a (merge_parts x.room (remove_part t b)) x.after x.doer (find-merge a x.room (remove_part t b) l ∙ f) k (found-short a b x.after x.doer x.actor z).0,
        of-merge (budget B) x.room (remove_part t b),
        of-find (budget B) t b _ x.target,
      ))
  here-costs a t b c news (by-receive x) z d = rw x.result (omega (
    arith,
    of-merge (budget B) x.after (remove_part t (remove_part a b)),
    of-remove_part (budget B) t (remove_part a b),
    of-find (budget B) a b _ x.actor,
  ))
  here-costs a t b c news (by-enter x e) z d =
      let k = asks σ x.doer _ x.asked (λ w. let q : ◌≡◌ {A = ℕ} 0 1 = cc in omega arith) in
      let w = (found-short x.mover b x.inside x.shell x.around z).1 in
      rw x.result (omega (
        arith,
        of-alter (budget B) t (put x.mover x.shell (spend (view_under σ) a x.inside)) (remove_part x.mover b) _ (entered-target (view_under σ) x) refl,
        of-put (budget B) x.mover x.shell (spend (view_under σ) a x.inside) x.room,
        spent-costs a x.inside x.after x.doer x.actor k (found-short a x.inside x.after x.doer x.actor w).0,
        of-find (budget B) x.mover b _ x.around,
      ))
  here-costs a t b c news (by-exit x e) z d =
      let k = asks σ x.doer _ x.asked (λ w. let q : ◌≡◌ {A = ℕ} 0 1 = cc in omega arith) in
      let v = (found-short t b x.room x.goal x.target z).1 in
      let w = (found-short x.mover x.room x.inside x.shell x.around v).1 in
      rw x.result (omega (
        arith,
        of-put (budget B) x.mover x.shell (spend (view_under σ) a x.inside) (alter t (λ g. g) (remove_part x.mover) b),
        of-alter (budget B) t (remove_part x.mover) b _ x.target refl,
        spent-costs a x.inside x.after x.doer x.actor k (found-short a x.inside x.after x.doer x.actor w).0,
        of-find (budget B) x.mover x.room _ x.around,
      ))

  makes-costs : (a t : ℕ) {b c : Closure} {news : Bindings} → Makes (view_under σ) (move_here (view_under σ) a t) b c news → tally_of (excess s) b ≡ 0 → Distinct b → tally_of (budget B) c + 1 ≤ tally_of (budget B) b
  unfolding tally_of total_over
  makes-costs a t (now {b} m e) z d = here-costs a t b m.body m.news (here-inv (view_under σ) a t b m e) z d
  makes-costs a t (inner e x) z d = omega (arith, makes-costs a t x (omega arith) (λ j. omega (arith, d j)))
  makes-costs a t (outer x) z d = omega (arith, makes-costs a t x (omega arith) (λ j. omega (arith, d j)))

-- ---- the state of a run whose script has r receipts and messages of at most s items
pub record Bounded (s r : ℕ) (σ : Bindings) (b : Closure) : Type 0 where
  pub small : Small s σ
  pub short : tally_of (excess s) b ≡ 0
  pub few : tally_of receiving b + length σ ≤ r
  pub distinct : Distinct b

bounded-step : (s r : ℕ) (σ : Bindings) (b c : Closure) (news : Bindings) → Distinct c → TallyStep b c news → Bounded s r σ b → Bounded s r (news ++ σ) c
bounded-step s r σ b c news d (spends e l) x = rw e (record { small = x.small; short = omega (arith, x.short, l (excess s)); few = omega (arith, x.few, l receiving); distinct = d })
bounded-step s r σ b c news d (takes y) x = rw y.told (record {
  small = (omega (arith, x.short, y.law (excess s)), x.small);
  short = omega (arith, x.short, y.law (excess s));
  few = omega (arith, x.few, y.law receiving);
  distinct = d;
})

-- THEOREM: a move takes one from the budget.
pub move-costs : (s r : ℕ) (σ : Bindings) (a t : ℕ) (b : Closure) (m : MoveMade Action) → closure_move σ a t b ≡ some m → Bounded s r σ b →
    Bounded s r (m.news ++ σ) m.body × (tally_of (budget (s ^ suc r)) m.body + 1 ≤ tally_of (budget (s ^ suc r)) b)
unfolding B
move-costs s r σ a t b m e x =
    let y = closure-inv σ a t b m e in
    let c = y.unsettled in
    let k : Distinct m.body = λ j. subst (λ (d : Closure). times_in j d ≤ 1) (sym y.settled) (omega (
      arith,
      settle-total (λ i h. one_if (eqb j i)) (all_spent (m.news ++ σ)) c,
      made-total (view_under σ) (λ i h. one_if (eqb j i)) 0 (by-numbers (view_under σ) (λ i. one_if (eqb j i)) 0 (λ v n d. omega arith) (λ i l. omega arith)) a t y.makes,
      x.distinct j,
    )) in (
      bounded-step s r σ b m.body m.news k (move_step σ a t b m e) x,
      omega (
        arith,
        ap (tally_of (budget (s ^ suc r))) y.settled,
        of-settle (budget (s ^ suc r)) (m.news ++ σ) c,
        makes-costs s r σ x.small (omega (arith, x.few)) a t y.makes x.short x.distinct,
      ),
    )

-- ---- when the script begins

head-start : (n : ℕ) (h : Head Message) → (due n (whole_head h) ≡ is_receipt h + is_action h * n) × (is_received (whole_head h) ≡ is_receipt h) × (long_in (whole_head h) ≡ items_of h)
unfolding whole_head
head-start n (ambient m) = (omega arith, refl, refl)
head-start n (action m) = (omega arith, refl, refl)
head-start n (receipt v) = (omega arith, refl, refl)
head-start n (output m) = (omega arith, refl, refl)

pub budget-start : (n : ℕ) (b : Script) → tally_of (budget n) (closure_of b) ≡ receipts_in b + actions_in b * n
unfolding tally_of closure_of map_heads receipts_in actions_in total_over
budget-start n close = omega arith
budget-start n (part i w b r) = omega (arith, (head-start n w.head).0, budget-start n b, budget-start n r)

receiving-start : (b : Script) → tally_of receiving (closure_of b) ≡ receipts_in b
unfolding tally_of closure_of map_heads receipts_in total_over
receiving-start close = refl
receiving-start (part i w b r) = omega (arith, (head-start 0 w.head).1, receiving-start b, receiving-start r)

short-start : (s : ℕ) (b : Script) → most_items b ≤ s → tally_of (excess s) (closure_of b) ≡ 0
unfolding tally_of closure_of map_heads most_items greatest
short-start s close l = refl
short-start s (part i w b r) l = omega (arith, (head-start 0 w.head).2, short-start s b (omega arith), short-start s r (omega arith))

-- THEOREM: the closure that a script begins with, settled, has a budget of r + a × s ^ (r + 1) at the most.
pub started-bounded : (ws : List ℕ) (p : Script × Cursor) → read_script ws ≡ got p → Bounded (most_items p.0) (receipts_in p.0) [] (settle_under [] (closure_of p.0))
started-bounded ws p e =
    let b = closure_of p.0 in
    record {
      small = tt;
      short = omega (arith, of-settle (excess (most_items p.0)) [] b, short-start (most_items p.0) p.0 (omega arith));
      few = omega (arith, of-settle receiving [] b, receiving-start p.0);
      distinct = λ j. omega (arith, settle-total (λ i h. one_if (eqb j i)) (all_spent []) b, script-distinct ws p e j);
    }

pub started-budget : (b : Script) → tally_of (budget (most_items b ^ suc (receipts_in b))) (settle_under [] (closure_of b)) ≤ moves_bound b
unfolding moves_bound
started-budget b =
    let n : ℕ = most_items b ^ suc (receipts_in b) in
    omega (arith, of-settle (budget n) [] (closure_of b), budget-start n b)

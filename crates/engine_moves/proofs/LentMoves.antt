-- The moves as they are made on lent arrays: the sets are changed, the actor's item is spent or its variable bound, and what
-- stands is settled. Each array here is the one before it with some entries changed. Assumes nothing.
use Prim.Native.Nat.{ℕ, ◌+◌, ◌≤◌, ◌<◌}
use mathlib.Core.List.{List}
use mathlib.Core.Path.{◌≡◌, refl, sym, ap, ◌∙◌, subst₂, transport}
use native.Mathlib.Omega.{arith}
use lib.Dec.{eqb}
use lib.ListN.{get_or, set, length, length-set}
use lib.Seq.{get_or-set_other}
use borrow.Author.Tests.{eqb-true, eqb-false}
use Rattle.base_sets.specs.Sets.{members, inserted, removed, joined}
use Rattle.read_scripts.specs.Represents.{body_in}
use Rattle.base_slices.proofs.Tests.{by_test}
use Rattle.theory_closures.specs.Closure.{Closure, settle_under}
use Rattle.engine_states.specs.Represents.{bound_in, Ready, Represents}
use Rattle.engine_states.specs.declared.State.{State}
use Rattle.engine_targets.specs.Makes.{Opens, Enters, Exits, Received, Receives}
use Rattle.base_arrays.specs.Stretches.{stretch}
use Rattle.engine_state_arrays.specs.Lent.{kinds_in, starts_in, bindings_at, own_state, Small, LentReady}
use Rattle.base_arrays.proofs.Copying.{length-stretch}
use Rattle.engine_state_arrays.proofs.Standing.{body-in, kids-set, looks-same}
use Rattle.engine_settling.proofs.Settled.{ready-same}
use Rattle.engine_moves.proofs.Finishing.{opens, enters, exits, receives, room}

-- sets that differ in bodies alone serve as well
pub lends-bodies : (script sets sets' numbers : List ℕ) → LentReady script sets numbers → length sets' ≡ 131 → ((i : ℕ) → 65 ≤ i → get_or sets' i 0 ≡ get_or sets i 0) → LentReady script sets' numbers
lends-bodies script sets sets' numbers L long same = record {
  sets-long = long;
  numbers-long = L.numbers-long;
  small = L.small;
  ready = ready-same script (kinds_in numbers) (starts_in numbers) (own_state sets numbers) (own_state sets' numbers) refl (sym (looks-same sets sets' numbers same)) refl L.ready;
}

-- one body is set
pub lends-set : (script sets numbers : List ℕ) (i v : ℕ) → i < 65 → LentReady script sets numbers → LentReady script (set sets i v) numbers
lends-set script sets numbers i v low L =
    lends-bodies script sets (set sets i v) numbers L (length-set sets i v ∙ L.sets-long) (λ j l. get_or-set_other sets i j v 0 (λ e. let z : ⊥ = omega arith in z))

-- what settling promises of the arrays
abbrev pub Settled : (sets sets' numbers : List ℕ) → Type 0
Settled sets sets' numbers =
    (script kinds starts : List ℕ) (weight spent : ℕ) (b : Closure) → kinds_in numbers ≡ kinds → Ready script kinds starts (own_state sets numbers) → spent < 4294967295
    → Represents script kinds starts weight spent (own_state sets numbers) b → Represents script kinds starts weight spent (own_state sets' numbers) (settle_under (bound_in script (own_state sets numbers)) b)

-- ---- an item of the actor a is spent: `sets` and `numbers` before the move, `sets₁` with the bodies changed, `sets₂` and
-- `numbers₂` with the item spent, `sets₃` settled

module _ (script sets numbers sets₁ sets₂ numbers₂ sets₃ : List ℕ) (L : LentReady script sets numbers) (L₂ : LentReady script sets₂ numbers₂) (ek : kinds_in numbers₂ ≡ kinds_in numbers) (es : starts_in numbers₂ ≡ starts_in numbers)
    (same : (own_state sets₂ numbers₂).kids ≡ (own_state sets₁ numbers).kids) (bound : bindings_at numbers₂ ≡ bindings_at numbers) (settled : Settled sets₂ sets₃ numbers₂)
    (a : ℕ) (low : a < 64)
    (raised : get_or (kinds_in numbers) a 0 ≡ 2 → get_or (stretch 128 64 numbers) a 0 < 4294967295 → stretch 128 64 numbers₂ ≡ set (stretch 128 64 numbers) a (get_or (stretch 128 64 numbers) a 0 + 1)) where
  abbrev s : State
  s = own_state sets numbers

  ready : Ready script (kinds_in numbers) (starts_in numbers) (own_state sets₂ numbers₂)
  ready = subst₂ (λ (k : List ℕ) (l : List ℕ). Ready script k l (own_state sets₂ numbers₂)) ek es L₂.ready

  within : a < length s.offsets
  within = omega (arith, length-stretch 128 64 numbers)

  inside : (i : ℕ) → i < 65 → i < length s.kids
  inside i l = omega (arith, length-set (stretch 0 65 sets) 64 (get_or sets 64 0), length-stretch 0 65 sets)

  abbrev settled_then : (script' starts' : List ℕ) (weight spent : ℕ) (b : Closure) → Ready script' (kinds_in numbers) starts' (own_state sets₂ numbers₂) → spent < 4294967295 → Represents script' (kinds_in numbers) starts' weight spent (own_state sets₂ numbers₂) b
      → Represents script' (kinds_in numbers) starts' weight spent (own_state sets₃ numbers₂) (settle_under (bound_in script' (own_state sets₂ numbers₂)) b)
  settled_then script' starts' weight spent b = settled script' (kinds_in numbers) starts' weight spent b ek

  module _ (p t m : ℕ) (lp : p < 65) (lt : t < 65) (changed : sets₁ ≡ set sets p m) (em : members m ≡ joined (body_in sets t) (removed t (body_in sets p))) where
    pub opened : Opens script (kinds_in numbers) (starts_in numbers) s (own_state sets₃ numbers₂) p a t
    opened = opens script (kinds_in numbers) (starts_in numbers) s (own_state sets₂ numbers₂) (own_state sets₃ numbers₂) refl ready settled_then a bound within raised p t m (inside p lp)
        (same ∙ ap (λ (l : List ℕ). (own_state l numbers).kids) changed ∙ kids-set sets p m lp L.sets-long)
        (em ∙ (λ q. joined (sym (body-in sets t lt) q) (removed t (sym (body-in sets p lp) q))))

  module _ (p from into m n : ℕ) (lf : from < 65) (li : into < 65) (changed : sets₁ ≡ set (set sets from m) into n) (loses : members m ≡ removed p (body_in sets from)) (gains : members n ≡ inserted p (body_in (set sets from m) into)) where
    kids : (own_state sets₂ numbers₂).kids ≡ set (set s.kids from m) into n
    kids = same ∙ ap (λ (l : List ℕ). (own_state l numbers).kids) changed ∙ kids-set (set sets from m) into n li (length-set sets from m ∙ L.sets-long)
        ∙ ap (λ (l : List ℕ). set l into n) (kids-set sets from m lf L.sets-long)

    lost : members m ≡ removed p (body_in s.kids from)
    lost = loses ∙ ap (removed p) (sym (body-in sets from lf))

    gained : members n ≡ inserted p (body_in (set s.kids from m) into)
    gained = gains ∙ ap (inserted p) (sym (body-in (set sets from m) into li) ∙ ap (λ (l : List ℕ). body_in l into) (kids-set sets from m lf L.sets-long))

    pub entered : Enters script (kinds_in numbers) (starts_in numbers) s (own_state sets₃ numbers₂) p from a into
    entered = enters script (kinds_in numbers) (starts_in numbers) s (own_state sets₂ numbers₂) (own_state sets₃ numbers₂) refl ready settled_then a bound within raised p from into m n (inside from lf) (inside into li) kids lost gained

    pub left : Exits script (kinds_in numbers) (starts_in numbers) s (own_state sets₃ numbers₂) p from into a
    left = exits script (kinds_in numbers) (starts_in numbers) s (own_state sets₂ numbers₂) (own_state sets₃ numbers₂) refl ready settled_then a bound within raised p from into m n (inside from lf) (inside into li) kids lost gained li

-- ---- a receipt: `sets₁` and `numbers₁` with the variable bound, `sets₂` settled

module _ (script sets numbers sets₁ numbers₁ sets₂ : List ℕ) (kinds starts : List ℕ) (old new : State) (L : LentReady script sets numbers) (ek : kinds ≡ kinds_in numbers) (es : starts ≡ starts_in numbers)
    (eo : old ≡ own_state sets numbers) (long : length sets₁ ≡ 131) (wide : length numbers₁ ≡ 481) (ek₁ : kinds_in numbers₁ ≡ kinds) (es₁ : starts_in numbers₁ ≡ starts) (small : Small numbers₁) (en : own_state sets₁ numbers₁ ≡ new)
    (ready : Ready script kinds starts new) where
  abbrev was : State
  was = own_state sets numbers

  pub bound-lends : LentReady script sets₁ numbers₁
  bound-lends = record { sets-long = long; numbers-long = wide; small = small; ready = transport (λ q. Ready script (sym ek₁ q) (sym es₁ q) (sym en q)) ready }

  module _ (settled : Settled sets₁ sets₂ numbers₁) (p a t : ℕ) (lp : p < 65) (R : (old.bindings.first ≡ 0 → ⊥) → Received script kinds starts old new p a t) where
    ready₁ : Ready script (kinds_in numbers) (starts_in numbers) (own_state sets₁ numbers₁)
    ready₁ = transport (λ q. Ready script (ek q) (es q) (sym en q)) ready

    if_some : (was.bindings.first ≡ 0 → ⊥) → Received script (kinds_in numbers) (starts_in numbers) was (own_state sets₁ numbers₁) p a t
    if_some n = transport (λ q. Received script (ek q) (es q) (eo q) (sym en q) p a t) (R (λ e. n (ap (λ (x : State). x.bindings.first) (sym eo) ∙ e)))

    pub receipt-made : Receives script (kinds_in numbers) (starts_in numbers) was (own_state sets₂ numbers₁) p a t
    receipt-made weight spent b few H can = by_test (eqb was.bindings.first 0)
        (λ u. absurd (room script (kinds_in numbers) (starts_in numbers) was weight spent b H p a t can.0 can.1 (eqb-true _ 0 u)))
        (λ u.
        let Z = if_some (eqb-false _ 0 u) in
        receives script (kinds_in numbers) (starts_in numbers) was (own_state sets₁ numbers₁) (own_state sets₂ numbers₁) refl ready₁
        (λ script' starts' w o d. settled script' (kinds_in numbers) starts' w o d (ek₁ ∙ ek))
        p a t Z.set-of Z.offsets Z.first Z.news (omega (arith, lp, length-set (stretch 0 65 sets) 64 (get_or sets 64 0), length-stretch 0 65 sets)) Z.kids Z.members-of weight spent b few H can)

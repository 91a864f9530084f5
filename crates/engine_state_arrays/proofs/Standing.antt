-- The state that the two lent arrays hold, and what becomes of it when entries of them are set. Assumes nothing.
use Prim.Native.Nat.{ℕ, ◌+◌, ◌≤◌, ◌<◌}
use mathlib.Core.Bool.{Bool, cond}
use mathlib.Core.List.{List}
use mathlib.Core.Path.{◌≡◌, refl, sym, ap, ◌∙◌, subst, transport}
use native.Mathlib.Omega.{arith}
use lib.Dec.{eqb, ltb}
use lib.ListN.{get_or, set, length, length-set}
use lib.Seq.{get_or-set_same, get_or-set_other, set-get_or}
use borrow.Author.Tests.{eqb-true, eqb-false, ltb-true, ltb-false}
use Rattle.read_messages.specs.declared.First.{First}
use Rattle.base_sets.specs.Sets.{members, elem, inserted, removed}
use Rattle.read_scripts.specs.Tree.{times_in}
use Rattle.read_scripts.specs.Represents.{body_in}
use Rattle.engine_held_bindings.specs.Held.{bindings_of}
use Rattle.theory_machine.specs.Moves.{first_of}
use Rattle.base_slices.proofs.Tests.{by_test}
use Rattle.theory_closures.specs.Closure.{Closure, view_under}
use Rattle.engine_states.specs.Seen.{name_in, act_of, aim_of, busy_of, Seen}
use Rattle.engine_states.specs.Represents.{head_of, heads, bound_in, Counted}
use Rattle.engine_targets.specs.Targets.{TargetsOf}
use Rattle.base_arrays.specs.Stretches.{stretch}
use Rattle.engine_state_arrays.specs.Lent.{kinds_in, starts_in, bindings_at, state_in, own_state, Small, LentReady}
use Rattle.engine_states.specs.declared.State.{State}
use Rattle.engine_states.specs.declared.Deed.{Deed}
use Rattle.base_arrays.proofs.Copying.{length-stretch, get_or-stretch, stretch-same, stretch-set}
use Rattle.engine_state_arrays.proofs.Rows.{rows-same}
use Rattle.engine_states.proofs.Deeds.{kept_set, kept-other, seen-spent, lower, raised-low}

-- ---- the bodies

pub standing-kids : (sets : List ℕ) → set (stretch 0 65 sets) 64 (get_or sets 64 0) ≡ stretch 0 65 sets
standing-kids sets =
    ap (set (stretch 0 65 sets) 64) (sym (get_or-stretch 0 65 64 sets (omega arith))) ∙ set-get_or (stretch 0 65 sets) 64 0

-- the entries of the sets are the bodies
pub body-in : (sets : List ℕ) (i : ℕ) → i < 65 → body_in (set (stretch 0 65 sets) 64 (get_or sets 64 0)) i ≡ body_in sets i
body-in sets i low =
    let e : 0 + i ≡ i = omega arith in
    ap members (ap (λ (l : List ℕ). get_or l i 0) (standing-kids sets) ∙ get_or-stretch 0 65 i sets low ∙ ap (λ (n : ℕ). get_or sets n 0) e)

pub kids-same : (sets sets' : List ℕ) → ((i : ℕ) → i < 65 → get_or sets' i 0 ≡ get_or sets i 0) → set (stretch 0 65 sets') 64 (get_or sets' 64 0) ≡ set (stretch 0 65 sets) 64 (get_or sets 64 0)
kids-same sets sets' same = standing-kids sets' ∙ stretch-same 0 65 sets' sets (λ j a b. same j (omega arith)) ∙ sym (standing-kids sets)

pub kids-set : (sets : List ℕ) (i v : ℕ) → i < 65 → length sets ≡ 131 → set (stretch 0 65 (set sets i v)) 64 (get_or (set sets i v) 64 0) ≡ set (set (stretch 0 65 sets) 64 (get_or sets 64 0)) i v
kids-set sets i v low long =
    let e : i ≡ 0 + i = omega arith in
    standing-kids (set sets i v) ∙ stretch-set 0 65 i i v sets e low (omega arith) ∙ ap (λ (l : List ℕ). set l i v) (sym (standing-kids sets))

-- ---- arrays that hold the same but for the bodies

pub looks-same : (sets sets' numbers : List ℕ) → ((i : ℕ) → 65 ≤ i → get_or sets' i 0 ≡ get_or sets i 0) → (own_state sets' numbers).notes ≡ (own_state sets numbers).notes
looks-same sets sets' numbers same =
    let ea = stretch-same 65 64 sets' sets (λ j a b. same j a) in
    λ q. record { named = same 129 (omega arith) q; names = stretch 192 64 numbers; acts = stretch 256 64 numbers; aims = ea q; busy = same 130 (omega arith) q }

-- the state with `top` as its top parts is the one whose entry 64 is set to it
pub standing-top : (sets numbers : List ℕ) (top : ℕ) → length sets ≡ 131 → own_state (set sets 64 top) numbers ≡ state_in sets numbers top
standing-top sets numbers top long =
    let others : (i : ℕ) → 65 ≤ i → get_or (set sets 64 top) i 0 ≡ get_or sets i 0 = λ i l. get_or-set_other sets 64 i top 0 (λ e. let z : ⊥ = omega arith in z) in
    let el = looks-same sets (set sets 64 top) numbers others in
    let ek = standing-kids (set sets 64 top) ∙ stretch-set 0 65 64 64 top sets refl (omega arith) (omega arith) in
    λ q. record { kids = ek q; offsets = stretch 128 64 numbers; notes = el q; bindings = bindings_at numbers }

-- a closure's parts are numbered below 64
pub below_64 : (b : Closure) → ((i : ℕ) → 64 ≤ i → times_in i b ≡ 0) → (i : ℕ) → 1 ≤ times_in i b → i < 64
below_64 b inside i c = by_test (ltb i 64) (λ t. ltb-true i 64 t) (λ t. absurd (let z : ⊥ = omega (arith, inside i (ltb-false i 64 t)) in z))

-- ---- an item is spent

module _ (sets numbers : List ℕ) (a o act aim busy : ℕ) (low : a < 64) (long : length sets ≡ 131) (wide : length numbers ≡ 481) where
  abbrev pub sets₂ : List ℕ
  sets₂ = set (set sets (65 + a) aim) 130 busy

  abbrev pub numbers₂ : List ℕ
  numbers₂ = set (set numbers (128 + a) o) (256 + a) act

  set-kept : (i : ℕ) → (i ≡ 65 + a → ⊥) → (i ≡ 130 → ⊥) → get_or sets₂ i 0 ≡ get_or sets i 0
  set-kept i x y = get_or-set_other (set sets (65 + a) aim) 130 i busy 0 y ∙ get_or-set_other sets (65 + a) i aim 0 x

  number-kept : (i : ℕ) → (i ≡ 128 + a → ⊥) → (i ≡ 256 + a → ⊥) → get_or numbers₂ i 0 ≡ get_or numbers i 0
  number-kept i x y = get_or-set_other (set numbers (128 + a) o) (256 + a) i act 0 y ∙ get_or-set_other numbers (128 + a) i o 0 x

  pub spent-kids : (own_state sets₂ numbers₂).kids ≡ (own_state sets numbers).kids
  spent-kids = kids-same sets sets₂ (λ i l. set-kept i (λ e. let z : ⊥ = omega arith in z) (λ e. let z : ⊥ = omega arith in z))

  -- neither the table nor the bindings are changed
  early : (i n : ℕ) → i + n ≤ 128 → stretch i n numbers₂ ≡ stretch i n numbers
  early i n h = stretch-same i n numbers₂ numbers (λ j l m. number-kept j (λ e. let z : ⊥ = omega arith in z) (λ e. let z : ⊥ = omega arith in z))

  pub kinds_kept : kinds_in numbers₂ ≡ kinds_in numbers
  kinds_kept = early 0 64 (omega arith)

  pub starts-kept : starts_in numbers₂ ≡ starts_in numbers
  starts-kept = early 64 64 (omega arith)

  pub spent-bindings : bindings_at numbers₂ ≡ bindings_at numbers
  spent-bindings =
      let rows = rows-same 320 32 numbers₂ numbers (λ j l m. number-kept j (λ e. let z : ⊥ = omega arith in z) (λ e. let z : ⊥ = omega arith in z)) in
      let first = number-kept 480 (λ e. let z : ⊥ = omega arith in z) (λ e. let z : ⊥ = omega arith in z) in
      λ q. record { rows = rows q; first = first q }

  pub spent-offsets : stretch 128 64 numbers₂ ≡ set (stretch 128 64 numbers) a o
  spent-offsets =
      stretch-same 128 64 numbers₂ (set numbers (128 + a) o) (λ j l m. get_or-set_other (set numbers (128 + a) o) (256 + a) j act 0 (λ e. let z : ⊥ = omega arith in z))
      ∙ stretch-set 128 64 a (128 + a) o numbers refl low (omega arith)

  spent-names : stretch 192 64 numbers₂ ≡ stretch 192 64 numbers
  spent-names = stretch-same 192 64 numbers₂ numbers (λ j l m. number-kept j (λ e. let z : ⊥ = omega arith in z) (λ e. let z : ⊥ = omega arith in z))

  spent-acts : stretch 256 64 numbers₂ ≡ set (stretch 256 64 numbers) a act
  spent-acts =
      stretch-set 256 64 a (256 + a) act (set numbers (128 + a) o) refl low (omega (arith, length-set numbers (128 + a) o))
      ∙ ap (λ (l : List ℕ). set l a act) (stretch-same 256 64 (set numbers (128 + a) o) numbers (λ j l m. get_or-set_other numbers (128 + a) j o 0 (λ e. let z : ⊥ = omega arith in z)))

  spent-aims : stretch 65 64 sets₂ ≡ set (stretch 65 64 sets) a aim
  spent-aims =
      stretch-same 65 64 sets₂ (set sets (65 + a) aim) (λ j l m. get_or-set_other (set sets (65 + a) aim) 130 j busy 0 (λ e. let z : ⊥ = omega arith in z))
      ∙ stretch-set 65 64 a (65 + a) aim sets refl low (omega arith)

  spent-busy : get_or sets₂ 130 0 ≡ busy
  spent-busy = get_or-set_same (set sets (65 + a) aim) 130 busy 0 (omega (arith, length-set sets (65 + a) aim))

  spent-named : get_or sets₂ 129 0 ≡ get_or sets 129 0
  spent-named = set-kept 129 (λ e. let z : ⊥ = omega arith in z) (λ e. let z : ⊥ = omega arith in z)

  spent-small : Small numbers → act < 256 → Small numbers₂
  spent-small S h i m = (
    subst (λ (n : ℕ). n < 256) (sym (number-kept i (λ e. let z : ⊥ = omega arith in z) (λ e. let z : ⊥ = omega arith in z))) (S i m).0,
    by_test (eqb i a)
        (λ t. let e : a ≡ i = sym (eqb-true i a t) in subst (λ (x : ℕ). get_or numbers₂ (256 + x) 0 < 256) e (subst (λ (n : ℕ). n < 256) (sym (get_or-set_same (set numbers (128 + a) o) (256 + a) act 0 (omega (arith, length-set numbers (128 + a) o)))) h))
        (λ t. subst (λ (n : ℕ). n < 256) (sym (number-kept (256 + i) (λ e. let z : ⊥ = omega arith in z) (λ e. let z : ⊥ = omega (arith, eqb-false i a t) in z))) (S i m).1),
  )

  -- the part a is read at its new offset
  module _ (script : List ℕ) (L : LentReady script sets numbers) (d : Deed) (item : First) (kind : get_or numbers a 0 ≡ 2) (eo : o ≡ get_or numbers (128 + a) 0 + 1) (ea : act ≡ d.act) (em : aim ≡ d.aim)
      (eb : members busy ≡ cond d.busy (inserted a (removed a (members (get_or sets 130 0)))) (removed a (members (get_or sets 130 0)))) (fits : act < 256)
      (first : o < 4294967295 → item ≡ first_of (view_under (bindings_of script (bindings_at numbers))) (head_of script 2 (get_or numbers (64 + a) 0) o))
      (deed : (p : Bool) → (d.act ≡ act_of 2 item) × ((i : ℕ) → i < 64 → elem i (members d.aim) ≡ aim_of 2 item p (name_in (get_or sets 129 0) (stretch 192 64 numbers) i)) × (d.busy ≡ busy_of 2 item)) where
    abbrev s : State
    s = own_state sets numbers

    abbrev r : State
    r = own_state sets₂ numbers₂

    within : a < length s.offsets
    within = omega (arith, length-stretch 128 64 numbers)

    -- the array of offsets with that of a raised
    abbrev raised : List ℕ
    raised = set s.offsets a (get_or s.offsets a 0 + 1)

    pub offsets-raised : r.offsets ≡ raised
    offsets-raised = spent-offsets ∙ ap (set s.offsets a) (eo ∙ ap (λ (n : ℕ). n + 1) (sym (get_or-stretch 128 64 a numbers low)))

    kind-is : get_or (kinds_in numbers) a 0 ≡ 2
    kind-is = let e : 0 + a ≡ a = omega arith in get_or-stretch 0 64 a numbers low ∙ ap (λ (n : ℕ). get_or numbers n 0) e ∙ kind

    raised_is : o ≡ get_or s.offsets a 0 + 1
    raised_is = eo ∙ ap (λ (n : ℕ). n + 1) (sym (get_or-stretch 128 64 a numbers low))

    seen_next : ((i : ℕ) → get_or raised i 0 < 4294967295) → Seen (bound_in script s) (heads script (kinds_in numbers) (starts_in numbers) raised) r.notes
    seen_next small = seen-spent script (kinds_in numbers) (starts_in numbers) s.offsets (bound_in script s) a s.notes r.notes d item within kind-is
        (L.ready.seen (λ i. lower s.offsets a i within small))
        (first (omega (arith, raised_is, raised-low s.offsets a within small))
        ∙ (λ q. first_of (view_under (bound_in script s)) (head_of script (sym kind-is q) (sym (get_or-stretch 64 64 a numbers low) q) (raised_is q))))
        deed
        (kept_set s.notes r.notes a d (omega (arith, length-stretch 256 64 numbers)) (omega (arith, length-stretch 65 64 sets)) acts aims busies)
        (kept-other s.notes r.notes a d acts aims busies)
        spent-named spent-names
      where
        acts : r.notes.acts ≡ set s.notes.acts a d.act
        acts = spent-acts ∙ ap (set (stretch 256 64 numbers) a) ea

        aims : r.notes.aims ≡ set s.notes.aims a d.aim
        aims = spent-aims ∙ ap (set (stretch 65 64 sets) a) em

        busies : members r.notes.busy ≡ cond d.busy (inserted a (removed a (members s.notes.busy))) (removed a (members s.notes.busy))
        busies = ap members spent-busy ∙ eb

    pub spent-lends : LentReady script sets₂ numbers₂
    spent-lends = record {
      sets-long = length-set (set sets (65 + a) aim) 130 busy ∙ length-set sets (65 + a) aim ∙ long;
      numbers-long = length-set (set numbers (128 + a) o) (256 + a) act ∙ length-set numbers (128 + a) o ∙ wide;
      small = spent-small L.small fits;
      ready = record {
        bound = subst (Counted script) (sym spent-bindings) L.ready.bound;
        seen =
            λ small. transport
            (λ q. Seen (bindings_of script (sym spent-bindings q)) (heads script (sym kinds_kept q) (sym starts-kept q) (sym offsets-raised q)) r.notes)
            (seen_next (subst (λ (l : List ℕ). (i : ℕ) → get_or l i 0 < 4294967295) offsets-raised small));
      };
    }

-- ---- the targets of an actor, found in what is lent

-- what is read of the lent arrays is what the state keeps
pub targets-lent : (sets numbers : List ℕ) (top : ℕ) (kids : List ℕ) → kids ≡ set (stretch 0 65 sets) 64 top → (p : ℕ → ℕ) (a : ℕ) (r : List ℕ) → a < 64
    → TargetsOf (body_in kids) (get_or numbers (256 + a) 0) (members (get_or sets (65 + a) 0)) p a r
    → TargetsOf (body_in (state_in sets numbers top).kids) (get_or (state_in sets numbers top).notes.acts a 0) (members (get_or (state_in sets numbers top).notes.aims a 0)) p a r
targets-lent sets numbers top kids e p a r l T =
    transport (λ q. TargetsOf (body_in (e q)) (sym (get_or-stretch 256 64 a numbers l) q) (members (sym (get_or-stretch 65 64 a sets l) q)) p a r) T

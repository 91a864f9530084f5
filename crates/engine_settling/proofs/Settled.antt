-- A state that is settled, and the first state of a script, represent the closures that the definitions make.
-- Assumes nothing.
use Prim.Native.Nat.{ℕ, ◌+◌, ◌≤◌, ◌<◌}
use mathlib.Core.List.{List, []}
use mathlib.Core.Path.{◌≡◌, refl, sym, ap, ◌∙◌, subst, transport}
use native.Mathlib.Omega.{arith}
use lib.Dec.{eqb}
use lib.ListN.{get_or, set, length, replicate}
use lib.Seq.{get_or-set_same, get_or-set_other}
use borrow.Author.Tests.{lt-ltb}
use Rattle.read_messages.specs.Message.{Message}
use Rattle.base_sets.specs.Sets.{members}
use Rattle.read_scripts.specs.Tree.{Head, close, part, one_if, parts, times_in, map_heads}
use Rattle.read_scripts.specs.Script.{Written, Script}
use Rattle.read_scripts.specs.Represents.{Held, body_in, head_at, head_in, unindexed, Tabled}
use Rattle.base_slices.proofs.Tails.{zeros}
use Rattle.read_scripts.proofs.Numbers.{numbered-range}
use Rattle.engine_bindings.specs.Bindings.{message_of}
use Rattle.engine_held_bindings.specs.declared.Bindings as arrays
use Rattle.engine_held_bindings.specs.Held.{bindings_of}
use Rattle.base_slices.proofs.Tests.{by_test}
use Rattle.theory_machine.proofs.Sums.{map-total, settle-total}
use Rattle.theory_closures.specs.Closure.{ClosureHead, Closure, all_spent, settle_under, whole_head, closure_of}
use Rattle.read_scripts.proofs.Tabled.{tops-map}
use Rattle.engine_states.specs.Represents.{head_of, heads, bound_in, Counted, Ready, Represents}
use Rattle.engine_states.specs.Searches.{SettlesBy}
use Rattle.engine_states.specs.Seen.{Seen}
use Rattle.engine_states.specs.declared.PartNotes.{PartNotes}
use Rattle.engine_states.specs.declared.State.{State}
use Rattle.engine_states.proofs.Holding.{numbers-differ, frame}
use Rattle.engine_states.proofs.Heads.{kind-ambient}
use Rattle.engine_state_arrays.specs.Lent.{kinds_in, own_state}
use Rattle.base_arrays.proofs.Copying.{get_or-stretch}
use Rattle.engine_state_arrays.proofs.Standing.{below_64, body-in, looks-same}
use Rattle.engine_settling.proofs.Settling.{settled-times}

-- the state after its parts are settled from the top
pub settled_is : (script kinds starts : List ℕ) (weight spent : ℕ) (sets numbers : List ℕ) (b : Closure) (after : List ℕ) (m : ℕ) → kinds_in numbers ≡ kinds → Ready script kinds starts (own_state sets numbers)
    → spent < 4294967295 → Represents script kinds starts weight spent (own_state sets numbers) b → length after ≡ 131
    → SettlesBy (members (get_or sets 130 0)) numbers (body_in sets) (body_in after) (body_in sets 64) (members m) 64
    → Represents script kinds starts weight spent (own_state (set after 64 m) numbers) (settle_under (bound_in script (own_state sets numbers)) b)
settled_is script kinds starts weight spent sets numbers b after m ek ready few R l S =
    let s = own_state sets numbers in
    let τ = bound_in script s in
    let w = heads script kinds starts s.offsets in
    let seen = ready.seen (λ i. omega (arith, R.spends i)) in
    let held : Held (body_in sets) w b = frame (body_in s.kids) (body_in sets) w w b R.held (λ i c. let low : i < 64 = below_64 b R.inside i c in (body-in sets i (omega arith), refl)) in
    let kind : (i : ℕ) → i < 64 → get_or numbers i 0 ≡ get_or kinds i 0 = λ i n. let e : i ≡ 0 + i = omega arith in ap (λ (x : ℕ). get_or numbers x 0) e ∙ sym (get_or-stretch 0 64 i numbers n) ∙ ap (λ (x : List ℕ). get_or x i 0) ek in
    let q = S τ w (λ i n. (seen.deeds i n).settles) (λ i n. ap (λ (x : ℕ). eqb x 1) (kind i n) ∙ kind-ambient script (get_or kinds i 0) (get_or starts i 0) (get_or s.offsets i 0)) b (sym (body-in sets 64 (omega arith)) ∙ R.top) held R.once (omega (arith, R.weighs, R.light)) in
    let inside : (i : ℕ) → 64 ≤ i → times_in i (settle_under τ b) ≡ 0 = λ i h. omega (arith, settled-times τ i b, R.inside i h) in
    record {
      top = body-in (set after 64 m) 64 (omega arith) ∙ ap members (get_or-set_same after 64 m 0 (omega arith)) ∙ q.0;
      held =
          frame (body_in after) (body_in (own_state (set after 64 m) numbers).kids) w w (settle_under τ b) q.1
          (λ i c. let low : i < 64 = below_64 (settle_under τ b) inside i c in (sym (body-in (set after 64 m) i (omega arith) ∙ ap members (get_or-set_other after 64 i m 0 (numbers-differ i 64 (settle_under τ b) c (inside 64 (omega arith))))), refl));
      once = λ i. omega (arith, settled-times τ i b, R.once i);
      inside = inside;
      light = R.light;
      weighs = omega (arith, settle-total (λ i h. 1) (all_spent τ) b, R.weighs);
      spends = R.spends;
    }

-- ---- the first state

-- a part whose start is a word of the script, with nothing spent
whole : (script : List ℕ) (kind start : ℕ) → start < 65536 → head_of script kind start 0 ≡ whole_head (head_at script kind start)
unfolding head_of head_at whole_head message_of
whole script kind start l = by_test (eqb kind 1)
    (λ t. rw (t, lt-ltb start 65536 l))
    (λ t. by_test (eqb kind 2) (λ u. rw (t, u)) (λ u. by_test (eqb kind 3) (λ v. rw (t, u, v)) (λ v. rw (t, u, v))))

held_whole : (k : ℕ → List ℕ) (w : ℕ → Head Message) (w' : ℕ → ClosureHead) → ((i : ℕ) → w' i ≡ whole_head (w i)) → (b : Script) → Held k w (unindexed b) → Held k w' (closure_of b)
unfolding closure_of map_heads
held_whole k w w' same close h = tt
held_whole k w w' same (part i g b r) h = (
  h.0 ∙ tops-map (λ (x : Written). x.head) b ∙ sym (tops-map (λ (x : Written). whole_head x.head) b),
  same i ∙ ap whole_head h.1,
  held_whole k w w' same b h.2,
  held_whole k w w' same r h.3,
)

pub begun : (script kinds starts kids : List ℕ) (n : ℕ) (s : State) (b : Script) → Tabled script (record { kinds = kinds; starts = starts; kids = kids; count = n }) b
    → s.kids ≡ kids → s.offsets ≡ replicate 64 0 → s.bindings.first ≡ 32
    → Represents script kinds starts (parts b) 0 s (closure_of b)
unfolding closure_of
begun script kinds starts kids n s b T ek eo ef =
    let zero : (i : ℕ) → get_or s.offsets i 0 ≡ 0 = λ i. ap (λ (o : List ℕ). get_or o i 0) eo ∙ zeros 64 i in
    let numbers : (j : ℕ) → times_in j (closure_of b) ≡ times_in j b = λ j. map-total (λ i h. one_if (eqb j i)) (λ (x : Written). whole_head x.head) b in
    let few : parts b ≤ 64 = omega (arith, T.few, T.counted) in
    record {
      top = ap (λ (l : List ℕ). body_in l 64) ek ∙ T.top ∙ sym (tops-map (λ (x : Written). whole_head x.head) b);
      held = subst (λ (l : List ℕ). Held (body_in l) (heads script kinds starts s.offsets) (closure_of b)) (sym ek)
          (held_whole (body_in kids) (head_in script kinds starts) (heads script kinds starts s.offsets)
          (λ i. ap (head_of script (get_or kinds i 0) (get_or starts i 0)) (zero i) ∙ whole script (get_or kinds i 0) (get_or starts i 0) (omega (arith, T.low i))) b T.held);
      once = λ i. omega (arith, numbers i, (numbered-range i 0 b T.numbered).once);
      inside = λ i h. omega (arith, numbers i, (numbered-range i 0 b T.numbered).over (omega arith));
      light = few;
      weighs = omega (arith, map-total (λ i h. 1) (λ (x : Written). whole_head x.head) b);
      spends = λ i. omega (arith, zero i);
    }

-- a state with the same offsets, notes and bindings is as ready
pub ready-same : (script kinds starts : List ℕ) (s r : State) → s.offsets ≡ r.offsets → s.notes ≡ r.notes → s.bindings ≡ r.bindings → Ready script kinds starts s → Ready script kinds starts r
ready-same script kinds starts s r eo el eb R = record {
  bound = subst (λ (b : arrays.Bindings). Counted script b) eb R.bound;
  seen =
      subst (λ (b : arrays.Bindings). ((i : ℕ) → get_or r.offsets i 0 < 4294967295) → Seen (bindings_of script b) (heads script kinds starts r.offsets) r.notes) eb
      (subst (λ (l : PartNotes). ((i : ℕ) → get_or r.offsets i 0 < 4294967295) → Seen (bound_in script s) (heads script kinds starts r.offsets) l) el
      (subst (λ (o : List ℕ). ((i : ℕ) → get_or o i 0 < 4294967295) → Seen (bound_in script s) (heads script kinds starts o) s.notes) eo R.seen));
}

-- ---- the state s is lent as sets and numbers; settled, the sets are sets₁, and r is read from them

module _ (script kinds starts : List ℕ) (s r : State) (sets sets₁ numbers : List ℕ) (ready : Ready script kinds starts s) (none : bound_in script s ≡ [])
    (old : own_state sets numbers ≡ s) (new : r ≡ own_state sets₁ numbers) (same : (i : ℕ) → 65 ≤ i → get_or sets₁ i 0 ≡ get_or sets i 0) where
  lent : Ready script kinds starts (own_state sets numbers)
  lent = subst (Ready script kinds starts) (sym old) ready

  pub first-ready : Ready script kinds starts r × (bound_in script r ≡ [])
  first-ready = (
    subst (Ready script kinds starts) (sym new) (ready-same script kinds starts (own_state sets numbers) (own_state sets₁ numbers) refl (sym (looks-same sets sets₁ numbers same)) refl lent),
    ap (bindings_of script) (ap (λ (y : State). y.bindings) new ∙ ap (λ (y : State). y.bindings) old) ∙ none,
  )

  pub first-settled : (weight : ℕ) (b : Closure) → Represents script kinds starts weight 0 s b
      → (Ready script kinds starts (own_state sets numbers) → Represents script kinds starts weight 0 (own_state sets numbers) b → Represents script kinds starts weight 0 (own_state sets₁ numbers) (settle_under (bound_in script (own_state sets numbers)) b))
      → Represents script kinds starts weight 0 r (settle_under [] b)
  first-settled weight b R settled =
      transport (λ q. Represents script kinds starts weight 0 (sym new q) (settle_under ((ap (bound_in script) old ∙ none) q) b))
      (settled lent (subst (λ (y : State). Represents script kinds starts weight 0 y b) (sym old) R))

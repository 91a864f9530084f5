-- SOMEWHERE: the insides of the named top ambients, one after the other, as a loop over the members of a set meets them.
-- Assumes nothing.
use Prim.Native.Nat.{ℕ, ◌^◌, ◌≤◌, ◌<◌}
use mathlib.Core.Bool.{true, false}
use mathlib.Core.List.{List, [], ◌∷◌, map, tail}
use mathlib.Core.Path.{◌≡◌, refl, sym, ap, ◌∙◌, subst}
use native.Mathlib.Omega.{arith}
use lib.Dec.{ltb}
use lib.ListN.{set, length}
use borrow.Author.Tests.{ltb-true, ltb-false}
use Rattle.base_sets.specs.Sets.{keep, members, elem, in_both, head_or}
use Rattle.base_sets.proofs.Members.{members_step, members-empty, first_below}
use Rattle.read_scripts.specs.Tree.{close, part, tops, total_over, times_in}
use Rattle.read_scripts.specs.Represents.{Held, body_in}
use Rattle.theory_machine.specs.Moves.{head_name, is_named}
use Rattle.base_slices.proofs.Tests.{by_test}
use Rattle.read_scripts.proofs.Numbers.{own-times}
use Rattle.theory_closures.specs.Closure.{ClosureHead, Closure, Bindings, view_under, ClosureMachine}
use Rattle.engine_states.specs.Seen.{Names}
use Rattle.engine_states.specs.Represents.{heads, bound_in, Ready, Represents}
use Rattle.engine_states.specs.declared.State.{State}
use Rattle.engine_targets.proofs.Locating.{seen-names}
use Rattle.theory_decision.specs.ClosureWalk.{beside, insides}
use Rattle.walk_stages.specs.Pieces.{Piece, Room}
use Rattle.walk_stages.proofs.Focused.{seen-told, top-told}

module _ (k : ℕ → List ℕ) (w : ℕ → ClosureHead) where
  -- the closures are the insides of those parts of b, in their order
  abbrev pub Rooms : Closure → List ℕ → List Closure → Type 0
  Rooms b [] [] = Unit {0}
  Rooms b [] (c ∷ cs) = ⊥
  Rooms b (i ∷ l) [] = ⊥
  Rooms b (i ∷ l) (c ∷ cs) = Room k w b i c × Rooms b l cs

  piece-later : (i : ℕ) (h : ClosureHead) (b r c : Closure) → Piece k w r c → Piece k w (part i h b r) c
  unfolding total_over
  piece-later i h b r c P = record { held = P.held; less = λ f. omega (arith, P.less f) }

  rooms-later : (i : ℕ) (h : ClosureHead) (b r : Closure) (l : List ℕ) (cs : List Closure) → Rooms r l cs → Rooms (part i h b r) l cs
  rooms-later i h b r [] [] R = tt
  rooms-later i h b r [] (c ∷ cs) R = absurd R
  rooms-later i h b r (j ∷ l) [] R = absurd R
  rooms-later i h b r (j ∷ l) (c ∷ cs) R = (record { own = R.0.own; piece = piece-later i h b r c R.0.piece }, rooms-later i h b r l cs R.1)

  room-first : (i : ℕ) (h : ClosureHead) (b r : Closure) → Held k w (part i h b r) → Room k w (part i h b r) i b
  unfolding total_over
  room-first i h b r p = record { own = p.0; piece = record { held = p.2; less = λ f. omega arith } }

  module _ (σ : Bindings) (named : List ℕ) where
    insides-rooms : (b : Closure) → Held k w b → ((i : ℕ) → 1 ≤ times_in i b → elem i named ≡ is_named (head_name (view_under σ) (w i)))
        → (cs : List Closure) × (insides σ b ≡ map (beside σ) cs) × Rooms b (in_both (tops b) named) cs
    unfolding insides tops keep total_over
    insides-rooms close p n = ([], refl, tt)
    insides-rooms (part i h b r) p n =
        let (cs, e, R) = insides-rooms r p.3 (λ j m. n j (omega arith)) in
        let same : elem i named ≡ is_named (head_name (view_under σ) h) = n i (omega (arith, own-times i)) ∙ ap (λ (g : ClosureHead). is_named (head_name (view_under σ) g)) p.1 in
        by_test (elem i named)
        (λ t. let u : is_named (head_name (view_under σ) h) ≡ true = sym same ∙ t in
        rw (t, u) (b ∷ cs, ap (λ (l : List ClosureMachine). beside σ b ∷ l) e, (room-first i h b r p, rooms-later i h b r (in_both (tops r) named) cs R)))
        (λ t. let u : is_named (head_name (view_under σ) h) ≡ false = sym same ∙ t in
        rw (t, u) (cs, e, rooms-later i h b r (in_both (tops r) named) cs R))

  -- the first of them, and those behind it
  rooms-cons : (b : Closure) (i : ℕ) (l : List ℕ) (cs : List Closure) → Rooms b (i ∷ l) cs → (c : Closure) × (ds : List Closure) × (cs ≡ c ∷ ds) × Room k w b i c × Rooms b l ds
  rooms-cons b i l [] R = absurd R
  rooms-cons b i l (c ∷ cs) R = (c, cs, refl, R.0, R.1)

  rooms-nil : (b : Closure) (cs : List Closure) → Rooms b [] cs → cs ≡ []
  rooms-nil b [] R = refl
  rooms-nil b (c ∷ cs) R = absurd R

  -- THEOREM: the first member's inside comes first, and the others belong to the rest of the set.
  pub rooms-first : (b : Closure) (m i r : ℕ) (cs : List Closure) → m < 2 ^ 64 → (m ≡ 0 → ⊥) → i ≡ head_or 64 (members m) → members r ≡ tail (members m) → Rooms b (members m) cs
      → (i < 64) × ((c : Closure) × (ds : List Closure) × (cs ≡ c ∷ ds) × Room k w b i c × Rooms b (members r) ds)
  rooms-first b m i r cs small n first rest R =
      let e : members m ≡ i ∷ members r = members_step m i r small n first rest in
      (first_below m i (members r) e, rooms-cons b i (members r) cs (subst (λ (l : List ℕ). Rooms b l cs) e R))

  pub rooms-none : (b : Closure) (m : ℕ) (cs : List Closure) → m ≡ 0 → Rooms b (members m) cs → cs ≡ []
  rooms-none b m cs z R = rooms-nil b cs (subst (λ (l : List ℕ). Rooms b l cs) (ap members z ∙ members-empty) R)

-- THEOREM: SOMEWHERE asks for the insides of the top parts that have a name.
pub rooms-told : (script kinds starts : List ℕ) (weight spent : ℕ) (s : State) (b : Closure) (kids : List ℕ) (top : ℕ) → s.kids ≡ set kids 64 top → length kids ≡ 65
    → Represents script kinds starts weight spent s b → Ready script kinds starts s → spent < 4294967295 → (m : ℕ) → members m ≡ in_both (members top) (members s.notes.named)
    → (cs : List Closure) × (insides (bound_in script s) b ≡ map (beside (bound_in script s)) cs) × Rooms (body_in s.kids) (heads script kinds starts s.offsets) b (members m) cs
rooms-told script kinds starts weight spent s b kids top sets long R ready few m e =
    let σ : Bindings = bound_in script s in
    let k : ℕ → List ℕ = body_in s.kids in
    let w : ℕ → ClosureHead = heads script kinds starts s.offsets in
    let names : Names σ w (members s.notes.named) = seen-names σ w s.notes (seen-told script kinds starts weight spent s b ready R few) in
    let (cs, q, rooms) = insides-rooms k w σ (members s.notes.named) b R.held (λ i c. names i (low i c)) in
    (cs, q, subst (λ (l : List ℕ). Rooms k w b l cs) (sym (e ∙ ap (λ (l : List ℕ). in_both l (members s.notes.named)) (top-told script kinds starts weight spent s b kids top sets long R))) rooms)
  where
    low : (i : ℕ) → 1 ≤ times_in i b → i < 64
    low i c = by_test (ltb i 64) (λ t. ltb-true i 64 t) (λ t. absurd (let z : ⊥ = omega (arith, R.inside i (ltb-false i 64 t)) in z))

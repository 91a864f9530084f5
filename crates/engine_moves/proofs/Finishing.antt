-- The moves as the engine makes them: the sets are changed, the actor's item is spent or its variable bound, and the state
-- is settled. Assumes nothing.
use Prim.Native.Nat.{ℕ, ◌+◌, ◌<◌}
use mathlib.Core.Bool.{true, not, true≢false, and-eq-true_iff}
use mathlib.Core.List.{List, [], ◌∷◌, ◌++◌}
use mathlib.Core.Path.{◌≡◌, refl, sym, ap, ◌∙◌, subst}
use native.Mathlib.Omega.{arith}
use lib.Dec.{eqb, ltb}
use lib.ListN.{get_or, set, length, drop}
use borrow.Author.Tests.{ltb-true}
use Rattle.read_messages.specs.Spelling.{message_at}
use Rattle.read_messages.specs.Message.{Named}
use Rattle.std.specs.Prelude.{None}
use Rattle.read_messages.specs.declared.First.{First}
use Rattle.read_messages.specs.declared.First.TheVariants.{Nothing}
use Rattle.base_sets.specs.Sets.{members, elem, inserted, removed, joined}
use Rattle.read_scripts.specs.Tree.{receipt, output}
use Rattle.read_scripts.specs.Represents.{body_in}
use Rattle.engine_held_bindings.specs.Held.{bindings_of}
use Rattle.engine_held_bindings.specs.declared.Bindings as arrays
use Rattle.theory_machine.specs.Moves.{same_name, to_enter, to_exit, to_open, first_of, head_name, variable_of, message_of}
use Rattle.theory_machine.proofs.Inversion.{here-inv}
use Rattle.theory_closures.specs.Closure.{ClosureHead, Closure, Bindings, view_under, settle_under}
use Rattle.engine_states.specs.Represents.{head_of, heads, bound_in, Ready, Represents}
use Rattle.engine_states.specs.Searches.{home, HeldOnce}
use Rattle.engine_states.specs.declared.State.{State}
use Rattle.engine_states.proofs.Heads.{by_kind}
use Rattle.engine_states.proofs.Homes.{home_of, home-active, home-apart}
use Rattle.engine_states.proofs.Arrays.{Replaced, Carried, Raised, set-replaced, set-carried, set-raised}
use Rattle.engine_states.proofs.Moving.{shrinks}
use Rattle.engine_targets.specs.Targets.{is_some, can_open, can_receive, can_enter, can_exit}
use Rattle.engine_targets.specs.Makes.{Makes, Opens, Enters, Exits, Receives}
use Rattle.engine_targets.proofs.Acting.{receive-at}
use Rattle.engine_targets.proofs.Making.{Made, represented, open_made, enter-made, exit-made, receive-made, move-is}

-- ---- who acts, by kind

module _ (script : List ℕ) (kind start offset : ℕ) (σ : Bindings) where
  abbrev h : ClosureHead
  h = head_of script kind start offset

  -- a part whose first item says a name is an action
  pub says-name : (said : First → Named) (g : Named) → said Nothing ≡ None → same_name (said (first_of (view_under σ) h)) g ≡ true → kind ≡ 2
  unfolding first_of same_name
  says-name said g n = by_kind script kind start offset (λ x. same_name (said (first_of (view_under σ) x)) g ≡ true → kind ≡ 2)
      (λ e u. silent u) (λ e u. e) (λ e u. silent u) (λ x y z u. silent u)
    where
      silent : same_name (said Nothing) g ≡ true → kind ≡ 2
      silent u = absurd (true≢false (sym u ∙ ap (λ (x : Named). same_name x g) n))

  pub receipt-is : is_some (variable_of h) ≡ true → h ≡ receipt start
  unfolding variable_of is_some
  receipt-is = by_kind script kind start offset (λ x. is_some (variable_of x) ≡ true → x ≡ receipt start)
      (λ e u. absurd (true≢false (sym u))) (λ e u. absurd (true≢false (sym u))) (λ e u. refl) (λ x y z u. absurd (true≢false (sym u)))

  pub output-is : is_some (message_of h) ≡ true → h ≡ output (message_at (drop start script))
  unfolding message_of is_some
  output-is = by_kind script kind start offset (λ x. is_some (message_of x) ≡ true → x ≡ output (message_at (drop start script)))
      (λ e u. absurd (true≢false (sym u))) (λ e u. absurd (true≢false (sym u))) (λ e u. absurd (true≢false (sym u))) (λ x y z u. refl)

module _ (script kinds starts : List ℕ) (s s' r : State) (same : r.bindings ≡ s'.bindings) (ready : Ready script kinds starts s')
    (settled : (script starts : List ℕ) (weight spent : ℕ) (b : Closure) → Ready script kinds starts s' → spent < 4294967295 → Represents script kinds starts weight spent s' b
    → Represents script kinds starts weight spent r (settle_under (bound_in script s') b)) where
  abbrev σ : Bindings
  σ = bound_in script s

  abbrev k : ℕ → List ℕ
  k = body_in s.kids

  abbrev w : ℕ → ClosureHead
  w = heads script kinds starts s.offsets

  -- what was made is settled
  finish : (weight spent : ℕ) (b : Closure) (R : Represents script kinds starts weight spent s b) (a t spent' : ℕ) → spent' < 4294967295 → (news : Bindings)
      → bound_in script s' ≡ news ++ σ → Made script kinds starts weight spent s b R a t s' spent' news → Makes script kinds starts s r weight spent' a t b
  finish weight spent b R a t spent' low news e M = (
    record { body = settle_under (news ++ σ) M.moved.body; news = news },
    move-is script kinds starts weight spent s b R a t s' spent' news M,
    subst (λ (τ : Bindings). Represents script kinds starts weight spent' r (settle_under τ M.moved.body)) e (settled script starts weight spent' M.moved.body ready low M.represents),
    ap (bindings_of script) same ∙ e,
  )

  -- ---- an item is spent

  module _ (a : ℕ) (bound : s'.bindings ≡ s.bindings) (within : a < length s.offsets)
      (raised : get_or kinds a 0 ≡ 2 → get_or s.offsets a 0 < 4294967295 → s'.offsets ≡ set s.offsets a (get_or s.offsets a 0 + 1)) where
    abbrev first : s'.bindings.first ≡ s.bindings.first
    first = ap (λ (x : arrays.Bindings). x.first) bound

    spends : (weight spent : ℕ) (b : Closure) → spent + 1 < 4294967295 → Represents script kinds starts weight spent s b → get_or kinds a 0 ≡ 2 → Raised s.offsets s'.offsets a
    spends weight spent b low R e = subst (λ (o : List ℕ). Raised s.offsets o a) (sym (raised e (omega (arith, R.spends a)))) (set-raised s.offsets a (get_or s.offsets a 0 + 1) within refl)

    pub opens : (p t m : ℕ) → p < length s.kids → s'.kids ≡ set s.kids p m → members m ≡ joined (k t) (removed t (k p)) → Opens script kinds starts s r p a t
    unfolding can_open to_open
    opens p t m low ek em weight spent b few R (ep, can) =
        let u = (and-eq-true_iff (elem t (k p)) _).0 ((and-eq-true_iff (ltb p 65) _).0 can).1 in
        let kind : get_or kinds a 0 ≡ 2 = says-name script (get_or kinds a 0) (get_or starts a 0) (get_or s.offsets a 0) σ to_open (head_name (view_under σ) (w t)) refl u.1 in
        finish weight spent b R a t (spent + 1) few [] (ap (bindings_of script) bound)
        (open_made script kinds starts weight spent s b R a t s' (spends weight spent b few R kind) first p ep can
        (subst (λ (x : List ℕ). Replaced k (body_in x) p (joined (k t) (removed t (k p)))) (sym ek) (set-replaced s.kids p m (joined (k t) (removed t (k p))) low em)))

    module _ (p from into m n : ℕ) (low : from < length s.kids) (high : into < length s.kids) (ek : s'.kids ≡ set (set s.kids from m) into n)
        (loses : members m ≡ removed p (k from)) (gains : members n ≡ inserted p (body_in (set s.kids from m) into)) where
      carried : (from ≡ into → ⊥) → Carried k (body_in s'.kids) p from into
      carried two = subst (λ (x : List ℕ). Carried k (body_in x) p from into) (sym ek) (set-carried s.kids p from into m n low high two loses gains)

      pub enters : Enters script kinds starts s r p from a into
      unfolding can_enter to_enter
      enters weight spent b few R (ep, eq, can) =
          let u₀ = (and-eq-true_iff (ltb from 65) _).0 ((and-eq-true_iff (ltb p 64) _).0 can).1 in
          let u₁ = (and-eq-true_iff (elem into (k from)) _).0 u₀.1 in
          let u₂ = (and-eq-true_iff (not (eqb into p)) _).0 u₁.1 in
          let Q : HeldOnce k w b = represented script kinds starts weight spent s b R in
          let here : home σ into b ≡ from = home_of σ k w b Q from into (home-active σ k w b Q p from eq (ltb-true from 65 u₀.0)).1 u₁.0 in
          let two : from ≡ into → ⊥ = λ e. home-apart σ k w b Q into (omega (arith, here, ltb-true from 65 u₀.0)) (sym e ∙ sym here) in
          let kind : get_or kinds a 0 ≡ 2 = says-name script (get_or kinds a 0) (get_or starts a 0) (get_or s.offsets a 0) σ to_enter (head_name (view_under σ) (w into)) refl u₂.1 in
          finish weight spent b R a into (spent + 1) few [] (ap (bindings_of script) bound)
          (enter-made script kinds starts weight spent s b R a into s' (spends weight spent b few R kind) first p from ep eq can (carried two))

      pub exits : into < 65 → Exits script kinds starts s r p from into a
      unfolding can_exit to_exit
      exits small weight spent b few R (ep, eq, ec, can) =
          let u₀ = (and-eq-true_iff (ltb from 64) _).0 ((and-eq-true_iff (ltb p 64) _).0 can).1 in
          let u₁ = (and-eq-true_iff (eqb from from) _).0 u₀.1 in
          let Q : HeldOnce k w b = represented script kinds starts weight spent s b R in
          let two : from ≡ into → ⊥ = λ e. home-apart σ k w b Q from (omega (arith, ec)) (e ∙ sym ec) in
          let kind : get_or kinds a 0 ≡ 2 = says-name script (get_or kinds a 0) (get_or starts a 0) (get_or s.offsets a 0) σ to_exit (head_name (view_under σ) (w from)) refl u₁.1 in
          finish weight spent b R a from (spent + 1) few [] (ap (bindings_of script) bound)
          (exit-made script kinds starts weight spent s b R a from s' (spends weight spent b few R kind) first p from into ep eq ec can (carried two))

  -- ---- a receipt

  pub receives : (p a t m : ℕ) → s'.offsets ≡ s.offsets → s'.bindings.first + 1 ≡ s.bindings.first → bound_in script s' ≡ (get_or starts a 0, message_at (drop (get_or starts t 0) script)) ∷ σ
      → p < length s.kids → s'.kids ≡ set s.kids p m → members m ≡ joined (k a) (removed t (removed a (k p))) → Receives script kinds starts s r p a t
  unfolding can_receive
  receives p a t m eo ef eb low ek em weight spent b few R (ep, can) =
      let u = (and-eq-true_iff (is_some (variable_of (w a))) _).0 ((and-eq-true_iff (elem t (k p)) _).0 ((and-eq-true_iff (ltb p 65) _).0 can).1).1 in
      let ea : w a ≡ receipt (get_or starts a 0) = receipt-is script (get_or kinds a 0) (get_or starts a 0) (get_or s.offsets a 0) σ u.0 in
      let et : w t ≡ output (message_at (drop (get_or starts t 0) script)) = output-is script (get_or kinds t 0) (get_or starts t 0) (get_or s.offsets t 0) σ u.1 in
      finish weight spent b R a t (spent + 1) few ((get_or starts a 0, message_at (drop (get_or starts t 0) script)) ∷ []) eb
      (receive-made script kinds starts weight spent s b R a t s' (λ i. ap (λ (o : List ℕ). get_or o i 0) (sym eo)) ef (get_or starts a 0) (message_at (drop (get_or starts t 0) script)) ea et p ep can
      (subst (λ (x : List ℕ). Replaced k (body_in x) p (joined (k a) (removed t (removed a (k p))))) (sym ek) (set-replaced s.kids p m (joined (k a) (removed t (removed a (k p)))) low em)) (spent + 1) (omega arith))

-- a receipt that can be made finds two parts, so that there is room for one more binding
pub room : (script kinds starts : List ℕ) (s : State) (weight spent : ℕ) (b : Closure) → Represents script kinds starts weight spent s b → (p a t : ℕ) → home (bound_in script s) a b ≡ p
    → can_receive (bound_in script s) (body_in s.kids) (heads script kinds starts s.offsets) p a t ≡ true → s.bindings.first ≡ 0 → ⊥
unfolding can_receive
room script kinds starts s weight spent b R p a t ep can z =
    let σ = bound_in script s in
    let k = body_in s.kids in
    let w = heads script kinds starts s.offsets in
    let u = (and-eq-true_iff (is_some (variable_of (w a))) _).0 ((and-eq-true_iff (elem t (k p)) _).0 ((and-eq-true_iff (ltb p 65) _).0 can).1).1 in
    let ea : w a ≡ receipt (get_or starts a 0) = receipt-is script (get_or kinds a 0) (get_or starts a 0) (get_or s.offsets a 0) σ u.0 in
    let et : w t ≡ output (message_at (drop (get_or starts t 0) script)) = output-is script (get_or kinds t 0) (get_or starts t 0) (get_or s.offsets t 0) σ u.1 in
    let (S, i, made) = receive-at σ k w b (represented script kinds starts weight spent s b R) a t (subst (λ (x : ℕ). can_receive σ k w x a t ≡ true) (sym ep) can) _ _ ea et in
    let less = shrinks σ a t S.here _ (here-inv (view_under σ) a t S.here _ made) (λ j. 1) 2 (λ x y. omega arith) in
    omega (arith, less, S.less (λ j. 1), R.weighs, R.light)

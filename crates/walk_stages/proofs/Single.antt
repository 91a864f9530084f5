-- VOID and AT: no top parts, and just one, by the set of the top parts. Assumes nothing.
use Prim.Native.Nat.{ℕ, ◌^◌, ◌<◌}
use mathlib.Core.Bool.{true, false, cond, true≢false}
use mathlib.Core.List.{List, [], ◌∷◌}
use mathlib.Core.Option.{none, some}
use mathlib.Core.Path.{◌≡◌, refl, sym, ap, ◌∙◌}
use native.Mathlib.Omega.{arith}
use lib.Dec.{eqb}
use lib.ListN.{set, length}
use Rattle.read_messages.specs.Message.{Named}
use Rattle.std.specs.Prelude.{Some}
use Rattle.base_sets.specs.Sets.{members, head_or, is_none, is_one}
use Rattle.base_sets.proofs.Members.{none-test, first_below}
use Rattle.base_sets.proofs.Lists.{one-is}
use Rattle.read_scripts.specs.Tree.{close, part, tops, total_over}
use Rattle.read_scripts.specs.Represents.{Held, body_in}
use Rattle.theory_machine.specs.Moves.{head_name, same_name}
use Rattle.theory_closures.specs.Closure.{ClosureHead, Closure, Bindings, view_under}
use Rattle.engine_states.specs.Seen.{name_in}
use Rattle.engine_states.specs.Represents.{heads, bound_in, Ready, Represents}
use Rattle.engine_states.specs.declared.State.{State}
use Rattle.theory_decision.specs.Divisions.{is_void}
use Rattle.theory_decision.specs.ClosureWalk.{beside, only}
use Rattle.walk_stages.specs.Pieces.{Room}
use Rattle.walk_stages.proofs.Focused.{seen-told, top-told}

-- VOID
void-tops : (b : Closure) → is_void b ≡ is_none (tops b)
unfolding is_void tops
void-tops close = refl
void-tops (part k h b r) = refl

pub void-told : (top : ℕ) (b : Closure) → top < 2 ^ 64 → members top ≡ tops b → is_void b ≡ eqb top 0
void-told top b small e = void-tops b ∙ sym (none-test top small ∙ ap is_none e)

-- AT: among no or several top parts there is none alone
pub only_none : (σ : Bindings) (n : ℕ) (b : Closure) → is_one (tops b) ≡ false → only σ n b ≡ none
unfolding only tops
only_none σ n close e = refl
only_none σ n (part i h b close) e = absurd (true≢false e)
only_none σ n (part i h b (part i₁ h₁ b₁ r)) e = refl

-- and one alone is the first
only_one_lem : (σ : Bindings) (k : ℕ → List ℕ) (w : ℕ → ClosureHead) (n i : ℕ) (b : Closure) → Held k w b → tops b ≡ i ∷ []
    → (c : Closure) × Room k w b i c × (only σ n b ≡ cond (same_name (Some n) (head_name (view_under σ) (w i))) (some (beside σ c)) none)
unfolding only tops total_over
only_one_lem σ k w n i close h e = absurd (true≢false (ap is_none e))
only_one_lem σ k w n i (part j g c close) h e =
    let z : i ≡ j = cc in (
      c,
      record { own = ap k z ∙ h.0; piece = record { held = h.2; less = λ f. omega arith } },
      ap (λ (x : ClosureHead). cond (same_name (Some n) (head_name (view_under σ) x)) (some (beside σ c)) none) (sym (ap w z ∙ h.1)),
    )
only_one_lem σ k w n i (part j g c (part j₁ g₁ c₁ r)) h e = absurd (let z : ◌≡◌ {A = ℕ} 0 1 = cc in omega arith)

module _ (script kinds starts : List ℕ) (weight spent : ℕ) (s : State) (b : Closure) (kids : List ℕ) (top : ℕ) (sets : s.kids ≡ set kids 64 top) (long : length kids ≡ 65)
    (R : Represents script kinds starts weight spent s b) where
  pub at_none : (n : ℕ) → is_one (members top) ≡ false → only (bound_in script s) n b ≡ none
  at_none n e = only_none (bound_in script s) n b (ap is_one (sym (top-told script kinds starts weight spent s b kids top sets long R)) ∙ e)

  -- THEOREM: AT asks for the inside of the one top part, by the name that is kept of it.
  pub at_one : Ready script kinds starts s → spent < 4294967295 → (n i : ℕ) → is_one (members top) ≡ true → i ≡ head_or 64 (members top)
      → (i < 64) × ((c : Closure) × Room (body_in s.kids) (heads script kinds starts s.offsets) b i c
      × (only (bound_in script s) n b ≡ cond (same_name (Some n) (name_in s.notes.named s.notes.names i)) (some (beside (bound_in script s) c)) none))
  at_one ready few n i one first =
      let single : members top ≡ i ∷ [] = one-is 64 (members top) one ∙ ap (λ (x : ℕ). x ∷ []) (sym first) in
      let small : i < 64 = first_below top i [] single in
      let (c, room, e) = only_one_lem (bound_in script s) (body_in s.kids) (heads script kinds starts s.offsets) n i b R.held (sym (top-told script kinds starts weight spent s b kids top sets long R) ∙ single) in
      let name = (seen-told script kinds starts weight spent s b ready R few).names i small in
      (small, (c, room, e ∙ ap (λ (x : Named). cond (same_name (Some n) x) (some (beside (bound_in script s) c)) none) (sym name)))

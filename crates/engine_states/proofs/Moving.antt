-- From a state that represents a closure to the state after a move: what every move has in common. Assumes nothing.
use Prim.Native.Nat.{ℕ, ◌+◌, ◌*◌, ◌≤◌, ◌<◌}
use mathlib.Core.Bool.{false}
use mathlib.Core.List.{List}
use mathlib.Core.Logic.{◌⊎◌, inl, inr}
use mathlib.Core.Option.{Option, none, some}
use mathlib.Core.Path.{◌≡◌, sym, subst}
use native.Mathlib.Omega.{arith}
use lib.Dec.{eqb}
use lib.ListN.{get_or, length}
use Rattle.base_sets.specs.Sets.{elem}
use Rattle.read_scripts.specs.Tree.{one_if, tops}
use Rattle.read_scripts.specs.Represents.{body_in}
use Rattle.theory_machine.specs.Moves.{MoveMade, anywhere}
use Rattle.theory_machine.proofs.Inversion.{Here}
use Rattle.theory_machine.proofs.Sums.{here-total, by-numbers}
use Rattle.theory_closures.specs.Closure.{Action, ClosureHead, Closure, Bindings, view_under}
use Rattle.engine_states.specs.Represents.{heads, bound_in, Represents}
use Rattle.engine_states.specs.Searches.{home}
use Rattle.engine_states.specs.declared.State.{State}
use Rattle.engine_states.proofs.Holding.{numbers_total}
use Rattle.engine_states.proofs.Focus.{Change, Site, site}

-- No sum over the numbers grows, and a receipt takes two parts away.
abbrev pub Shrinks : (here : Closure) (n : MoveMade Action) → Type 0
Shrinks here n = (v : ℕ → ℕ) (w : ℕ) → ((i j : ℕ) → w ≤ v i + v j) → numbers_total v n.body + w * length n.news ≤ numbers_total v here

pub shrinks : (σ : Bindings) (a t : ℕ) (here : Closure) (n : MoveMade Action) → Here (view_under σ) a t here n.body n.news → Shrinks here n
shrinks σ a t here n x v w least = here-total (view_under σ) (λ i h. v i) w (by-numbers (view_under σ) v w (λ u m b. omega arith) least) a t here n.body n.news x

pub fewer : (here : Closure) (n : MoveMade Action) → Shrinks here n → (v : ℕ → ℕ) → numbers_total v n.body ≤ numbers_total v here
fewer here n l v = omega (arith, l v 0 (λ i j. omega arith))

module _ (script kinds starts : List ℕ) (weight spent : ℕ) (s : State) (f : Closure) (R : Represents script kinds starts weight spent s f) (t : ℕ)
    (g : Closure → Option (MoveMade Action)) (needs : (b : Closure) → elem t (tops b) ≡ false → g b ≡ none) where
  abbrev σ : Bindings
  σ = bound_in script s

  abbrev k : ℕ → List ℕ
  k = body_in s.kids

  abbrev w : ℕ → ClosureHead
  w = heads script kinds starts s.offsets

  abbrev pub At : ℕ → Type 0
  At b = Site σ k w t g needs f b

  abbrev Sited : Type 0
  Sited = ((home σ t f ≡ 65) × (anywhere (view_under σ) g f ≡ none)) ⊎ ((home σ t f < 65) × At (home σ t f))

  sited : Sited
  sited = site σ k w t g needs f R.top R.once R.inside R.held

  pub at : (b : ℕ) → b ≡ home σ t f → b < 65 → At b
  at b e l = pick sited
    where
      pick : Sited → At b
      pick (inl z) = absurd (let o : ⊥ = omega (arith, z.0) in o)
      pick (inr z) = subst At (sym e) z.1

  -- s' represents what the move makes of the closure, before it is settled
  pub record After (spent' : ℕ) (s' : State) (news : Bindings) : Type 0 where
    pub moved : MoveMade Action
    pub is : anywhere (view_under σ) g f ≡ some moved
    pub told : moved.news ≡ news
    pub represents : Represents script kinds starts weight spent' s' moved.body

  pub after : (b : ℕ) (S : At b) (n : MoveMade Action) → g S.here ≡ some n → Shrinks S.here n → (spent' : ℕ) (s' : State)
      → Change σ k w t g needs b S.here (body_in s'.kids) (heads script kinds starts s'.offsets) n
      → s'.bindings.first + length n.news ≡ s.bindings.first → ((i : ℕ) → get_or s'.offsets i 0 ≤ spent') → After spent' s' n.news
  after b S n e l spent' s' C ef low =
      let (M, top) = S.makes n (body_in s'.kids) (heads script kinds starts s'.offsets) e C in
      let count_less : (i : ℕ) → numbers_total (λ j. one_if (eqb i j)) M.moved.body ≤ numbers_total (λ j. one_if (eqb i j)) f
      = λ i. omega (arith, M.totals (λ j. one_if (eqb i j)), fewer S.here n l (λ j. one_if (eqb i j))) in
      record {
        moved = M.moved;
        is = M.is;
        told = M.news;
        represents = record {
          top = top;
          held = M.held;
          once = λ i. omega (arith, count_less i, R.once i);
          inside = λ i h. omega (arith, count_less i, R.inside i h);
          light = R.light;
          weighs = omega (arith, M.totals (λ j. 1), l (λ j. 1) 2 (λ i j. omega arith), R.weighs, ef);
          spends = low;
        };
      }

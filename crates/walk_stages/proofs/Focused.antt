-- A state with another set of top parts: it represents the piece of the closure whose top parts they are. Assumes nothing.
use Prim.Native.Nat.{ℕ, ◌≤◌, ◌<◌}
use mathlib.Core.List.{List}
use mathlib.Core.Path.{◌≡◌, refl, sym, ap, ◌∙◌}
use native.Mathlib.Omega.{arith}
use lib.Dec.{eqb}
use lib.ListN.{get_or, set, length}
use lib.Seq.{get_or-set_same, get_or-set_other}
use Rattle.base_sets.specs.Sets.{members}
use Rattle.read_scripts.specs.Tree.{one_if, tops, parts, times_in}
use Rattle.read_scripts.specs.Represents.{body_in}
use Rattle.read_rule_words.specs.Rule.{Names, Rule, rule_index, Later}
use Rattle.read_rules.specs.Ruled.{Ruled}
use Rattle.read_rules.specs.declared.RuleTable.{RuleTable}
use Rattle.theory_closures.specs.Closure.{Closure, ClosureHead}
use Rattle.engine_states.specs.Seen.{Seen}
use Rattle.engine_states.specs.Represents.{heads, bound_in, Ready, Represents}
use Rattle.engine_states.specs.declared.State.{State}
use Rattle.engine_states.proofs.Holding.{numbers-differ, frame}
use Rattle.walk_stages.specs.Pieces.{with_top, Piece}
use Rattle.walk_stages.specs.Visits.{indices, Stage}
use Rattle.walk_stages.specs.declared.Limits.{Limits}

module _ (k : ℕ → List ℕ) (w : ℕ → ClosureHead) (b c : Closure) (P : Piece k w b c) where
  pub fewer : (j : ℕ) → times_in j c ≤ times_in j b
  fewer j = P.less (λ i h. one_if (eqb j i))

  pub lighter : parts c ≤ parts b
  lighter = P.less (λ i h. 1)

-- what is kept of the parts is right
pub seen-told : (script kinds starts : List ℕ) (weight spent : ℕ) (s : State) (b : Closure) → Ready script kinds starts s → Represents script kinds starts weight spent s b → spent < 4294967295
    → Seen (bound_in script s) (heads script kinds starts s.offsets) s.notes
seen-told script kinds starts weight spent s b ready R few = ready.seen (λ i. omega (arith, R.spends i))

-- the bindings and what is kept of the parts are as they were
pub ready-top : (script kinds starts : List ℕ) (s : State) (kids : List ℕ) (m : ℕ) → Ready script kinds starts s → Ready script kinds starts (with_top kids m s)
ready-top script kinds starts s kids m ready = record { bound = ready.bound; seen = ready.seen }

module _ (script kinds starts : List ℕ) (weight spent : ℕ) (s : State) (b : Closure) (kids : List ℕ) (top : ℕ) (sets : s.kids ≡ set kids 64 top) (long : length kids ≡ 65)
    (R : Represents script kinds starts weight spent s b) where
  abbrev k : ℕ → List ℕ
  k = body_in s.kids

  abbrev w : ℕ → ClosureHead
  w = heads script kinds starts s.offsets

  pub top-told : members top ≡ tops b
  top-told = sym (ap (λ (l : List ℕ). members (get_or l 64 0)) sets ∙ ap members (get_or-set_same kids 64 top 0 (omega arith))) ∙ R.top

  -- every other set is the lent one
  pub lent-told : (i : ℕ) → (i ≡ 64 → ⊥) → k i ≡ members (get_or kids i 0)
  lent-told i n = ap (λ (l : List ℕ). members (get_or l i 0)) sets ∙ ap members (get_or-set_other kids 64 i top 0 n)

  -- THEOREM: with the top parts of a piece, the state represents the piece.
  pub focused : (c : Closure) (m : ℕ) → Piece k w b c → members m ≡ tops c → Represents script kinds starts weight spent (with_top kids m s) c
  focused c m P e = record {
    top = ap members (get_or-set_same kids 64 m 0 (omega arith)) ∙ e;
    held = frame k (body_in (set kids 64 m)) w w c P.held (λ i n.
        let inner : i ≡ 64 → ⊥ = numbers-differ i 64 c n (let z : times_in 64 c ≡ 0 = omega (arith, fewer k w b c P 64, R.inside 64 (omega arith)) in z) in
        (lent-told i inner ∙ sym (ap members (get_or-set_other kids 64 i m 0 inner)), refl));
    once = λ i. omega (arith, fewer k w b c P i, R.once i);
    inside = λ i l. omega (arith, fewer k w b c P i, R.inside i l);
    light = R.light;
    weighs = omega (arith, lighter k w b c P, R.weighs);
    spends = R.spends;
  }

-- THEOREM: and a stage on the closure is one on the piece, for every rule inside the one that is visited.
pub stage-piece : (words : List ℕ) (table : RuleTable) (script kinds starts : List ℕ) (limits : Limits) (chosen : List ℕ) (somes left : ℕ) (s : State) (index weight spent from : ℕ) (e : Names) (q : Rule) (b : Closure)
    (kids : List ℕ) (top : ℕ) → s.kids ≡ set kids 64 top → length kids ≡ 65 → Stage words table script kinds starts limits chosen somes left s index weight spent from e q b
    → (c : Closure) (m : ℕ) → Piece (body_in s.kids) (heads script kinds starts s.offsets) b c → members m ≡ tops c
    → (r : Rule) (i : ℕ) → Ruled words table (indices e) r → rule_index r ≡ i → Later from r
    → Stage words table script kinds starts limits chosen somes left (with_top kids m s) i weight spent from e r c
stage-piece words table script kinds starts limits chosen somes left s index weight spent from e q b kids top sets long S c m P em r i ruled stood later = record {
  ready = ready-top script kinds starts s kids m S.ready;
  represents = focused script kinds starts weight spent s b kids top sets long S.represents c m P em;
  slack = S.slack;
  below = λ j l. omega (arith, fewer (body_in s.kids) (heads script kinds starts s.offsets) b c P j, S.below j l);
  light = S.light;
  within = S.within;
  limited = S.limited;
  few = S.few;
  greatest = S.greatest;
  short = S.short;
  ruled = ruled;
  stood = stood;
  later = later;
  named = S.named;
}

-- What each rule word answers, by the visits made from it, where there is no loop. Assumes nothing.
use Prim.Native.Nat.{ℕ, zero, suc, ◌+◌, ◌-◌, ◌/◌, ◌^◌, ◌≤◌, ◌<◌, max}
use mathlib.Core.Bool.{Bool, true, false, cond}
use mathlib.Core.List.{List, [], ◌∷◌}
use mathlib.Core.Option.{Option, none, some}
use mathlib.Core.Path.{◌≡◌, refl, sym, ap, ap₂, ◌∙◌, subst}
use native.Mathlib.Omega.{arith}
use lib.Dec.{eqb}
use lib.ListN.{get_or}
use borrow.Author.Tests.{lt-ltb, le-ltb}
use Rattle.read_messages.specs.Words.{kind, operand}
use Rattle.read_messages.specs.Message.{name}
use Rattle.std.specs.Prelude.{Some}
use Rattle.base_sets.specs.Sets.{members, head_or, is_one, but}
use Rattle.base_sets.proofs.Lists.{one-is}
use Rattle.base_sets.proofs.Members.{first_below}
use Rattle.read_scripts.specs.Tree.{ambient, close, part, tops, times_in}
use Rattle.read_scripts.specs.Represents.{body_in}
use Rattle.theory_machine.specs.Moves.{same_name}
use Rattle.read_rule_words.specs.Rule.{Names, term_name, Rule, truth, negation, either, void, at, beside, placed, rule_index, Later}
use Rattle.read_rule_words.specs.ReadRule.{term_of}
use Rattle.read_rules.specs.Ruled.{Ruled, Said}
use Rattle.read_rules.proofs.Inversion.{Told}
use Rattle.theory_closures.specs.Closure.{Closure, ClosureHead, ClosureMachine, Bindings}
use Rattle.engine_states.specs.Seen.{name_in}
use Rattle.engine_states.specs.Represents.{heads, bound_in, Represents}
use Rattle.base_arrays.specs.Stretches.{stretch}
use Rattle.engine_state_arrays.specs.Lent.{kinds_in, starts_in, state_in}
use Rattle.base_arrays.proofs.Copying.{length-stretch, get_or-stretch}
use Rattle.walk_stages.specs.Pieces.{Room, Divides}
use Rattle.engine_states.specs.declared.State.{State}
use Rattle.theory_decision.specs.Walk.{says, if_any, look, counted, walk}
use Rattle.theory_decision.specs.Walk as spec
use Rattle.theory_decision.specs.ClosureWalk.{closure_space, only}
use Rattle.walk_stages.specs.Visits.{count_of, walked_of, setting_of, indices, name_said, Lendable, Scene, here, visits, Visits, Looks, Splits}
use Rattle.walk_stages.specs.declared.Counts.{Counts}
use Rattle.walk_stages.specs.declared.Limits.{Limits}
use Rattle.walk_stages.specs.declared.Walked.{Walked}
use Rattle.walk_stages.specs.declared.Walked.TheVariants.{Yes, No, Stopped}
use Rattle.walk_stages.proofs.Loops.{NotNo, NotYes, no-goes, no-stops, yes-goes, yes-stops}
use Rattle.walk_stages.proofs.Focused.{top-told, lent-told}
use Rattle.walk_stages.proofs.Single.{void-told, at_none, at_one}
use Rattle.walk_stages.proofs.Scenes.{scene-inside, scene-low, scene-told, scene-deeper, scene-piece, scene-inner, scene-placed, Inside, name-told}

-- a single part's number
pub single-low : (m i : ℕ) → is_one (members m) ≡ true → i ≡ head_or 64 (members m) → i < 64
single-low m i one first = first_below m i [] (one-is 64 (members m) one ∙ ap (λ (x : ℕ). x ∷ []) (sym first))

-- ---- the count of a visit, and what its tests said

module _ (limits : Limits) (e : Names) (q : Rule) (m : ClosureMachine) where
  pub walk_more : (left : ℕ) (c n : Counts) → (left ≡ 0 → ⊥) → left ≤ 256 → c.visits < limits.patience → n.visits ≡ c.visits + 1 → n.deepest ≡ max (257 - left) c.deepest
      → visits limits left e q m (count_of c) ≡ look (closure_space limits.limit) (setting_of limits) (visits limits (left - 1)) e q m (count_of n)
  unfolding walk counted
  walk_more zero c n z l v a b = absurd (z refl)
  walk_more (suc k) c n z l v a b =
      let d : suc (257 - suc k) ≡ 257 - k = omega arith in
      let f : suc k - 1 ≡ k = omega arith in
      let more : suc c.visits ≡ n.visits = omega (arith, a) in
      let deep : max (257 - suc k) c.deepest ≡ n.deepest = sym b in
      rw (lt-ltb c.visits limits.patience v, f, d, more, deep)

  walk-over : (left : ℕ) (c : Counts) → (left ≡ 0 → ⊥) → limits.patience ≤ c.visits → visits limits left e q m (count_of c) ≡ spec.stopped 18 (rule_index q) c.visits
  unfolding walk
  walk-over zero c z v = absurd (z refl)
  walk-over (suc k) c z v = rw (le-ltb c.visits limits.patience v)

  walk_none : (left : ℕ) (c : Counts) → left ≡ 0 → visits limits left e q m (count_of c) ≡ spec.stopped 17 (rule_index q) c.visits
  unfolding walk
  walk_none left c z = rw z

module _ (program script sets numbers choices : List ℕ) (top somes left index : ℕ) (limits : Limits) (c : Counts) where
  pub deep-visits : left ≡ 0 → Visits program script sets numbers choices top somes left index limits c (Stopped 17 index c.visits)
  unfolding walked_of
  deep-visits z X = ap (λ (i : ℕ). spec.stopped 17 i c.visits) (sym X.stage.stood) ∙ sym (walk_none limits X.names X.rule _ left c z)

  pub over-visits : (left ≡ 0 → ⊥) → limits.patience ≤ c.visits → Visits program script sets numbers choices top somes left index limits c (Stopped 18 index c.visits)
  unfolding walked_of
  over-visits z v X = ap (λ (i : ℕ). spec.stopped 18 i c.visits) (sym X.stage.stood) ∙ sym (walk-over limits X.names X.rule _ left c z v)

  pub outside-visits : 256 ≤ index → (r : Walked) → Visits program script sets numbers choices top somes left index limits c r
  outside-visits h r X = absurd (let z : ⊥ = omega (arith, scene-low program script sets numbers choices top somes left index limits X) in z)

  -- a visit that is counted
  pub counted-visits : (left ≡ 0 → ⊥) → left ≤ 256 → c.visits < limits.patience → (n : Counts) → n.visits ≡ c.visits + 1 → n.deepest ≡ max (257 - left) c.deepest
      → (k : ℕ) → get_or program index 0 / 268435456 ≡ k → (r : Walked) → Looks program script sets numbers choices top somes (left - 1) index limits n r k
      → Visits program script sets numbers choices top somes left index limits c r
  unfolding kind
  counted-visits z l v n a b k e r L X =
      L (scene-deeper program script sets numbers choices top somes left index limits (suc (left - 1)) (omega arith) X) e
      ∙ sym (walk_more limits X.names X.rule (here script sets numbers top X.tree) left c n z l v a b)

-- ---- the words with no rule inside, and those that hand one visit on

module _ (program script sets numbers choices : List ℕ) (top somes left index : ℕ) (limits : Limits) (c : Counts) where
  abbrev Here : Type 0
  Here = Scene program script sets numbers choices top somes (suc left) index limits

  told : (X : Here) (k : ℕ) → kind (get_or program index 0) ≡ k → Told X.words X.table (indices X.names) k index X.rule
  told X k e = scene-told program script sets numbers choices top somes (suc left) index limits X k e

  -- what the word asks, where the rule there is q
  abbrev asks : Here → Rule → spec.Walked
  asks X q = look (closure_space limits.limit) (setting_of limits) (visits limits left) X.names q (here script sets numbers top X.tree) (count_of c)

  as-told : (X : Here) (q : Rule) → X.rule ≡ q → asks X q ≡ asks X X.rule
  as-told X q e = ap (asks X) (sym e)

  inside : (X : Here) (q : Rule) (i : ℕ) → Ruled X.words X.table (indices X.names) q → rule_index q ≡ i → Later X.from q → Inside program script sets numbers choices top somes left index limits X q i
  inside X q i R e L = record { ruled = R; stood = e; later = L }

  -- TRUE
  pub truth-finds : Looks program script sets numbers choices top somes left index limits c (Yes c) 0
  unfolding look walked_of
  truth-finds X e = as-told X (truth index) (told X 0 e)

  -- VOID
  pub void-finds : (r : Walked) → top < 2 ^ 64 → walked_of r ≡ says (eqb top 0) (count_of c) → Looks program script sets numbers choices top somes left index limits c r 3
  unfolding look
  void-finds r small er X e =
      er
      ∙ ap (λ (x : Bool). says x (count_of c)) (sym (void-told top X.tree small (top-told script (kinds_in numbers) (starts_in numbers) X.weight X.spent (state_in sets numbers top) X.tree (stretch 0 65 sets) top refl (length-stretch 0 65 sets) X.stage.represents)))
      ∙ as-told X (void index) (told X 3 e)

  -- a word of any other kind stands in no rule
  pub none-finds : (k : ℕ) → 10 ≤ k → (r : Walked) → Looks program script sets numbers choices top somes left index limits c r k
  none-finds k h r X e =
      let d : k ≡ suc (suc (suc (suc (suc (suc (suc (suc (suc (suc (k - 10)))))))))) = omega arith in
      absurd (told X (suc (suc (suc (suc (suc (suc (suc (suc (suc (suc (k - 10))))))))))) (e ∙ d))

  -- NOT
  pub negation-finds : (w r : Walked) → Visits program script sets numbers choices top somes left (index + 1) limits c w → walked_of r ≡ spec.turned (walked_of w)
      → Looks program script sets numbers choices top somes left index limits c r 1
  unfolding look
  negation-finds w r visited er X e =
      let (q, eq, ei, R) = told X 1 e in
      let I = inside X q (index + 1) R ei (subst (Later X.from) eq X.stage.later) in
      er ∙ ap spec.turned (visited (scene-inner program script sets numbers choices top somes left index limits X q (index + 1) I)) ∙ as-told X (negation index q) eq

  -- OR
  pub either-stops : (w : Walked) → Visits program script sets numbers choices top somes left (index + 1) limits c w → NotNo w
      → Looks program script sets numbers choices top somes left index limits c w 2
  unfolding look
  either-stops w visited h X e =
      let (q, p, eq, ei, R, ej, S) = told X 2 e in
      let I = inside X q (index + 1) R ei (subst (Later X.from) eq X.stage.later).0 in
      no-stops w (visits limits left X.names q (here script sets numbers top X.tree) (count_of c)) (visited (scene-inner program script sets numbers choices top somes left index limits X q (index + 1) I)) (λ n. visits limits left X.names p (here script sets numbers top X.tree) n) h
      ∙ as-told X (either index q p) eq

  pub either-goes : (w r : Walked) (d : Counts) (right : ℕ) → Visits program script sets numbers choices top somes left (index + 1) limits c w → w ≡ No d → right ≡ get_or program (256 + index) 0
      → Visits program script sets numbers choices top somes left right limits d r → Looks program script sets numbers choices top somes left index limits c r 2
  unfolding look
  either-goes w r d right visited ew er Z X e =
      let (q, p, eq, ei, R, ej, S) = told X 2 e in
      let L = subst (Later X.from) eq X.stage.later in
      let I = inside X q (index + 1) R ei L.0 in
      let J = inside X p right S (ej ∙ sym (er ∙ X.loaded.right index (scene-low program script sets numbers choices top somes (suc left) index limits X))) L.1 in
      Z (scene-inner program script sets numbers choices top somes left index limits X p right J)
      ∙ sym (no-goes w (visits limits left X.names q (here script sets numbers top X.tree) (count_of c)) (visited (scene-inner program script sets numbers choices top somes left index limits X q (index + 1) I)) (λ n. visits limits left X.names p (here script sets numbers top X.tree) n) d ew)
      ∙ as-told X (either index q p) eq

  -- what stands, in the form of the laws about states
  abbrev state : State
  state = state_in sets numbers top

  abbrev k : ℕ → List ℕ
  k = body_in state.kids

  abbrev w : ℕ → ClosureHead
  w = heads script (kinds_in numbers) (starts_in numbers) state.offsets

  few : (X : Here) → X.spent < 4294967295
  few X = omega (arith, X.stage.slack)

  -- the name that the word says
  name-is : (X : Here) → somes ≤ 8 → (said : ℕ) → said ≡ name_said choices (term_of (operand (get_or program index 0))) → Said X.words (indices X.names) index (term_of (operand (get_or X.words index 0)))
      → (said ≡ term_name X.names (term_of (operand (get_or X.words index 0)))) × (said < 536870912)
  name-is X d said en S =
      let t = name-told X.words (indices X.names) index (term_of (operand (get_or X.words index 0))) S limits.greatest somes X.names choices refl X.stage.named X.stage.greatest d in
      let e : said ≡ name_said choices (term_of (operand (get_or X.words index 0))) = en ∙ ap (λ (x : ℕ). name_said choices (term_of (operand x))) (X.loaded.word index (scene-inside program script sets numbers choices top somes (suc left) index limits X)) in
      (e ∙ t.0, let y = t.1 in omega (arith, e, y))

  -- the lent set of a part's body
  lent-own : (X : Here) (i : ℕ) → i < 64 → (c : Closure) → Room k w X.tree i c → members (get_or sets i 0) ≡ tops c
  lent-own X i low d room =
      let z : 0 + i ≡ i = omega arith in
      ap members (sym (get_or-stretch 0 65 i sets (omega arith) ∙ ap (λ (x : ℕ). get_or sets x 0) z))
      ∙ sym (lent-told script (kinds_in numbers) (starts_in numbers) X.weight X.spent state X.tree (stretch 0 65 sets) top refl (length-stretch 0 65 sets) X.stage.represents i (λ e. omega arith))
      ∙ room.own

  -- AT: no part, or several
  abbrev if_one : Here → Rule → Option ClosureMachine → spec.Walked
  if_one X q o = if_any o (λ m. visits limits left X.names q m (count_of c)) (count_of c)

  pub at-several : is_one (members top) ≡ false → Looks program script sets numbers choices top somes left index limits c (No c) 4
  unfolding look if_any walked_of
  at-several h X e =
      let (q, eq, ei, R, s) = told X 4 e in
      ap (if_one X q) (sym (at_none script (kinds_in numbers) (starts_in numbers) X.weight X.spent state X.tree (stretch 0 65 sets) top refl (length-stretch 0 65 sets) X.stage.represents (term_name X.names (term_of (operand (get_or X.words index 0)))) h))
      ∙ as-told X (at index (term_of (operand (get_or X.words index 0))) q) eq

  -- one part, which is asked for its name
  module _ (one : is_one (members top) ≡ true) (i : ℕ) (first : i ≡ head_or 64 (members top)) (small : somes ≤ 8) (said : ℕ) (en : said ≡ name_said choices (term_of (operand (get_or program index 0))))
      (called : Bool) (ec : i < 64 → called ≡ same_name (Some said) (name_in (get_or sets 129 0) (stretch 192 64 numbers) i)) where
    at_told : (X : Here) → Said X.words (indices X.names) index (term_of (operand (get_or X.words index 0)))
        → (i < 64) × ((d : Closure) × Room k w X.tree i d × (only (bound_in script state) (term_name X.names (term_of (operand (get_or X.words index 0)))) X.tree ≡ cond called (some (here script sets numbers top d)) none))
    at_told X s =
        let n = name-is X small said en s in
        let (low, (d, room, o)) = at_one script (kinds_in numbers) (starts_in numbers) X.weight X.spent state X.tree (stretch 0 65 sets) top refl (length-stretch 0 65 sets) X.stage.represents X.stage.ready (few X) (term_name X.names (term_of (operand (get_or X.words index 0)))) i one first in
        let same : same_name (Some (term_name X.names (term_of (operand (get_or X.words index 0))))) (name_in (get_or sets 129 0) (stretch 192 64 numbers) i) ≡ called =
        ap (λ (x : ℕ). same_name (Some x) (name_in (get_or sets 129 0) (stretch 192 64 numbers) i)) (sym n.0) ∙ sym (ec low) in
        (low, (d, room, o ∙ ap (λ (x : Bool). cond x (some (here script sets numbers top d)) none) same))

    pub at_other : called ≡ false → Looks program script sets numbers choices top somes left index limits c (No c) 4
    unfolding look if_any walked_of
    at_other miss X e =
        let (q, eq, ei, R, s) = told X 4 e in
        let (low, (d, room, o)) = at_told X s in
        ap (if_one X q) (sym (o ∙ ap (λ (x : Bool). cond x (some (here script sets numbers top d)) none) miss))
        ∙ as-told X (at index (term_of (operand (get_or X.words index 0))) q) eq

    pub at_goes : called ≡ true → (r : Walked) → Visits program script sets numbers choices (get_or sets i 0) somes left (index + 1) limits c r → Looks program script sets numbers choices top somes left index limits c r 4
    unfolding look if_any
    at_goes hit r visited X e =
        let (q, eq, ei, R, s) = told X 4 e in
        let (low, (d, room, o)) = at_told X s in
        let I = inside X q (index + 1) R ei (subst (Later X.from) eq X.stage.later) in
        visited (scene-piece program script sets numbers choices top somes left index limits X d (get_or sets i 0) room.piece (lent-own X i low d room) q (index + 1) I)
        ∙ ap (if_one X q) (sym (o ∙ ap (λ (x : Bool). cond x (some (here script sets numbers top d)) none) hit))
        ∙ as-told X (at index (term_of (operand (get_or X.words index 0))) q) eq

  -- one division of BESIDE
  module _ (x : Walked) (share : ℕ) (visited : Visits program script sets numbers choices share somes left (index + 1) limits c x) where
    first_of : (X : Here) (q p : Rule) (d : Closure × Closure) → X.rule ≡ beside index q p → Divides k w X.tree top share d
        → walked_of x ≡ visits limits left X.names q (here script sets numbers top d.0) (count_of c)
    first_of X q p d eq D =
        let R = subst (Ruled X.words X.table (indices X.names)) eq X.stage.ruled in
        visited (scene-piece program script sets numbers choices top somes left index limits X d.0 share D.piece D.taken q (index + 1) (inside X q (index + 1) R.2 R.1 (subst (Later X.from) eq X.stage.later).0))

    pub split-stops : NotYes x → Splits program script sets numbers choices top somes left index limits c x share
    split-stops h X q p d eq D =
        yes-stops x (visits limits left X.names q (here script sets numbers top d.0) (count_of c)) (first_of X q p d eq D) (λ n. visits limits left X.names p (here script sets numbers top d.1) n) h

    pub split_goes : (f : Counts) (right rest : ℕ) (r : Walked) → x ≡ Yes f → right ≡ get_or program (256 + index) 0 → members rest ≡ but (members top) (members share)
        → Visits program script sets numbers choices rest somes left right limits f r → Splits program script sets numbers choices top somes left index limits c r share
    split_goes f right rest r ex er em Z X q p d eq D =
        let R = subst (Ruled X.words X.table (indices X.names)) eq X.stage.ruled in
        let J = inside X p right R.4 (R.3 ∙ sym (er ∙ X.loaded.right index (scene-low program script sets numbers choices top somes (suc left) index limits X))) (subst (Later X.from) eq X.stage.later).1 in
        Z (scene-piece program script sets numbers choices top somes left index limits X d.1 rest D.rest (em ∙ D.others) p right J)
        ∙ sym (yes-goes x (visits limits left X.names q (here script sets numbers top d.0) (count_of c)) (first_of X q p d eq D) (λ n. visits limits left X.names p (here script sets numbers top d.1) n) f ex)

  -- PLACED: its number and name fit
  abbrev number : Here → ℕ
  number X = get_or X.table.placings index 0

  number_is : (X : Here) → get_or program (512 + index) 0 ≡ number X
  number_is X = X.loaded.number index (scene-low program script sets numbers choices top somes (suc left) index limits X)

  pub placed-number : (i : ℕ) → i ≡ limits.parts + get_or program (512 + index) 0 → 64 ≤ i → (r : Walked) → Looks program script sets numbers choices top somes left index limits c r 9
  placed-number i ei h r X e =
      let (q, eq, ej, R, s, low) = told X 9 e in
      absurd (let z : ⊥ = omega (arith, ei, number_is X, low, X.stage.limited, X.stage.few) in z)

  pub placed-far : 64 ≤ get_or program (512 + index) 0 → (r : Walked) → Looks program script sets numbers choices top somes left index limits c r 9
  placed-far h r X e =
      let (q, eq, ej, R, s, low) = told X 9 e in
      absurd (let z : ⊥ = omega (arith, number_is X, low, X.stage.limited, X.stage.few) in z)

  pub placed-name : somes ≤ 8 → (said : ℕ) → said ≡ name_said choices (term_of (operand (get_or program index 0))) → 536870912 ≤ said → (r : Walked) → Looks program script sets numbers choices top somes left index limits c r 9
  placed-name small said en h r X e =
      let (q, eq, ej, R, s, low) = told X 9 e in
      let b = (name-is X small said en s).1 in
      absurd (let z : ⊥ = omega (arith, b) in z)

  pub placed-goes : somes ≤ 8 → (n : ℕ) → n ≡ name_said choices (term_of (operand (get_or program index 0))) → (i : ℕ) → i ≡ limits.parts + get_or program (512 + index) 0
      → (sets' numbers' : List ℕ) (top' : ℕ) → Lendable script sets' numbers' top' → bound_in script (state_in sets' numbers' top') ≡ bound_in script state
      → ((weight spent : ℕ) (b : Closure) → Represents script (kinds_in numbers) (starts_in numbers) weight spent state b → times_in i b ≡ 0 → weight < 64
      → Represents script (kinds_in numbers') (starts_in numbers') (weight + 1) spent (state_in sets' numbers' top') (part i (ambient (name n)) b close))
      → (r : Walked) → Visits program script sets' numbers' choices top' somes left (index + 1) limits c r → Looks program script sets numbers choices top somes left index limits c r 9
  unfolding look
  placed-goes small n en i ei sets' numbers' top' L eb P r visited X e =
      let (q, eq, ej, R, s, low) = told X 9 e in
      let later = subst (Later X.from) eq X.stage.later in
      let z : i ≡ limits.parts + number X = ei ∙ ap (λ (x : ℕ). limits.parts + x) (number_is X) in
      visited (scene-placed program script sets numbers choices top somes left index limits X sets' numbers' top' (number X) n L later.0 low
      (subst (λ (x : ℕ). (weight spent : ℕ) (b : Closure) → Represents script (kinds_in numbers) (starts_in numbers) weight spent state b → times_in x b ≡ 0 → weight < 64 → Represents script (kinds_in numbers') (starts_in numbers') (weight + 1) spent (state_in sets' numbers' top') (part x (ambient (name n)) b close)) z P)
      q (index + 1) R ej later.1)
      ∙ ap₂ (λ (σ : Bindings) (x : ℕ). visits limits left X.names q (record { tree = part (limits.parts + number X) (ambient (name x)) X.tree close; bindings = σ }) (count_of c)) eb (name-is X small n en s).0
      ∙ as-told X (placed index (number X) (term_of (operand (get_or X.words index 0))) q) eq

-- The scenes that the members of the walk's cycle hand on: of a rule inside the one that is visited, on the same closure, on
-- a piece of it, under a chosen name, after a move, and inside a new ambient. Assumes nothing.
use Prim.Native.Nat.{ℕ, suc, ◌+◌, ◌≤◌, ◌<◌}
use mathlib.Core.Bool.{true}
use mathlib.Core.List.{List, ◌∷◌}
use mathlib.Core.Path.{◌≡◌, refl, sym, ap, ◌∙◌, subst}
use native.Mathlib.Omega.{arith}
use lib.Dec.{eqb}
use mathlib.Core.Option.{some}
use lib.ListN.{get_or, length}
use borrow.Author.Tests.{lt-ltb, eqb-true, eqb-false, ne_eqb, eq-eqb}
use Rattle.base_sets.specs.Sets.{members}
use Rattle.read_messages.specs.Words.{kind, member}
use Rattle.read_messages.specs.Message.{name}
use Rattle.read_scripts.specs.Tree.{ambient, close, part, total_over, tops, times_in}
use Rattle.read_scripts.specs.Represents.{body_in}
use Rattle.theory_machine.specs.Moves.{MoveMade}
use Rattle.base_slices.proofs.Tests.{by_test}
use Rattle.read_rule_words.specs.Rule.{Term, constant, chosen, Names, chosen_name, term_name, Rule, rule_index, Later}
use Rattle.read_rules.specs.Ruled.{Ruled, Said}
use Rattle.read_rule_words.specs.RuleWords.{term_word}
use Rattle.read_rule_words.specs.declared.RuleTerm.TheVariants as terms
use Rattle.read_rules.proofs.Inversion.{Told, rule_told, rule-inside, constant-said, chosen-said}
use Rattle.theory_closures.specs.Closure.{Action, Closure, closure_move}
use Rattle.engine_states.specs.Represents.{heads, bound_in, Represents}
use Rattle.base_arrays.specs.Stretches.{stretch}
use Rattle.engine_state_arrays.specs.Lent.{kinds_in, starts_in, state_in}
use Rattle.base_arrays.proofs.Copying.{length-stretch}
use Rattle.walk_stages.specs.Pieces.{Piece}
use Rattle.walk_stages.specs.Visits.{indices, Chosen, Stage, name_said, Lendable, Visitable, Scene}
use Rattle.walk_stages.specs.declared.Limits.{Limits}
use Rattle.walk_stages.proofs.Focused.{ready-top, stage-piece}
use Rattle.walk_stages.proofs.Targeted.{move-low}

module _ (program script sets numbers choices : List ℕ) (top somes left index : ℕ) (limits : Limits) where
  module _ (X : Scene program script sets numbers choices top somes left index limits) where
    -- the index is one of a word
    pub scene-inside : index < length X.words
    scene-inside = subst (λ (x : ℕ). x < length X.words) X.stage.stood (rule-inside X.words X.table (indices X.names) X.rule X.stage.ruled)

    pub scene-low : index < 256
    scene-low = omega (arith, scene-inside, X.stage.short)

    -- what stands there, by the word's kind
    pub scene-told : (k : ℕ) → kind (get_or program index 0) ≡ k → Told X.words X.table (indices X.names) k index X.rule
    scene-told k e =
        rule_told X.words X.table (indices X.names) X.rule index k X.stage.ruled X.stage.stood
        (ap kind (sym (X.loaded.word index scene-inside)) ∙ e)

    -- the sets and heads of the state that is lent
    abbrev pub bodies : ℕ → List ℕ
    bodies = body_in (state_in sets numbers top).kids

module _ {program script sets numbers choices : List ℕ} {top somes left index : ℕ} {limits : Limits} (X : Scene program script sets numbers choices top somes left index limits) where
  -- another stage of the same words and table, as a scene
  abbrev pub restaged : {sets' numbers' choices' : List ℕ} {top' somes' left' i weight spent from : ℕ} {names : Names} {q : Rule} {b : Closure}
      → Stage X.words X.table script (kinds_in numbers') (starts_in numbers') limits choices' somes' left' (state_in sets' numbers' top') i weight spent from names q b
      → Scene program script sets' numbers' choices' top' somes' left' i limits
  restaged {weight = weight} {spent = spent} {from = from} {names = names} {q = q} {b = b} S = record {
    words = X.words;
    table = X.table;
    weight = weight;
    spent = spent;
    from = from;
    names = names;
    rule = q;
    tree = b;
    loaded = X.loaded;
    stage = S;
  }

  -- the same closure, with no more depths left, for another rule and other names chosen
  stage-under : (choices' : List ℕ) (somes' k : ℕ) → k ≤ left → (names : Names) (q : Rule) (i : ℕ) → Ruled X.words X.table (indices names) q → rule_index q ≡ i → Later X.from q
      → Chosen limits.greatest names choices' somes'
      → Stage X.words X.table script (kinds_in numbers) (starts_in numbers) limits choices' somes' k (state_in sets numbers top) i X.weight X.spent X.from names q X.tree
  stage-under choices' somes' k h names q i ruled stood later named = record {
    ready = X.stage.ready;
    represents = X.stage.represents;
    slack = omega (arith, X.stage.slack);
    below = X.stage.below;
    light = X.stage.light;
    within = X.stage.within;
    limited = X.stage.limited;
    few = X.stage.few;
    greatest = X.stage.greatest;
    short = X.stage.short;
    ruled = ruled;
    stood = stood;
    later = later;
    named = named;
  }

-- fewer depths left
module _ (program script sets numbers choices : List ℕ) (top somes left index : ℕ) (limits : Limits) (k : ℕ) (h : k ≤ left) (X : Scene program script sets numbers choices top somes left index limits) where
  pub stage-deeper : Stage X.words X.table script (kinds_in numbers) (starts_in numbers) limits choices somes k (state_in sets numbers top) index X.weight X.spent X.from X.names X.rule X.tree
  stage-deeper = stage-under X choices somes k h X.names X.rule index X.stage.ruled X.stage.stood X.stage.later X.stage.named

  abbrev pub scene-deeper : Scene program script sets numbers choices top somes k index limits
  scene-deeper = restaged X stage-deeper

module _ (program script sets numbers choices : List ℕ) (top somes left index : ℕ) (limits : Limits) (X : Scene program script sets numbers choices top somes (suc left) index limits) where
  -- a rule inside the one that is visited
  pub record Inside (q : Rule) (i : ℕ) : Type 0 where
    pub ruled : Ruled X.words X.table (indices X.names) q
    pub stood : rule_index q ≡ i
    pub later : Later X.from q

  -- on a piece of the closure
  module _ (c : Closure) (m : ℕ) (P : Piece (body_in (state_in sets numbers top).kids) (heads script (kinds_in numbers) (starts_in numbers) (state_in sets numbers top).offsets) X.tree c) (e : members m ≡ tops c)
      (q : Rule) (i : ℕ) (I : Inside q i) where
    pub stage-on : Stage X.words X.table script (kinds_in numbers) (starts_in numbers) limits choices somes left (state_in sets numbers m) i X.weight X.spent X.from X.names q c
    stage-on =
        stage-piece X.words X.table script (kinds_in numbers) (starts_in numbers) limits choices somes left (state_in sets numbers top) index X.weight X.spent X.from X.names X.rule X.tree (stretch 0 65 sets) top refl (length-stretch 0 65 sets)
        (stage-deeper program script sets numbers choices top somes (suc left) index limits left (omega arith) X) c m P e q i I.ruled I.stood I.later

    abbrev pub scene-piece : Scene program script sets numbers choices m somes left i limits
    scene-piece = restaged X stage-on

  -- on the same closure
  module _ (q : Rule) (i : ℕ) (I : Inside q i) where
    pub stage-inner : Stage X.words X.table script (kinds_in numbers) (starts_in numbers) limits choices somes left (state_in sets numbers top) i X.weight X.spent X.from X.names q X.tree
    stage-inner = stage-under X choices somes left (omega arith) X.names q i I.ruled I.stood I.later X.stage.named

    abbrev pub scene-inner : Scene program script sets numbers choices top somes left i limits
    scene-inner = restaged X stage-inner

  -- under the name n for the SOME that is visited
  module _ (more : List ℕ) (n : ℕ) (en : get_or more index 0 ≡ n) (others : (i : ℕ) → (i ≡ index → ⊥) → get_or more i 0 ≡ get_or choices i 0) (bound : n ≤ limits.greatest + (somes + 1))
      (q : Rule) (i : ℕ) (R : Ruled X.words X.table (index ∷ indices X.names) q) (ei : rule_index q ≡ i) (L : Later X.from q) where
    index-low : index < 256
    index-low = scene-low program script sets numbers choices top somes (suc left) index limits X

    abbrev Fits : ℕ → Type 0
    Fits x = (x < 256) × (chosen_name ((index, n) ∷ X.names) x ≡ get_or more x 0) × (get_or more x 0 ≤ limits.greatest + (somes + 1))

    chosen-names : (j : ℕ) → member j (index ∷ indices X.names) ≡ true → Fits j
    unfolding chosen_name member
    chosen-names j m =
        by_test (eqb j index)
        (λ t. let e : index ≡ j = sym (eqb-true j index t) in subst Fits e (index-low, rw (eq-eqb index index refl) (sym en), rw en bound))
        (λ t. let e : j ≡ index → ⊥ = eqb-false j index t in
        let old = X.stage.named.names j (rw t at m) in
        let same : get_or more j 0 ≡ get_or choices j 0 = others j e in
        (old.0, rw (ne_eqb index j (λ z. e (sym z))) (old.1 ∙ sym same), let b = old.2 in omega (arith, same, b)))

    pub stage-chosen : Stage X.words X.table script (kinds_in numbers) (starts_in numbers) limits more (somes + 1) left (state_in sets numbers top) i X.weight X.spent X.from ((index, n) ∷ X.names) q X.tree
    stage-chosen = stage-under X more (somes + 1) left (omega arith) ((index, n) ∷ X.names) q i R ei L (record { number = let e = X.stage.named.number in omega (arith, e); names = chosen-names })

    abbrev pub scene-chosen : Scene program script sets numbers more top (somes + 1) left i limits
    scene-chosen = restaged X stage-chosen

  -- after a move
  module _ (sets' numbers' : List ℕ) (top' : ℕ) (L : Lendable script sets' numbers' top') (ek : kinds_in numbers' ≡ kinds_in numbers) (es : starts_in numbers' ≡ starts_in numbers)
      (a t : ℕ) (m : MoveMade Action) (e : closure_move (bound_in script (state_in sets numbers top)) a t X.tree ≡ some m)
      (R : Represents script (kinds_in numbers) (starts_in numbers) X.weight (X.spent + 1) (state_in sets' numbers' top') m.body) where
    pub stage-moved : Stage X.words X.table script (kinds_in numbers') (starts_in numbers') limits choices somes left (state_in sets' numbers' top') index X.weight (X.spent + 1) X.from X.names X.rule m.body
    stage-moved = record {
      ready = L.ready;
      represents = subst (λ (k : List ℕ). Represents script k (starts_in numbers') X.weight (X.spent + 1) (state_in sets' numbers' top') m.body) (sym ek)
          (subst (λ (k : List ℕ). Represents script (kinds_in numbers) k X.weight (X.spent + 1) (state_in sets' numbers' top') m.body) (sym es) R);
      slack = omega (arith, X.stage.slack);
      below = (move-low (bound_in script (state_in sets numbers top)) (limits.parts + X.from) a t X.tree m X.stage.below e).2;
      light = X.stage.light;
      within = X.stage.within;
      limited = X.stage.limited;
      few = X.stage.few;
      greatest = X.stage.greatest;
      short = X.stage.short;
      ruled = X.stage.ruled;
      stood = X.stage.stood;
      later = X.stage.later;
      named = X.stage.named;
    }

    abbrev pub scene-moved : Scene program script sets' numbers' choices top' somes left index limits
    scene-moved = restaged X stage-moved

  -- inside a new ambient, whose number is that of the j-th PLACED word
  module _ (sets' numbers' : List ℕ) (top' j n : ℕ) (L : Lendable script sets' numbers' top') (fj : X.from ≤ j) (jc : j < X.table.count)
      (R : (weight spent : ℕ) (b : Closure) → Represents script (kinds_in numbers) (starts_in numbers) weight spent (state_in sets numbers top) b → times_in (limits.parts + j) b ≡ 0 → weight < 64
      → Represents script (kinds_in numbers') (starts_in numbers') (weight + 1) spent (state_in sets' numbers' top') (part (limits.parts + j) (ambient (name n)) b close))
      (q : Rule) (i : ℕ) (ruled : Ruled X.words X.table (indices X.names) q) (ei : rule_index q ≡ i) (later : Later (suc j) q) where
    below-placed : (x : ℕ) → limits.parts + suc j ≤ x → times_in x (part (limits.parts + j) (ambient (name n)) X.tree close) ≡ 0
    unfolding total_over
    below-placed x l = rw (ne_eqb x (limits.parts + j) (λ e. omega arith)) (let z = X.stage.below x (omega arith) in omega arith)

    pub stage-placed : Stage X.words X.table script (kinds_in numbers') (starts_in numbers') limits choices somes left (state_in sets' numbers' top') i (X.weight + 1) X.spent (suc j) X.names q (part (limits.parts + j) (ambient (name n)) X.tree close)
    stage-placed = record {
      ready = L.ready;
      represents = R X.weight X.spent X.tree X.stage.represents (X.stage.below (limits.parts + j) (omega arith)) (omega (arith, X.stage.light, X.stage.limited, X.stage.few));
      slack = omega (arith, X.stage.slack);
      below = below-placed;
      light = omega (arith, X.stage.light);
      within = omega (arith, X.stage.limited);
      limited = X.stage.limited;
      few = X.stage.few;
      greatest = X.stage.greatest;
      short = X.stage.short;
      ruled = ruled;
      stood = ei;
      later = later;
      named = X.stage.named;
    }

    abbrev pub scene-placed : Scene program script sets' numbers' choices top' somes left i limits
    scene-placed = restaged X stage-placed

-- the name that a term says is the chosen one, and is small
pub name-told : (words somes : List ℕ) (i : ℕ) (t : Term) → Said words somes i t → (greatest d : ℕ) (e : Names) (choices : List ℕ) → somes ≡ indices e → Chosen greatest e choices d → greatest < 268435456 → d ≤ 8
    → (name_said choices t ≡ term_name e t) × (name_said choices t < 536870912)
unfolding name_said term_name term_word
name-told words somes i (constant n) S greatest d e choices es C g s = (refl, let b = (constant-said words somes i (constant n) S n term_is).2 in omega (arith, b))
  where
    term_is : terms.Constant n ≡ term_word (constant n)
    term_is = refl
name-told words somes i (chosen k) S greatest d e choices es C g s =
    let m = (chosen-said words somes i (chosen k) S k term_is).1 in
    let x = C.names k (subst (λ (l : List ℕ). member k l ≡ true) es m) in
    rw (lt-ltb k 256 x.0) (sym x.1, let y = x.2 in omega (arith, y))
  where
    term_is : terms.Chosen k ≡ term_word (chosen k)
    term_is = refl

-- what is lent serves with any set of top parts
pub lendable-top : (script sets numbers : List ℕ) (top m : ℕ) → Lendable script sets numbers top → Lendable script sets numbers m
lendable-top script sets numbers top m L = record {
  sets-long = L.sets-long;
  numbers-long = L.numbers-long;
  small = L.small;
  ready = ready-top script (kinds_in numbers) (starts_in numbers) (state_in sets numbers top) (stretch 0 65 sets) m L.ready;
}

-- what a visit asks still holds with other top parts, on another state, and inside a SOME more

module _ {script sets numbers : List ℕ} {top somes : ℕ} {limits : Limits} (ok : Visitable script sets numbers top somes limits) where
  pub visitable-top : (m : ℕ) → Visitable script sets numbers m somes limits
  visitable-top m = record { few-somes = ok.few-somes; few-numbers = ok.few-numbers; few-parts = ok.few-parts; small-names = ok.small-names; state = lendable-top script sets numbers top m ok.state }

  pub visitable-state : {sets' numbers' : List ℕ} {top' : ℕ} → Lendable script sets' numbers' top' → Visitable script sets' numbers' top' somes limits
  visitable-state L = record { few-somes = ok.few-somes; few-numbers = ok.few-numbers; few-parts = ok.few-parts; small-names = ok.small-names; state = L }

  pub visitable-some : somes < 8 → Visitable script sets numbers top (somes + 1) limits
  visitable-some h = record { few-somes = omega arith; few-numbers = ok.few-numbers; few-parts = ok.few-parts; small-names = ok.small-names; state = ok.state }

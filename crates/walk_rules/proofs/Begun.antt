-- The first visit: that it can be made, its scene, that it is the whole walk, and where its moves lead. Assumes nothing.
use Prim.Native.Nat.{ℕ, ◌+◌, ◌/◌, ◌≤◌, ◌<◌}
use mathlib.Core.Bool.{false≢true}
use mathlib.Core.List.{List, []}
use mathlib.Core.Path.{◌≡◌, refl, sym, ap, ap₂, ◌∙◌, subst}
use native.Mathlib.Omega.{arith}
use lib.ListN.{length, get_or, take}
use lib.Seq.{length-take-le, get_or-take, ext_get_or}
use Rattle.read_messages.specs.Words.{kind, member}
use Rattle.read_messages.specs.Reading.{Cursor}
use Rattle.read_scripts.specs.Tree.{times_in}
use Rattle.read_rule_words.specs.Rule.{Rule, sometime, Later}
use Rattle.read_rules.specs.Ruled.{Ruled, Tabled}
use Rattle.read_rules.specs.declared.RuleTable.{RuleTable}
use Rattle.theory_closures.specs.Closure.{Closure}
use Rattle.base_arrays.specs.Stretches.{stretch}
use Rattle.base_arrays.proofs.Copying.{length-stretch, get_or-stretch}
use Rattle.engine_states.specs.Represents.{Ready, Represents}
use Rattle.engine_states.specs.declared.State.{State}
use Rattle.engine_state_arrays.specs.Lent.{kinds_in, starts_in, state_in, Small}
use Rattle.theory_decision.specs.Walk.{Count}
use Rattle.walk_stages.specs.Visits.{count_of, Chosen, machine_of, Scene, visits, Visitable, Visits, Walks}
use Rattle.walk_stages.specs.declared.Counts.{Counts}
use Rattle.walk_stages.specs.declared.Limits.{Limits}
use Rattle.walk_stages.specs.declared.Walked.{Walked}
use Rattle.walk_states.proofs.Lendings.{carried}
use Rattle.walk_itineraries.specs.Leading.{LeadsTo, Leads}
use Rattle.walk_itineraries.proofs.Guiding.{leads-visits}
use Rattle.walk_rules.specs.Walking.{Loading, RuleWalkable, Routed}

-- the first k of an array that has so many
stretch-first : (k : ℕ) (l : List ℕ) → k ≤ length l → stretch 0 k l ≡ take k l
stretch-first k l h = ext_get_or 0 (stretch 0 k l) (take k l) (length-stretch 0 k l ∙ sym (length-take-le k l h))
    (λ j m. let u : j < k = subst (λ (y : ℕ). j < y) (length-stretch 0 k l) m in
    let z : 0 + j ≡ j = omega arith in
    get_or-stretch 0 k j l u ∙ ap (λ (y : ℕ). get_or l y 0) z ∙ sym (get_or-take k l j 0 u))

-- the first word of a rule that is SOMETIME
first_kind : (words : List ℕ) (table : RuleTable) (r q : Rule) → Ruled words table [] r → r ≡ sometime 0 q → kind (get_or words 0 0) ≡ 7
first_kind words table r q R e = (subst (Ruled words table []) e R).0.kind

-- the first word of the program is the rule's
first_word : {words rights placings program : List ℕ} → Loading words rights placings program 256 → kind (get_or program 0 0) ≡ kind (get_or words 0 0)
first_word L = ap kind (L.word 0 (omega arith))

-- no name is chosen yet
none-chosen : (greatest : ℕ) (choices : List ℕ) → Chosen greatest [] choices 0
unfolding member
none-chosen greatest choices = record { number = refl; names = λ i m. absurd (false≢true m) }

count_none : (c : Counts) → c.visits ≡ 0 → c.deepest ≡ 0 → count_of c ≡ record { visits = 0; deepest = 0 }
count_none c ev ed = ap₂ (λ (x : ℕ) (y : ℕ). record { visits = x; deepest = y }) ev ed

module _ {script kinds starts : List ℕ} (sets numbers : List ℕ) (top : ℕ) {s : State} {limits : Limits} (asked : RuleWalkable script kinds starts s limits)
    (ek : kinds_in numbers ≡ kinds) (es : starts_in numbers ≡ starts) (e : state_in sets numbers top ≡ s) where
  abbrev ready-there : Ready script (kinds_in numbers) (starts_in numbers) (state_in sets numbers top)
  ready-there = carried (λ (k : List ℕ) (l : List ℕ) (x : State). Ready script k l x) kinds _ starts _ s _ ek es e asked.ready

  -- the arrays that hold the state can be visited, no SOME being around
  pub first-visitable : Small numbers → length sets ≡ 131 → length numbers ≡ 481 → Visitable script sets numbers top 0 limits
  first-visitable small m n = record {
    few-somes = omega arith;
    few-numbers = asked.few-numbers;
    few-parts = asked.few-parts;
    small-names = asked.small-names;
    state = record { sets-long = m; numbers-long = n; small = small; ready = ready-there };
  }

  module _ {words program : List ℕ} {table : RuleTable} (L : Loading words table.rights table.placings program 256) where
    -- the first visit's scene, of a rule and a closure that the whole walk is asked of
    module _ (choices : List ℕ) (weight spent : ℕ) (b : Closure) (p : Rule × Cursor) (T : Tabled limits.parts words table p) (later : Later 0 p.0) (limited : limits.limit ≡ limits.parts + table.count)
        (R : Represents script kinds starts weight spent s b) (light : weight ≤ limits.parts) (below : (i : ℕ) → limits.parts ≤ i → times_in i b ≡ 0) (slack : spent + 256 < 4294967295) where
      abbrev first_scene : Scene program script sets numbers choices top 0 256 0 limits
      first_scene = record {
        words = words;
        table = table;
        weight = weight;
        spent = spent;
        from = 0;
        names = [];
        rule = p.0;
        tree = b;
        loaded = record { word = λ i h. L.word i (omega (arith, T.few)); right = L.right; number = L.number };
        stage = record {
          ready = ready-there;
          represents = carried (λ (k : List ℕ) (l : List ℕ) (x : State). Represents script k l weight spent x b) kinds _ starts _ s _ ek es e R;
          slack = slack;
          below = λ i h. below i (omega arith);
          light = omega arith;
          within = omega arith;
          limited = limited;
          few = asked.few-numbers;
          greatest = asked.small-names;
          short = T.few;
          ruled = T.ruled;
          stood = T.first;
          later = later;
          named = none-chosen limits.greatest choices;
        };
      }

    -- THEOREM: the first visit answers the whole walk.
    pub whole-walk : {choices : List ℕ} (c : Counts) (r : Walked) → c.visits ≡ 0 → c.deepest ≡ 0 → Visits program script sets numbers choices top 0 256 0 limits c r → Walks words table script kinds starts s limits r
    whole-walk {choices} c r ev ed answers weight spent b p T later limited R light below slack =
        answers (first_scene choices weight spent b p T later limited R light below slack)
        ∙ ap₂ (λ (x : State) (n : Count). visits limits 256 [] p.0 (machine_of script x b) n) e (count_none c ev ed)

    -- a rule that begins with another word
    pub none-routed : (r : Walked) (list : List ℕ) → length list ≡ 256 → (get_or program 0 0 / 268435456 ≡ 7 → ⊥) → Routed words table script kinds starts s limits r 0 list
    unfolding kind
    none-routed r list long n = record {
      few = omega arith;
      array = long;
      others = λ m. refl;
      moves = λ weight spent b p T later limited R light below slack q eq m er. absurd (n (first_word L ∙ first_kind words table p.0 q T.ruled eq));
    }

    -- THEOREM: the first visit at SOMETIME answers the whole walk, and its moves lead to where the inner rule says yes.
    module _ {choices : List ℕ} (c : Counts) (r : Walked) (count : ℕ) (list : List ℕ) (is : get_or program 0 0 / 268435456 ≡ 7) (G : Leads program script sets numbers choices top 0 256 0 limits c r count list) where
      pub led-walk : c.visits ≡ 0 → c.deepest ≡ 0 → Walks words table script kinds starts s limits r
      unfolding kind
      led-walk ev ed = whole-walk c r ev ed (leads-visits program script sets numbers choices top 0 256 0 limits c r count list is G)

      pub led-routed : length list ≡ 256 → Routed words table script kinds starts s limits r count list
      unfolding kind
      led-routed long = record {
        few = G.few;
        array = long;
        others = λ m. absurd (m (sym (first_word L) ∙ is));
        moves = λ weight spent b p T later limited R light below slack q eq n er.
            let D = G.moves q (record { scene = first_scene choices weight spent b p T later limited R light below slack; is = eq }) refl n er in
            let f = G.few in
            subst (λ (x : State). LeadsTo limits [] q (machine_of script x b) (take count list)) e
            (subst (LeadsTo limits [] q (machine_of script (state_in sets numbers top) b)) (stretch-first count list (omega (arith, f, long))) D);
      }

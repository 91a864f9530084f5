-- What a visit at SOMETIME answers that keeps the moves by which it comes to its yes. Assumes nothing: these are definitions.
use Rattle.std.specs.Prelude.{ℕ, ◌+◌, ◌-◌, ◌*◌, ◌≤◌, ◌<◌, true, List, ◌≡◌}
use Rattle.read_messages.specs.Words.{word}
use Rattle.read_rule_words.specs.Rule.{Names, Rule, sometime}
use Rattle.theory_closures.specs.Closure.{ClosureMachine}
use Rattle.base_arrays.specs.Stretches.{stretch}
use Rattle.engine_states.specs.Represents.{bound_in}
use Rattle.engine_state_arrays.specs.Lent.{state_in}
use Rattle.theory_decision.specs.Walk.{Count, says, on_no, first_yes}
use Rattle.theory_decision.specs.Walk as spec
use Rattle.theory_decision.specs.ClosureWalk.{nexts}
use Rattle.theory_call.specs.ClosureCall.{completed, closure_run}
use Rattle.walk_stages.specs.Visits.{count_of, walked_of, Scene, here, visits}
use Rattle.walk_stages.specs.declared.Counts.{Counts}
use Rattle.walk_stages.specs.declared.Limits.{Limits}
use Rattle.walk_stages.specs.declared.Walked.{Walked}
use Rattle.walk_stages.specs.declared.Walked.TheVariants.{Yes, No}

-- "A move word has kind 1, the actor in bits 8 to 15, the target in bits 0 to 7, the rest zero."
abbrev pub move_word : (actor target : ℕ) → ℕ
move_word a t = word 1 (a * 256 + t)

-- The words are moves that the closure machine makes one after the other from m, whatever the first word's place, and they lead
-- to a closure on which a visit of the rule q says yes.
pub record LeadsTo (limits : Limits) (names : Names) (q : Rule) (m : ClosureMachine) (words : List ℕ) : Type 0 where
  pub end : ClosureMachine
  pub made : (i : ℕ) → closure_run limits.parts i words m ≡ completed end
  pub left : ℕ
  pub first : Count
  pub last : Count
  pub meets : visits limits left names q end first ≡ says true last

module _ (program script sets numbers chosen : List ℕ) (top somes left index : ℕ) (limits : Limits) where
  -- a scene in which the rule is SOMETIME of q
  pub record Sometimes (q : Rule) : Type 0 where
    pub scene : Scene program script sets numbers chosen top somes left index limits
    pub is : scene.rule ≡ sometime index q

  -- what the walk answers of the moves from there, in its order, with the counts n
  abbrev pub moves_tried : (q : Rule) → Sometimes q → Count → spec.Walked
  moves_tried q X n =
      first_yes (λ m k. visits limits (left - 1) X.scene.names (sometime index q) m k) (nexts (bound_in script (state_in sets numbers top)) limits.limit X.scene.tree) n

  module _ (c : Counts) where
    -- what it answers at that visit
    abbrev pub visited : (q : Rule) → Sometimes q → spec.Walked
    visited q X = visits limits left X.scene.names (sometime index q) (here script sets numbers top X.scene.tree) (count_of c)

    -- r is what a visit at SOMETIME answers before its first move: its stop, or what the inner rule's visit says
    pub record Begins (r : Walked) : Type 0 where
      -- on no the moves are tried
      pub goes : (q : Rule) (X : Sometimes q) → visited q X ≡ on_no (walked_of r) (moves_tried q X)
      -- yes is the inner rule's
      pub meets : (q : Rule) (X : Sometimes q) (n : Counts) → r ≡ Yes n → (k : Count) × (visits limits (left - 1) X.scene.names q (here script sets numbers top X.scene.tree) k ≡ says true (count_of n))
      -- where there is no depth left the visit stops
      pub depths : (n : Counts) → r ≡ No n → 0 < left

    -- r is what the visit answers; and where that is yes, so many words of the list as are counted, from the index on that the
    -- visit's depth gives, lead to where the inner rule says yes, if no part is one of a PLACED word.
    pub record Leads (r : Walked) (count : ℕ) (list : List ℕ) : Type 0 where
      pub answers : (q : Rule) (X : Sometimes q) → walked_of r ≡ visited q X
      pub few : count ≤ left
      pub moves : (q : Rule) (X : Sometimes q) → X.scene.from ≡ 0 → (n : Counts) → r ≡ Yes n → LeadsTo limits X.scene.names q (here script sets numbers top X.scene.tree) (stretch (256 - left) count list)

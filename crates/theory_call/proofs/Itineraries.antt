-- The itinerary of a yes: where a list of moves leads from what stands to a tree on which some walk of the inner rule says yes,
-- the process of that tree satisfies the inner rule by the paper's own relation; told by the closure machine's run and walk.
-- Assumes nothing.
use Prim.Native.Nat.{ℕ, ◌+◌, ◌≤◌, ◌<◌}
use mathlib.Core.Bool.{true}
use mathlib.Core.List.{List, []}
use mathlib.Core.Path.{◌≡◌, refl, sym, ap, ◌∙◌, subst}
use mathlib.Core.Logic.{◌⊎◌, inl, inr}
use native.Mathlib.Omega.{arith}
use lib.Dec.{eqb}
use lib.ListN.{get_or}
use borrow.Author.Tests.{eqb-true, eqb-false}
use Rattle.read_messages.specs.Words.{kind}
use Rattle.base_slices.proofs.Tests.{by_test}
use Rattle.theory_machine.specs.PlainMachine.{Machine}
use Rattle.theory_closures.specs.Closure.{ClosureMachine, unfold_machine}
use Rattle.read_rule_words.specs.Rule.{Rule, sometime, Later}
use Rattle.read_rule_words.proofs.Order.{rule-ordered}
use Rattle.theory_calculus.proofs.Kept.{Good, good-move}
use Rattle.theory_calculus.proofs.Agreement.{agree}
use Rattle.theory_decision.specs.Walk.{Count, says, walk}
use Rattle.theory_decision.specs.PlainWalk.{plain_space}
use Rattle.theory_decision.specs.ClosureWalk.{closure_space}
use Rattle.theory_decision.proofs.Fits.{Fits, RuleAll, move-fits}
use Rattle.theory_decision.proofs.Deciding.{Known, walk-yes}
use Rattle.theory_decision.proofs.Related.{walk-related}
use Rattle.theory_decision.proofs.Closures.{Unfolds, closures-related}
use Rattle.theory_call.specs.Call.{Call, completed, run, parts_of, setting}
use Rattle.theory_call.specs.ClosureCall.{closure_run, unfold_ran}
use Rattle.theory_call.specs.ClosureCall as closures
use Rattle.theory_call.specs.Standing.{Standing}
use Rattle.theory_call.specs.Itinerary.{Leads, Unlisted, Listed}
use Rattle.theory_call.proofs.Runs.{run-keeps}
use Rattle.theory_call.proofs.ClosureRuns.{GoodMachine, run-unfolded}
use Rattle.theory_call.proofs.Called.{Leaves, run-good}
use Rattle.theory_call.proofs.Verdicts.{known, rule-read, standing-good}

module _ (c : Call) (s : Standing c) (q : Rule) (first : s.rule.0 ≡ sometime 0 q) where
  abbrev n : ℕ
  n = parts_of s.start

  abbrev limit : ℕ
  limit = n + s.rule.1.number

  inner-later : Later 0 q
  inner-later = subst (Later 0) first (rule-ordered n c.rule s.rule (rule-read c s))

  module _ (ws : List ℕ) (l : Machine) (made : run n 0 ws s.machine ≡ completed l) where
    -- the premises of the walk's theorem hold of the inner rule and of the tree that the moves leave
    end_known : Known limit (setting c s.start) [] q l.tree
    end_known = record {
      names = tt;
      rule = subst (RuleAll (λ (j : ℕ). n + j < limit) (λ (k : ℕ). k ≤ (setting c s.start).greatest)) first (known c s).rule;
      tree = run-keeps (λ m. Fits (λ (k : ℕ). k < limit) (λ (k : ℕ). k ≤ (setting c s.start).greatest + 0) m.tree) (λ a t m r x e. (move-fits _ _ a t m.tree r e x).2)
          n 0 ws s.machine l (known c s).tree made;
    }

    end-good : Good (n + 0) l.tree
    end-good =
        let z : n ≡ n + 0 = omega arith in
        subst (λ (k : ℕ). Good k l.tree) z (run-keeps (λ m. Good n m.tree) (λ a t m r x e. good-move n m.tree a t r x e) n 0 ws s.machine l (standing-good c s) made)

    -- THEOREM: moves that are made lead to a tree that meets the inner rule, where some walk of it there says yes.
    pub walk-leads : (left depth : ℕ) (before after : Count) → walk (plain_space limit) (setting c s.start) left depth [] q l.tree before ≡ says true after → Leads n s.machine q ws
    walk-leads left depth before after w = record {
      end = l;
      made = made;
      meets = (agree n q 0 inner-later [] l.tree end-good).0 (walk-yes limit (setting c s.start) left depth [] q l.tree before after end_known w);
    }

  -- the same, told by closures: m unfolds to what stands
  module _ (m : ClosureMachine) (G : GoodMachine m) (stands : unfold_machine m ≡ s.machine) (ws : List ℕ) (l : ClosureMachine) (made : closure_run n 0 ws m ≡ closures.completed l) where
    run-made : run n 0 ws s.machine ≡ completed (unfold_machine l)
    unfolding unfold_ran
    run-made = ap (run n 0 ws) (sym stands) ∙ run-unfolded n 0 ws m G ∙ ap unfold_ran made

    end-unfolds : Unfolds l (unfold_machine l).tree
    unfolding unfold_machine
    end-unfolds = (subst (Leaves GoodMachine) made (run-good n 0 ws m G), refl)

    pub closure-leads : (left depth : ℕ) (before after : Count) → walk (closure_space limit) (setting c s.start) left depth [] q l before ≡ says true after → Leads n s.machine q ws
    closure-leads left depth before after w =
        walk-leads ws (unfold_machine l) run-made left depth before after
        (sym (walk-related Unfolds (closure_space limit) (plain_space limit) (closures-related limit) (setting c s.start) left depth [] q l (unfold_machine l).tree end-unfolds before) ∙ w)

-- ---- the count

unlisted-few : {c : Call} {count : ℕ} {after : List ℕ} → Unlisted c count after → count ≤ 256
unlisted-few U = omega (arith, U.none)

-- THEOREM: no more than 256 moves are counted, whatever is said.
pub listed-few : (c : Call) (Y : Type 0) → Y ⊎ (¬ Y) → (count : ℕ) (after : List ℕ) → Listed c Y count after → count ≤ 256
listed-few c Y (inl y) count after L = by_test (eqb (kind (get_or c.rule 0 0)) 7)
    (λ t. (L.shown y (eqb-true (kind (get_or c.rule 0 0)) 7 t)).few)
    (λ t. unlisted-few (L.others (λ p. eqb-false (kind (get_or c.rule 0 0)) 7 t p.1)))
listed-few c Y (inr x) count after L = unlisted-few (L.others (λ p. x p.0))

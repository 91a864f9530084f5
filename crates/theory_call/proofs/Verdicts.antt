-- Demand 2: the call's yes and no are right, by satisfaction on trees and by the paper's own relation. No premise is left.
-- Assumes nothing.
use Prim.Native.Nat.{ℕ, ◌+◌, ◌≤◌, ◌<◌}
use mathlib.Core.Bool.{Bool, true, false}
use mathlib.Core.List.{[]}
use mathlib.Core.Path.{◌≡◌, refl, ap, subst}
use mathlib.Core.Logic.{◌↔◌}
use native.Mathlib.Omega.{arith}
use Rattle.read_messages.specs.Reading.{got}
use Rattle.read_script_words.specs.ScriptWords.{greatest_name}
use Rattle.theory_machine.specs.PlainMachine.{Machine}
use Rattle.read_rule_words.specs.ReadRule.{read_whole_rule}
use Rattle.read_rule_words.proofs.Order.{rule-ordered}
use Rattle.theory_calculus.specs.Satisfaction.{Sat}
use Rattle.theory_calculus.proofs.Kept.{Good, good-move}
use Rattle.theory_calculus.proofs.Agreement.{agree}
use Rattle.theory_decision.proofs.Fits.{Fits, fits_more, rule-more, move-fits}
use Rattle.theory_decision.proofs.Deciding.{Known, walk-yes, walk_no}
use Rattle.theory_call.specs.Call.{Call, Verdict, accepted, refused, answer, Start, parts_of, setting, starting}
use Rattle.theory_call.specs.Standing.{Standing, Meets, Holds, Decides}
use Rattle.theory_call.proofs.Runs.{run-keeps}
use Rattle.theory_call.proofs.Door.{script-fits, rule_fits}
use Rattle.theory_call.proofs.Begun.{script-good}
use Rattle.theory_call.proofs.Entering.{start-all, door-inv}
use Rattle.theory_call.proofs.Answers.{Says, answer-inv, same}

pub rule-read : (c : Call) (s : Standing c) → read_whole_rule (parts_of s.start) c.rule ≡ got s.rule
rule-read c s = (door-inv c s.start s.rule s.enters).0

-- the numbers of a machine's parts are below n, and its names at most the script's greatest
abbrev FitsIn : Start → Machine → Type 0
FitsIn s m = Fits (λ k. k < parts_of s) (λ n. n ≤ greatest_name s.words) m.tree

start_fits : (c : Call) (s : Start) → starting c ≡ got s → FitsIn s s.machine
start_fits c = start-all c (λ s. FitsIn s s.machine) (λ p e. script-fits c.script p e)

start-good : (c : Call) (s : Start) → starting c ≡ got s → Good (parts_of s) s.machine.tree
start-good c = start-all c (λ s. Good (parts_of s) s.machine.tree) (λ p e. script-good c.script p e)

-- The premises of the walk's theorem hold of every call.
pub known : (c : Call) (s : Standing c) → Known (parts_of s.start + s.rule.1.number) (setting c s.start) [] s.rule.0 s.machine.tree
known c s = record {
  names = tt;
  rule = rule-more _ _ _ _ (λ j h. omega arith) (λ n h. omega arith) s.rule.0 (rule_fits (parts_of s.start) c.rule s.rule (rule-read c s));
  tree = fits_more (λ k. k < parts_of s.start) _ (λ n. n ≤ greatest_name s.start.words) _ (λ k h. omega arith) (λ n h. omega arith) s.machine.tree
      (run-keeps (λ m. FitsIn s.start m) (λ a t m r x e. (move-fits _ _ a t m.tree r e x).2)
      (parts_of s.start) 0 c.moves s.start.machine s.machine (start_fits c s.start s.starts) s.moves-made);
}

-- what the walk of a standing call says is right
says-yes : (c : Call) (s : Standing c) → Says c s true → Meets c s
says-yes c s (k, w) = walk-yes (parts_of s.start + s.rule.1.number) (setting c s.start) 256 1 [] s.rule.0 s.machine.tree _ k (known c s) w

says-no : (c : Call) (s : Standing c) → Says c s false → ¬ Meets c s
says-no c s (k, w) = walk_no (parts_of s.start + s.rule.1.number) (setting c s.start) 256 1 [] s.rule.0 s.machine.tree _ k (known c s) w

meets-same : (c : Call) (s t : Standing c) → Meets c s ≡ Meets c t
meets-same c s t = let e = same c s t in λ i. Sat (parts_of (e.start i)) [] (e.rule i).0 (e.machine i).tree

-- THEOREM: yes only where the tree that stands meets the rule, no only where it does not.
pub answer-yes : (c : Call) (s : Standing c) → (answer c).verdict ≡ accepted true → Meets c s
answer-yes c s e = let x = answer-inv c true e in subst (λ (t : Type 0). t) (meets-same c x.0 s) (says-yes c x.0 x.1)

pub answer-no : (c : Call) (s : Standing c) → (answer c).verdict ≡ accepted false → ¬ Meets c s
answer-no c s e = let x = answer-inv c false e in subst (λ (t : Type 0). ¬ t) (meets-same c x.0 s) (says-no c x.0 x.1)

-- THEOREM: a call that is accepted stands.
pub answer-stands : (c : Call) (a : Bool) → (answer c).verdict ≡ accepted a → Standing c
answer-stands c a e = (answer-inv c a e).0

-- the standing tree is good
pub standing-good : (c : Call) (s : Standing c) → Good (parts_of s.start) s.machine.tree
standing-good c s =
    run-keeps (λ m. Good (parts_of s.start) m.tree) (λ a t m r x e. good-move (parts_of s.start) m.tree a t r x e)
    (parts_of s.start) 0 c.moves s.start.machine s.machine (start-good c s.start s.starts) s.moves-made

-- THEOREM: the tree that stands meets the rule just where its process satisfies it in the paper's sense.
pub meets-holds : (c : Call) (s : Standing c) → Meets c s ↔ Holds c s
meets-holds c s =
    let n : ℕ = parts_of s.start in
    let z : n ≡ n + 0 = omega arith in
    agree n s.rule.0 0 (rule-ordered n c.rule s.rule (rule-read c s)) [] s.machine.tree (subst (λ (k : ℕ). Good k s.machine.tree) z (standing-good c s))

-- THEOREM: the call's yes and no are those of the paper's own relation.
pub verdict-yes : (c : Call) (s : Standing c) → (answer c).verdict ≡ accepted true → Holds c s
verdict-yes c s e = (meets-holds c s).0 (answer-yes c s e)

pub verdict-no : (c : Call) (s : Standing c) → (answer c).verdict ≡ accepted false → ¬ Holds c s
verdict-no c s e h = answer-no c s e ((meets-holds c s).1 h)

-- THEOREM: what the call answers is decided by the paper's own relation.
pub decides : (c : Call) (v : Verdict) → (answer c).verdict ≡ v → Decides c v
unfolding Decides
decides c (accepted true) e = let s = answer-stands c true e in (s, verdict-yes c s e)
decides c (accepted false) e = let s = answer-stands c false e in (s, verdict-no c s e)
decides c (refused q i) e = tt

-- ---- yes and other verdicts

abbrev number_of : Verdict → ℕ
number_of (accepted true) = 0
number_of (accepted false) = 1
number_of (refused q i) = 2

pub no-is-yes : {B : Type 0} → accepted false ≡ accepted true → B
no-is-yes e = let z : ◌≡◌ {A = ℕ} 1 0 = ap number_of e in absurd (let o : ⊥ = omega arith in o)

pub refusal-is-yes : {B : Type 0} {q i : ℕ} → refused q i ≡ accepted true → B
refusal-is-yes e = let z : ◌≡◌ {A = ℕ} 2 0 = ap number_of e in absurd (let o : ⊥ = omega arith in o)

-- a verdict is yes, or another
pub yes-or-not : {B : Type 0} (v : Verdict) → (v ≡ accepted true → B) → (¬ (v ≡ accepted true) → B) → B
yes-or-not (accepted true) f g = f refl
yes-or-not (accepted false) f g = g (λ e. no-is-yes e)
yes-or-not (refused q i) f g = g (λ e. refusal-is-yes e)

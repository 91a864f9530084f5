-- The process of the plain machine's first tree is congruent to the script's as it is written; and what is known of counted
-- reductions. Assumes nothing.
use Prim.Native.Nat.{ℕ, suc}
use Rattle.read_messages.specs.Message.{Message}
use Rattle.read_scripts.specs.Tree.{Head, close, part, map_heads}
use Rattle.read_scripts.specs.Script.{Script, head_with_items, with_items, started}
use Rattle.theory_calculus.specs.Calculus.{Process, ◌≅◌, StructRefl, StructSymm, StructTrans, StructAmb, StructAction, StructInput, ◌⟶◌, RedCong, ◌⟶*◌}
use Rattle.theory_calculus.specs.TreeProcess.{piece, process}
use Rattle.theory_calculus.specs.Calculus as calculus
use Rattle.theory_calculus.specs.Written.{written_part, written, Steps, stop, step, Leads}
use Rattle.theory_calculus.proofs.Congruences.{par-both, action-items}
use Rattle.theory_calculus.proofs.Processes.{Distinct, settle-process}

-- "An action is held as its items": a part as it is held represents what is written
held-part : (h : Head Message) {p q : Process} → p ≅ q → piece (head_with_items h) p ≅ written_part h q
unfolding piece head_with_items written_part
held-part (Head.ambient m) e = StructAmb e
held-part (Head.action m) e = StructTrans (StructSymm (action-items m)) (StructAction e)
held-part (Head.receipt v) e = StructInput e
held-part (Head.output m) e = StructRefl

-- a script that is held represents what is written
pub held-written : (b : Script) → process (with_items b) ≅ written b
unfolding with_items map_heads process written
held-written close = StructRefl
held-written (part k w b r) = par-both (held-part w.head (held-written b)) (held-written r)

-- THEOREM: the first tree represents what is written, up to congruence, where no number stands twice.
pub started-written : (b : Script) → Distinct (with_items b) → process (started b) ≅ written b
unfolding started
started-written b d = StructTrans (settle-process (with_items b) d) (held-written b)

-- reductions lead as far from a congruent process
pub leads-congruent : {n : ℕ} {o p q : Process} → o ≅ p → Leads n p q → Leads n o q
leads-congruent {o = o} h x = sooner h x.1 x.2
  where
    sooner : {n : ℕ} {o p q r : Process} → o ≅ p → Steps n p r → r ≅ q → Leads n o q
    sooner {o = o} h stop e = (o, stop, StructTrans h e)
    sooner h (step {r = r} x y) e = (r, step (RedCong h x StructRefl) y, e)

-- one reduction more
pub leads-step : {n : ℕ} {p q r : Process} → p ⟶ q → Leads n q r → Leads (suc n) p r
leads-step x y = (y.0, step x y.1, y.2)

-- THEOREM: reductions that are counted are the paper's.
pub steps-reduce : {n : ℕ} {p q : Process} → Steps n p q → p ⟶* q
steps-reduce stop = calculus.stop
steps-reduce (step x y) = calculus.step x (steps-reduce y)

-- The plain machine's tree is in rising order of part numbers, every body of it, when a call begins and after each move; and so
-- are the trees that its walk meets. Assumes nothing.
use Prim.Native.Nat.{ℕ, ◌+◌}
use mathlib.Core.List.{List}
use mathlib.Core.Path.{◌≡◌, sym, ap, ◌∙◌}
use lib.ListN.{take}
use Rattle.read_messages.specs.Reading.{Cursor, got}
use Rattle.read_scripts.specs.Tree.{bare, settle}
use Rattle.read_scripts.specs.Script.{Written, Script, read_script, head_with_items, with_items, started}
use Rattle.read_scripts.proofs.Tabled.{script-tabled}
use Rattle.theory_machine.specs.PlainMachine.{Machine}
use Rattle.theory_decision.specs.Rising.{Rises}
use Rattle.theory_decision.proofs.Risen.{numbered-rises, map-rises, settle-rises, move-rises, Taken, all-rise}
use Rattle.theory_call.specs.Call.{Call, completed, run, begun, Start, parts_of}
use Rattle.theory_call.specs.Standing.{Standing, After}
use Rattle.theory_call.proofs.Runs.{run-keeps}
use Rattle.theory_call.proofs.Entering.{start-reads}

-- THEOREM: the tree that a script begins with rises.
pub script-rises : (ws : List ℕ) (p : Script × Cursor) → read_script ws ≡ got p → Rises 0 (started p.0)
unfolding started with_items settle
script-rises ws p e = settle-rises 0 bare (with_items p.0) (map-rises 0 (λ (w : Written). head_with_items w.head) p.0 (numbered-rises 0 p.0 (script-tabled ws p e).numbered))

-- THEOREM: and so after every list that is made.
pub list-rises : (ws : List ℕ) (p : Script × Cursor) → read_script ws ≡ got p → (n : ℕ) (moves : List ℕ) (m : Machine) → run n 0 moves (begun p.0) ≡ completed m → Rises 0 m.tree
list-rises ws p e n moves m d = run-keeps (λ k. Rises 0 k.tree) (λ a t k s x y. move-rises a t k.tree s y x) n 0 moves (begun p.0) m (script-rises ws p e) d

-- THEOREM: so before the first move of a call and after each, of a refused list too.
pub after-rises : (c : Call) (p : Script × Cursor) → read_script c.script ≡ got p → (k : ℕ) (m : Machine) → After c p k m → Rises 0 m.tree
after-rises c p e k m a = list-rises c.script p e p.1.number (take k c.moves) m a

-- THEOREM: the tree that the walk begins with rises, and so all that the walk takes of it; its shares come by rising sum.
pub standing-rises : (c : Call) (s : Standing c) → Rises 0 s.machine.tree × Taken (parts_of s.start + s.rule.1.number) s.machine.tree
standing-rises c s =
    let (e, own) = start-reads c s.start s.starts in
    let made = ap (λ (x : Start). run (parts_of s.start) 0 c.moves x.machine) (sym own) ∙ s.moves-made in
    let x = list-rises c.script s.start.read e (parts_of s.start) c.moves s.machine made in
    (x, all-rise (parts_of s.start + s.rule.1.number) s.machine.tree x)

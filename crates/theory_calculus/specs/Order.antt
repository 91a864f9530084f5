-- Trees that differ only in the order and the numbers of their parts and in the variables of their receipts. That their
-- processes are congruent and they meet the same rules is a law (proofs/Orders.antt). Assumes nothing: these are definitions.
use Rattle.std.specs.Prelude.{ℕ, ◌≡◌}
use Rattle.read_messages.specs.Message.{variable}
use Rattle.read_scripts.specs.Tree.{Head, close, part, PlainHead, Plain}
use Rattle.theory_machine.specs.PlainMachine.{substitute_body}
use Rattle.theory_calculus.specs.Calculus.{occurs}
use Rattle.theory_calculus.specs.TreeProcess.{process}

-- the body has the part k with that head and inside, and the last body is the rest
pub data HasPart : Plain → ℕ → PlainHead → Plain → Plain → Type 0 where
  front : {k : ℕ} {h : PlainHead} {i r : Plain} → HasPart (part k h i r) k h i r
  behind : {k l : ℕ} {h g : PlainHead} {i j r q : Plain} → HasPart r k h i q → HasPart (part l g j r) k h i (part l g j q)

pub data Reordered : Plain → Plain → Type 0 where
  nothing : Reordered close close
  -- a part stands somewhere in the other body, under any number
  among : {k l : ℕ} {h : PlainHead} {i j r q c : Plain} → HasPart c l h j q → Reordered i j → Reordered r q → Reordered (part k h i r) c
  -- a receipt, with another variable u, one that does not stand in it
  receipt : {k l u v : ℕ} {i j r q c : Plain} → HasPart c l (Head.receipt u) j q → occurs u (process i) ≡ 0 →
      Reordered (substitute_body v (variable u) i) j → Reordered r q → Reordered (part k (Head.receipt v) i r) c

-- The tree that stands, as it is lent to be written: its bindings, and the closure that its arrays hold. Assumes nothing:
-- these are definitions.
use Rattle.std.specs.Prelude.{ℕ, List}
use Rattle.read_scripts.specs.Represents.{body_in}
use Rattle.engine_bindings.specs.Bindings.{bindings_in}
use Rattle.theory_closures.specs.Closure.{ClosureHead, Bindings}
use Rattle.engine_states.specs.Represents.{heads}
use Rattle.write_counts.specs.declared.Standing.{Standing}

-- the bindings under which it stands
abbrev pub bindings_under : Standing → Bindings
bindings_under t = bindings_in t.script.now t.bindings.now

-- the numbers of the parts in the body of each part
abbrev pub bodies_in : Standing → ℕ → List ℕ
bodies_in t = body_in t.kids.now

-- what each part is
abbrev pub heads_in : Standing → ℕ → ClosureHead
heads_in t = heads t.script.now t.kinds.now t.starts.now t.offsets.now

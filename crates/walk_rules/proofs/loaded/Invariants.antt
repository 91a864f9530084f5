-- `loaded` meets its contract, entry by entry. Assumes nothing.
use Rattle.walk_rules.specs.Walking.{Loading}
use Rattle.walk_rules.proofs.loaded.Given as goal

abbrev pub invariant-loop-i : goal.invariant-loop-i
invariant-loop-i l = Loading l.rule l.rights l.placings l.program l.i

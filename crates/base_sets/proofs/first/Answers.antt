-- `base_sets::first` meets its contract. Assumes nothing.
use mathlib.Core.Path.{sym}
use Rattle.base_sets.proofs.Members.{members-first}
use Rattle.base_sets.proofs.first.Goals as goal

pub returns : goal.returns
returns c = sym (members-first c.args.m)

-- `base_sets::rest` meets its contract. Assumes nothing.
use mathlib.Core.Path.{ap, ◌∙◌}
use native.Mathlib.Nat.{eq-zero-or-pos}
use mathlib.Core.Logic.{⊎_elim}
use Rattle.base_sets.specs.Sets.{members}
use Rattle.base_sets.proofs.Members.{members-rest, members-empty}
use Rattle.base_sets.proofs.rest.Goals as goal

pub overflow_sub-result : goal.overflow_sub-result
overflow_sub-result c = ⊎_elim (λ e. absurd (c.requires (ap members e ∙ members-empty))) (λ p. p) (eq-zero-or-pos c.args.m)

pub returns : goal.returns
returns c = members-rest c.args.m

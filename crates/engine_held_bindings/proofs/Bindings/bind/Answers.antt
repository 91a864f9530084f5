-- `engine_held_bindings::Bindings::bind` meets its contract: the array is filled from the end, so that the new binding comes first.
-- Assumes nothing.
use Prim.Native.Nat.{ℕ, ◌+◌, ◌-◌}
use mathlib.Core.List.{◌∷◌}
use mathlib.Core.Path.{◌≡◌, refl, ap, ◌∙◌}
use native.Mathlib.Omega.{arith}
use borrow.Author.Rules.{rules}
use lib.ListN.{length, drop}
use Rattle.std.proofs.lemmas.List.{drop-set}
use Rattle.engine_held_bindings.specs.Held.{bindings_of}
use Rattle.engine_held_bindings.proofs.Sizing.{cached-more, bindings-more}
use Rattle.engine_held_bindings.proofs.Bindings.bind.Goals as goal

pub returns : goal.returns
unfolding bindings_of
returns c =
    let b = c.args.self in
    let row = c.new_binding.result in
    let full : length b.rows ≡ 32 = search rules in
    let next : b.first - 1 + 1 ≡ b.first = omega (arith, c.requires.room) in
    let front = drop-set b.rows (b.first - 1) row (omega (arith, c.requires.room, c.requires.held.within)) ∙ ap (λ (n : ℕ). row ∷ drop n b.rows) next in
    let new = rw c.held.ensures at c.new_binding.ensures in
    record {
      held = record { within = omega (arith, c.requires.held.within); cached = rw front (cached-more row c.requires.held.cached new) };
      bindings = bindings-more row new front;
      room = refl;
    }

-- `next_state` meets its contract, step by step. Assumes nothing.
use Prim.Native.Nat.{ℕ, ◌+◌, ◌<◌}
use mathlib.Core.Path.{◌≡◌, sym, ◌∙◌}
use lib.ListN.{get_or}
use Rattle.read_messages.specs.Message.{name as called}
use Rattle.read_scripts.specs.Tree.{ambient, close, part, times_in}
use Rattle.theory_closures.specs.Closure.{Closure}
use Rattle.engine_states.specs.Represents.{bound_in, Represents}
use Rattle.engine_targets.specs.Makes.{Moves}
use Rattle.engine_state_arrays.specs.Lent.{kinds_in, starts_in, state_in}
use Rattle.walk_states.proofs.Lendings.{step-moves, step-placing, step-apart}
use Rattle.walk_states.proofs.next_state.Goals as goal

pub returns-in-Move : goal.returns-in-Move
returns-in-Move c =
    let x = c.args in
    let r = c.after_move.result in
    let sets = c.after_move.new.lent.sets in
    let numbers = c.after_move.new.lent.numbers in
    let g = c.in-Move.is in
    let m = c.after_move.ensures in
    record {
      lends = m.lends;
      made = λ a t e. step-moves (λ (a : ℕ) (t : ℕ). (kinds_in numbers ≡ kinds_in x.lent.now.numbers) × (starts_in numbers ≡ starts_in x.lent.now.numbers) × Moves x.script.now (kinds_in x.lent.now.numbers) (starts_in x.lent.now.numbers) (state_in x.lent.now.sets x.lent.now.numbers x.top) (state_in sets numbers r) (λ i. get_or x.homes.now i 0) a t) _ _ a t (sym g ∙ e) (m.table.0, m.table.1, m.made);
      placed = λ i n e. absurd (step-apart _ _ i n (sym g ∙ e));
    }

pub returns-in-Place : goal.returns-in-Place
returns-in-Place c =
    let x = c.args in
    let r = c.place_within.result in
    let sets = c.place_within.new.lent.sets in
    let numbers = c.place_within.new.lent.numbers in
    let g = c.in-Place.is in
    let m = c.place_within.ensures in
    record {
      lends = m.lends;
      made = λ a t e. absurd (step-apart a t _ _ (sym e ∙ g));
      placed = λ i n e. step-placing (λ (i : ℕ) (n : ℕ). (bound_in x.script.now (state_in sets numbers r) ≡ bound_in x.script.now (state_in x.lent.now.sets x.lent.now.numbers x.top)) × ((weight spent : ℕ) (b : Closure) → Represents x.script.now (kinds_in x.lent.now.numbers) (starts_in x.lent.now.numbers) weight spent (state_in x.lent.now.sets x.lent.now.numbers x.top) b → times_in i b ≡ 0 → weight < 64 → Represents x.script.now (kinds_in numbers) (starts_in numbers) (weight + 1) spent (state_in sets numbers r) (part i (ambient (called n)) b close))) _ _ i n (sym g ∙ e) (m.bound, m.placed);
    }

-- The invariant of a closure under bindings: a receipt is the only one of its variable, the variable is used nowhere outside
-- the receipt and is new to the bindings, and no action inside a receipt has spent an item. Moves keep it. Assumes nothing.
use Prim.Native.Nat.{ℕ, ◌+◌, ◌≤◌}
use mathlib.Core.Bool.{false}
use mathlib.Core.List.{◌∷◌, ◌++◌}
use mathlib.Core.Path.{◌≡◌, refl, sym}
use mathlib.Core.Option.{some}
use native.Mathlib.Omega.{arith}
use lib.Dec.{eqb}
use borrow.Author.Tests.{eqb-false}
use Rattle.read_messages.specs.Message.{Message, name, variable, enter, exit, opens, empty_message, path, mentions}
use Rattle.read_scripts.proofs.Numbers.{own-times, one_none}
use Rattle.read_scripts.proofs.Scopes.{receives}
use Rattle.read_messages.proofs.Mentioning.{mentions-none}
use Rattle.std.specs.Prelude.{Some}
use Rattle.read_scripts.specs.Tree.{ambient, action, receipt, output, part, one_if}
use Rattle.theory_machine.specs.Moves.{MoveMade, head_name}
use Rattle.theory_closures.proofs.Substitution.{Fresh, New}
use Rattle.theory_closures.specs.Closure.{Action, ClosureHead, Closure, Bindings, view_under, settle_under, closure_move}
use Rattle.theory_closures.proofs.Tallies.{Tally, tally_of, of_part, named-open, of-settle, Takes, TallyStep, spends, takes, move_step}

pub mentions-fresh : (v : ℕ) (m : Message) → mentions v m ≡ 0 → Fresh v m
unfolding mentions Fresh
mentions-fresh v (name n) z = tt
mentions-fresh v (variable u) z = eqb-false u v (mentions-none u v z)
mentions-fresh v (enter m) z = mentions-fresh v m z
mentions-fresh v (exit m) z = mentions-fresh v m z
mentions-fresh v (opens m) z = mentions-fresh v m z
mentions-fresh v empty_message z = tt
mentions-fresh v (path m k) z = (mentions-fresh v m (omega arith), mentions-fresh v k (omega arith))

abbrev pub mentions_in : ℕ → ClosureHead → ℕ
mentions_in v (ambient m) = mentions v m
mentions_in v (action a) = mentions v a.message
mentions_in v (receipt u) = 0
mentions_in v (output m) = mentions v m

-- the items that are spent
abbrev pub spent_in : ClosureHead → ℕ
spent_in (ambient m) = 0
spent_in (action a) = a.offset
spent_in (receipt u) = 0
spent_in (output m) = 0

-- how many receipts a variable has
abbrev pub receipts : ℕ → Tally
receipts v = record {
  own = λ k h. one_if (receives v h);
  shut = λ h. false;
  guarded = λ k h. 0;
  ambients = λ m. refl;
  actions = λ a. refl;
  spends = λ k a. omega arith;
}

-- how often it is used outside its receipts, with the items that are spent inside them
abbrev pub loose : ℕ → Tally
loose v = record {
  own = λ k h. mentions_in v h;
  shut = receives v;
  guarded = λ k h. spent_in h;
  ambients = λ m. refl;
  actions = λ a. refl;
  spends = λ k a. omega arith;
}

pub record Good (σ : Bindings) (b : Closure) : Type 0 where
  pub once : (v : ℕ) → tally_of (receipts v) b ≤ 1
  pub apart : (v : ℕ) → 1 ≤ tally_of (receipts v) b → tally_of (loose v) b ≡ 0
  pub new : (v : ℕ) → 1 ≤ tally_of (receipts v) b → New v σ

-- with less in it, a closure is good too
pub good-less : (σ : Bindings) (b c : Closure) → ((T : Tally) → tally_of T c ≤ tally_of T b) → Good σ b → Good σ c
good-less σ b c f G = record {
  once = λ v. omega (arith, f (receipts v), G.once v);
  apart = λ v n. omega (arith, f (loose v), G.apart v (omega (arith, f (receipts v))));
  new = λ v n. G.new v (omega (arith, f (receipts v)));
}

pub good-settled : (σ τ : Bindings) (b : Closure) → Good σ b → Good σ (settle_under τ b)
good-settled σ τ b = good-less σ b (settle_under τ b) (λ T. of-settle T τ b)

pub good-rest : (σ : Bindings) (i : ℕ) (h : ClosureHead) (b r : Closure) → Good σ (part i h b r) → Good σ r
unfolding tally_of
good-rest σ i h b r = good-less σ (part i h b r) r (λ T. omega arith)

pub good-inside : (σ : Bindings) (i n : ℕ) (h : ClosureHead) (b r : Closure) → head_name (view_under σ) h ≡ Some n → Good σ (part i h b r) → Good σ b
good-inside σ i n h b r e = good-less σ (part i h b r) b (λ T. omega (arith, of_part T i h b r (named-open T σ h n e)))

-- what a receipt that is made does to the two
module _ (b c : Closure) (news : Bindings) (x : Takes b c news) where
  pub receipts-taken : (u : ℕ) → tally_of (receipts u) c + one_if (eqb u x.bound) ≤ tally_of (receipts u) b
  receipts-taken u = omega (arith, x.law (receipts u))

  pub bound-received : 1 ≤ tally_of (receipts x.bound) b
  bound-received = omega (arith, own-times x.bound, receipts-taken x.bound)

  loose-taken : (u : ℕ) → eqb u x.bound ≡ false → tally_of (loose u) c + mentions u x.sent ≤ tally_of (loose u) b
  loose-taken u t = omega (arith, rw t at (x.law (loose u)))

  good-takes : (σ : Bindings) → Good σ b → Good ((x.bound, x.sent) ∷ σ) c
  unfolding New
  good-takes σ G = record {
    once = λ v. omega (arith, receipts-taken v, G.once v);
    apart = λ v n. omega (arith, loose-taken v (other v n), G.apart v (before v n));
    new = λ v n. (λ e. eqb-false v x.bound (other v n) (sym e), mentions-fresh v x.sent (omega (arith, loose-taken v (other v n), G.apart v (before v n))), G.new v (before v n));
  }
    where
      before : (v : ℕ) → 1 ≤ tally_of (receipts v) c → 1 ≤ tally_of (receipts v) b
      before v n = omega (arith, receipts-taken v)

      other : (v : ℕ) → 1 ≤ tally_of (receipts v) c → eqb v x.bound ≡ false
      other v n = one_none (eqb v x.bound) (omega (arith, receipts-taken v, G.once v))

pub good-step : (σ : Bindings) (b c : Closure) (news : Bindings) → TallyStep b c news → Good σ b → Good (news ++ σ) c
good-step σ b c news (spends e l) G = rw e (good-less σ b c l G)
good-step σ b c news (takes x) G = rw x.told (good-takes b c news x σ G)

-- THEOREM: a closure move keeps the invariant, with the new bindings.
pub move-good : (σ : Bindings) (a t : ℕ) (b : Closure) (m : MoveMade Action) → closure_move σ a t b ≡ some m → Good σ b → Good (m.news ++ σ) m.body
move-good σ a t b m e = good-step σ b m.body m.news (move_step σ a t b m e)

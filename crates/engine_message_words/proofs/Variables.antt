-- Laws of where a variable is bound. Assumes nothing.
use Prim.Native.Nat.{ℕ, suc, ◌+◌}
use mathlib.Core.Bool.{Bool, true, false, cond}
use mathlib.Core.List.{List, [], ◌∷◌}
use mathlib.Core.Path.{◌≡◌, refl, sym, ap}
use native.Mathlib.Omega.{arith}
use lib.Dec.{eqb, ltb}
use lib.ListN.{length}
use borrow.Author.Tests.{eq-eqb, ne_eqb, eqb-true, eqb-false, lt-ltb, le-ltb, ltb-true, ltb-false}
use Rattle.std.specs.Prelude.{Option, Some, None, option_map}
use Rattle.std.specs.List.{position_or_len}
use Rattle.std.proofs.lemmas.Option.{none-some, same_Some}
use Rattle.engine_message_words.specs.Words.{newest_binding}
use Rattle.engine_message_words.specs.declared.Binding.{Binding}

pub newest-none : (u : ℕ) → newest_binding [] u ≡ None
unfolding newest_binding
newest-none u = refl

pub newest-hit : (b : Binding) (u : ℕ) (bs : List Binding) → eqb u b.variable ≡ true → newest_binding (b ∷ bs) u ≡ Some 0
unfolding newest_binding
newest-hit b u bs e = rw (eq-eqb b.variable u (sym (eqb-true _ _ e)), lt-ltb 0 (suc (length bs)) (omega arith))

next : (n m : ℕ) (t : Bool) → ltb n m ≡ t → cond (ltb (1 + n) (suc m)) (Some (1 + n)) None ≡ option_map suc (cond t (Some n) None)
next n m true e = rw (lt-ltb (1 + n) (suc m) (omega (arith, ltb-true n m e))) (ap Some (omega arith))
next n m false e = rw (le-ltb (1 + n) (suc m) (omega (arith, ltb-false n m e)))

pub newest-miss : (b : Binding) (u : ℕ) (bs : List Binding) → eqb u b.variable ≡ false → newest_binding (b ∷ bs) u ≡ option_map suc (newest_binding bs u)
unfolding newest_binding
newest-miss b u bs e = rw (ne_eqb b.variable u (λ q. eqb-false _ _ e (sym q))) (next (position_or_len (λ (x : Binding). eqb x.variable u) bs) (length bs) _ refl)

-- what is answered of the older bindings where the newest is one of another variable

pub older-none : (o : Option ℕ) → option_map suc o ≡ None → o ≡ None
older-none None e = refl
older-none (Some k) e = absurd (none-some (suc k) (sym e))

pub older-some : (o : Option ℕ) (k : ℕ) → option_map suc o ≡ Some k → (j : ℕ) × (o ≡ Some j) × (suc j ≡ k)
older-some None k e = absurd (none-some k e)
older-some (Some j) k e = (j, refl, same_Some (suc j) k e)

-- Laws of the first word of a message: what it begins, and where it is bound. Assumes nothing.
use Prim.Native.Nat.{ℕ, ◌≤◌}
use mathlib.Core.List.{List}
use mathlib.Core.Path.{◌≡◌, refl, sym}
use native.Mathlib.Omega.{arith}
use Rattle.read_messages.specs.declared.MessageWord.{MessageWord}
use Rattle.read_messages.specs.declared.MessageWord.TheVariants.{Name, Variable, Enter, Exit, Open, Empty, Path, Unfit}
use Rattle.std.specs.Prelude.{Some}
use Rattle.std.proofs.lemmas.Option.{none-some}
use Rattle.engine_message_words.specs.Words.{newest_binding, shape_of, arity_of, bound_at}
use Rattle.engine_message_words.specs.declared.Binding.{Binding}

-- how many messages stand in a message, and how many items a word is

pub arity-small : (m : MessageWord) → arity_of m ≤ 2
unfolding shape_of
arity-small (Name n) = omega arith
arity-small (Variable v) = omega arith
arity-small Enter = omega arith
arity-small Exit = omega arith
arity-small Open = omega arith
arity-small Empty = omega arith
arity-small Path = omega arith
arity-small Unfit = omega arith

pub items-small : (m : MessageWord) → (shape_of m).items ≤ 1
unfolding shape_of
items-small (Name n) = omega arith
items-small (Variable v) = omega arith
items-small Enter = omega arith
items-small Exit = omega arith
items-small Open = omega arith
items-small Empty = omega arith
items-small Path = omega arith
items-small Unfit = omega arith

-- a word that has a binding is a variable

pub data Bound (bs : List Binding) (k : ℕ) (m : MessageWord) : Type 0 where
  bound : (v : ℕ) → m ≡ Variable v → newest_binding bs v ≡ Some k → Bound bs k m

pub bound-variable : (bs : List Binding) (m : MessageWord) (k : ℕ) → Some k ≡ bound_at m bs → Bound bs k m
unfolding bound_at
bound-variable bs (Name n) k e = absurd (none-some k (sym e))
bound-variable bs (Variable v) k e = bound v refl (sym e)
bound-variable bs Enter k e = absurd (none-some k (sym e))
bound-variable bs Exit k e = absurd (none-some k (sym e))
bound-variable bs Open k e = absurd (none-some k (sym e))
bound-variable bs Empty k e = absurd (none-some k (sym e))
bound-variable bs Path k e = absurd (none-some k (sym e))
bound-variable bs Unfit k e = absurd (none-some k (sym e))

-- The greatest name among a script's words is the greatest of those that the words say. Assumes nothing.
use Prim.Native.Nat.{ℕ, max}
use mathlib.Core.Bool.{Bool, true, false, cond}
use mathlib.Core.List.{List}
use mathlib.Core.Path.{◌≡◌, refl}
use native.Mathlib.Omega.{arith}
use lib.Dec.{eqb}
use Rattle.read_messages.specs.Words.{kind, operand, greatest_of}
use Rattle.read_messages.proofs.Folds.{greatest-from}
use Rattle.read_script_words.specs.ScriptWords.{script_name, greatest_name}

-- a word that says no name counts as 0
either : (t : Bool) (n g : ℕ) → cond t (max n g) g ≡ max (cond t n 0) g
either true n g = refl
either false n g = omega arith

pub names-greatest : (ws : List ℕ) → greatest_of script_name ws ≡ greatest_name ws
unfolding script_name greatest_name
names-greatest = greatest-from script_name greatest_name refl (λ w ws. either (eqb (kind w) 8) (operand w) (greatest_name ws))

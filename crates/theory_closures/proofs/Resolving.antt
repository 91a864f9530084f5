-- Laws of bindings: what they do to each kind of message. Assumes nothing.
use Prim.Native.Nat.{ℕ}
use mathlib.Core.Bool.{true, false}
use mathlib.Core.List.{List, [], ◌∷◌}
use mathlib.Core.Path.{◌≡◌, refl}
use lib.Dec.{eqb}
use Rattle.read_messages.specs.Message.{Message, name, variable, enter, exit, opens, empty_message, path, substitute}
use Rattle.theory_closures.specs.Resolve.{resolve}

-- what the bindings do to each kind of message

pub resolve-name : (σ : List (ℕ × Message)) (n : ℕ) → resolve σ (name n) ≡ name n
unfolding resolve substitute
resolve-name [] n = refl
resolve-name (b ∷ σ) n = resolve-name σ n

pub resolve-enter : (σ : List (ℕ × Message)) (m : Message) → resolve σ (enter m) ≡ enter (resolve σ m)
unfolding resolve substitute
resolve-enter [] m = refl
resolve-enter (b ∷ σ) m = resolve-enter σ (substitute b.0 b.1 m)

pub resolve-exit : (σ : List (ℕ × Message)) (m : Message) → resolve σ (exit m) ≡ exit (resolve σ m)
unfolding resolve substitute
resolve-exit [] m = refl
resolve-exit (b ∷ σ) m = resolve-exit σ (substitute b.0 b.1 m)

pub resolve-opens : (σ : List (ℕ × Message)) (m : Message) → resolve σ (opens m) ≡ opens (resolve σ m)
unfolding resolve substitute
resolve-opens [] m = refl
resolve-opens (b ∷ σ) m = resolve-opens σ (substitute b.0 b.1 m)

pub resolve-empty : (σ : List (ℕ × Message)) → resolve σ empty_message ≡ empty_message
unfolding resolve substitute
resolve-empty [] = refl
resolve-empty (b ∷ σ) = resolve-empty σ

pub resolve-path : (σ : List (ℕ × Message)) (m k : Message) → resolve σ (path m k) ≡ path (resolve σ m) (resolve σ k)
unfolding resolve substitute
resolve-path [] m k = refl
resolve-path (b ∷ σ) m k = resolve-path σ (substitute b.0 b.1 m) (substitute b.0 b.1 k)

pub substitute-hit : (v u : ℕ) (m : Message) → eqb u v ≡ true → substitute v m (variable u) ≡ m
unfolding substitute
substitute-hit v u m e = rw e

pub substitute-miss : (v u : ℕ) (m : Message) → eqb u v ≡ false → substitute v m (variable u) ≡ variable u
unfolding substitute
substitute-miss v u m e = rw e

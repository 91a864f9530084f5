-- Laws of the bindings as the engine keeps them: what a variable becomes, and where a part's message stands. Assumes nothing.
use Prim.Native.Nat.{ℕ, suc, ◌+◌, ◌-◌, ◌≤◌, ◌<◌}
use mathlib.Core.Bool.{true, false}
use mathlib.Core.List.{List, [], ◌∷◌}
use mathlib.Core.Path.{◌≡◌, refl, sym, ap, ◌∙◌}
use native.Mathlib.Omega.{arith}
use lib.Dec.{eqb, ltb}
use lib.ListN.{drop}
use borrow.Author.Tests.{lt-ltb, le-ltb}
use Rattle.read_messages.specs.Message.{Named, name, variable, name_of}
use Rattle.std.specs.Prelude.{Some, None}
use Rattle.std.proofs.lemmas.Option.{none-some, same_Some}
use Rattle.read_messages.specs.Spelling.{message_at}
use Rattle.engine_message_words.specs.Words.{newest_binding}
use Rattle.engine_message_words.specs.declared.Binding.{Binding}
use Rattle.base_slices.proofs.Tests.{by_test}
use Rattle.engine_message_words.proofs.Variables.{newest-none, newest-hit, newest-miss, older-none, older-some}
use Rattle.theory_closures.specs.Resolve.{resolve}
use Rattle.theory_closures.proofs.Resolving.{substitute-hit, substitute-miss, resolve-name}
use Rattle.engine_bindings.specs.Bindings.{bindings_in, binding_message, message_of}

-- a variable that has no binding stays
pub resolve-unbound : (script : List ℕ) (bs : List Binding) (u : ℕ) → newest_binding bs u ≡ None → resolve (bindings_in script bs) (variable u) ≡ variable u
unfolding resolve bindings_in
resolve-unbound script [] u h = refl
resolve-unbound script (b ∷ bs) u h =
    by_test (eqb u b.variable) (λ e. absurd (none-some 0 (sym h ∙ newest-hit b u bs e)))
    (λ e. ap (resolve (bindings_in script bs)) (substitute-miss b.variable u _ e) ∙ resolve-unbound script bs u (older-none _ (sym (newest-miss b u bs e) ∙ h)))

pub binding-message-next : (script : List ℕ) (b : Binding) (bs : List Binding) (k : ℕ) → binding_message script (b ∷ bs) (suc k) ≡ binding_message script bs k
binding-message-next script b bs k =
    let e : suc k + 1 ≡ suc (k + 1) = omega arith in
    rw e

-- a variable becomes the message of its newest binding, after the older ones
pub resolve-bound : (script : List ℕ) (bs : List Binding) (u k : ℕ) → newest_binding bs u ≡ Some k → resolve (bindings_in script bs) (variable u) ≡ binding_message script bs k
unfolding resolve bindings_in
resolve-bound script [] u k h = absurd (none-some k (sym (newest-none u) ∙ h))
resolve-bound script (b ∷ bs) u k h =
    by_test (eqb u b.variable) (λ e. rw (← same_Some 0 k (sym (newest-hit b u bs e) ∙ h)) (ap (resolve (bindings_in script bs)) (substitute-hit b.variable u _ e)))
    (λ e. let (j, o, n) = older-some _ k (sym (newest-miss b u bs e) ∙ h) in
    rw (← n) (ap (resolve (bindings_in script bs)) (substitute-miss b.variable u _ e) ∙ resolve-bound script bs u j o ∙ sym (binding-message-next script b bs j)))

-- a part's message, by where it starts
pub message-word : (script : List ℕ) (start : ℕ) → ltb start 65536 ≡ true → message_of script start ≡ message_at (drop start script)
unfolding message_of
message-word script start e = rw e

pub message-given : (script : List ℕ) (start : ℕ) → ltb start 65536 ≡ false → message_of script start ≡ name (start - 65536)
unfolding message_of
message-given script start e = rw e

-- and its name
pub name-word : (script : List ℕ) (bs : List Binding) (ws : List ℕ) (start w : ℕ) → w ≡ start → ws ≡ drop w script → start < 65536 → (r : Named) → r ≡ name_of (resolve (bindings_in script bs) (message_at ws)) → r ≡ name_of (resolve (bindings_in script bs) (message_of script start))
name-word script bs ws start w e₁ e₂ h r e = e ∙ rw (e₂, e₁, message-word script start (lt-ltb _ _ h))

pub name-given : (script : List ℕ) (bs : List Binding) (start : ℕ) → 65536 ≤ start → Some (start - 65536) ≡ name_of (resolve (bindings_in script bs) (message_of script start))
unfolding name_of
name-given script bs start h = rw (message-given script start (le-ltb _ _ h), resolve-name)

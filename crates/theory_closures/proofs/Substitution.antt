-- The substitution lemma: a receipt's new binding in front of the older ones is what the plain machine does to messages
-- into which it has already substituted. Assumes nothing.
use Prim.Native.Nat.{ℕ}
use mathlib.Core.List.{List, [], ◌∷◌, ◌++◌, append_assoc, append-nil}
use mathlib.Core.Path.{◌≡◌, refl, sym, ap, ◌∙◌}
use lib.Dec.{eqb}
use borrow.Author.Tests.{eq-eqb, ne_eqb, eqb-true, eqb-false}
use Rattle.read_messages.specs.Message.{Message, name, variable, enter, exit, opens, empty_message, path, items, substitute, substitute_items}
use Rattle.theory_closures.specs.Resolve.{resolve}
use Rattle.base_slices.proofs.Tests.{by_test}
use Rattle.theory_closures.proofs.Resolving.{substitute-hit, substitute-miss}

-- the variable does not stand in the message
unfoldable pub Fresh : ℕ → Message → Type 0
Fresh v (name n) = Unit {0}
Fresh v (variable u) = u ≡ v → ⊥
Fresh v (enter m) = Fresh v m
Fresh v (exit m) = Fresh v m
Fresh v (opens m) = Fresh v m
Fresh v empty_message = Unit {0}
Fresh v (path m k) = Fresh v m × Fresh v k

-- the variable is new to the bindings
unfoldable pub New : ℕ → List (ℕ × Message) → Type 0
New v [] = Unit {0}
New v (b ∷ σ) = (b.0 ≡ v → ⊥) × Fresh v b.1 × New v σ

hit : (v u : ℕ) (r : Message) → u ≡ v → substitute v r (variable u) ≡ r
hit v u r e = substitute-hit v u r (eq-eqb u v e)

miss : (v u : ℕ) (r : Message) → (u ≡ v → ⊥) → substitute v r (variable u) ≡ variable u
miss v u r e = substitute-miss v u r (ne_eqb u v e)

pub substitute-fresh : (v : ℕ) (r m : Message) → Fresh v m → substitute v r m ≡ m
unfolding substitute Fresh
substitute-fresh v r (name n) h = refl
substitute-fresh v r (variable u) h = miss v u r h
substitute-fresh v r (enter m) h = ap enter (substitute-fresh v r m h)
substitute-fresh v r (exit m) h = ap exit (substitute-fresh v r m h)
substitute-fresh v r (opens m) h = ap opens (substitute-fresh v r m h)
substitute-fresh v r empty_message h = refl
substitute-fresh v r (path m k) h = rw (substitute-fresh v r m h.0, substitute-fresh v r k h.1)

pub substitute-twice : (u v : ℕ) (n r m : Message) → (u ≡ v → ⊥) → Fresh v n → substitute u n (substitute v r m) ≡ substitute v (substitute u n r) (substitute u n m)
unfolding substitute
substitute-twice u v n r (name x) d h = refl
substitute-twice u v n r (variable x) d h =
    by_test (eqb x v)
    (λ e. let a = eqb-true x v e in
    ap (substitute u n) (hit v x r a) ∙ sym (ap (substitute v (substitute u n r)) (miss u x n (λ z. d (sym z ∙ a))) ∙ hit v x (substitute u n r) a))
    (λ e. let a = eqb-false x v e in
    ap (substitute u n) (miss v x r a)
    ∙ by_test (eqb x u)
    (λ f. let b = eqb-true x u f in hit u x n b ∙ sym (ap (substitute v (substitute u n r)) (hit u x n b) ∙ substitute-fresh v (substitute u n r) n h))
    (λ f. let b = eqb-false x u f in miss u x n b ∙ sym (ap (substitute v (substitute u n r)) (miss u x n b) ∙ miss v x (substitute u n r) a)))
substitute-twice u v n r (enter m) d h = ap enter (substitute-twice u v n r m d h)
substitute-twice u v n r (exit m) d h = ap exit (substitute-twice u v n r m d h)
substitute-twice u v n r (opens m) d h = ap opens (substitute-twice u v n r m d h)
substitute-twice u v n r empty_message d h = refl
substitute-twice u v n r (path m k) d h = rw (substitute-twice u v n r m d h, substitute-twice u v n r k d h)

-- a message under one binding more is the message under the others with the resolved message substituted
pub resolve-substitute : (σ : List (ℕ × Message)) (v : ℕ) (r m : Message) → New v σ → resolve σ (substitute v r m) ≡ substitute v (resolve σ r) (resolve σ m)
unfolding resolve New
resolve-substitute [] v r m h = refl
resolve-substitute (b ∷ σ) v r m h =
    ap (resolve σ) (substitute-twice b.0 v b.1 r m h.0 h.1) ∙ resolve-substitute σ v (substitute b.0 b.1 r) (substitute b.0 b.1 m) h.2

substitute_items-append : (v : ℕ) (r : Message) (a b : List Message) → substitute_items v r (a ++ b) ≡ substitute_items v r a ++ substitute_items v r b
unfolding substitute_items
substitute_items-append v r [] b = refl
substitute_items-append v r (m ∷ a) b =
    ap (λ l. items (substitute v r m) ++ l) (substitute_items-append v r a b) ∙ sym (append_assoc (items (substitute v r m)) (substitute_items v r a) (substitute_items v r b))

-- an action held as its items, substituted into, has the items of the message substituted into
pub items-substitute : (v : ℕ) (r m : Message) → items (substitute v r m) ≡ substitute_items v r (items m)
unfolding items substitute substitute_items
items-substitute v r (name n) = refl
items-substitute v r (variable u) = sym (append-nil (items (substitute v r (variable u))))
items-substitute v r (enter m) = refl
items-substitute v r (exit m) = refl
items-substitute v r (opens m) = refl
items-substitute v r empty_message = refl
items-substitute v r (path m k) =
    ap (λ l. l ++ items (substitute v r k)) (items-substitute v r m) ∙ ap (λ l. substitute_items v r (items m) ++ l) (items-substitute v r k) ∙ sym (substitute_items-append v r (items m) (items k))

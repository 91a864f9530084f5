-- Variables in messages and processes: how often they occur and stand free, and what substitution does to that.
-- Assumes nothing.
use Prim.Native.Nat.{ℕ, suc, ◌+◌, ◌≤◌}
use mathlib.Core.Bool.{true, false, cond}
use mathlib.Core.Path.{◌≡◌, refl, sym, ap, ap₂, ◌∙◌, subst}
use native.Mathlib.Omega.{arith}
use lib.Dec.{eqb}
use borrow.Author.Tests.{eqb-true, eqb-false, ne_eqb}
use Rattle.read_messages.specs.Message.{Message, name, variable, enter, exit, opens, empty_message, path, mentions}
use Rattle.read_messages.specs.Message as message
use Rattle.read_messages.proofs.Mentioning.{mentions-none, mentions-other}
use Rattle.base_slices.proofs.Tests.{by_test, eqb_same}
use Rattle.theory_calculus.specs.Calculus.{Process, 𝟎, ◌‖◌, ambient, action, input, output, substitute, occurs}

pub eqb-flip : (x y : ℕ) → eqb x y ≡ false → eqb y x ≡ false
eqb-flip x y e = ne_eqb y x (λ g. eqb-false x y e (sym g))

message-absent : (y : ℕ) (r m : Message) → mentions y m ≡ 0 → message.substitute y r m ≡ m
unfolding message.substitute mentions
message-absent y r (name n) z = refl
message-absent y r (variable u) z = rw (mentions-none u y z)
message-absent y r (enter m) z = ap enter (message-absent y r m z)
message-absent y r (exit m) z = ap exit (message-absent y r m z)
message-absent y r (opens m) z = ap opens (message-absent y r m z)
message-absent y r empty_message z = refl
message-absent y r (path m k) z = ap₂ path (message-absent y r m (omega arith)) (message-absent y r k (omega arith))

message-twice : (x y : ℕ) (r m : Message) → mentions y m ≡ 0 → message.substitute y r (message.substitute x (variable y) m) ≡ message.substitute x r m
unfolding message.substitute mentions
message-twice x y r (name n) z = refl
message-twice x y r (variable u) z = by_test (eqb u x) (λ t. rw (t, eqb_same y)) (λ t. rw (t, mentions-none u y z))
message-twice x y r (enter m) z = ap enter (message-twice x y r m z)
message-twice x y r (exit m) z = ap exit (message-twice x y r m z)
message-twice x y r (opens m) z = ap opens (message-twice x y r m z)
message-twice x y r empty_message z = refl
message-twice x y r (path m k) z = ap₂ path (message-twice x y r m (omega arith)) (message-twice x y r k (omega arith))

-- a variable is gone when a message without it represents it
message-gone : (x : ℕ) (r m : Message) → mentions x r ≡ 0 → mentions x (message.substitute x r m) ≡ 0
unfolding message.substitute mentions
message-gone x r (name n) z = refl
message-gone x r (variable u) z = by_test (eqb u x) (λ t. rw t z) (λ t. rw t (mentions-other u x t))
message-gone x r (enter m) z = message-gone x r m z
message-gone x r (exit m) z = message-gone x r m z
message-gone x r (opens m) z = message-gone x r m z
message-gone x r empty_message z = refl
message-gone x r (path m k) z = omega (arith, message-gone x r m z, message-gone x r k z)

message-less : (v x : ℕ) (r m : Message) → mentions v r ≡ 0 → mentions v (message.substitute x r m) ≤ mentions v m
unfolding message.substitute mentions
message-less v x r (name n) z = omega arith
message-less v x r (variable u) z = by_test (eqb u x) (λ t. rw t (omega arith)) (λ t. rw t (omega arith))
message-less v x r (enter m) z = message-less v x r m z
message-less v x r (exit m) z = message-less v x r m z
message-less v x r (opens m) z = message-less v x r m z
message-less v x r empty_message z = omega arith
message-less v x r (path m k) z = omega (arith, message-less v x r m z, message-less v x r k z)

message-more : (v x : ℕ) (r m : Message) → eqb x v ≡ false → mentions v m ≤ mentions v (message.substitute x r m)
unfolding message.substitute mentions
message-more v x r (name n) z = omega arith
message-more v x r (variable u) z = by_test (eqb u x) (λ t. let e : eqb u v ≡ false = subst (λ w. eqb w v ≡ false) (sym (eqb-true u x t)) z in rw (mentions-other u v e) (omega arith)) (λ t. rw t (omega arith))
message-more v x r (enter m) z = message-more v x r m z
message-more v x r (exit m) z = message-more v x r m z
message-more v x r (opens m) z = message-more v x r m z
message-more v x r empty_message z = omega arith
message-more v x r (path m k) z = omega (arith, message-more v x r m z, message-more v x r k z)

message-comm : (v x y : ℕ) (r m : Message) → eqb x v ≡ false → eqb y v ≡ false → mentions x r ≡ 0 → message.substitute v r (message.substitute x (variable y) m) ≡ message.substitute x (variable y) (message.substitute v r m)
unfolding message.substitute
message-comm v x y r (name n) a b z = refl
message-comm v x y r (variable u) a b z = by_test (eqb u x)
    (λ t. let e : eqb u v ≡ false = subst (λ w. eqb w v ≡ false) (sym (eqb-true u x t)) a in rw (t, b, e, t))
    (λ t. by_test (eqb u v) (λ s. rw (t, s) (sym (message-absent x (variable y) r z))) (λ s. rw (t, s, t)))
message-comm v x y r (enter m) a b z = ap enter (message-comm v x y r m a b z)
message-comm v x y r (exit m) a b z = ap exit (message-comm v x y r m a b z)
message-comm v x y r (opens m) a b z = ap opens (message-comm v x y r m a b z)
message-comm v x y r empty_message a b z = refl
message-comm v x y r (path m k) a b z = ap₂ path (message-comm v x y r m a b z) (message-comm v x y r k a b z)

-- in processes
pub occurs-input : (x v : ℕ) (p : Process) → occurs v (input x p) ≡ 0 → (eqb x v ≡ false) × (occurs v p ≡ 0)
unfolding occurs
occurs-input x v p z = by_test (eqb x v) (λ t. let f : suc (occurs v p) ≡ 0 = rw t at z in absurd (omega arith)) (λ t. (t, rw t at z))

pub occurs-under : (x v : ℕ) (p : Process) → occurs v p ≤ occurs v (input x p)
unfolding occurs
occurs-under x v p = by_test (eqb x v) (λ t. rw t (omega arith)) (λ t. rw t (omega arith))

pub input-other : (x v : ℕ) (m : Message) (p : Process) → eqb x v ≡ false → substitute v m (input x p) ≡ input x (substitute v m p)
unfolding substitute
input-other x v m p t = rw t

pub input-same : (x v : ℕ) (m : Message) (p : Process) → eqb x v ≡ true → substitute v m (input x p) ≡ input x p
unfolding substitute
input-same x v m p t = rw t

-- how often a variable stands free
unfoldable pub free : ℕ → Process → ℕ
free v 𝟎 = 0
free v (p ‖ q) = free v p + free v q
free v (ambient m p) = mentions v m + free v p
free v (action m p) = mentions v m + free v p
free v (input x p) = cond (eqb x v) 0 (free v p)
free v (output m) = mentions v m

pub free-same : (x v : ℕ) (p : Process) → eqb x v ≡ true → free v (input x p) ≡ 0
unfolding free
free-same x v p t = rw t

pub free_other : (x v : ℕ) (p : Process) → eqb x v ≡ false → free v (input x p) ≡ free v p
unfolding free
free_other x v p t = rw t

pub free-occurs : (v : ℕ) (p : Process) → free v p ≤ occurs v p
unfolding free occurs
free-occurs v 𝟎 = omega arith
free-occurs v (p ‖ q) = omega (arith, free-occurs v p, free-occurs v q)
free-occurs v (ambient m p) = omega (arith, free-occurs v p)
free-occurs v (action m p) = omega (arith, free-occurs v p)
free-occurs v (input x p) = by_test (eqb x v) (λ t. rw t (omega arith)) (λ t. rw t (free-occurs v p))
free-occurs v (output m) = omega arith

pub substitute-free : (x : ℕ) (r : Message) (p : Process) → free x p ≡ 0 → substitute x r p ≡ p
unfolding substitute free
substitute-free x r 𝟎 z = refl
substitute-free x r (p ‖ q) z = ap₂ ◌‖◌ (substitute-free x r p (omega arith)) (substitute-free x r q (omega arith))
substitute-free x r (ambient m p) z = ap₂ ambient (message-absent x r m (omega arith)) (substitute-free x r p (omega arith))
substitute-free x r (action m p) z = ap₂ action (message-absent x r m (omega arith)) (substitute-free x r p (omega arith))
substitute-free x r (input u p) z = by_test (eqb u x)
    (λ t. input-same u x r p t)
    (λ t. input-other u x r p t ∙ ap (input u) (substitute-free x r p (sym (free_other u x p t) ∙ z)))
substitute-free x r (output m) z = ap output (message-absent x r m z)

pub substitute-absent : (y : ℕ) (r : Message) (p : Process) → occurs y p ≡ 0 → substitute y r p ≡ p
substitute-absent y r p z = substitute-free y r p (omega (arith, free-occurs y p))

pub substitute-twice : (x y : ℕ) (r : Message) (p : Process) → occurs y p ≡ 0 → substitute y r (substitute x (variable y) p) ≡ substitute x r p
unfolding substitute occurs
substitute-twice x y r 𝟎 z = refl
substitute-twice x y r (p ‖ q) z = ap₂ ◌‖◌ (substitute-twice x y r p (omega arith)) (substitute-twice x y r q (omega arith))
substitute-twice x y r (ambient m p) z = ap₂ ambient (message-twice x y r m (omega arith)) (substitute-twice x y r p (omega arith))
substitute-twice x y r (action m p) z = ap₂ action (message-twice x y r m (omega arith)) (substitute-twice x y r p (omega arith))
substitute-twice x y r (input u p) z = let w = occurs-input u y p z in
    by_test (eqb u x)
    (λ t. ap (substitute y r) (input-same u x (variable y) p t) ∙ substitute-absent y r (input u p) z ∙ sym (input-same u x r p t))
    (λ t. ap (substitute y r) (input-other u x (variable y) p t) ∙ input-other u y r (substitute x (variable y) p) w.0 ∙ ap (input u) (substitute-twice x y r p w.1) ∙ sym (input-other u x r p t))
substitute-twice x y r (output m) z = ap output (message-twice x y r m z)

pub substitute-comm : (v x y : ℕ) (r : Message) (p : Process) → eqb x v ≡ false → eqb y v ≡ false → mentions x r ≡ 0 → substitute v r (substitute x (variable y) p) ≡ substitute x (variable y) (substitute v r p)
unfolding substitute
substitute-comm v x y r 𝟎 a b z = refl
substitute-comm v x y r (p ‖ q) a b z = ap₂ ◌‖◌ (substitute-comm v x y r p a b z) (substitute-comm v x y r q a b z)
substitute-comm v x y r (ambient m p) a b z = ap₂ ambient (message-comm v x y r m a b z) (substitute-comm v x y r p a b z)
substitute-comm v x y r (action m p) a b z = ap₂ action (message-comm v x y r m a b z) (substitute-comm v x y r p a b z)
substitute-comm v x y r (input u p) a b z = by_test (eqb u x)
    (λ t. let e : eqb u v ≡ false = subst (λ w. eqb w v ≡ false) (sym (eqb-true u x t)) a in
    ap (substitute v r) (input-same u x (variable y) p t) ∙ input-other u v r p e ∙ sym (input-same u x (variable y) (substitute v r p) t) ∙ ap (substitute x (variable y)) (sym (input-other u v r p e)))
    (λ t. by_test (eqb u v)
    (λ s. ap (substitute v r) (input-other u x (variable y) p t) ∙ input-same u v r (substitute x (variable y) p) s ∙ sym (input-other u x (variable y) p t) ∙ ap (substitute x (variable y)) (sym (input-same u v r p s)))
    (λ s. ap (substitute v r) (input-other u x (variable y) p t) ∙ input-other u v r (substitute x (variable y) p) s ∙ ap (input u) (substitute-comm v x y r p a b z) ∙ sym (input-other u x (variable y) (substitute v r p) t) ∙ ap (substitute x (variable y)) (sym (input-other u v r p s))))
substitute-comm v x y r (output m) a b z = ap output (message-comm v x y r m a b z)

occurs-input-less : (u v : ℕ) (p q : Process) → occurs v p ≤ occurs v q → occurs v (input u p) ≤ occurs v (input u q)
unfolding occurs
occurs-input-less u v p q h = by_test (eqb u v) (λ t. rw t (omega arith)) (λ t. rw t h)

pub occurs-less : (v x : ℕ) (r : Message) (p : Process) → mentions v r ≡ 0 → occurs v (substitute x r p) ≤ occurs v p
unfolding substitute occurs
occurs-less v x r 𝟎 z = omega arith
occurs-less v x r (p ‖ q) z = omega (arith, occurs-less v x r p z, occurs-less v x r q z)
occurs-less v x r (ambient m p) z = omega (arith, message-less v x r m z, occurs-less v x r p z)
occurs-less v x r (action m p) z = omega (arith, message-less v x r m z, occurs-less v x r p z)
occurs-less v x r (input u p) z = by_test (eqb u x)
    (λ t. rw (input-same u x r p t) (omega arith))
    (λ t. rw (input-other u x r p t) (occurs-input-less u v (substitute x r p) p (occurs-less v x r p z)))
occurs-less v x r (output m) z = message-less v x r m z

free-input-less : (u v : ℕ) (p q : Process) → free v p ≤ free v q → free v (input u p) ≤ free v (input u q)
free-input-less u v p q h = by_test (eqb u v) (λ t. omega (arith, free-same u v p t)) (λ t. omega (arith, free_other u v p t, free_other u v q t))

pub free-gone : (x : ℕ) (r : Message) (p : Process) → mentions x r ≡ 0 → free x (substitute x r p) ≡ 0
unfolding substitute free
free-gone x r 𝟎 z = refl
free-gone x r (p ‖ q) z = omega (arith, free-gone x r p z, free-gone x r q z)
free-gone x r (ambient m p) z = omega (arith, message-gone x r m z, free-gone x r p z)
free-gone x r (action m p) z = omega (arith, message-gone x r m z, free-gone x r p z)
free-gone x r (input u p) z = by_test (eqb u x)
    (λ t. rw (input-same u x r p t) (free-same u x p t))
    (λ t. rw (input-other u x r p t) (free_other u x (substitute x r p) t ∙ free-gone x r p z))
free-gone x r (output m) z = message-gone x r m z

pub free-less : (v x : ℕ) (r : Message) (p : Process) → mentions v r ≡ 0 → free v (substitute x r p) ≤ free v p
unfolding substitute free
free-less v x r 𝟎 z = omega arith
free-less v x r (p ‖ q) z = omega (arith, free-less v x r p z, free-less v x r q z)
free-less v x r (ambient m p) z = omega (arith, message-less v x r m z, free-less v x r p z)
free-less v x r (action m p) z = omega (arith, message-less v x r m z, free-less v x r p z)
free-less v x r (input u p) z = by_test (eqb u x)
    (λ t. rw (input-same u x r p t) (omega arith))
    (λ t. rw (input-other u x r p t) (free-input-less u v (substitute x r p) p (free-less v x r p z)))
free-less v x r (output m) z = message-less v x r m z

pub free_more : (v x : ℕ) (r : Message) (p : Process) → eqb x v ≡ false → free v p ≤ free v (substitute x r p)
unfolding substitute free
free_more v x r 𝟎 z = omega arith
free_more v x r (p ‖ q) z = omega (arith, free_more v x r p z, free_more v x r q z)
free_more v x r (ambient m p) z = omega (arith, message-more v x r m z, free_more v x r p z)
free_more v x r (action m p) z = omega (arith, message-more v x r m z, free_more v x r p z)
free_more v x r (input u p) z = by_test (eqb u x)
    (λ t. rw (input-same u x r p t) (omega arith))
    (λ t. rw (input-other u x r p t) (free-input-less u v p (substitute x r p) (free_more v x r p z)))
free_more v x r (output m) z = message-more v x r m z

-- Two processes are congruent just if their shapes are the same (000, section 2.1). Assumes nothing.
use Prim.Native.Nat.{ℕ, zero, suc, ◌+◌, ◌≤◌, ◌<◌}
use mathlib.Core.Bool.{true, false, cond}
use mathlib.Core.List.{List, [], ◌∷◌, ◌++◌}
use mathlib.Core.Path.{◌≡◌, refl, sym, ap, ap₂, ◌∙◌, subst}
use native.Mathlib.Omega.{arith}
use lib.Dec.{eqb}
use borrow.Author.Tests.{eqb-true, ne_eqb}
use Rattle.read_messages.specs.Message.{Message, name, variable, enter, exit, opens, empty_message, path, items, mentions}
use Rattle.read_messages.specs.Message as message
use Rattle.base_slices.proofs.Tests.{by_test, eqb_same}
use Rattle.theory_calculus.specs.Calculus.{Process, 𝟎, ◌‖◌, ambient, action, input, output, ◌≅◌, StructRefl, StructAlpha, StructSymm, StructTrans, StructPar, StructAmb, StructAction, StructInput, StructParComm, StructParAssoc, StructZeroPar, Structε, StructPath, substitute, occurs}
use Rattle.theory_calculus.specs.TreeProcess.{prefix}
use Rattle.read_messages.proofs.Mentioning.{mentions-none, mentions-other}
use Rattle.theory_calculus.proofs.Variables.{eqb-flip, occurs-input, occurs-under, occurs-less}
use Rattle.theory_calculus.proofs.Shapes.{Tag, amb, can, hear, say, Shape, no_cells, cell, ◌⧺◌, chain, Pick, here, there, Same, done, match, same_refl, same-trans, same-sym, same-append, same-eq, shape-nil, shape-assoc, append_comm, chain-append, chain_same}

-- the message with its variables renamed
unfoldable pub renamed : (ℕ → ℕ) → Message → Message
renamed σ (name n) = name n
renamed σ (variable v) = variable (σ v)
renamed σ (enter m) = enter (renamed σ m)
renamed σ (exit m) = exit (renamed σ m)
renamed σ (opens m) = opens (renamed σ m)
renamed σ empty_message = empty_message
renamed σ (path m k) = path (renamed σ m) (renamed σ k)

-- the naming σ, but x is named n
unfoldable pub bound : (ℕ → ℕ) → ℕ → ℕ → ℕ → ℕ
bound σ x n z = cond (eqb z x) n (σ z)

-- The shape: a bound variable has the number of the inputs around it for its name, from n up.
unfoldable pub process_shape : ℕ → (ℕ → ℕ) → Process → Shape
process_shape n σ 𝟎 = no_cells
process_shape n σ (p ‖ q) = process_shape n σ p ⧺ process_shape n σ q
process_shape n σ (ambient m p) = cell (amb (renamed σ m)) (process_shape n σ p) no_cells
process_shape n σ (action m p) = chain (items (renamed σ m)) (process_shape n σ p)
process_shape n σ (input x p) = cell (hear n) (process_shape (suc n) (bound σ x n) p) no_cells
process_shape n σ (output m) = cell (say (renamed σ m)) no_cells no_cells

pub bound-same : (σ : ℕ → ℕ) (x n z : ℕ) → eqb z x ≡ true → bound σ x n z ≡ n
unfolding bound
bound-same σ x n z t = rw t

pub bound-other : (σ : ℕ → ℕ) (x n z : ℕ) → eqb z x ≡ false → bound σ x n z ≡ σ z
unfolding bound
bound-other σ x n z t = rw t

-- namings that agree but for a variable y, where y does not occur
bound-alike : (σ τ : ℕ → ℕ) (x n y : ℕ) → ((z : ℕ) → eqb z x ≡ false → eqb z y ≡ false → σ z ≡ τ z) → (z : ℕ) → eqb z y ≡ false → bound σ x n z ≡ bound τ x n z
bound-alike σ τ x n y h z e = by_test (eqb z x) (λ t. bound-same σ x n z t ∙ sym (bound-same τ x n z t)) (λ t. bound-other σ x n z t ∙ h z t e ∙ sym (bound-other τ x n z t))

message-alike : (σ τ : ℕ → ℕ) (y : ℕ) (m : Message) → mentions y m ≡ 0 → ((z : ℕ) → eqb z y ≡ false → σ z ≡ τ z) → renamed σ m ≡ renamed τ m
unfolding renamed mentions
message-alike σ τ y (name n) a h = refl
message-alike σ τ y (variable v) a h = ap variable (h v (mentions-none v y a))
message-alike σ τ y (enter m) a h = ap enter (message-alike σ τ y m a h)
message-alike σ τ y (exit m) a h = ap exit (message-alike σ τ y m a h)
message-alike σ τ y (opens m) a h = ap opens (message-alike σ τ y m a h)
message-alike σ τ y empty_message a h = refl
message-alike σ τ y (path m k) a h = ap₂ path (message-alike σ τ y m (omega arith) h) (message-alike σ τ y k (omega arith) h)

shape-alike : (n : ℕ) (σ τ : ℕ → ℕ) (y : ℕ) (p : Process) → occurs y p ≡ 0 → ((z : ℕ) → eqb z y ≡ false → σ z ≡ τ z) → process_shape n σ p ≡ process_shape n τ p
unfolding process_shape occurs
shape-alike n σ τ y 𝟎 a h = refl
shape-alike n σ τ y (p ‖ q) a h = ap₂ ◌⧺◌ (shape-alike n σ τ y p (omega arith) h) (shape-alike n σ τ y q (omega arith) h)
shape-alike n σ τ y (ambient m p) a h = ap₂ (λ (k : Message) (s : Shape). cell (amb k) s no_cells) (message-alike σ τ y m (omega arith) h) (shape-alike n σ τ y p (omega arith) h)
shape-alike n σ τ y (action m p) a h = ap₂ (λ (k : Message) (s : Shape). chain (items k) s) (message-alike σ τ y m (omega arith) h) (shape-alike n σ τ y p (omega arith) h)
shape-alike n σ τ y (input x p) a h = let w = occurs-input x y p a in ap (λ (s : Shape). cell (hear n) s no_cells) (shape-alike (suc n) (bound σ x n) (bound τ x n) y p w.1 (bound-alike σ τ x n y (λ z _ e. h z e)))
shape-alike n σ τ y (output m) a h = ap (λ (k : Message). cell (say k) no_cells no_cells) (message-alike σ τ y m a h)

-- τ names y as σ names x, and they agree on the others
abbrev pub Fresh : (ℕ → ℕ) → (ℕ → ℕ) → ℕ → ℕ → Type 0
Fresh σ τ x y = (σ x ≡ τ y) × ((z : ℕ) → eqb z x ≡ false → eqb z y ≡ false → σ z ≡ τ z)

rename-message : (σ τ : ℕ → ℕ) (x y : ℕ) (m : Message) → mentions y m ≡ 0 → Fresh σ τ x y → renamed σ m ≡ renamed τ (message.substitute x (variable y) m)
unfolding renamed mentions message.substitute
rename-message σ τ x y (name n) a h = refl
rename-message σ τ x y (variable v) a h = by_test (eqb v x)
    (λ t. rw t (ap (λ (u : ℕ). variable (σ u)) (eqb-true v x t) ∙ ap variable h.0))
    (λ t. rw t (ap variable (h.1 v t (mentions-none v y a))))
rename-message σ τ x y (enter m) a h = ap enter (rename-message σ τ x y m a h)
rename-message σ τ x y (exit m) a h = ap exit (rename-message σ τ x y m a h)
rename-message σ τ x y (opens m) a h = ap opens (rename-message σ τ x y m a h)
rename-message σ τ x y empty_message a h = refl
rename-message σ τ x y (path m k) a h = ap₂ path (rename-message σ τ x y m (omega arith) h) (rename-message σ τ x y k (omega arith) h)

fresh-under : (σ τ : ℕ → ℕ) (x y z n : ℕ) → eqb z x ≡ false → eqb z y ≡ false → Fresh σ τ x y → Fresh (bound σ z n) (bound τ z n) x y
fresh-under σ τ x y z n a b h = (
  bound-other σ z n x (eqb-flip z x a) ∙ h.0 ∙ sym (bound-other τ z n y (eqb-flip z y b)),
  λ u c d. by_test (eqb u z) (λ t. bound-same σ z n u t ∙ sym (bound-same τ z n u t)) (λ t. bound-other σ z n u t ∙ h.1 u c d ∙ sym (bound-other τ z n u t)),
)

pub rename-shape : (n : ℕ) (σ τ : ℕ → ℕ) (x y : ℕ) (p : Process) → occurs y p ≡ 0 → Fresh σ τ x y → process_shape n σ p ≡ process_shape n τ (substitute x (variable y) p)
unfolding process_shape occurs substitute
rename-shape n σ τ x y 𝟎 a h = refl
rename-shape n σ τ x y (p ‖ q) a h = ap₂ ◌⧺◌ (rename-shape n σ τ x y p (omega arith) h) (rename-shape n σ τ x y q (omega arith) h)
rename-shape n σ τ x y (ambient m p) a h = ap₂ (λ (k : Message) (s : Shape). cell (amb k) s no_cells) (rename-message σ τ x y m (omega arith) h) (rename-shape n σ τ x y p (omega arith) h)
rename-shape n σ τ x y (action m p) a h = ap₂ (λ (k : Message) (s : Shape). chain (items k) s) (rename-message σ τ x y m (omega arith) h) (rename-shape n σ τ x y p (omega arith) h)
rename-shape n σ τ x y (input z p) a h = let w = occurs-input z y p a in by_test (eqb z x)
    (λ t. rw t (ap (λ (s : Shape). cell (hear n) s no_cells) (shape-alike (suc n) (bound σ z n) (bound τ z n) y p w.1 (bound-alike σ τ z n y (λ u c d. h.1 u (subst (λ k. eqb u k ≡ false) (eqb-true z x t) c) d)))))
    (λ t. rw t (ap (λ (s : Shape). cell (hear n) s no_cells) (rename-shape (suc n) (bound σ z n) (bound τ z n) x y p w.1 (fresh-under σ τ x y z n t w.0 h))))
rename-shape n σ τ x y (output m) a h = ap (λ (k : Message). cell (say k) no_cells no_cells) (rename-message σ τ x y m a h)

bound-fresh : (σ : ℕ → ℕ) (x y n : ℕ) → Fresh (bound σ x n) (bound σ y n) x y
bound-fresh σ x y n = (bound-same σ x n x (eqb_same x) ∙ sym (bound-same σ y n y (eqb_same y)), λ z a b. bound-other σ x n z a ∙ sym (bound-other σ y n z b))

-- THEOREM: the shapes of congruent processes are the same.
pub sound : {p q : Process} → p ≅ q → (n : ℕ) (σ : ℕ → ℕ) → Same (process_shape n σ p) (process_shape n σ q)
unfolding process_shape items chain renamed
sound (StructRefl {p = p}) n σ = same_refl (process_shape n σ p)
sound (StructAlpha {x = x} {y = y} {p = p} z) n σ = match here (same-eq (rename-shape (suc n) (bound σ x n) (bound σ y n) x y p z (bound-fresh σ x y n))) done
sound (StructSymm h) n σ = same-sym (sound h n σ)
sound (StructTrans h k) n σ = same-trans (sound h n σ) (sound k n σ)
sound (StructPar {r = r} h) n σ = same-append (sound h n σ) (same_refl (process_shape n σ r))
sound (StructAmb h) n σ = match here (sound h n σ) done
sound (StructAction {m = m} h) n σ = chain_same (items (renamed σ m)) (sound h n σ)
sound (StructInput {x = x} h) n σ = match here (sound h (suc n) (bound σ x n)) done
sound (StructParComm {p = p} {q = q}) n σ = append_comm (process_shape n σ p) (process_shape n σ q)
sound (StructParAssoc {p = p} {q = q} {r = r}) n σ = same-eq (shape-assoc (process_shape n σ p) (process_shape n σ q) (process_shape n σ r))
sound (StructZeroPar {p = p}) n σ = same-eq (shape-nil (process_shape n σ p))
sound (Structε {p = p}) n σ = same_refl (process_shape n σ p)
sound (StructPath {m = m} {k = k} {p = p}) n σ = same-eq (chain-append (items (renamed σ m)) (items (renamed σ k)) (process_shape n σ p))

-- the process of a shape
unfoldable prime : Tag → Process → Process
prime (amb m) p = ambient m p
prime (can m) p = action m p
prime (hear x) p = input x p
prime (say m) p = output m

unfoldable written : Shape → Process
written no_cells = 𝟎
written (cell g i r) = prime g (written i) ‖ written r

par-right : {p q r : Process} → q ≅ r → p ‖ q ≅ p ‖ r
par-right h = StructTrans StructParComm (StructTrans (StructPar h) StructParComm)

pub par-both : {p q r s : Process} → p ≅ q → r ≅ s → p ‖ r ≅ q ‖ s
par-both h k = StructTrans (StructPar h) (par-right k)

-- p | (q | r) to q | (p | r)
pub par-swap : {p q r : Process} → p ‖ (q ‖ r) ≅ q ‖ (p ‖ r)
par-swap = StructTrans (StructSymm StructParAssoc) (StructTrans (StructPar StructParComm) StructParAssoc)

prime-cong : (g : Tag) {p q : Process} → p ≅ q → prime g p ≅ prime g q
unfolding prime
prime-cong (amb m) h = StructAmb h
prime-cong (can m) h = StructAction h
prime-cong (hear x) h = StructInput h
prime-cong (say m) h = StructRefl

pick-written : {d q j : Shape} {g : Tag} → Pick d g j q → written d ≅ prime g (written j) ‖ written q
unfolding written
pick-written here = StructRefl
pick-written (there p) = StructTrans (par-right (pick-written p)) par-swap

same-written : {s t : Shape} → Same s t → written s ≅ written t
unfolding written
same-written done = StructRefl
same-written (match {g = g} p a h) = StructTrans (par-both (prime-cong g (same-written a)) (same-written h)) (StructSymm (pick-written p))

written-append : (s t : Shape) → written (s ⧺ t) ≅ written s ‖ written t
unfolding written ◌⧺◌
written-append no_cells t = StructSymm (StructTrans StructParComm StructZeroPar)
written-append (cell g i r) t = StructTrans (par-right (written-append r t)) (StructSymm StructParAssoc)

pub prefix-prefix : (is js : List Message) (p : Process) → prefix is (prefix js p) ≅ prefix (is ++ js) p
unfolding prefix
prefix-prefix [] js p = StructRefl
prefix-prefix (i ∷ is) js p = StructAction (prefix-prefix is js p)

-- an action and its items
pub action-items : (m : Message) {p : Process} → action m p ≅ prefix (items m) p
unfolding prefix items
action-items (name n) = StructRefl
action-items (variable v) = StructRefl
action-items (enter m) = StructRefl
action-items (exit m) = StructRefl
action-items (opens m) = StructRefl
action-items empty_message = Structε
action-items (path m k) {p} = StructTrans StructPath (StructTrans (StructAction (action-items k)) (StructTrans (action-items m) (prefix-prefix (items m) (items k) p)))

pub prefix-cong : (is : List Message) {p q : Process} → p ≅ q → prefix is p ≅ prefix is q
unfolding prefix
prefix-cong [] h = h
prefix-cong (i ∷ is) h = StructAction (prefix-cong is h)

written-chain : (is : List Message) (s : Shape) → written (chain is s) ≅ prefix is (written s)
unfolding written chain prefix prime
written-chain [] s = StructRefl
written-chain (i ∷ is) s = StructTrans StructZeroPar (StructAction (written-chain is s))

-- every variable is its own name
abbrev pub own : ℕ → ℕ
own z = z

pub renamed-own : (m : Message) → renamed own m ≡ m
unfolding renamed
renamed-own (name n) = refl
renamed-own (variable v) = refl
renamed-own (enter m) = ap enter (renamed-own m)
renamed-own (exit m) = ap exit (renamed-own m)
renamed-own (opens m) = ap opens (renamed-own m)
renamed-own empty_message = refl
renamed-own (path m k) = ap₂ path (renamed-own m) (renamed-own k)

-- the variables of a process are below n
abbrev pub BelowAll : ℕ → Process → Type 0
BelowAll n p = (v : ℕ) → n ≤ v → occurs v p ≡ 0

unfoldable process_size : Process → ℕ
process_size 𝟎 = 0
process_size (p ‖ q) = suc (process_size p + process_size q)
process_size (ambient m p) = suc (process_size p)
process_size (action m p) = suc (process_size p)
process_size (input x p) = suc (process_size p)
process_size (output m) = 0

size-substitute : (x : ℕ) (r : Message) (p : Process) → process_size (substitute x r p) ≡ process_size p
unfolding process_size substitute
size-substitute x r 𝟎 = refl
size-substitute x r (p ‖ q) = omega (arith, size-substitute x r p, size-substitute x r q)
size-substitute x r (ambient m p) = omega (arith, size-substitute x r p)
size-substitute x r (action m p) = omega (arith, size-substitute x r p)
size-substitute x r (input y p) = by_test (eqb y x) (λ t. rw t) (λ t. rw t (omega (arith, size-substitute x r p)))
size-substitute x r (output m) = refl

pub below-under : (n x : ℕ) (p : Process) → BelowAll n (input x p) → BelowAll n p
below-under n x p b = λ v h. omega (arith, b v h, occurs-under x v p)

pub below-renamed : (n x : ℕ) (p : Process) → BelowAll n p → BelowAll (suc n) (substitute x (variable n) p)
below-renamed n x p b = λ v h. omega (arith, b v (omega arith), occurs-less v x (variable n) p (mentions-other n v (ne_eqb n v (λ e. omega arith))))

pub own_fresh : (x n : ℕ) → Fresh (bound own x n) own x n
own_fresh x n = (bound-same own x n x (eqb_same x), λ z a b. bound-other own x n z a)

shape-written : (f n : ℕ) (p : Process) → process_size p < f → BelowAll n p → p ≅ written (process_shape n own p)
unfolding process_shape written prime process_size occurs
shape-written zero n p l b = absurd (omega arith)
shape-written (suc f) n 𝟎 l b = StructRefl
shape-written (suc f) n (p ‖ q) l b = StructTrans (par-both (shape-written f n p (omega arith) (λ v h. omega (arith, b v h))) (shape-written f n q (omega arith) (λ v h. omega (arith, b v h)))) (StructSymm (written-append (process_shape n own p) (process_shape n own q)))
shape-written (suc f) n (ambient m p) l b = rw (renamed-own m) (StructTrans (StructAmb (shape-written f n p (omega arith) (λ v h. omega (arith, b v h)))) (StructSymm StructZeroPar))
shape-written (suc f) n (action m p) l b = rw (renamed-own m) (StructTrans (action-items m) (StructTrans (prefix-cong (items m) (shape-written f n p (omega arith) (λ v h. omega (arith, b v h)))) (StructSymm (written-chain (items m) (process_shape n own p)))))
shape-written (suc f) n (input x p) l b =
    let c = below-under n x p b in
    let e : process_shape (suc n) (bound own x n) p ≡ process_shape (suc n) own (substitute x (variable n) p) = rename-shape (suc n) (bound own x n) own x n p (c n (omega arith)) (own_fresh x n) in
    rw e (StructTrans (StructAlpha {x = x} {y = n} (c n (omega arith))) (StructTrans (StructInput (shape-written f (suc n) (substitute x (variable n) p) (omega (arith, size-substitute x (variable n) p)) (below-renamed n x p c))) (StructSymm StructZeroPar)))
shape-written (suc f) n (output m) l b = rw (renamed-own m) (StructSymm StructZeroPar)

-- THEOREM: processes are congruent where their shapes are the same, n being above all their variables.
pub complete : (n : ℕ) {p q : Process} → BelowAll n p → BelowAll n q → Same (process_shape n own p) (process_shape n own q) → p ≅ q
complete n {p} {q} a b h = StructTrans (shape-written (suc (process_size p)) n p (omega arith) a) (StructTrans (same-written h) (StructSymm (shape-written (suc (process_size q)) n q (omega arith) b)))

-- a number above every variable
unfoldable pub top_message : Message → ℕ
top_message (name n) = 0
top_message (variable v) = suc v
top_message (enter m) = top_message m
top_message (exit m) = top_message m
top_message (opens m) = top_message m
top_message empty_message = 0
top_message (path m k) = top_message m + top_message k

unfoldable pub highest : Process → ℕ
highest 𝟎 = 0
highest (p ‖ q) = highest p + highest q
highest (ambient m p) = top_message m + highest p
highest (action m p) = top_message m + highest p
highest (input x p) = suc x + highest p
highest (output m) = top_message m

top-message : (m : Message) (v : ℕ) → top_message m ≤ v → mentions v m ≡ 0
unfolding top_message mentions
top-message (name n) v h = refl
top-message (variable u) v h = mentions-other u v (ne_eqb u v (λ e. omega arith))
top-message (enter m) v h = top-message m v h
top-message (exit m) v h = top-message m v h
top-message (opens m) v h = top-message m v h
top-message empty_message v h = refl
top-message (path m k) v h = omega (arith, top-message m v (omega arith), top-message k v (omega arith))

pub top_below : (p : Process) (n : ℕ) → highest p ≤ n → BelowAll n p
unfolding highest occurs
top_below 𝟎 n l v h = refl
top_below (p ‖ q) n l v h = omega (arith, top_below p n (omega arith) v h, top_below q n (omega arith) v h)
top_below (ambient m p) n l v h = omega (arith, top-message m v (omega arith), top_below p n (omega arith) v h)
top_below (action m p) n l v h = omega (arith, top-message m v (omega arith), top_below p n (omega arith) v h)
top_below (input x p) n l v h = rw (ne_eqb x v (λ e. omega arith)) (top_below p n (omega arith) v h)
top_below (output m) n l v h = top-message m v (omega arith)

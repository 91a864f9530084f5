-- Shapes: processes with the order of their factors left in, and bracketing and empty actions left out. `Same` forgets the
-- order too. Assumes nothing.
use Prim.Native.Nat.{ℕ}
use mathlib.Core.List.{List, [], ◌∷◌, ◌++◌}
use mathlib.Core.Path.{◌≡◌, refl, sym, ap, subst}
use mathlib.Core.Logic.{◌⊎◌, inl, inr}
use Rattle.read_messages.specs.Message.{Message}

-- what a process is that is no product: an ambient, one item and what it guards, an input, an output
pub data Tag : Type 0 where
  amb : Message → Tag  -- M[..]
  can : Message → Tag  -- one item
  hear : ℕ → Tag  -- (x)
  say : Message → Tag  -- ⟨M⟩

-- cells one behind another; a cell is its tag, the shape inside it, and the other cells
pub data Shape : Type 0 where
  no_cells : Shape
  cell : Tag → Shape → Shape → Shape

-- the cells of both
infixr 40 ◌⧺◌
unfoldable pub ◌⧺◌ : Shape → Shape → Shape
no_cells ⧺ t = t
cell g i r ⧺ t = cell g i (r ⧺ t)

-- items, one inside another
unfoldable pub chain : List Message → Shape → Shape
chain [] s = s
chain (i ∷ is) s = cell (can i) (chain is s) no_cells

-- the first shape has the cell g i, and the last is what it has besides
pub data Pick : Shape → Tag → Shape → Shape → Type 0 where
  here : {g : Tag} {i r : Shape} → Pick (cell g i r) g i r
  there : {h g : Tag} {j i r q : Shape} → Pick r g i q → Pick (cell h j r) g i (cell h j q)

-- the same cells in any order, at every depth
pub data Same : Shape → Shape → Type 0 where
  done : Same no_cells no_cells
  match : {g : Tag} {i j r q d : Shape} → Pick d g j q → Same i j → Same r q → Same (cell g i r) d

pub same_refl : (s : Shape) → Same s s
same_refl no_cells = done
same_refl (cell g i r) = match here (same_refl i) (same_refl r)

pick-swap : {d d₁ d₂ : Shape} {g h : Tag} {i j : Shape} → Pick d g i d₁ → Pick d₁ h j d₂ → (d₃ : Shape) × Pick d h j d₃ × Pick d₃ g i d₂
pick-swap here p = (_, there p, here)
pick-swap (there p) here = (_, here, p)
pick-swap (there p) (there q) = let x = pick-swap p q in (_, there x.1, there x.2)

pick_same : {c c' d i : Shape} {g : Tag} → Pick c g i c' → Same c d → (j : Shape) × (d' : Shape) × Pick d g j d' × Same i j × Same c' d'
pick_same here (match p a b) = (_, _, p, a, b)
pick_same (there p) (match q a b) =
    let x = pick_same p b in
    let y = pick-swap q x.2 in
    (x.0, y.0, y.1, x.3, match y.2 a x.4)

pub same-trans : {a b c : Shape} → Same a b → Same b c → Same a c
same-trans done s = s
same-trans (match p a b) s = let x = pick_same p s in match x.2 (same-trans a x.3) (same-trans b x.4)

same-pick : {b i j r q : Shape} {g : Tag} → Pick b g j q → Same j i → Same q r → Same b (cell g i r)
same-pick here a s = match here a s
same-pick (there p) a (match q b s) = match (there q) b (same-pick p a s)

pub same-sym : {a b : Shape} → Same a b → Same b a
same-sym done = done
same-sym (match p a s) = same-pick p (same-sym a) (same-sym s)

pub shape-nil : (s : Shape) → s ⧺ no_cells ≡ s
unfolding ◌⧺◌
shape-nil no_cells = refl
shape-nil (cell g i r) = ap (cell g i) (shape-nil r)

pub shape-assoc : (s t u : Shape) → (s ⧺ t) ⧺ u ≡ s ⧺ (t ⧺ u)
unfolding ◌⧺◌
shape-assoc no_cells t u = refl
shape-assoc (cell g i r) t u = ap (cell g i) (shape-assoc r t u)

pick-left : {a b i : Shape} {g : Tag} (c : Shape) → Pick a g i b → Pick (a ⧺ c) g i (b ⧺ c)
unfolding ◌⧺◌
pick-left c here = here
pick-left c (there p) = there (pick-left c p)

pick-right : {a b i : Shape} {g : Tag} (c : Shape) → Pick a g i b → Pick (c ⧺ a) g i (c ⧺ b)
unfolding ◌⧺◌
pick-right no_cells p = p
pick-right (cell h j r) p = there (pick-right r p)

pub same-append : {a b c d : Shape} → Same a b → Same c d → Same (a ⧺ c) (b ⧺ d)
unfolding ◌⧺◌
same-append done t = t
same-append {d = d} (match p a s) t = match (pick-left d p) a (same-append s t)

pub same-eq : {a b : Shape} → a ≡ b → Same a b
same-eq {a} e = subst (Same a) e (same_refl a)

pub append_comm : (a b : Shape) → Same (a ⧺ b) (b ⧺ a)
unfolding ◌⧺◌
append_comm no_cells b = same-eq (sym (shape-nil b))
append_comm (cell g i r) b = match (pick-right b here) (same_refl i) (append_comm r b)

pub chain-append : (is js : List Message) (s : Shape) → chain (is ++ js) s ≡ chain is (chain js s)
unfolding chain
chain-append [] js s = refl
chain-append (i ∷ is) js s = ap (λ (t : Shape). cell (can i) t no_cells) (chain-append is js s)

pub chain_same : (is : List Message) {s t : Shape} → Same s t → Same (chain is s) (chain is t)
unfolding chain
chain_same [] h = h
chain_same (i ∷ is) h = match here (chain_same is h) done

-- which side of a sum the cell is of
pub pick-sum : (a c : Shape) {g : Tag} {i q : Shape} → Pick (a ⧺ c) g i q → ((b : Shape) × Pick a g i b × (q ≡ b ⧺ c)) ⊎ ((b : Shape) × Pick c g i b × (q ≡ a ⧺ b))
unfolding ◌⧺◌
pick-sum no_cells c p = inr (_, p, refl)
pick-sum (cell h j r) c here = inl (r, here, refl)
pick-sum (cell h j r) c (there p) = elim (pick-sum r c p) [
  | inl x ↦ inl (_, there x.1, ap (cell h j) x.2)
  | inr x ↦ inr (_, x.1, ap (cell h j) x.2)
]

pub same-one : {f g : Tag} {i r s : Shape} → Same (cell f i r) (cell g s no_cells) → (f ≡ g) × Same i s × Same r no_cells
same-one (match here a z) = (refl, a, z)
same-one {f = f} {g = g} {i = i} {r = r} {s = s} (match {j = j} (there {q = q} x) a z) = elim x [ ]

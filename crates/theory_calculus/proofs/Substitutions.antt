-- Substitution of a message without variables keeps congruence; congruence keeps the free variables, and reduction adds
-- none. Assumes nothing.
use Prim.Native.Nat.{ℕ, suc, ◌+◌}
use mathlib.Core.Bool.{false}
use mathlib.Core.Path.{◌≡◌, refl, sym, ◌∙◌, subst}
use native.Mathlib.Omega.{arith}
use lib.Dec.{eqb}
use borrow.Author.Tests.{eqb-true}
use Rattle.read_messages.specs.Message.{Message, variable, mentions}
use Rattle.read_messages.specs.Message as message
use Rattle.base_slices.proofs.Tests.{by_test}
use Rattle.theory_calculus.specs.Calculus.{Process, ◌‖◌, ambient, input, output, ◌≅◌, StructRefl, StructAlpha, StructSymm, StructTrans, StructPar, StructAmb, StructAction, StructInput, StructParComm, StructParAssoc, StructZeroPar, Structε, StructPath, substitute, occurs, ◌⟶◌, RedIn, RedOut, RedOpen, RedIO, RedPar, RedAmb, RedCong}
use Rattle.read_messages.proofs.Mentioning.{mentions-other}
use Rattle.theory_calculus.proofs.Variables.{occurs-less, input-same, input-other, substitute-absent, substitute-twice, substitute-comm, substitute-free, free, free-same, free_other, free-occurs, free-gone, free-less, free_more}
use Rattle.theory_calculus.proofs.Shapes.{Same, same-one}
use Rattle.theory_calculus.proofs.Congruences.{process_shape, bound, own, sound, complete, rename-shape, own_fresh, BelowAll, below-under, below-renamed, highest, top_below}

-- a message without variables
abbrev pub Ground : Message → Type 0
Ground r = (v : ℕ) → mentions v r ≡ 0

-- a process without free variables
abbrev pub Closed : Process → Type 0
Closed p = (v : ℕ) → free v p ≡ 0

substitute-alpha : (v : ℕ) (r : Message) → Ground r → (x y : ℕ) (p : Process) → occurs y p ≡ 0 → substitute v r (input x p) ≅ substitute v r (input y (substitute x (variable y) p))
substitute-alpha v r g x y p z = by_test (eqb x v)
    (λ s. by_test (eqb y v)
    (λ t. rw (input-same x v r p s, input-same y v r (substitute x (variable y) p) t) (StructAlpha z))
    (λ t. rw (
      input-same x v r p s,
      input-other y v r (substitute x (variable y) p) t,
      substitute-free v r (substitute x (variable y) p) (subst (λ w. free w (substitute x (variable y) p) ≡ 0) (eqb-true x v s) (free-gone x (variable y) p (mentions-other y x (subst (λ w. eqb y w ≡ false) (sym (eqb-true x v s)) t)))),
    ) (StructAlpha z)))
    (λ s. by_test (eqb y v)
    (λ t. rw (input-other x v r p s, input-same y v r (substitute x (variable y) p) t, substitute-absent v r p (subst (λ w. occurs w p ≡ 0) (eqb-true y v t) z)) (StructAlpha z))
    (λ t. let o : occurs y (substitute v r p) ≡ 0 = omega (arith, occurs-less y v r p (g y)) in
    rw (input-other x v r p s, input-other y v r (substitute x (variable y) p) t, substitute-comm v x y r p s t (g x)) (StructAlpha o)))

pub substitute-cong : (v : ℕ) (r : Message) → Ground r → {p q : Process} → p ≅ q → substitute v r p ≅ substitute v r q
unfolding substitute message.substitute
substitute-cong v r g StructRefl = StructRefl
substitute-cong v r g (StructAlpha {x = x} {y = y} {p = p} z) = substitute-alpha v r g x y p z
substitute-cong v r g (StructSymm h) = StructSymm (substitute-cong v r g h)
substitute-cong v r g (StructTrans h k) = StructTrans (substitute-cong v r g h) (substitute-cong v r g k)
substitute-cong v r g (StructPar h) = StructPar (substitute-cong v r g h)
substitute-cong v r g (StructAmb h) = StructAmb (substitute-cong v r g h)
substitute-cong v r g (StructAction h) = StructAction (substitute-cong v r g h)
substitute-cong v r g (StructInput {x = x} h) = by_test (eqb x v) (λ t. rw t (StructInput h)) (λ t. rw t (StructInput (substitute-cong v r g h)))
substitute-cong v r g StructParComm = StructParComm
substitute-cong v r g StructParAssoc = StructParAssoc
substitute-cong v r g StructZeroPar = StructZeroPar
substitute-cong v r g Structε = Structε
substitute-cong v r g StructPath = StructPath

-- what two congruent inputs become
pub input-substitute : (x y : ℕ) (r : Message) → Ground r → (p q : Process) → input x p ≅ input y q → substitute x r p ≅ substitute y r q
unfolding process_shape
input-substitute x y r g p q h =
    let n : ℕ = highest (input x p) + highest (input y q) in
    let a : BelowAll n p = below-under n x p (top_below (input x p) n (omega arith)) in
    let b : BelowAll n q = below-under n y q (top_below (input y q) n (omega arith)) in
    let s : Same (process_shape (suc n) (bound own x n) p) (process_shape (suc n) (bound own y n) q) = (same-one (sound h n own)).1 in
    let t : Same (process_shape (suc n) own (substitute x (variable n) p)) (process_shape (suc n) own (substitute y (variable n) q))
    = subst (λ u. Same u (process_shape (suc n) own (substitute y (variable n) q))) (rename-shape (suc n) (bound own x n) own x n p (a n (omega arith)) (own_fresh x n))
    (subst (λ u. Same (process_shape (suc n) (bound own x n) p) u) (rename-shape (suc n) (bound own y n) own y n q (b n (omega arith)) (own_fresh y n)) s) in
    let c : substitute x (variable n) p ≅ substitute y (variable n) q = complete (suc n) (below-renamed n x p a) (below-renamed n y q b) t in
    subst (λ u. u ≅ substitute y r q) (substitute-twice x n r p (a n (omega arith)))
    (subst (λ u. substitute n r (substitute x (variable n) p) ≅ u) (substitute-twice y n r q (b n (omega arith))) (substitute-cong n r g c))

-- free variables
free-alpha : (v x y : ℕ) (p : Process) → occurs y p ≡ 0 → free v (input x p) ≡ free v (input y (substitute x (variable y) p))
free-alpha v x y p z = by_test (eqb x v)
    (λ s. by_test (eqb y v)
    (λ t. free-same x v p s ∙ sym (free-same y v (substitute x (variable y) p) t))
    (λ t. free-same x v p s ∙ sym (free_other y v (substitute x (variable y) p) t ∙ subst (λ w. free w (substitute x (variable y) p) ≡ 0) (eqb-true x v s) (free-gone x (variable y) p (mentions-other y x (subst (λ w. eqb y w ≡ false) (sym (eqb-true x v s)) t))))))
    (λ s. by_test (eqb y v)
    (λ t. free_other x v p s ∙ low (subst (λ w. occurs w p ≡ 0) (eqb-true y v t) z) ∙ sym (free-same y v (substitute x (variable y) p) t))
    (λ t. free_other x v p s ∙ both t s ∙ sym (free_other y v (substitute x (variable y) p) t)))
  where
    low : occurs v p ≡ 0 → free v p ≡ 0
    low e = omega (arith, free-occurs v p)

    both : eqb y v ≡ false → eqb x v ≡ false → free v p ≡ free v (substitute x (variable y) p)
    both t s = omega (arith, free_more v x (variable y) p s, free-less v x (variable y) p (mentions-other y v t))

pub free-cong : (v : ℕ) {p q : Process} → p ≅ q → free v p ≡ free v q
unfolding free mentions
free-cong v StructRefl = refl
free-cong v (StructAlpha {x = x} {y = y} {p = p} z) = free-alpha v x y p z
free-cong v (StructSymm h) = sym (free-cong v h)
free-cong v (StructTrans h k) = free-cong v h ∙ free-cong v k
free-cong v (StructPar h) = omega (arith, free-cong v h)
free-cong v (StructAmb h) = omega (arith, free-cong v h)
free-cong v (StructAction h) = omega (arith, free-cong v h)
free-cong v (StructInput {x = x} h) = by_test (eqb x v) (λ t. rw t) (λ t. rw t (free-cong v h))
free-cong v StructParComm = omega arith
free-cong v StructParAssoc = omega arith
free-cong v StructZeroPar = omega arith
free-cong v Structε = omega arith
free-cong v StructPath = omega arith

pub closed-cong : {p q : Process} → p ≅ q → Closed p → Closed q
closed-cong h c v = sym (free-cong v h) ∙ c v

pub closed-both : (p q : Process) → Closed (p ‖ q) → Closed p × Closed q
unfolding free
closed-both p q c = (λ v. omega (arith, c v), λ v. omega (arith, c v))

pub closed-ambient : (m : Message) (p : Process) → Closed (ambient m p) → Closed p
unfolding free
closed-ambient m p c v = omega (arith, c v)

pub closed-output : (m : Message) → Closed (output m) → Ground m
unfolding free
closed-output m c v = c v

free-received : (v x : ℕ) (m : Message) (p : Process) → mentions v m ≡ 0 → free v (input x p) ≡ 0 → free v (substitute x m p) ≡ 0
free-received v x m p z f = by_test (eqb x v)
    (λ t. subst (λ w. free w (substitute x m p) ≡ 0) (eqb-true x v t) (free-gone x m p (subst (λ w. mentions w m ≡ 0) (sym (eqb-true x v t)) z)))
    (λ t. omega (arith, free-less v x m p z, free_other x v p t))

-- what a closed process reduces to is closed
pub reduction-closed : {p q : Process} → p ⟶ q → Closed p → Closed q
unfolding free mentions
reduction-closed RedIn c v = omega (arith, c v)
reduction-closed RedOut c v = omega (arith, c v)
reduction-closed RedOpen c v = omega (arith, c v)
reduction-closed (RedIO {x = x} {m = m} {p = p}) c v = free-received v x m p (omega (arith, c v)) (omega (arith, c v))
reduction-closed (RedPar h) c v = omega (arith, c v, reduction-closed h (λ u. omega (arith, c u)) v)
reduction-closed (RedAmb h) c v = omega (arith, c v, reduction-closed h (λ u. omega (arith, c u)) v)
reduction-closed (RedCong i h j) c v = closed-cong j (λ u. reduction-closed h (closed-cong i c) u) v

-- What the walk's lists hold: the numbers from one on, the divisions of a tree, the insides of its named ambients, and what
-- stands after each move, of which none is missing where every part number is below the limit. Assumes nothing.
use Prim.Native.Nat.{ℕ, zero, suc, ◌+◌, ◌≤◌, ◌<◌}
use mathlib.Core.List.Memᴰ
use mathlib.Core.List.{List, [], ◌∷◌, Memᴰ}
use mathlib.Core.Path.{◌≡◌, refl, sym, ap, ◌∙◌, subst}
use mathlib.Core.Logic.{◌⊎◌, inl, inr}
use mathlib.Core.Option.{Option, none, some}
use native.Mathlib.Omega.{arith}
use lib.Dec.{eqb}
use Rattle.base_sets.specs.Sets.{numbers_from}
use borrow.Author.Tests.{eqb-true, eqb-false, eq-eqb}
use Rattle.read_messages.specs.Message.{Message}
use Rattle.std.specs.Prelude.{Some}
use Rattle.read_scripts.specs.Tree.{close, part, PlainHead, Plain}
use Rattle.theory_machine.specs.Moves.{MoveMade, head_name, is_named, same_name}
use Rattle.theory_machine.specs.PlainMachine.{plain, move}
use Rattle.base_slices.proofs.Tests.{by_test}
use Rattle.theory_machine.proofs.Options.{some_is, none≢some, cond-inv}
use Rattle.theory_machine.proofs.Inversion.{is_named-inv, same_name-inv}
use Rattle.theory_calculus.specs.Satisfaction.{Divided, nothing, to_left, to_right, Inside, first, later, Alone}
use Rattle.theory_decision.specs.Divisions.{with_either, divisions}
use Rattle.theory_decision.specs.Walk.{keep, moves_to, moves_from, in_order}
use Rattle.theory_decision.specs.PlainWalk.{only, insides, body_after, nexts}
use Rattle.theory_decision.proofs.Fits.{Fits, move-fits}

-- ranges

pub in_span : (from n m : ℕ) → from ≤ m → m < from + n → Memᴰ m (numbers_from from n)
unfolding numbers_from
in_span from zero m l h = absurd (let w : ⊥ = omega arith in w)
in_span from (suc n) m l h = by_test (eqb m from)
    (λ t. Memᴰ.head (eqb-true m from t))
    (λ t. Memᴰ.tail (in_span (suc from) n m (let d = eqb-false m from t in omega arith) (omega arith)))

pub of-span : (from n m : ℕ) → Memᴰ m (numbers_from from n) → (from ≤ m) × (m < from + n)
unfolding numbers_from
of-span from zero m i = absurd (Memᴰ.not-nil i)
of-span from (suc n) m i = elim (Memᴰ.cases_cons i) [
  | inl q ↦ (omega arith, omega arith)
  | inr j ↦ (let h = of-span (suc from) n m j in (omega arith, omega arith))
]

-- the moves of part numbers below a limit, whatever makes them

module _ {S : Type 0} where
  of-keep : (x : Option S) (l : List S) (c : S) → Memᴰ c (keep x l) → (x ≡ some c) ⊎ Memᴰ c l
  unfolding keep
  of-keep none l c m = inr m
  of-keep (some y) l c m = elim (Memᴰ.cases_cons m) [ inl q ↦ inl (ap some (sym q)) | inr t ↦ inr t ]

  in-keep : (x : Option S) (l : List S) (c : S) → (x ≡ some c) ⊎ Memᴰ c l → Memᴰ c (keep x l)
  unfolding keep
  in-keep none l c (inl e) = none≢some e
  in-keep none l c (inr m) = m
  in-keep (some y) l c (inl e) = Memᴰ.head (sym (some_is e))
  in-keep (some y) l c (inr m) = Memᴰ.tail m

  of-moves-to : (make : ℕ → Option S) (ts : List ℕ) (c : S) → Memᴰ c (moves_to make ts) → (t : ℕ) × (make t ≡ some c)
  unfolding moves_to
  of-moves-to make [] c m = absurd (Memᴰ.not-nil m)
  of-moves-to make (t ∷ ts) c m = elim (of-keep (make t) (moves_to make ts) c m) [ inl e ↦ (t, e) | inr u ↦ of-moves-to make ts c u ]

  in-moves-to : (make : ℕ → Option S) (t : ℕ) (ts : List ℕ) (c : S) → make t ≡ some c → Memᴰ t ts → Memᴰ c (moves_to make ts)
  unfolding moves_to
  in-moves-to make t [] c e i = absurd (Memᴰ.not-nil i)
  in-moves-to make t (u ∷ us) c e i = in-keep (make u) (moves_to make us) c (elim (Memᴰ.cases_cons i) [
    | inl q ↦ inl (ap make (sym q) ∙ e)
    | inr j ↦ inr (in-moves-to make t us c e j)
  ])

  of-moves-from : (make : ℕ → ℕ → Option S) (l ts : List ℕ) (c : S) → Memᴰ c (moves_from make l ts) → (a : ℕ) × (t : ℕ) × (make a t ≡ some c)
  unfolding moves_from
  of-moves-from make [] ts c m = absurd (Memᴰ.not-nil m)
  of-moves-from make (a ∷ l) ts c m = elim (Memᴰ.append_cases (moves_to (make a) ts) m) [
    | inl u ↦ (let x = of-moves-to (make a) ts c u in (a, x.0, x.1))
    | inr u ↦ of-moves-from make l ts c u
  ]

  in-moves-from : (make : ℕ → ℕ → Option S) (a t : ℕ) (l ts : List ℕ) (c : S) → make a t ≡ some c → Memᴰ a l → Memᴰ t ts → Memᴰ c (moves_from make l ts)
  unfolding moves_from
  in-moves-from make a t [] ts c e i j = absurd (Memᴰ.not-nil i)
  in-moves-from make a t (u ∷ us) ts c e i j = elim (Memᴰ.cases_cons i) [
    | inl q ↦ Memᴰ.append_left (moves_from make us ts) (in-moves-to (make u) t ts c (ap (λ (z : ℕ). make z t) (sym q) ∙ e) j)
    | inr k ↦ Memᴰ.append_right (moves_to (make u) ts) (in-moves-from make a t us ts c e k j)
  ]

  pub of-order : (limit : ℕ) (make : ℕ → ℕ → Option S) (c : S) → Memᴰ c (in_order limit make) → (a : ℕ) × (t : ℕ) × (make a t ≡ some c)
  unfolding in_order
  of-order limit make c m = of-moves-from make _ _ c m

  pub in_order_lem : (limit : ℕ) (make : ℕ → ℕ → Option S) (a t : ℕ) (c : S) → make a t ≡ some c → a < limit → t < limit → Memᴰ c (in_order limit make)
  unfolding in_order
  in_order_lem limit make a t c e i j =
      in-moves-from make a t _ _ c e (in_span _ _ a (omega arith) (omega arith)) (in_span _ _ t (omega arith) (omega arith))

-- what stands after one move

abbrev pub Next : Plain → Plain → Type 0
Next b c = (a : ℕ) × (t : ℕ) × (m : MoveMade (List Message)) × (move a t b ≡ some m) × (c ≡ m.body)

body-after : (x : Option (MoveMade (List Message))) (c : Plain) → body_after x ≡ some c → (m : MoveMade (List Message)) × (x ≡ some m) × (c ≡ m.body)
body-after none c e = none≢some e
body-after (some m) c e = (m, refl, sym (some_is e))

pub of-nexts : (limit : ℕ) (b c : Plain) → Memᴰ c (nexts limit b) → Next b c
unfolding nexts
of-nexts limit b c i =
    let x = of-order limit _ c i in
    let y = body-after (move x.0 x.1 b) c x.2 in
    (x.0, x.1, y.0, y.1, y.2)

-- Where every number is below the limit, every move is in the list.
pub in-nexts : (limit : ℕ) (P : ℕ → Type 0) (b : Plain) → Fits (λ (k : ℕ). k < limit) P b → (a t : ℕ) (m : MoveMade (List Message)) → move a t b ≡ some m → Memᴰ m.body (nexts limit b)
unfolding nexts
in-nexts limit P b x a t m e =
    let z = move-fits (λ (k : ℕ). k < limit) P a t b m e x in
    in_order_lem limit (λ c d. body_after (move c d b)) a t m.body (ap body_after e) z.0 z.1

-- divisions

in_left : (k : ℕ) (h : PlainHead) (b c d : Plain) (l : List (Plain × Plain)) → Memᴰ (c, d) l → Memᴰ (part k h b c, d) (with_either k h b l)
unfolding with_either
in_left k h b c d [] m = absurd (Memᴰ.not-nil m)
in_left k h b c d (x ∷ l) m = elim (Memᴰ.cases_cons m) [
  | inl q ↦ Memᴰ.tail (Memᴰ.head (ap (λ (y : Plain × Plain). (part k h b y.0, y.1)) q))
  | inr t ↦ Memᴰ.tail (Memᴰ.tail (in_left k h b c d l t))
]

in_right : (k : ℕ) (h : PlainHead) (b c d : Plain) (l : List (Plain × Plain)) → Memᴰ (c, d) l → Memᴰ (c, part k h b d) (with_either k h b l)
unfolding with_either
in_right k h b c d [] m = absurd (Memᴰ.not-nil m)
in_right k h b c d (x ∷ l) m = elim (Memᴰ.cases_cons m) [
  | inl q ↦ Memᴰ.head (ap (λ (y : Plain × Plain). (y.0, part k h b y.1)) q)
  | inr t ↦ Memᴰ.tail (Memᴰ.tail (in_right k h b c d l t))
]

pub in-divisions : {b c d : Plain} → Divided b c d → Memᴰ (c, d) (divisions b)
unfolding divisions
in-divisions nothing = Memᴰ.head refl
in-divisions (to_left p) = in_left _ _ _ _ _ _ (in-divisions p)
in-divisions (to_right p) = in_right _ _ _ _ _ _ (in-divisions p)

-- a division of a body with the part k in front comes from one of the rest
of_either : (k : ℕ) (h : PlainHead) (i b : Plain) (l : List (Plain × Plain)) → ((y : Plain × Plain) → Memᴰ y l → Divided b y.0 y.1) →
    (y : Plain × Plain) → Memᴰ y (with_either k h i l) → Divided (part k h i b) y.0 y.1
unfolding with_either
of_either k h i b [] f y m = absurd (Memᴰ.not-nil m)
of_either k h i b (x ∷ l) f y m = elim (Memᴰ.cases_cons m) [
  | inl q ↦ subst (λ (z : Plain × Plain). Divided (part k h i b) z.0 z.1) (sym q) (to_right (f x (Memᴰ.head refl)))
  | inr t ↦ elim (Memᴰ.cases_cons t) [
    | inl q ↦ subst (λ (z : Plain × Plain). Divided (part k h i b) z.0 z.1) (sym q) (to_left (f x (Memᴰ.head refl)))
    | inr u ↦ of_either k h i b l (λ z p. f z (Memᴰ.tail p)) y u
  ]
]

pub of-divisions : (b : Plain) (y : Plain × Plain) → Memᴰ y (divisions b) → Divided b y.0 y.1
unfolding divisions
of-divisions close y m = elim (Memᴰ.cases_cons m) [
  | inl q ↦ subst (λ (z : Plain × Plain). Divided close z.0 z.1) (sym q) nothing
  | inr t ↦ absurd (Memᴰ.not-nil t)
]
of-divisions (part k h i b) y m = of_either k h i b (divisions b) (of-divisions b) y m

-- insides

pub of-insides : (b c : Plain) → Memᴰ c (insides b) → Inside b c
unfolding insides
of-insides close c m = absurd (Memᴰ.not-nil m)
of-insides (part k h b r) c m = by_test (is_named (head_name plain h))
    (λ t. elim (Memᴰ.cases_cons (rw t at m)) [
      | inl q ↦ subst (λ (y : Plain). Inside (part k h b r) y) (sym q) (first (is_named-inv (head_name plain h) t).1)
      | inr u ↦ later (of-insides r c u)
    ])
    (λ t. later (of-insides r c (rw t at m)))

pub in-insides : {b c : Plain} → Inside b c → Memᴰ c (insides b)
unfolding insides is_named
in-insides (first {n = n} {h = h} {b = b} {r = r} e) = rw e (Memᴰ.head refl)
in-insides (later {h = h} {b = b} {r = r} i) = by_test (is_named (head_name plain h)) (λ t. rw t (Memᴰ.tail (in-insides i))) (λ t. rw t (in-insides i))

-- the one part

pub of-only : (n : ℕ) (b c : Plain) → only n b ≡ some c → Alone n b c
unfolding only
of-only n close c e = none≢some e
of-only n (part k h i close) c e =
    let (t, q) = cond-inv (same_name (Some n) (head_name plain h)) (some i) c e in
    let (m, w, z) = same_name-inv (Some n) (head_name plain h) t in
    record { number = k; head = h; only = ap (λ (x : Plain). part k h x close) (some_is q); named = z ∙ sym w }
of-only n (part k h i (part k₁ h₁ i₁ r₁)) c e = none≢some e

pub in-only : {n : ℕ} {b c : Plain} → Alone n b c → only n b ≡ some c
unfolding only same_name
in-only {n} {b} {c} x = rw (x.only, x.named, eq-eqb n n refl)

-- The walk over related spaces: where two ways of holding processes answer every question of the walk alike, up to a relation
-- between them, related processes have the same walk, with its visits and its stops. Assumes nothing.
use Prim.Native.Nat.{ℕ, zero, suc, ◌+◌}
use mathlib.Core.Bool.{Bool, true, false}
use mathlib.Core.List.{List, [], ◌∷◌, ◌++◌, map}
use mathlib.Core.Path.{◌≡◌, refl, ap, ◌∙◌}
use mathlib.Core.Option.{Option, none, some}
use lib.Dec.{ltb}
use Rattle.base_sets.specs.Sets.{numbers_from}
use Rattle.read_rule_words.specs.Rule.{Names, term_name, Rule, truth, negation, either, void, at, beside, some-name, sometime, somewhere, placed}
use Rattle.base_slices.proofs.Tests.{by_test}
use Rattle.theory_decision.specs.Walk.{Space, Count, Walked, stopped, says, Setting, on_yes, on_no, turned, if_any, first_yes, last_name, look, counted, walk, keep, moves_to, moves_from, in_order}

-- nothing beside nothing, or related things
pub data Both {A B : Type 0} (R : A → B → Type 0) : Option A → Option B → Type 0 where
  neither : Both R none none
  found : {a : A} {b : B} → R a b → Both R (some a) (some b)

-- lists of related things, in the same order
pub data RelatedLists {A B : Type 0} (R : A → B → Type 0) : List A → List B → Type 0 where
  none_left : RelatedLists R [] []
  one_more : {a : A} {b : B} {l : List A} {k : List B} → R a b → RelatedLists R l k → RelatedLists R (a ∷ l) (b ∷ k)

pub lists-map : {A B C : Type 0} (R : C → B → Type 0) (f : A → C) {l : List A} {k : List B} → RelatedLists (λ a b. R (f a) b) l k → RelatedLists R (map f l) k
lists-map R f none_left = none_left
lists-map R f (one_more x p) = one_more x (lists-map R f p)

pub lists-more : {A B : Type 0} (Q R : A → B → Type 0) → ((a : A) (b : B) → Q a b → R a b) → {l : List A} {k : List B} → RelatedLists Q l k → RelatedLists R l k
lists-more Q R f none_left = none_left
lists-more Q R f (one_more {a} {b} x p) = one_more (f a b x) (lists-more Q R f p)

module _ {A B : Type 0} (R : A → B → Type 0) where
  lists-append : {l m : List A} {k n : List B} → RelatedLists R l k → RelatedLists R m n → RelatedLists R (l ++ m) (k ++ n)
  lists-append none_left q = q
  lists-append (one_more x p) q = one_more x (lists-append p q)

  keep-lists : {x : Option A} {y : Option B} {l : List A} {k : List B} → Both R x y → RelatedLists R l k → RelatedLists R (keep x l) (keep y k)
  unfolding keep
  keep-lists neither p = p
  keep-lists (found r) p = one_more r p

  to-lists : (f : ℕ → Option A) (g : ℕ → Option B) → ((t : ℕ) → Both R (f t) (g t)) → (ts : List ℕ) → RelatedLists R (moves_to f ts) (moves_to g ts)
  unfolding moves_to
  to-lists f g h [] = none_left
  to-lists f g h (t ∷ ts) = keep-lists (h t) (to-lists f g h ts)

  from-lists : (f : ℕ → ℕ → Option A) (g : ℕ → ℕ → Option B) → ((a t : ℕ) → Both R (f a t) (g a t)) → (l ts : List ℕ) → RelatedLists R (moves_from f l ts) (moves_from g l ts)
  unfolding moves_from
  from-lists f g h [] ts = none_left
  from-lists f g h (a ∷ l) ts = lists-append (to-lists (f a) (g a) (h a) ts) (from-lists f g h l ts)

  -- moves that are listed in the walk's order
  pub order-lists : (limit : ℕ) (f : ℕ → ℕ → Option A) (g : ℕ → ℕ → Option B) → ((a t : ℕ) → Both R (f a t) (g a t)) → RelatedLists R (in_order limit f) (in_order limit g)
  unfolding in_order
  order-lists limit f g h = from-lists f g h (numbers_from 0 limit) (numbers_from 0 limit)

-- the same done one after another
on_no-same : (x : Walked) (k l : Count → Walked) → ((n : Count) → k n ≡ l n) → on_no x k ≡ on_no x l
unfolding on_no
on_no-same (stopped q i v) k l f = refl
on_no-same (says true n) k l f = refl
on_no-same (says false n) k l f = f n

on_yes-same : (x : Walked) (k l : Count → Walked) → ((n : Count) → k n ≡ l n) → on_yes x k ≡ on_yes x l
unfolding on_yes
on_yes-same (stopped q i v) k l f = refl
on_yes-same (says true n) k l f = f n
on_yes-same (says false n) k l f = refl

first_yes-lists : {A B : Type 0} (R : A → B → Type 0) (f : A → Count → Walked) (g : B → Count → Walked) → ((a : A) (b : B) → R a b → (n : Count) → f a n ≡ g b n) →
    {l : List A} {k : List B} → RelatedLists R l k → (n : Count) → first_yes f l n ≡ first_yes g k n
unfolding first_yes
first_yes-lists R f g h none_left n = refl
first_yes-lists R f g h (one_more {a} {b} {l} {k} x p) n = ap (λ (w : Walked). on_no w (λ c. first_yes f l c)) (h a b x n) ∙ on_no-same (g b n) _ _ (first_yes-lists R f g h p)

first_yes-same : {A : Type 0} (f g : A → Count → Walked) → ((a : A) (n : Count) → f a n ≡ g a n) → (l : List A) (n : Count) → first_yes f l n ≡ first_yes g l n
unfolding first_yes
first_yes-same f g h [] n = refl
first_yes-same f g h (a ∷ l) n = ap (λ (w : Walked). on_no w (λ c. first_yes f l c)) (h a n) ∙ on_no-same (g a n) _ _ (first_yes-same f g h l)

if_any-both : {A B : Type 0} (R : A → B → Type 0) (f : A → Walked) (g : B → Walked) → ((a : A) (b : B) → R a b → f a ≡ g b) →
    {x : Option A} {y : Option B} → Both R x y → (n : Count) → if_any x f n ≡ if_any y g n
unfolding if_any
if_any-both R f g h neither n = refl
if_any-both R f g h (found {a} {b} x) n = h a b x

-- The two spaces answer alike.
pub record Related {S T : Type 0} (R : S → T → Type 0) (one : Space S) (two : Space T) : Type 0 where
  pub is_void : (m : S) (b : T) → R m b → one.is_void m ≡ two.is_void b
  pub only : (n : ℕ) (m : S) (b : T) → R m b → Both R (one.only n m) (two.only n b)
  pub divisions : (m : S) (b : T) → R m b → RelatedLists (λ d e. R d.0 e.0 × R d.1 e.1) (one.divisions m) (two.divisions b)
  pub nexts : (m : S) (b : T) → R m b → RelatedLists R (one.nexts m) (two.nexts b)
  pub insides : (m : S) (b : T) → R m b → RelatedLists R (one.insides m) (two.insides b)
  pub wrap : (k n : ℕ) (m : S) (b : T) → R m b → R (one.wrap k n m) (two.wrap k n b)

module _ {S T : Type 0} (R : S → T → Type 0) (one : Space S) (two : Space T) (x : Related R one two) (s : Setting) where
  -- visits that agree on related processes
  abbrev Agree : (Names → Rule → S → Count → Walked) → (Names → Rule → T → Count → Walked) → Type 0
  Agree f g = (e : Names) (r : Rule) (m : S) (b : T) → R m b → (n : Count) → f e r m n ≡ g e r b n

  look-related : (f : Names → Rule → S → Count → Walked) (g : Names → Rule → T → Count → Walked) → Agree f g → Agree (look one s f) (look two s g)
  unfolding look
  look-related f g h e (truth i) m b p n = refl
  look-related f g h e (negation i r) m b p n = ap turned (h e r m b p n)
  look-related f g h e (either i r q) m b p n = ap (λ (w : Walked). on_no w (λ c. f e q m c)) (h e r m b p n) ∙ on_no-same (g e r b n) _ _ (h e q m b p)
  look-related f g h e (void i) m b p n = ap (λ (a : Bool). says a n) (x.is_void m b p)
  look-related f g h e (at i t r) m b p n = if_any-both R _ _ (λ c d q. h e r c d q n) (x.only (term_name e t) m b p) n
  look-related f g h e (beside i r q) m b p n =
      first_yes-lists (λ d k. R d.0 k.0 × R d.1 k.1) _ _
      (λ d k y c. ap (λ (w : Walked). on_yes w (λ l. f e q d.1 l)) (h e r d.0 k.0 y.0 c) ∙ on_yes-same (g e r k.0 c) _ _ (h e q d.1 k.1 y.1))
      (x.divisions m b p) n
  look-related f g h e (some-name i r) m b p n = first_yes-same _ _ (λ k c. h ((i, k) ∷ e) r m b p c) (numbers_from 1 (last_name s e)) n
  look-related f g h e (sometime i r) m b p n =
      ap (λ (w : Walked). on_no w (λ c. first_yes (λ d l. f e (sometime i r) d l) (one.nexts m) c)) (h e r m b p n)
      ∙ on_no-same (g e r b n) _ _ (first_yes-lists R _ _ (h e (sometime i r)) (x.nexts m b p))
  look-related f g h e (somewhere i r) m b p n =
      ap (λ (w : Walked). on_no w (λ c. first_yes (λ d l. f e (somewhere i r) d l) (one.insides m) c)) (h e r m b p n)
      ∙ on_no-same (g e r b n) _ _ (first_yes-lists R _ _ (h e (somewhere i r)) (x.insides m b p))
  look-related f g h e (placed i j t r) m b p n = h e r _ _ (x.wrap (s.parts + j) (term_name e t) m b p) n

  -- THEOREM: related processes have the same walk.
  pub walk-related : (left depth : ℕ) → Agree (walk one s left depth) (walk two s left depth)
  unfolding walk counted
  walk-related zero depth e r m b p n = refl
  walk-related (suc left) depth e r m b p n = by_test (ltb n.visits s.patience)
      (λ t. rw t (look-related _ _ (walk-related left (suc depth)) e r m b p (counted one s depth n)))
      (λ t. rw t)

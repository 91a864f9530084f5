-- Laws of what is counted: numbers of items, what is kept with the bindings, and items from an offset on; and a measure for
-- passes that go from binding to binding. Assumes nothing.
use Prim.Native.Nat.{ℕ, zero, suc, ◌+◌, ◌-◌, ◌*◌, ◌^◌, ◌≤◌, ◌<◌}
use mathlib.Core.List.{List, [], ◌∷◌, ◌++◌}
use mathlib.Core.Path.{◌≡◌, refl, sym, ap, ◌∙◌}
use native.Mathlib.Omega.{arith}
use lib.Dec.{eqb}
use lib.ListN.{length, drop, length-append, length-drop}
use lib.Seq.{drop-drop, drop-nil, drop-append-le, drop-append-add, get_or-drop}
use Rattle.read_messages.specs.Message.{Message, items, asks, first_item}
use Rattle.read_messages.specs.Spelling.{spelled, message_at}
use Rattle.read_messages.specs.declared.MessageWord.{MessageWord}
use Rattle.read_messages.specs.declared.MessageWord.TheVariants.{Name, Variable, Enter, Exit, Open, Empty, Path, Unfit}
use Rattle.read_messages.specs.declared.First.TheVariants.{Nothing}
use Rattle.base_slices.proofs.Tests.{by_test}
use Rattle.base_slices.proofs.Capping.{capped-sum, below-count, whole-count}
use Rattle.theory_closures.specs.Resolve.{resolve}
use Rattle.engine_bindings.specs.Bindings.{bindings_in, binding_message}
use Rattle.base_slices.specs.Sums.{capped}
use Rattle.engine_bindings.specs.Measures.{Kept, Counted, with_sources}
use Rattle.engine_message_words.specs.Words.{binding_at, first_word, shape_of, bound_at, newest_binding}
use Rattle.engine_message_words.specs.declared.Binding.{Binding}
use Rattle.engine_message_words.specs.declared.Shape.{Shape}
use Rattle.std.specs.Prelude.{Some, None, option_map}
use Rattle.engine_bindings.specs.Passes.{firsts, all_items, own_items, Passed}
use Rattle.engine_bindings.specs.declared.Behind.{Behind}
use Rattle.engine_bindings.proofs.Bindings.{binding-message-next}
use Rattle.engine_message_words.proofs.FirstWords.{items-small}
use Rattle.engine_message_words.proofs.Variables.{newest-hit, newest-miss}
use Rattle.engine_bindings.proofs.Passing.{one-message, first-bound, Free, unbound-free, own-free, given-items}

-- numbers of items

items-sum : (x a b : List Message) {o r t : ℕ} → x ≡ a ++ b → o ≡ capped (length a) → r ≡ capped (length b) → t ≡ capped (o + r) → t ≡ capped (length x)
items-sum x a b e p q s = capped-sum (length a) (length b) (ap length e ∙ length-append a b) p q s

pub no_items_lem : (x : List Message) → x ≡ [] → 0 ≡ capped (length x)
unfolding capped
no_items_lem x e = rw e

-- a word that is no variable with a binding has as many items of its own as its shape says
pub capped-shape : (σ : List (ℕ × Message)) (l : List ℕ) → Free σ (first_word l) → (shape_of (first_word l)).items ≡ capped (length (own_items σ l))
unfolding capped
capped-shape σ l f = omega (arith, own-free σ l f, items-small (first_word l))

-- what is kept with the bindings

module _ {f : Message → ℕ} {value : Binding → ℕ} {script : List ℕ} where
  pub kept-none : Kept f value script []
  kept-none = record { right = λ k h. absurd (omega arith) }

  module _ {bs : List Binding} (ok : Kept f value script bs) where
    -- the older bindings
    pub kept-drop : (n : ℕ) → Kept f value script (drop n bs)
    kept-drop n = record {
      right = λ k h.
          let e : n + (k + 1) ≡ n + k + 1 = omega arith in
          rw (get_or-drop n bs k _, drop-drop (k + 1) n bs, e) (ok.right (n + k) (omega (arith, length-drop n bs)));
    }

    -- one binding more
    pub kept_more : (b : Binding) → value b ≡ capped (f (resolve (bindings_in script bs) (message_at (drop b.source script)))) → Kept f value script (b ∷ bs)
    kept_more b e = record { right = more }
      where
        more : (k : ℕ) → k < suc (length bs) → value (binding_at (b ∷ bs) k) ≡ capped (f (binding_message script (b ∷ bs) k))
        more zero h = e
        more (suc k) h = ok.right k (omega arith) ∙ ap (λ (m : Message). capped (f m)) (sym (binding-message-next script b bs k))

-- of a word's own items, as it is read and looked up
module _ (script words : List ℕ) (bs : List Binding) (m : MessageWord) (first : m ≡ first_word words) where
  pub count-bound : Counted script bs → (k : ℕ) → k < length bs → Some k ≡ bound_at m bs → (binding_at bs k).count ≡ capped (length (own_items (bindings_in script bs) words))
  count-bound ok k h looked = ok.right k h ∙ ap (λ (l : List Message). capped (length l)) (given-items script bs k words (first-bound words bs first looked))

  pub count-unbound : None ≡ bound_at m bs → (f : Shape) → f ≡ shape_of m → f.items ≡ capped (length (own_items (bindings_in script bs) words))
  count-unbound looked f e = rw (e, first) (capped-shape _ words (unbound-free script bs _ (first-bound words bs first looked)))

-- other sources leave how many bindings there are, whose they are and what is counted

length-sources : (ss : List ℕ) (bs : List Binding) → length (with_sources ss bs) ≡ length bs
unfolding with_sources
length-sources [] bs = refl
length-sources (s ∷ ss) [] = refl
length-sources (s ∷ ss) (b ∷ bs) = ap suc (length-sources ss bs)

count-sources : (ss : List ℕ) (bs : List Binding) (k : ℕ) → (binding_at (with_sources ss bs) k).count ≡ (binding_at bs k).count
unfolding with_sources
count-sources [] bs k = refl
count-sources (s ∷ ss) [] k = refl
count-sources (s ∷ ss) (b ∷ bs) zero = refl
count-sources (s ∷ ss) (b ∷ bs) (suc k) = count-sources ss bs k

newest-sources : (ss : List ℕ) (bs : List Binding) (u : ℕ) → newest_binding (with_sources ss bs) u ≡ newest_binding bs u
unfolding with_sources
newest-sources [] bs u = refl
newest-sources (s ∷ ss) [] u = refl
newest-sources (s ∷ ss) (b ∷ bs) u =
    by_test (eqb u b.variable) (λ e. newest-hit _ u (with_sources ss bs) e ∙ sym (newest-hit b u bs e))
    (λ e. newest-miss _ u (with_sources ss bs) e ∙ ap (option_map suc) (newest-sources ss bs u) ∙ sym (newest-miss b u bs e))

bound-sources : (ss : List ℕ) (bs : List Binding) (m : MessageWord) → bound_at m (with_sources ss bs) ≡ bound_at m bs
unfolding bound_at
bound-sources ss bs (Name n) = refl
bound-sources ss bs (Variable v) = newest-sources ss bs v
bound-sources ss bs Enter = refl
bound-sources ss bs Exit = refl
bound-sources ss bs Open = refl
bound-sources ss bs Empty = refl
bound-sources ss bs Path = refl
bound-sources ss bs Unfit = refl

-- so that a word's own items are counted whatever the sources are
module _ (script sources words : List ℕ) (bs : List Binding) (m : MessageWord) (first : m ≡ first_word words) where
  pub own-bound : Counted script (with_sources sources bs) → (k : ℕ) → k < length bs → Some k ≡ bound_at m bs → (binding_at bs k).count ≡ capped (length (own_items (bindings_in script (with_sources sources bs)) words))
  own-bound ok k h looked =
      sym (count-sources sources bs k) ∙ count-bound script words (with_sources sources bs) m first ok k (omega (arith, length-sources sources bs)) (looked ∙ sym (bound-sources sources bs m))

  pub own-unbound : None ≡ bound_at m bs → (f : Shape) → f ≡ shape_of m → f.items ≡ capped (length (own_items (bindings_in script (with_sources sources bs)) words))
  own-unbound looked = count-unbound script words (with_sources sources bs) m first (looked ∙ sym (bound-sources sources bs m))

-- what is said of the number of a word's own items, with the bindings' own sources
abbrev pub OwnCount : (c : ℕ) (bs : List Binding) (words : List ℕ) → Type 0
OwnCount c bs words = (script : List ℕ) → Counted script bs → c ≡ capped (length (own_items (bindings_in script bs) words))

pub own-count : (c : ℕ) (bs : List Binding) (words : List ℕ) → ((script sources : List ℕ) → Counted script (with_sources sources bs) → c ≡ capped (length (own_items (bindings_in script (with_sources sources bs)) words))) → OwnCount c bs words
unfolding with_sources
own-count c bs words count script = count script []

-- of messages: the first word's own, and those behind them
pub count-sum : (words ws : List ℕ) (p : ℕ) (b : Behind) → Passed words p b → ws ≡ drop b.used words → (script : List ℕ) (bs : List Binding) → Counted script bs → (o r t : ℕ)
    → ((script : List ℕ) → Counted script bs → o ≡ capped (length (own_items (bindings_in script bs) words)))
    → ((script : List ℕ) → Counted script bs → r ≡ capped (length (all_items (bindings_in script bs) (firsts b.left (spelled ws)))))
    → t ≡ capped (o + r) → t ≡ capped (length (all_items (bindings_in script bs) (firsts p (spelled words))))
count-sum words ws p b done e script bs ok o r t own rest =
    let σ = bindings_in script bs in
    items-sum _ (own_items σ words) _ (done.split σ) (own script ok) (rw e at (rest script ok))

-- of one message
pub count-one : (script l ws : List ℕ) (bs : List Binding) → l ≡ ws → Counted script bs → (r : ℕ) → ((script : List ℕ) → Counted script bs → r ≡ capped (length (all_items (bindings_in script bs) (firsts 1 (spelled l)))))
    → r ≡ capped (length (items (resolve (bindings_in script bs) (message_at ws))))
count-one script l ws bs e ok r q = q script ok ∙ ap (λ (x : List Message). capped (length x)) (one-message _ e)

-- items from an offset on: those of a and then those of b are x, and c is what is kept of a's number

pub drop_past : (x a b : List Message) (o c : ℕ) → x ≡ a ++ b → c ≡ capped (length a) → c ≤ o → o < 4294967295 → drop (o - c) b ≡ drop o x
drop_past x a b o c e p h q =
    let z : c ≡ length a = whole-count (length a) o c p h q in
    let d : o ≡ length a + (o - c) = omega arith in
    sym (ap (drop o) e ∙ ap (λ (j : ℕ). drop j (a ++ b)) d ∙ drop-append-add a b (o - c))

pub drop-within : (x a b : List Message) (o c : ℕ) → x ≡ a ++ b → c ≡ capped (length a) → o < c → drop o a ++ b ≡ drop o x
drop-within x a b o c e p h = sym (ap (drop o) e ∙ drop-append-le o a b (omega (arith, below-count (length a) o c p h)))

first-left : (a b : List Message) → 0 < length a → first_item (a ++ b) ≡ first_item a
unfolding first_item
first-left [] b h = absurd (omega arith)
first-left (m ∷ a) b h = refl

pub item-none : (x : List Message) (o : ℕ) → x ≡ [] → Nothing ≡ first_item (drop o x)
unfolding first_item
item-none x o e = rw (e, drop-nil {A = Message} o)

pub item-here : (x a b : List Message) (o c : ℕ) → x ≡ a ++ b → c ≡ capped (length a) → o < c → first_item (drop o a) ≡ first_item (drop o x)
item-here x a b o c e p h =
    sym (first-left (drop o a) b (omega (arith, length-drop o a, below-count (length a) o c p h))) ∙ ap first_item (drop-within x a b o c e p h)

pub item-only : (x : List Message) (m : Message) → x ≡ m ∷ [] → first_item x ≡ asks m
unfolding first_item
item-only x m e = rw e

pub own-within : (c o : ℕ) (script : List ℕ) (bs : List Binding) (words : List ℕ) → OwnCount c bs words → Counted script bs → o < c → o < length (own_items (bindings_in script bs) words)
own-within c o script bs words count ok h = below-count _ _ _ (count script ok) h

-- A measure: first the bindings, then what is left of the pass. It is shut, so that its factor stands in no other sum.

pub rank : ℕ → ℕ → ℕ
rank v n = v * 2 ^ 67 + n

pub rank_less : (v n n' t : ℕ) → rank v n ≡ t → n' < n → rank v n' < t
unfolding rank
rank_less v n n' t e h = omega arith

pub rank-older : (v v' n n' t : ℕ) → rank v n ≡ t → v' < v → n' < 2 ^ 67 → rank v' n' < t
unfolding rank
rank-older v v' n n' t e h p = omega arith

-- what is left is less: the items that the first word has of its own, or what stands behind them
pub rank-own : (v n t : ℕ) → rank v (suc n) ≡ t → rank v 0 < t
rank-own v n t e = rank_less _ _ _ _ e (omega arith)

pub rank-behind : (words : List ℕ) (p : ℕ) (b : Behind) → Passed words p b → (ws : List ℕ) → ws ≡ drop b.used words → (v t : ℕ) → rank v (suc (3 * length words + p)) ≡ t → rank v (suc (3 * length ws + b.left)) < t
rank-behind words p b done ws e v t f = rank_less _ _ _ _ f (omega (arith, ap length e, done.less))

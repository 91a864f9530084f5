-- Laws of the search for an item: where it stands, and that each turn of it goes on to where the same item is found.
-- Assumes nothing.
use Prim.Native.Nat.{ℕ, ◌+◌, ◌-◌, ◌*◌, ◌^◌, ◌≤◌, ◌<◌}
use mathlib.Core.List.{List, ◌++◌}
use mathlib.Core.Path.{◌≡◌, refl, sym, ap, ◌∙◌}
use native.Mathlib.Omega.{arith}
use lib.Dec.{ltb}
use lib.ListN.{length, drop, length-drop}
use borrow.Author.Tests.{ltb-true, ltb-false}
use Rattle.std.specs.Prelude.{Some, None}
use Rattle.base_slices.proofs.Tests.{by_test}
use Rattle.base_slices.proofs.Capping.{below-count}
use Rattle.base_slices.specs.Sums.{capped}
use Rattle.read_messages.specs.Message.{Message, Named, items, name_of, first_item}
use Rattle.read_messages.specs.Spelling.{spelled, message_at}
use Rattle.read_messages.specs.declared.MessageWord.{MessageWord}
use Rattle.read_messages.specs.declared.First.{First}
use Rattle.read_messages.specs.declared.First.TheVariants.{Nothing}
use Rattle.theory_closures.specs.Resolve.{resolve}
use Rattle.engine_message_words.specs.Words.{binding_at, first_word, shape_of, bound_at, plain_item}
use Rattle.engine_message_words.specs.declared.Binding.{Binding}
use Rattle.engine_message_words.specs.declared.Shape.{Shape}
use Rattle.engine_bindings.specs.Bindings.{bindings_in}
use Rattle.engine_bindings.specs.Measures.{Counted}
use Rattle.engine_bindings.specs.Passes.{firsts, all_items, own_items, Passed}
use Rattle.engine_bindings.specs.declared.Behind.{Behind}
use Rattle.engine_bindings.proofs.Passing.{none-pending, one-message, own-front, first-bound, split-bound, unbound-free, item-free, single, given-own}
use Rattle.engine_bindings.proofs.Counting.{kept-drop, count-bound, count-unbound, drop_past, item-none, item-here, item-only, rank, rank_less, rank-older}
use Rattle.engine_first_items.specs.Search.{Stands, AtVariable}
use Rattle.engine_first_items.specs.declared.Search.{Search}

-- the item that a search is for
pub sought : (script : List ℕ) → Search → First
sought script s = first_item (drop s.ahead (all_items (bindings_in script s.bindings.now) (firsts s.pending (spelled s.words.now))))

-- where a search for that item may stand, and what falls with each of its turns

pub record Finding (script : List ℕ) (item : First) (s : Search) : Type 0 where
  pub room : s.pending + length s.words.now ≤ 1 + length script
  pub small : s.ahead < 4294967295
  pub counted : Counted script s.bindings.now
  pub same : item ≡ sought script s

abbrev pub turns : Search → ℕ
turns s = rank (length s.bindings.now) (3 * length s.words.now + s.pending)

-- a search that goes on from s
pub record On (script : List ℕ) (item : First) (s r : Search) : Type 0 where
  pub fewer : turns r < turns s
  pub stands : Finding script item r

pub stands-first : (script : List ℕ) (bs : List Binding) (at offset : ℕ) (s : Search) → Stands s (drop at script) 1 offset bs → offset < 4294967295 → Counted script bs
    → Finding script (first_item (drop offset (items (resolve (bindings_in script bs) (message_at (drop at script)))))) s
unfolding sought
stands-first script bs at offset s x h ok = record {
  room = omega (arith, x.pending, ap length x.words, length-drop at script);
  small = omega (arith, x.ahead);
  counted = rw x.bindings ok;
  same = rw (x.ahead, x.bindings, x.pending, x.words) (ap (λ (l : List Message). first_item (drop offset l)) (sym (one-message (bindings_in script bs) refl)));
}

-- where no message is pending, there is none
pub finds-none : (script : List ℕ) (item : First) (s : Search) → Finding script item s → s.pending ≤ 0 → Nothing ≡ item
unfolding sought
finds-none script item s st h = item-none _ s.ahead (none-pending _ _ _ (omega arith)) ∙ sym st.same

-- the word that the search stands at, as it is read and looked up
module _ (script : List ℕ) (item : First) (s : Search) (st : Finding script item s) (some : 0 < s.pending) (m : MessageWord) (first : m ≡ first_word s.words.now) where
  abbrev σ : List (ℕ × Message)
  σ = bindings_in script s.bindings.now

  -- a variable with a binding: the search goes on in its message or behind it
  module _ (k : ℕ) (looked : Some k ≡ bound_at m s.bindings.now) (h : k < length s.bindings.now) (small : length script * 4 < 2 ^ 63) (r : Search) where
    binding : Some k ≡ bound_at (first_word s.words.now) s.bindings.now
    binding = first-bound s.words.now s.bindings.now first looked

    own-count : (binding_at s.bindings.now k).count ≡ capped (length (own_items σ s.words.now))
    own-count = count-bound script s.words.now s.bindings.now m first st.counted k h looked

    own_split : all_items σ (firsts s.pending (spelled s.words.now)) ≡ own_items σ s.words.now ++ all_items σ (firsts (s.pending - 1) (spelled (drop 1 s.words.now)))
    own_split = split-bound σ s.bindings.now s.words.now s.pending k some binding

    inside : s.ahead < (binding_at s.bindings.now k).count → Stands r (drop (binding_at s.bindings.now k).source script) 1 s.ahead (drop (k + 1) s.bindings.now) → On script item s r
    unfolding sought
    inside q x = record {
      fewer = rank-older _ _ _ _ _ refl (omega (arith, ap length x.bindings, length-drop (k + 1) s.bindings.now)) (omega (arith, ap length x.words, x.pending, length-drop (binding_at s.bindings.now k).source script));
      stands = record {
        room = omega (arith, ap length x.words, x.pending, length-drop (binding_at s.bindings.now k).source script);
        small = omega (arith, x.ahead, st.small);
        counted = rw x.bindings (kept-drop st.counted (k + 1));
        same = st.same ∙ sym (item-here _ (own_items σ s.words.now) _ s.ahead _ own_split own-count q)
            ∙ rw (x.ahead, x.bindings, x.pending, x.words) (ap (λ (l : List Message). first_item (drop s.ahead l)) (sym (given-own script s.bindings.now k s.words.now binding refl refl)));
      };
    }

    past : (binding_at s.bindings.now k).count ≤ s.ahead → Stands r (drop 1 s.words.now) (s.pending - 1) (s.ahead - (binding_at s.bindings.now k).count) s.bindings.now → On script item s r
    unfolding sought
    past q x = record {
      fewer = rw x.bindings (rank_less _ _ _ _ refl (omega (arith, some, ap length x.words, x.pending, length-drop 1 s.words.now)));
      stands = record {
        room = omega (arith, st.room, some, ap length x.words, x.pending, length-drop 1 s.words.now);
        small = omega (arith, x.ahead, st.small);
        counted = rw x.bindings st.counted;
        same = st.same ∙ sym (ap first_item (drop_past _ (own_items σ s.words.now) _ s.ahead _ own_split own-count q st.small)) ∙ rw (x.ahead, x.bindings, x.pending, x.words);
      };
    }

    module _ (to : AtVariable s script k r) where
      on-variable : On script item s r
      on-variable = by_test (ltb s.ahead (binding_at s.bindings.now k).count) (λ t. inside (ltb-true _ _ t) (to.inside (ltb-true _ _ t))) (λ t. past (ltb-false _ _ t) (to.past (ltb-false _ _ t)))

      pub variable-fewer : turns r < turns s
      variable-fewer = on-variable.fewer

      pub variable-stands : Finding script item r
      variable-stands = on-variable.stands

  -- a word that is none, which has that shape: the item is there, or behind it
  module _ (looked : None ≡ bound_at m s.bindings.now) (f : Shape) (shape : f ≡ shape_of m) where
    free-count : f.items ≡ capped (length (own_items σ s.words.now))
    free-count = count-unbound script s.words.now s.bindings.now m first looked f shape

    pub stands_here : s.ahead < f.items → (ws : List ℕ) → ws ≡ drop 1 s.words.now → (n : Named) → n ≡ name_of (resolve σ (message_at ws)) → (r : First) → r ≡ plain_item m n → r ≡ item
    unfolding sought
    stands_here q ws e n y r z =
        let free = unbound-free script s.bindings.now (first_word s.words.now) (first-bound s.words.now s.bindings.now first looked) in
        z ∙ rw (first, y, e) (sym (item-only _ _ (single σ s.words.now s.ahead free (below-count _ _ _ free-count q)) ∙ item-free σ s.words.now free))
        ∙ item-here _ (own_items σ s.words.now) _ s.ahead _ (own-front σ s.words.now s.pending some) free-count q ∙ sym st.same

    pub behind-stands : f.items ≤ s.ahead → (b : Behind) → Passed s.words.now s.pending b → (r : Search) → Stands r (drop b.used s.words.now) b.left (s.ahead - f.items) s.bindings.now → Finding script item r
    unfolding sought
    behind-stands q b done r x = record {
      room = omega (arith, st.room, done.room, ap length x.words, x.pending);
      small = omega (arith, x.ahead, st.small);
      counted = rw x.bindings st.counted;
      same = st.same ∙ sym (ap first_item (drop_past _ (own_items σ s.words.now) _ s.ahead _ (done.split σ) free-count q st.small)) ∙ rw (x.ahead, x.bindings, x.pending, x.words);
    }

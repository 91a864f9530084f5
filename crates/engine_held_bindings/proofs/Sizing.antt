-- Laws of the words that messages are written with: what is kept of them with the bindings, a pass over words, and the bulk
-- of items. Assumes nothing.
use Prim.Native.Nat.{ℕ, zero, suc, ◌+◌, ◌-◌, ◌*◌, ◌^◌, ◌≤◌, ◌<◌}
use mathlib.Core.List.{List, [], ◌∷◌, ◌++◌}
use mathlib.Core.Path.{◌≡◌, refl, sym, ap, ◌∙◌}
use native.Mathlib.Omega.{arith}
use native.Mathlib.Nat.{add-zero}
use lib.ListN.{length, drop, length-drop}
use lib.Seq.{drop-drop, drop-nil}
use Rattle.read_messages.specs.Message.{Message, items}
use Rattle.read_messages.specs.Spelling.{top_message, push, spelled, message_at}
use Rattle.read_messages.specs.declared.MessageWord.{MessageWord}
use Rattle.read_messages.specs.declared.MessageWord.TheVariants.{Name, Variable, Enter, Exit, Open, Empty, Path, Unfit}
use Rattle.theory_closures.specs.Resolve.{resolve}
use Rattle.engine_bindings.specs.Bindings.{bindings_in}
use Rattle.base_slices.specs.Sums.{capped}
use Rattle.engine_bindings.specs.Measures.{Counted}
use Rattle.std.specs.Prelude.{Some, None}
use Rattle.engine_message_words.specs.declared.Binding.{Binding}
use Rattle.engine_message_words.specs.Words.{binding_at, first_word, shape_of, arity_of, bound_at}
use Rattle.engine_bindings.specs.Passes.{firsts, all_items, own_items, Passed}
use Rattle.engine_bindings.specs.declared.Behind.{Behind}
use Rattle.theory_closures.proofs.Resolving.{resolve-name, resolve-enter, resolve-exit, resolve-opens, resolve-empty, resolve-path}
use Rattle.engine_message_words.proofs.FirstWords.{bound, bound-variable}
use Rattle.engine_bindings.proofs.Passing.{firsts-first, less-behind, one-message, part_room, first-bound, Free, unbound-free, single, given-newest, given-items, given-own}
use Rattle.base_slices.proofs.Capping.{capped-sum}
use Rattle.engine_bindings.proofs.Counting.{kept-none, kept-drop, kept_more, drop_past, drop-within, OwnCount, rank, rank-older}
use Rattle.engine_held_bindings.specs.Sizes.{message_size, items_size, bulk, capped_items, Sized, Cached, all_sizes, own_size}
use Rattle.engine_held_bindings.specs.Held.{NewBinding}

-- what is kept with the bindings

pub cached-none : (script : List ℕ) → Cached script []
cached-none script = record { counted = kept-none; sized = kept-none; bulked = kept-none }

-- the older bindings
pub cached-drop : (script : List ℕ) (bs : List Binding) → Cached script bs → (k : ℕ) (us : List Binding) → us ≡ drop k bs → Cached script us
cached-drop script bs ok k us e = rw e record { counted = kept-drop ok.counted k; sized = kept-drop ok.sized k; bulked = kept-drop ok.bulked k }

-- one binding more, and what was counted of its message
pub cached-more : {script : List ℕ} {bs : List Binding} {v at : ℕ} (r : Binding) → Cached script bs → NewBinding script bs v at r → Cached script (r ∷ bs)
cached-more r ok n =
    let m = rw (← n.source) at n.measures in
    record { counted = kept_more ok.counted r m.count; sized = kept_more ok.sized r m.size; bulked = kept_more ok.bulked r m.bulk }

pub bindings-more : {script : List ℕ} {bs us : List Binding} {v at : ℕ} (r : Binding) → NewBinding script bs v at r → us ≡ r ∷ bs → bindings_in script us ≡ (v, message_at (drop at script)) ∷ bindings_in script bs
unfolding bindings_in
bindings-more r n e = rw (e, n.variable, n.source)

-- words

pub none-size : (σ : List (ℕ × Message)) (p : ℕ) (s : List Message) → p ≡ 0 → 0 ≡ capped (all_sizes σ (firsts p s))
unfolding capped all_sizes firsts
none-size σ p s e = rw e

one_size : (σ : List (ℕ × Message)) {l ws : List ℕ} → l ≡ ws → all_sizes σ (firsts 1 (spelled l)) ≡ message_size (resolve σ (message_at ws))
unfolding all_sizes firsts message_at
one_size σ e = rw e (add-zero _)

pub size-one : (script l ws : List ℕ) (bs : List Binding) → l ≡ ws → Sized script bs → (r : ℕ) → ((script : List ℕ) → Sized script bs → r ≡ capped (all_sizes (bindings_in script bs) (firsts 1 (spelled l))))
    → r ≡ capped (message_size (resolve (bindings_in script bs) (message_at ws)))
size-one script l ws bs e ok r q = q script ok ∙ ap capped (one_size _ e)

sizes-word : (σ : List (ℕ × Message)) (m : MessageWord) (p : ℕ) (s : List Message) → all_sizes σ (firsts (suc p) (push m s)) ≡ own_size σ m + all_sizes σ (firsts (p + arity_of m) s)
unfolding all_sizes firsts push top_message own_size shape_of message_size
sizes-word σ (Name n) p s = rw (resolve-name, add-zero p)
sizes-word σ (Variable v) p s = rw (add-zero p)
sizes-word σ Enter p s = let e : p + 1 ≡ suc p = omega arith in rw (resolve-enter, e) (omega arith)
sizes-word σ Exit p s = let e : p + 1 ≡ suc p = omega arith in rw (resolve-exit, e) (omega arith)
sizes-word σ Open p s = let e : p + 1 ≡ suc p = omega arith in rw (resolve-opens, e) (omega arith)
sizes-word σ Empty p s = rw (resolve-empty, add-zero p)
sizes-word σ Path p s = let e : p + 2 ≡ suc (suc p) = omega arith in rw (resolve-path, e, drop-drop 1 1 s) (omega arith)
sizes-word σ Unfit p s = rw (resolve-empty, add-zero p)

sizes-first : (σ : List (ℕ × Message)) (l : List ℕ) (p : ℕ) → 0 < p
    → all_sizes σ (firsts p (spelled l)) ≡ own_size σ (first_word l) + all_sizes σ (firsts (p - 1 + arity_of (first_word l)) (spelled (drop 1 l)))
sizes-first σ l zero h = absurd (omega arith)
sizes-first σ l (suc p) h =
    let q : suc p - 1 ≡ p = omega arith in
    rw (q, firsts-first (suc p) l) (sizes-word σ (first_word l) p (spelled (drop 1 l)))

-- a pass over words: the first word, its arity, and the words behind it
module _ (l : List ℕ) (p a : ℕ) (m : MessageWord) (first : m ≡ first_word l) (arity : a ≡ arity_of m) (h : p ≡ 0 → ⊥) where
  behind : (ws : List ℕ) → ws ≡ drop 1 l → (p - 1 + a + length ws ≤ p + length l) × (3 * length ws + (p - 1 + a) < 3 * length l + p)
  behind ws e = less-behind l p a e (omega arith) (rw (arity, first) (omega arith))

  pub pass_fits : p + length l < 2 ^ 64 → p - 1 + a < 2 ^ 64
  pass_fits q = omega (arith, (behind (drop 1 l) refl).0)

  pub pass-room : (ws : List ℕ) → ws ≡ drop 1 l → p + length l < 2 ^ 64 → p - 1 + a + length ws < 2 ^ 64
  pass-room ws e q = omega (arith, (behind ws e).0)

  pub pass-less : (ws : List ℕ) → ws ≡ drop 1 l → (t : ℕ) → 3 * length l + p ≡ t → 3 * length ws + (p - 1 + a) < t
  pass-less ws e t q = omega (arith, (behind ws e).1)

  pub sizes-sum : (ws : List ℕ) → ws ≡ drop 1 l → (script : List ℕ) (bs : List Binding) → Sized script bs → (o r t : ℕ)
      → ((script : List ℕ) → Sized script bs → o ≡ capped (own_size (bindings_in script bs) m))
      → ((script : List ℕ) → Sized script bs → r ≡ capped (all_sizes (bindings_in script bs) (firsts (p - 1 + a) (spelled ws))))
      → t ≡ capped (o + r) → t ≡ capped (all_sizes (bindings_in script bs) (firsts p (spelled l)))
  sizes-sum ws e script bs ok o r t own rest =
      let σ = bindings_in script bs in
      capped-sum (own_size σ m) (all_sizes σ (firsts (p - 1 + a) (spelled ws))) (rw (e, arity, first) (sizes-first σ l p (omega arith))) (own script ok) (rest script ok)

size-free : (σ : List (ℕ × Message)) (m : MessageWord) → Free σ m → own_size σ m ≡ 1
unfolding own_size message_size
size-free σ (Name n) f = refl
size-free σ (Variable v) f = rw (f v refl)
size-free σ Enter f = refl
size-free σ Exit f = refl
size-free σ Open f = refl
size-free σ Empty f = refl
size-free σ Path f = refl
size-free σ Unfit f = refl

-- of a word: it is looked up among the bindings
module _ (script : List ℕ) (bs : List Binding) (m : MessageWord) where
  pub size-unbound : None ≡ bound_at m bs → 1 ≡ capped (own_size (bindings_in script bs) m)
  unfolding capped
  size-unbound e = omega (arith, size-free (bindings_in script bs) m (unbound-free script bs m e))

  pub size-bound : Sized script bs → (k : ℕ) → k < length bs → Some k ≡ bound_at m bs → (binding_at bs k).size ≡ capped (own_size (bindings_in script bs) m)
  unfolding own_size
  size-bound ok k h e = ok.right k h ∙ ap capped (elim (bound-variable bs m k e) [ bound v q p ↦ rw q (ap message_size (given-newest script bs k v p)) ])

-- the items' bulk

bulk-append : (a b : List Message) → bulk (a ++ b) ≡ bulk a + bulk b
unfolding bulk
bulk-append [] b = omega arith
bulk-append (m ∷ a) b = omega (arith, bulk-append a b)

bulk-sum : (a b x : List Message) {o r t : ℕ} → a ++ b ≡ x → o ≡ capped (bulk a) → r ≡ capped (bulk b) → t ≡ capped (o + r) → t ≡ capped (bulk x)
bulk-sum a b x e p q s = capped-sum (bulk a) (bulk b) (ap bulk (sym e) ∙ bulk-append a b) p q s

pub bulk-none : (x : List Message) (o : ℕ) → x ≡ [] → 0 ≡ capped (bulk (drop o x))
unfolding bulk capped
bulk-none x o e = rw (e, drop-nil {A = Message} o)

bulk-only : (x : List Message) (m : Message) {r t : ℕ} → x ≡ m ∷ [] → r ≡ capped (message_size m) → t ≡ capped (1 + r) → t ≡ capped (bulk x)
unfolding bulk capped
bulk-only x m e p q = rw e (omega arith)

-- the bulk of the items of messages from an offset on: those that the first word has of its own stand before the offset, or do not
module _ (script words : List ℕ) (bs : List Binding) (ok : Counted script bs) (p o c : ℕ) (own : OwnCount c bs words) (b : Behind) (done : Passed words p b) (ws : List ℕ) (e : ws ≡ drop b.used words) where
  abbrev σ : List (ℕ × Message)
  σ = bindings_in script bs

  split : all_items σ (firsts p (spelled words)) ≡ own_items σ words ++ all_items σ (firsts b.left (spelled ws))
  split = rw e (done.split σ)

  pub bulk-past : c ≤ o → o < 4294967295 → (r : ℕ) → r ≡ capped (bulk (drop (o - c) (all_items σ (firsts b.left (spelled ws))))) → r ≡ capped (bulk (drop o (all_items σ (firsts p (spelled words)))))
  bulk-past h q r f = f ∙ ap (λ (l : List Message). capped (bulk l)) (drop_past _ (own_items σ words) _ o c split (own script ok) h q)

  pub bulk-within : o < c → (h r t : ℕ) → h ≡ capped (bulk (drop o (own_items σ words))) → r ≡ capped (bulk (all_items σ (firsts b.left (spelled ws)))) → t ≡ capped (h + r)
      → t ≡ capped (bulk (drop o (all_items σ (firsts p (spelled words)))))
  bulk-within q h r t = bulk-sum (drop o (own_items σ words)) _ _ (drop-within _ (own_items σ words) _ o c split (own script ok) q)

-- the bulk of those that a word has of its own: the word is looked up among the bindings
module _ (script words : List ℕ) (bs : List Binding) (o t : ℕ) (m : MessageWord) (ok : Cached script bs) (e : m ≡ first_word words) where
  module _ (k : ℕ) (h : k < length bs) (f : Some k ≡ bound_at m bs) where
    pub bulk-kept : o ≡ 0 → (binding_at bs k).bulk ≡ capped (bulk (drop o (own_items (bindings_in script bs) words)))
    bulk-kept z = rw z (ok.bulked.right k h ∙ ap (λ (l : List Message). capped (bulk l)) (given-items script bs k words (first-bound words bs e f)))

    pub bulk-older : (us : List Binding) (g : List ℕ) → us ≡ drop (k + 1) bs → g ≡ drop (binding_at bs k).source script
        → t ≡ capped (bulk (drop o (all_items (bindings_in script us) (firsts 1 (spelled g))))) → t ≡ capped (bulk (drop o (own_items (bindings_in script bs) words)))
    bulk-older us g e₁ e₂ q = q ∙ ap (λ (l : List Message). capped (bulk (drop o l))) (given-own script bs k words (first-bound words bs e f) e₁ e₂)

  pub bulk-single : None ≡ bound_at m bs → o < length (own_items (bindings_in script bs) words)
      → (r : ℕ) → ((script : List ℕ) → Sized script bs → r ≡ capped (all_sizes (bindings_in script bs) (firsts 1 (spelled words)))) → t ≡ capped (1 + r) → t ≡ capped (bulk (drop o (own_items (bindings_in script bs) words)))
  bulk-single f q r x y =
      let free = unbound-free script bs (first_word words) (first-bound words bs e f) in
      bulk-only _ _ (single _ words o free q) (x script ok.sized ∙ ap capped (one_size _ refl)) y

-- where a message was bound, the older bindings are fewer
pub rank-given : (script ws : List ℕ) (at : ℕ) → ws ≡ drop at script → length script * 4 < 2 ^ 63 → (bs us : List Binding) (k t : ℕ) → us ≡ drop (k + 1) bs → k < length bs → rank (length bs) 0 ≡ t → rank (length us) (suc (3 * length ws + 1)) < t
rank-given script ws at e small bs us k t f h q = rank-older _ _ _ _ _ q (omega (arith, ap length f, length-drop (k + 1) bs)) (omega (arith, part_room script ws at e small))

-- the bulk of the items of one message, by the words from where it stands
pub bulk-one : (o : ℕ) (σ : List (ℕ × Message)) (l ws : List ℕ) → l ≡ ws → (r : ℕ) → r ≡ capped (bulk (drop o (all_items σ (firsts 1 (spelled l))))) → r ≡ capped (bulk (drop o (items (resolve σ (message_at ws)))))
bulk-one o σ l ws e r q = q ∙ ap (λ (x : List Message). capped (bulk (drop o x))) (one-message σ e)

-- An action's items are written with one PATH less than there are items, and none of them with one word.
items-bulk : (m : Message) (ms : List Message) → suc (items_size (m ∷ ms)) ≡ bulk (m ∷ ms)
unfolding items_size bulk
items-bulk m [] = omega arith
items-bulk m (k ∷ ms) = omega (arith, items-bulk k ms)

pub words-none : (x : List Message) (b : ℕ) → b ≡ capped (bulk x) → b ≡ 0 → 1 ≡ capped_items (items_size x)
unfolding capped_items items_size bulk capped
words-none [] b e z = refl
words-none (m ∷ x) b e z = absurd (omega arith)

pub words-some : (x : List Message) (b : ℕ) → b ≡ capped (bulk x) → (b ≡ 0 → ⊥) → b - 1 ≡ capped_items (items_size x)
unfolding capped_items capped
words-some [] b e z = absurd (z (unfold bulk in e))
words-some (m ∷ x) b e z = omega (arith, items-bulk m x)

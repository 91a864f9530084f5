-- Laws of a pass over words: what the first word begins, its own items, and where they end. Assumes nothing.
use Prim.Native.Nat.{ℕ, zero, suc, ◌+◌, ◌-◌, ◌*◌, ◌^◌, ◌≤◌, ◌<◌}
use mathlib.Core.List.{List, [], ◌∷◌, ◌++◌, append_assoc, append-nil}
use mathlib.Core.Path.{◌≡◌, refl, sym, ap, ◌∙◌}
use native.Mathlib.Omega.{arith}
use native.Mathlib.Nat.{add_comm, add-zero}
use lib.ListN.{length, drop, length-drop}
use lib.Seq.{drop-drop, drop-nil}
use Rattle.read_messages.specs.Message.{Message, variable, empty_message, items, name_of, asks}
use Rattle.read_messages.specs.Spelling.{top_message, push, spelled, message_at}
use Rattle.read_messages.specs.declared.MessageWord.{MessageWord}
use Rattle.read_messages.specs.Message.{Named}
use Rattle.read_messages.specs.declared.MessageWord.TheVariants.{Name, Variable, Enter, Exit, Open, Empty, Path, Unfit}
use Rattle.std.specs.Prelude.{Option, Some, None}
use Rattle.engine_message_words.specs.declared.Binding.{Binding}
use Rattle.engine_message_words.specs.Words.{newest_binding, binding_at, first_word, shape_of, arity_of, bound_at, plain_name, plain_item}
use Rattle.engine_message_words.specs.declared.Shape.{Shape}
use Rattle.engine_message_words.proofs.FirstWords.{arity-small, bound, bound-variable}
use Rattle.theory_closures.specs.Resolve.{resolve}
use Rattle.engine_bindings.specs.Bindings.{bindings_in, binding_message}
use Rattle.engine_bindings.specs.Passes.{firsts, all_items, word_items, own_items, Skipped, Passed}
use Rattle.engine_bindings.specs.declared.Behind.{Behind}
use Rattle.theory_closures.proofs.Resolving.{resolve-name, resolve-enter, resolve-exit, resolve-opens, resolve-empty, resolve-path}
use Rattle.engine_bindings.proofs.Bindings.{resolve-unbound, resolve-bound}

-- what words spell, by their first word
pub spelled-first : (l : List ℕ) → 0 < length l → spelled l ≡ push (first_word l) (spelled (drop 1 l))
unfolding spelled first_word
spelled-first [] h = absurd (omega arith)
spelled-first (w ∷ l) h = refl

pub message-first : (l : List ℕ) → message_at l ≡ top_message (push (first_word l) (spelled (drop 1 l)))
unfolding message_at first_word spelled push top_message
message-first [] = refl
message-first (w ∷ l) = refl

pub firsts-first : (p : ℕ) (l : List ℕ) → firsts p (spelled l) ≡ firsts p (push (first_word l) (spelled (drop 1 l)))
unfolding firsts first_word spelled push top_message
firsts-first zero l = refl
firsts-first (suc p) [] = ap (λ (r : List Message). empty_message ∷ firsts p r) (drop-nil 1)
firsts-first (suc p) (w ∷ l) = refl

first-arity : arity_of (first_word []) ≡ 0
unfolding first_word shape_of
first-arity = refl

-- behind the first word fewer words are left, or, where there is none, fewer messages
pub room : (l : List ℕ) (p a r : ℕ) → 0 < p → a ≤ arity_of (first_word l) → (p - 1 + a + length (drop (r + 1) l) ≤ p + length l) × (3 * length (drop (r + 1) l) + (p - 1 + a) < 3 * length l + p)
room [] p a r h f =
    let none : List ℕ = [] in
    let z = first-arity in
    let d = length-drop (r + 1) none in
    omega arith
room (x ∷ l) p a r h f = omega (arith, length-drop (r + 1) (x ∷ l), arity-small (first_word (x ∷ l)))

pub less-behind : {ws : List ℕ} (l : List ℕ) (p a : ℕ) → ws ≡ drop 1 l → 0 < p → a ≤ arity_of (first_word l) → (p - 1 + a + length ws ≤ p + length l) × (3 * length ws + (p - 1 + a) < 3 * length l + p)
less-behind l p a e h f = rw e (room l p a 0 h f)

push-skip : (m : MessageWord) (p : ℕ) (s : List Message) → drop (suc p) (push m s) ≡ drop (p + arity_of m) s
unfolding push shape_of
push-skip (Name n) p s = rw (add-zero p)
push-skip (Variable v) p s = rw (add-zero p)
push-skip Enter p s = drop-drop p 1 s ∙ ap (λ (j : ℕ). drop j s) (add_comm 1 p)
push-skip Exit p s = drop-drop p 1 s ∙ ap (λ (j : ℕ). drop j s) (add_comm 1 p)
push-skip Open p s = drop-drop p 1 s ∙ ap (λ (j : ℕ). drop j s) (add_comm 1 p)
push-skip Empty p s = rw (add-zero p)
push-skip Path p s = drop-drop p 2 s ∙ ap (λ (j : ℕ). drop j s) (add_comm 2 p)
push-skip Unfit p s = rw (add-zero p)

pub drop_more : (r : ℕ) (l : List ℕ) → drop (r + 1) l ≡ drop r (drop 1 l)
drop_more r l = sym (drop-drop r 1 l ∙ ap (λ (j : ℕ). drop j l) (add_comm 1 r))

pub skip-none : (l : List ℕ) (p : ℕ) → length l ≡ 0 → Skipped l p 0
unfolding spelled
skip-none [] p h = record { within = omega arith; behind = sym (drop-nil p) }
skip-none (w ∷ l) p h = absurd (omega arith)

skip-behind : (l : List ℕ) (p r : ℕ) → 0 < length l → 0 < p
    → spelled (drop r (drop 1 l)) ≡ drop (p - 1 + arity_of (first_word l)) (spelled (drop 1 l)) → spelled (drop (r + 1) l) ≡ drop p (spelled l)
skip-behind l zero r h z e = absurd (omega arith)
skip-behind l (suc p) r h z e =
    let q : suc p - 1 ≡ p = omega arith in
    rw (drop_more r l, e, q, spelled-first l h) (sym (push-skip (first_word l) p (spelled (drop 1 l))))

-- one word, and then those of the messages that it opens
module _ (l : List ℕ) (p : ℕ) (some : p ≡ 0 → ⊥) (word : length l ≡ 0 → ⊥) (m : MessageWord) (a : ℕ) (first : m ≡ first_word l) (arity : a ≡ arity_of m) where
  pub skip-fits : p + length l < 2 ^ 64 → p - 1 + a < 2 ^ 64
  skip-fits h = omega (arith, arity-small m)

  module _ (ws : List ℕ) (e : ws ≡ drop 1 l) where
    pub skip-room : p + length l < 2 ^ 64 → p - 1 + a + length ws < 2 ^ 64
    skip-room h = omega (arith, arity-small m, ap length e, length-drop 1 l)

    pub skip-some : (r : ℕ) → Skipped ws (p - 1 + a) r → Skipped l p (r + 1)
    skip-some r k = record { within = omega (arith, ap length e, length-drop 1 l, k.within); behind = skip-behind l p r (omega arith) (omega arith) (rw (e, arity, first) at k.behind) }

pub tail-less : (l ws : List ℕ) → ws ≡ drop 1 l → (length l ≡ 0 → ⊥) → (t : ℕ) → length l ≡ t → length ws < t
tail-less l ws e h t q = omega (arith, ap length e, length-drop 1 l)

-- the items of messages, by the first word's own and those behind them
split-word : (σ : List (ℕ × Message)) (m : MessageWord) (p : ℕ) (s : List Message)
    → all_items σ (firsts (suc p) (push m s)) ≡ word_items σ m s ++ all_items σ (firsts (p + (shape_of m).opened) (drop (shape_of m).closed s))
unfolding all_items firsts push word_items shape_of top_message items
split-word σ (Name n) p s = rw (resolve-name, add-zero p)
split-word σ (Variable v) p s = rw (add-zero p)
split-word σ Enter p s = rw (resolve-enter, add-zero p)
split-word σ Exit p s = rw (resolve-exit, add-zero p)
split-word σ Open p s = rw (resolve-opens, add-zero p)
split-word σ Empty p s = rw (resolve-empty, add-zero p)
split-word σ Path p s =
    let e : p + 2 ≡ suc (suc p) = omega arith in
    rw (resolve-path, e, drop-drop 1 1 s) (append_assoc (items (resolve σ (top_message s))) (items (resolve σ (top_message (drop 1 s)))) (all_items σ (firsts p (drop 2 s))))
split-word σ Unfit p s = rw (resolve-empty, add-zero p)

pub own-front : (σ : List (ℕ × Message)) (l : List ℕ) (p : ℕ) → 0 < p
    → all_items σ (firsts p (spelled l)) ≡ own_items σ l ++ all_items σ (firsts (p - 1 + (shape_of (first_word l)).opened) (drop (shape_of (first_word l)).closed (spelled (drop 1 l))))
unfolding own_items
own-front σ l zero z = absurd (omega arith)
own-front σ l (suc p) z =
    let q : suc p - 1 ≡ p = omega arith in
    rw (q, firsts-first (suc p) l) (split-word σ (first_word l) p (spelled (drop 1 l)))

-- behind the first word's own items
module _ (l : List ℕ) (p : ℕ) (some : 0 < p) (m : MessageWord) (f : Shape) (first : m ≡ first_word l) (shape : f ≡ shape_of m) where
  opened-small : f.opened ≤ arity_of (first_word l)
  opened-small = rw (shape, first) (omega arith)

  pub left-fits : (a : ℕ) → a ≤ f.closed + f.opened → p + length l < 2 ^ 64 → p - 1 + a < 2 ^ 64
  left-fits a s h =
      let small : a ≤ arity_of (first_word l) = rw (shape, first) at s in
      omega (arith, (room l p a 0 some small).0)

  module _ (ws : List ℕ) (e : ws ≡ drop 1 l) where
    pub closed-room : p + length l < 2 ^ 64 → f.closed + length ws < 2 ^ 64
    closed-room h = rw shape (omega (arith, arity-small m, ap length e, length-drop 1 l))

    pub passed_first : (r : ℕ) → Skipped ws f.closed r → Passed l p (record { used = r + 1; left = p - 1 + f.opened })
    passed_first r k =
        let less = room l p f.opened r some opened-small in
        record {
          room = less.0;
          less = less.1;
          split = λ σ. rw (drop_more r l, ← e, k.behind, shape, first, e) (own-front σ l p some);
        }

-- what is left there
module _ (words : List ℕ) (p : ℕ) (b : Behind) (done : Passed words p b) (ws : List ℕ) (e : ws ≡ drop b.used words) where
  pub behind-less : (t : ℕ) → 3 * length words + p ≡ t → 3 * length ws + b.left < t
  behind-less t f = omega (arith, ap length e, done.less)

  pub behind-room : p + length words < 2 ^ 64 → b.left + length ws < 2 ^ 64
  behind-room h = omega (arith, ap length e, done.room)

pub none-pending : (σ : List (ℕ × Message)) (p : ℕ) (s : List Message) → p ≡ 0 → all_items σ (firsts p s) ≡ []
unfolding all_items firsts
none-pending σ p s e = rw e

pub one-message : (σ : List (ℕ × Message)) {l ws : List ℕ} → l ≡ ws → all_items σ (firsts 1 (spelled l)) ≡ items (resolve σ (message_at ws))
unfolding message_at all_items firsts
one-message σ {l} {ws} e = rw e (append-nil (items (resolve σ (top_message (spelled ws)))))

-- it is a part of the script
pub part_room : (script ws : List ℕ) (at : ℕ) → ws ≡ drop at script → length script * 4 < 2 ^ 63 → 1 + length ws < 2 ^ 64
part_room script ws at e h = omega (arith, ap length e, length-drop at script)

-- the first word, as it is read and then looked up
pub first-bound : (l : List ℕ) (bs : List Binding) {m : MessageWord} {o : Option ℕ} → m ≡ first_word l → o ≡ bound_at m bs → o ≡ bound_at (first_word l) bs
first-bound l bs e f = rw e at f

-- A word that is no variable with a binding represents itself.

abbrev pub Free : List (ℕ × Message) → MessageWord → Type 0
Free σ m = (v : ℕ) → m ≡ Variable v → resolve σ (variable v) ≡ variable v

pub unbound-free : (script : List ℕ) (bs : List Binding) (m : MessageWord) → None ≡ bound_at m bs → Free (bindings_in script bs) m
unfolding bound_at
unbound-free script bs m h v e = resolve-unbound script bs v (sym (rw e at h))

word-free : (σ : List (ℕ × Message)) (m : MessageWord) (s : List Message) → Free σ m
    → (name_of (resolve σ (top_message (push m s))) ≡ plain_name m) × (asks (resolve σ (top_message (push m s))) ≡ plain_item m (name_of (resolve σ (top_message s)))) × (length (word_items σ m s) ≡ (shape_of m).items)
unfolding push top_message name_of plain_name asks plain_item word_items shape_of items
word-free σ (Name n) s f = (rw (resolve-name), rw (resolve-name), refl)
word-free σ (Variable v) s f = (rw (f v refl), rw (f v refl), rw (f v refl))
word-free σ Enter s f = (rw (resolve-enter), rw (resolve-enter), refl)
word-free σ Exit s f = (rw (resolve-exit), rw (resolve-exit), refl)
word-free σ Open s f = (rw (resolve-opens), rw (resolve-opens), refl)
word-free σ Empty s f = (rw (resolve-empty), rw (resolve-empty), refl)
word-free σ Path s f = (rw (resolve-path), rw (resolve-path), refl)
word-free σ Unfit s f = (rw (resolve-empty), rw (resolve-empty), refl)

pub name_free : (σ : List (ℕ × Message)) (l : List ℕ) → Free σ (first_word l) → name_of (resolve σ (message_at l)) ≡ plain_name (first_word l)
name_free σ l f = rw (message-first l) (word-free σ (first_word l) (spelled (drop 1 l)) f).0

pub item-free : (σ : List (ℕ × Message)) (l : List ℕ) → Free σ (first_word l) → asks (resolve σ (message_at l)) ≡ plain_item (first_word l) (name_of (resolve σ (message_at (drop 1 l))))
item-free σ l f = rw (message-first l) (unfold message_at in (word-free σ (first_word l) (spelled (drop 1 l)) f).1)

pub own-free : (σ : List (ℕ × Message)) (l : List ℕ) → Free σ (first_word l) → length (own_items σ l) ≡ (shape_of (first_word l)).items
unfolding own_items
own-free σ l f = (word-free σ (first_word l) (spelled (drop 1 l)) f).2

-- the only item
only : (x : Message) (l : List Message) (o : ℕ) → l ≡ x ∷ [] → o < length l → drop o l ≡ x ∷ []
only x l o e h =
    let z : o ≡ 0 = omega (arith, ap length e) in
    rw (z, e)

single-word : (σ : List (ℕ × Message)) (m : MessageWord) (s : List Message) (o : ℕ) → Free σ m → o < length (word_items σ m s) → drop o (word_items σ m s) ≡ resolve σ (top_message (push m s)) ∷ []
unfolding word_items push top_message items
single-word σ (Name n) s o f h = only _ _ o (rw (resolve-name)) h
single-word σ (Variable v) s o f h = only _ _ o (rw (f v refl)) h
single-word σ Enter s o f h = only _ _ o (rw (resolve-enter)) h
single-word σ Exit s o f h = only _ _ o (rw (resolve-exit)) h
single-word σ Open s o f h = only _ _ o (rw (resolve-opens)) h
single-word σ Empty s o f h = absurd (omega arith)
single-word σ Path s o f h = absurd (omega arith)
single-word σ Unfit s o f h = absurd (omega arith)

-- where it has an item of its own, that item is the whole message
pub single : (σ : List (ℕ × Message)) (l : List ℕ) (o : ℕ) → Free σ (first_word l) → o < length (own_items σ l) → drop o (own_items σ l) ≡ resolve σ (message_at l) ∷ []
unfolding own_items
single σ l o f h = rw (message-first l) (single-word σ (first_word l) (spelled (drop 1 l)) o f h)

-- A word that is a variable with a binding represents the message of that binding, after the older ones.

pub split-bound : (σ : List (ℕ × Message)) (bs : List Binding) (l : List ℕ) (p k : ℕ) → 0 < p → Some k ≡ bound_at (first_word l) bs
    → all_items σ (firsts p (spelled l)) ≡ own_items σ l ++ all_items σ (firsts (p - 1) (spelled (drop 1 l)))
unfolding shape_of
split-bound σ bs l p k z e = elim (bound-variable bs (first_word l) k e) [ bound v q i ↦ rw (q, add-zero (p - 1)) at (own-front σ l p z) ]

module _ (script : List ℕ) (bs : List Binding) (k : ℕ) where
  pub given-newest : (v : ℕ) → newest_binding bs v ≡ Some k → binding_message script bs k ≡ resolve (bindings_in script bs) (variable v)
  given-newest v e = sym (resolve-bound script bs v k e)

  module _ (ws : List ℕ) (e : Some k ≡ bound_at (first_word ws) bs) where
    pub given-message : {us : List Binding} {g : List ℕ} → us ≡ drop (k + 1) bs → g ≡ drop (binding_at bs k).source script
        → resolve (bindings_in script us) (message_at g) ≡ resolve (bindings_in script bs) (message_at ws)
    unfolding push top_message
    given-message e₁ e₂ = elim (bound-variable bs (first_word ws) k e) [ bound v q p ↦ rw (e₁, e₂, message-first ws, q) (given-newest v p) ]

    pub given-items : items (binding_message script bs k) ≡ own_items (bindings_in script bs) ws
    unfolding own_items word_items
    given-items = elim (bound-variable bs (first_word ws) k e) [ bound v q p ↦ rw q (ap items (given-newest v p)) ]

    pub given-own : {us : List Binding} {g : List ℕ} → us ≡ drop (k + 1) bs → g ≡ drop (binding_at bs k).source script
        → all_items (bindings_in script us) (firsts 1 (spelled g)) ≡ own_items (bindings_in script bs) ws
    given-own e₁ e₂ = rw e₁ (one-message _ e₂ ∙ given-items)

-- the name of the message that begins with a word, as it is read and looked up
module _ (script : List ℕ) (bs : List Binding) (ws : List ℕ) (m : MessageWord) (first : m ≡ first_word ws) (r : Named) where
  pub name-bound : (k : ℕ) → Some k ≡ bound_at m bs → (us : List Binding) (g : List ℕ) → us ≡ drop (k + 1) bs → g ≡ drop (binding_at bs k).source script
      → r ≡ name_of (resolve (bindings_in script us) (message_at g)) → r ≡ name_of (resolve (bindings_in script bs) (message_at ws))
  name-bound k looked us g e₁ e₂ e = e ∙ ap name_of (given-message script bs k ws (first-bound ws bs first looked) e₁ e₂)

  pub name-unbound : None ≡ bound_at m bs → r ≡ plain_name m → r ≡ name_of (resolve (bindings_in script bs) (message_at ws))
  name-unbound looked e = e ∙ rw first (sym (name_free _ ws (unbound-free script bs _ (first-bound ws bs first looked))))

-- the older bindings are fewer
pub older-less : (bs us : List Binding) (k : ℕ) → us ≡ drop (k + 1) bs → k < length bs → (t : ℕ) → length bs ≡ t → length us < t
older-less bs us k e h t q = omega (arith, ap length e, length-drop (k + 1) bs)

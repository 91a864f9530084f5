-- What is read of the words of a message that was written: the message, its variables renamed to the receipts' new indices.
-- Assumes nothing.
use Prim.Native.Nat.{ℕ, zero, suc, ◌+◌, ◌<◌}
use mathlib.Core.Bool.{true, cond, false≢true}
use mathlib.Core.List.{List, ◌∷◌, ◌++◌, append_assoc}
use mathlib.Core.Path.{◌≡◌, refl, sym, ap, ap₂, ◌∙◌, subst}
use native.Mathlib.Omega.{arith}
use lib.ListN.{length, drop, get_or, length-append}
use Rattle.read_messages.specs.Words.{kind, operand, word, name_fits}
use Rattle.read_messages.specs.Reading.{Cursor, Reading, got, ◌>>=◌}
use Rattle.read_messages.specs.Message.{Message, name, variable, enter, exit, opens, empty_message, path}
use Rattle.read_messages.specs.ReadMessage.{message_word, word_fits, message_from, read_message}
use Rattle.read_messages.specs.declared.MessageWord.TheVariants.{Name, Variable, Enter, Exit, Open, Empty, Path, Unfit}
use Rattle.read_messages.proofs.Readings.{refuse≢got, bind_all, got-all}
use Rattle.read_messages.proofs.Laws.{message-all}
use Rattle.base_slices.proofs.Tests.{by_test}
use Rattle.theory_written_trees.specs.Write.{Indices, new_index, write_message}
use Rattle.theory_calculus.proofs.Congruences.{renamed}
use Rattle.theory_decision.proofs.Fits.{MessageAll}

-- ---- words

-- kind and operand of a word that was made of them
word-told : (k n : ℕ) → n < 268435456 → (kind (word k n) ≡ k) × (operand (word k n) ≡ n)
unfolding kind operand word
word-told k n l = (omega arith, omega arith)

-- a number that fits an operand
abbrev pub Fitting : ℕ → Type 0
Fitting n = n < 268435456

pub name-word : (n : ℕ) → Fitting n → message_word (word 8 n) ≡ cond (name_fits n) (Name n) Unfit
unfolding message_word
name-word n l = let e = word-told 8 n l in rw (e.0, e.1) refl

pub variable-word : (v : ℕ) → Fitting v → message_word (word 9 v) ≡ Variable v
unfolding message_word
variable-word v l = let e = word-told 9 v l in rw (e.0, e.1) refl

pub enter-word : message_word (word 10 0) ≡ Enter
unfolding message_word kind operand word
enter-word = refl

pub exit-word : message_word (word 11 0) ≡ Exit
unfolding message_word kind operand word
exit-word = refl

pub open-word : message_word (word 12 0) ≡ Open
unfolding message_word kind operand word
open-word = refl

pub empty-word : message_word (word 13 0) ≡ Empty
unfolding message_word kind operand word
empty-word = refl

pub path-word : message_word (word 14 0) ≡ Path
unfolding message_word kind operand word
path-word = refl

-- ---- messages

pub same_head : {w u : ℕ} {ws us : List ℕ} → w ∷ ws ≡ u ∷ us → w ≡ u
same_head e = ap (λ (l : List ℕ). get_or l 0 0) e

pub same_rest : {w u : ℕ} {ws us : List ℕ} → w ∷ ws ≡ u ∷ us → ws ≡ us
same_rest e = ap (λ (l : List ℕ). drop 1 l) e

-- a message whose first word is known
message-first : (P : Message × Cursor → Type 0) (f nest : ℕ) (around : List ℕ) (c : Cursor) (w : ℕ) (ws : List ℕ) → c.left ≡ w ∷ ws
    → ((g : ℕ) (d : Cursor) → d.left ≡ ws → d.index ≡ suc c.index → word_fits (message_word w) ≡ true → (p : Message × Cursor) → message_from (read_message g (suc nest) around) (message_word w) d ≡ got p → P p)
    → (p : Message × Cursor) → read_message f nest around c ≡ got p → P p
message-first P zero nest around c w ws e h = λ p x. unfold read_message in refuse≢got x
message-first P (suc f) nest around c w ws e h =
    message-all P f nest around c
    (λ q b r x.
    let z : w ∷ ws ≡ q.0 ∷ q.1.left = sym e ∙ b.next.words in
    let u : q.0 ≡ w = sym (same_head z) in
    h f q.1 (sym (same_rest z)) b.next.index (subst (λ (v : ℕ). word_fits (message_word v) ≡ true) u b.fit) r
    (subst (λ (v : ℕ). message_from (read_message f (suc nest) around) (message_word v) q.1 ≡ got r) u x))

-- the cursor stands n words behind the index i, before these words
pub record Back (i n : ℕ) (rest : List ℕ) (d : Cursor) : Type 0 where
  pub left : d.left ≡ rest
  pub index : d.index ≡ i + n

-- the indices of the receipts around fit an operand
abbrev pub Small : Indices → Type 0
Small ix = (v : ℕ) → Fitting (new_index ix v)

-- what is read is the message, each variable being its receipt's new index, and then the words behind it are left
abbrev pub MessageBack : Indices → Message → (i : ℕ) → List ℕ → Message × Cursor → Type 0
MessageBack ix m i rest p = (p.0 ≡ renamed (new_index ix) m) × Back i (length (write_message ix m)) rest p.1

module _ (ix : Indices) (i : ℕ) (rest : List ℕ) where
  leaf-back : (m : Message) → length (write_message ix m) ≡ 1 → (k : Message) → k ≡ renamed (new_index ix) m → (d : Cursor) → d.left ≡ rest → d.index ≡ suc i
      → (p : Message × Cursor) → ◌≡◌ {A = Reading (Message × Cursor)} (got (k, d)) (got p) → MessageBack ix m i rest p
  leaf-back m n k e d l j = got-all (MessageBack ix m i rest) (k, d) (e, record { left = l; index = omega arith })

  -- a message in front of which one word stands
  one-back : (F : Message → Message) (m : Message) → length (write_message ix (F m)) ≡ suc (length (write_message ix m)) → F (renamed (new_index ix) m) ≡ renamed (new_index ix) (F m)
      → (read : Cursor → Reading (Message × Cursor)) (d : Cursor) → d.index ≡ suc i → ((p : Message × Cursor) → read d ≡ got p → MessageBack ix m d.index rest p)
      → (p : Message × Cursor) → (read d >>= λ q. got (F q.0, q.1)) ≡ got p → MessageBack ix (F m) i rest p
  one-back F m n e read d j h =
      bind_all (MessageBack ix (F m) i rest) (read d) _
      (λ q x. let y = h q x in got-all (MessageBack ix (F m) i rest) (F q.0, q.1) (ap F y.0 ∙ e, record { left = y.1.left; index = omega (arith, y.1.index) }))

-- THEOREM: what is read of a message that was written, whatever stands behind it.
pub message-back : (ix : Indices) → Small ix → (m : Message) → MessageAll Fitting m → (f nest : ℕ) (around : List ℕ) (c : Cursor) (rest : List ℕ) → c.left ≡ write_message ix m ++ rest
    → (p : Message × Cursor) → read_message f nest around c ≡ got p → MessageBack ix m c.index rest p
unfolding write_message renamed message_from word_fits
message-back ix s (name n) a f nest around c rest e =
    message-first (MessageBack ix (name n) c.index rest) f nest around c (word 8 n) rest e
    (λ g d l j t. by_test (name_fits n)
    (λ u. let z : message_word (word 8 n) ≡ Name n = name-word n a ∙ rw u in λ p x. leaf-back ix c.index rest (name n) refl (name n) refl d l j p (rw z at x))
    (λ u. let z : message_word (word 8 n) ≡ Unfit = name-word n a ∙ rw u in absurd (false≢true (rw z at t))))
message-back ix s (variable v) a f nest around c rest e =
    let z : message_word (word 9 (new_index ix v)) ≡ Variable (new_index ix v) = variable-word (new_index ix v) (s v) in
    message-first (MessageBack ix (variable v) c.index rest) f nest around c (word 9 (new_index ix v)) rest e
    (λ g d l j t p x. leaf-back ix c.index rest (variable v) refl (variable (new_index ix v)) refl d l j p (rw z at x))
message-back ix s (enter m) a f nest around c rest e =
    message-first (MessageBack ix (enter m) c.index rest) f nest around c (word 10 0) (write_message ix m ++ rest) e
    (λ g d l j t p x. one-back ix c.index rest enter m refl refl (read_message g (suc nest) around) d j (message-back ix s m a g (suc nest) around d rest l) p (rw enter-word at x))
message-back ix s (exit m) a f nest around c rest e =
    message-first (MessageBack ix (exit m) c.index rest) f nest around c (word 11 0) (write_message ix m ++ rest) e
    (λ g d l j t p x. one-back ix c.index rest exit m refl refl (read_message g (suc nest) around) d j (message-back ix s m a g (suc nest) around d rest l) p (rw exit-word at x))
message-back ix s (opens m) a f nest around c rest e =
    message-first (MessageBack ix (opens m) c.index rest) f nest around c (word 12 0) (write_message ix m ++ rest) e
    (λ g d l j t p x. one-back ix c.index rest opens m refl refl (read_message g (suc nest) around) d j (message-back ix s m a g (suc nest) around d rest l) p (rw open-word at x))
message-back ix s empty_message a f nest around c rest e =
    message-first (MessageBack ix empty_message c.index rest) f nest around c (word 13 0) rest e
    (λ g d l j t p x. leaf-back ix c.index rest empty_message refl empty_message refl d l j p (rw empty-word at x))
message-back ix s (path m k) a f nest around c rest e =
    message-first (MessageBack ix (path m k) c.index rest) f nest around c (word 14 0) (write_message ix m ++ (write_message ix k ++ rest))
    (e ∙ ap (λ (l : List ℕ). word 14 0 ∷ l) (append_assoc (write_message ix m) (write_message ix k) rest))
    (λ g d l j t p x. bind_all (MessageBack ix (path m k) c.index rest) (read_message g (suc nest) around d) _
    (λ q y.
    let u = message-back ix s m a.0 g (suc nest) around d (write_message ix k ++ rest) l q y in
    bind_all (MessageBack ix (path m k) c.index rest) (read_message g (suc nest) around q.1) _
    (λ r z.
    let v = message-back ix s k a.1 g (suc nest) around q.1 rest u.1.left r z in
    got-all (MessageBack ix (path m k) c.index rest) (path q.0 r.0, r.1)
    (ap₂ path u.0 v.0, record { left = v.1.left; index = omega (arith, u.1.index, v.1.index, length-append (write_message ix m) (write_message ix k)) }))) p (rw path-word at x))

-- A message that was read is the one that its words spell. Assumes nothing.
use Prim.Native.Nat.{ℕ, zero, suc}
use mathlib.Core.List.{List, ◌∷◌}
use mathlib.Core.Path.{◌≡◌, refl, ap, ◌∙◌}
use lib.ListN.{drop}
use Rattle.read_messages.specs.Reading.{Cursor, Reading, got, ◌>>=◌}
use Rattle.read_messages.specs.Message.{Message, name, variable, enter, exit, opens, empty_message, path}
use Rattle.read_messages.specs.ReadMessage.{message_word, message_from, read_message}
use Rattle.read_messages.specs.Spelling.{top_message, push, spelled, message_at}
use Rattle.read_messages.specs.declared.MessageWord.{MessageWord}
use Rattle.read_messages.specs.declared.MessageWord.TheVariants.{Name, Variable, Enter, Exit, Open, Empty, Path, Unfit}
use Rattle.read_messages.proofs.Readings.{refuse≢got, bind_all, got-all}
use Rattle.read_messages.proofs.Laws.{message-all}

-- the row is the message that was read, and then what the words behind it spell
abbrev Spells : List Message → Message × Cursor → Type 0
Spells row p = row ≡ p.0 ∷ spelled p.1.left

module _ (read : Cursor → Reading (Message × Cursor)) (h : (c : Cursor) (p : Message × Cursor) → read c ≡ got p → Spells (spelled c.left) p) where
  one-spells : (f : Message → Message) (c : Cursor) (p : Message × Cursor) → (read c >>= λ q. got (f q.0, q.1)) ≡ got p →
      Spells (f (top_message (spelled c.left)) ∷ drop 1 (spelled c.left)) p
  unfolding top_message
  one-spells f c p e =
      bind_all (Spells (f (top_message (spelled c.left)) ∷ drop 1 (spelled c.left))) (read c) _
      (λ q e₁. got-all (Spells (f (top_message (spelled c.left)) ∷ drop 1 (spelled c.left))) (f q.0, q.1) (rw (h c q e₁))) p e

  from-spells : (m : MessageWord) (c : Cursor) (p : Message × Cursor) → message_from read m c ≡ got p → Spells (push m (spelled c.left)) p
  unfolding message_from push top_message
  from-spells (Name n) c p e = got-all (Spells (name n ∷ spelled c.left)) (name n, c) refl p e
  from-spells (Variable v) c p e = got-all (Spells (variable v ∷ spelled c.left)) (variable v, c) refl p e
  from-spells Enter c p e = one-spells enter c p e
  from-spells Exit c p e = one-spells exit c p e
  from-spells Open c p e = one-spells opens c p e
  from-spells Empty c p e = got-all (Spells (empty_message ∷ spelled c.left)) (empty_message, c) refl p e
  from-spells Path c p e =
      bind_all (Spells (push Path (spelled c.left))) (read c) _
      (λ q e₁. bind_all (Spells (push Path (spelled c.left))) (read q.1) _
      (λ r e₂. got-all (Spells (push Path (spelled c.left))) (path q.0 r.0, r.1) (rw (h c q e₁, h q.1 r e₂)))) p e
  from-spells Unfit c p e = refuse≢got e

-- Where the reader answers a message, the words at its cursor spell that message, and then what the words behind it spell.
pub reads : (f nest : ℕ) (around : List ℕ) (c : Cursor) (p : Message × Cursor) → read_message f nest around c ≡ got p → spelled c.left ≡ p.0 ∷ spelled p.1.left
unfolding read_message spelled
reads zero nest around c p e = refuse≢got e
reads (suc f) nest around c p e =
    message-all (Spells (spelled c.left)) f nest around c
    (λ q b r e₁. ap (λ (l : List ℕ). spelled l) b.next.words
    ∙ from-spells (read_message f (suc nest) around) (reads f (suc nest) around) (message_word q.0) q.1 r e₁) p e

pub read-message : (f nest : ℕ) (around : List ℕ) (c : Cursor) (p : Message × Cursor) → read_message f nest around c ≡ got p → message_at c.left ≡ p.0
unfolding message_at top_message
read-message f nest around c p e = rw (reads f nest around c p e)

-- What holds of every message that is read: shown by a case for each kind of word. Assumes nothing.
use Prim.Native.Nat.{ℕ, zero, suc}
use mathlib.Core.Bool.{true}
use mathlib.Core.List.{List}
use mathlib.Core.Path.{◌≡◌, refl, sym, ap, ◌∙◌}
use Rattle.read_messages.specs.Words.{member}
use Rattle.read_messages.specs.Reading.{Cursor, got, ◌>>=◌}
use Rattle.read_messages.specs.Message.{Message, name, variable, enter, exit, opens, empty_message, path}
use Rattle.read_messages.specs.ReadMessage.{message_word, bound, message_from, read_message}
use Rattle.read_messages.specs.declared.MessageWord.{MessageWord}
use Rattle.read_messages.specs.declared.MessageWord.TheVariants.{Name, Variable, Enter, Exit, Open, Empty, Path, Unfit}
use Rattle.read_messages.proofs.Readings.{refuse≢got, bind_all, got-all, Next}
use Rattle.read_messages.proofs.Laws.{Begins, message-all}

-- The cases of a claim M about messages that are read: `around` are the receipts around, c is the cursor at the first word,
-- and p is what was read with the cursor behind it.
pub record Cases (M : List ℕ → Cursor → Message × Cursor → Type 0) : Type 0 where
  pub names : (around : List ℕ) (c : Cursor) (q : ℕ × Cursor) (n : ℕ) → Next c q → message_word q.0 ≡ Name n → M around c (name n, q.1)
  pub variables : (around : List ℕ) (c : Cursor) (q : ℕ × Cursor) (v : ℕ) → Next c q → member v around ≡ true → M around c (variable v, q.1)
  pub wraps : (around : List ℕ) (c : Cursor) (q : ℕ × Cursor) (p : Message × Cursor) → Next c q → M around q.1 p
      → M around c (enter p.0, p.1) × M around c (exit p.0, p.1) × M around c (opens p.0, p.1)
  pub empties : (around : List ℕ) (c : Cursor) (q : ℕ × Cursor) → Next c q → M around c (empty_message, q.1)
  pub paths : (around : List ℕ) (c : Cursor) (q : ℕ × Cursor) (p r : Message × Cursor) → Next c q → M around q.1 p → M around p.1 r → M around c (path p.0 r.0, r.1)

module _ (M : List ℕ → Cursor → Message × Cursor → Type 0) (cases : Cases M) where
  module _ (f nest : ℕ) (around : List ℕ) (c : Cursor) (q : ℕ × Cursor) (b : Begins nest around c q)
      (read : (d : Cursor) (p : Message × Cursor) → read_message f (suc nest) around d ≡ got p → M around d p) where
    wrap-case : (g : Message → Message) → ((p : Message × Cursor) → M around q.1 p → M around c (g p.0, p.1))
        → (p : Message × Cursor) → (read_message f (suc nest) around q.1 >>= λ r. got (g r.0, r.1)) ≡ got p → M around c p
    wrap-case g h = bind_all (M around c) (read_message f (suc nest) around q.1) _ (λ p e. got-all (M around c) _ (h p (read q.1 p e)))

    from-case : (w : MessageWord) → message_word q.0 ≡ w → (p : Message × Cursor) → message_from (read_message f (suc nest) around) w q.1 ≡ got p → M around c p
    unfolding message_from bound
    from-case (Name n) e = got-all (M around c) _ (cases.names around c q n b.next e)
    from-case (Variable v) e = got-all (M around c) _ (cases.variables around c q v b.next (sym (ap (bound around) e) ∙ b.bounded))
    from-case Enter e = wrap-case enter (λ p h. (cases.wraps around c q p b.next h).0)
    from-case Exit e = wrap-case exit (λ p h. (cases.wraps around c q p b.next h).1)
    from-case Open e = wrap-case opens (λ p h. (cases.wraps around c q p b.next h).2)
    from-case Empty e = got-all (M around c) _ (cases.empties around c q b.next)
    from-case Path e =
        bind_all (M around c) (read_message f (suc nest) around q.1) _
        (λ p d. bind_all (M around c) (read_message f (suc nest) around p.1) _ (λ r g. got-all (M around c) _ (cases.paths around c q p r b.next (read q.1 p d) (read p.1 r g))))
    from-case Unfit e = λ p d. refuse≢got d

  -- THEOREM: the cases are all.
  pub message-case : (f nest : ℕ) (around : List ℕ) (c : Cursor) (p : Message × Cursor) → read_message f nest around c ≡ got p → M around c p
  unfolding read_message
  message-case zero nest around c p e = refuse≢got e
  message-case (suc f) nest around c p e =
      message-all (M around c) f nest around c (λ q b. from-case f nest around c q b (message-case f (suc nest) around) (message_word q.0) refl) p e

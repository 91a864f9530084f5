-- Where a reading refuses: a refusal's place is at most where the words end. Assumes nothing.
use Prim.Native.Nat.{ℕ, zero, suc, ◌+◌, ◌≤◌}
use mathlib.Core.Bool.{Bool, true, false}
use mathlib.Core.List.{List, [], ◌∷◌}
use mathlib.Core.Path.{◌≡◌, refl}
use native.Mathlib.Omega.{arith}
use lib.Dec.{leb}
use lib.ListN.{length}
use Rattle.read_messages.specs.Reading.{Cursor, Reading, refuse, got, ◌>>=◌, ask, take_word, next_word}
use Rattle.read_messages.specs.Message.{Message, enter, exit, opens}
use Rattle.read_messages.specs.ReadMessage.{message_word, word_fits, bound, message_from, read_message}
use Rattle.read_messages.specs.declared.MessageWord.{MessageWord}
use Rattle.read_messages.specs.declared.MessageWord.TheVariants.{Name, Variable, Enter, Exit, Open, Empty, Path, Unfit}
use Rattle.read_messages.proofs.Readings.{Advances, next, next-advances}
use Rattle.read_messages.proofs.Laws.{MessageRead, message-advances}

-- a reading that is refused is refused at a place that is at most x
abbrev pub Within : {A : Type 0} → ℕ → Reading A → Type 0
Within x (refuse q i) = i ≤ x
Within x (got a) = Unit {0}

pub bind-within : {A B : Type 0} (x : ℕ) (r : Reading A) (k : A → Reading B) → Within x r → ((a : A) → r ≡ got a → Within x (k a)) → Within x (r >>= k)
unfolding ◌>>=◌
bind-within x (refuse q i) k h f = h
bind-within x (got a) k h f = f a refl

pub ask-within : (x q i : ℕ) (t : Bool) → i ≤ x → Within x (ask q i t)
unfolding ask
ask-within x q i true h = tt
ask-within x q i false h = h

take_word-within : (x q i n : ℕ) (l : List ℕ) → i ≤ x → Within x (take_word q i n l)
unfolding take_word
take_word-within x q i n [] h = h
take_word-within x q i n (w ∷ ws) h = tt

-- the words that are left end at x or sooner
abbrev pub Ends : ℕ → Cursor → Type 0
Ends x c = c.index + length c.left ≤ x

pub ends_on : (x : ℕ) (c d : Cursor) → Advances c d → Ends x c → Ends x d
ends_on x c d a h = omega (arith, a.within)

pub next-within : (x q : ℕ) (c : Cursor) → Ends x c → Within x (next_word q c)
next-within x q c h = take_word-within x q c.index c.number c.left (omega arith)

pub next-ends : (x q : ℕ) (c : Cursor) (p : ℕ × Cursor) → next_word q c ≡ got p → Ends x c → Ends x p.1
next-ends x q c p e h = ends_on x c p.1 (next-advances c p (next q c p e)) h

-- the message that begins with such a word, by the messages that stand in it
module _ (x : ℕ) (around : List ℕ) (read : Cursor → Reading (Message × Cursor)) (h : (c : Cursor) (p : Message × Cursor) → read c ≡ got p → MessageRead around c p)
    (w : (c : Cursor) → Ends x c → Within x (read c)) where
  one-within : (f : Message → Message) (c : Cursor) → Ends x c → Within {A = Message × Cursor} x (read c >>= λ q. got (f q.0, q.1))
  one-within f c l = bind-within x (read c) _ (w c l) (λ q e. tt)

  from-within : (m : MessageWord) (c : Cursor) → Ends x c → Within x (message_from read m c)
  unfolding message_from
  from-within (Name n) c l = tt
  from-within (Variable v) c l = tt
  from-within Enter c l = one-within enter c l
  from-within Exit c l = one-within exit c l
  from-within Open c l = one-within opens c l
  from-within Empty c l = tt
  from-within Path c l =
      bind-within x (read c) _ (w c l)
      (λ q e. bind-within x (read q.1) _ (w q.1 (ends_on x c q.1 (h c q e).advances l)) (λ r d. tt))
  from-within Unfit c l = omega arith

-- THEOREM: a message is refused where its words end or sooner.
pub message-within : (x f nest : ℕ) (around : List ℕ) (c : Cursor) → Ends x c → Within x (read_message f nest around c)
unfolding read_message
message-within x zero nest around c l = omega arith
message-within x (suc f) nest around c l =
    bind-within x (next_word 5 c) _ (next-within x 5 c l)
    (λ q e. bind-within x (ask 2 c.index (word_fits (message_word q.0))) _ (ask-within x 2 c.index _ (omega arith))
    (λ _ _. bind-within x (ask 3 c.index (bound around (message_word q.0))) _ (ask-within x 3 c.index _ (omega arith))
    (λ _ _. bind-within x (ask 4 c.index (leb nest 64)) _ (ask-within x 4 c.index _ (omega arith))
    (λ _ _. from-within x around (read_message f (suc nest) around) (message-advances f (suc nest) around) (message-within x f (suc nest) around) (message_word q.0) q.1 (next-ends x 5 c q e l)))))

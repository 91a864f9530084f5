-- Laws of the reader of messages: where it stands when it has read one, that more fuel than words changes nothing, and
-- the recurrence that the code meets. Assumes nothing.
use Prim.Native.Nat.{ℕ, zero, suc, ◌+◌, ◌-◌, ◌≤◌, ◌<◌}
use mathlib.Core.Bool.{Bool, true, false, cond, false≢true}
use mathlib.Core.List.{List, ◌∷◌}
use mathlib.Core.Path.{◌≡◌, refl, sym, ap, ◌∙◌}
use native.Mathlib.Omega.{arith}
use native.Mathlib.Numerals.{add-one}
use lib.Dec.{leb}
use lib.ListN.{length, drop, length-drop}
use borrow.Author.Tests.{leb-true}
use Rattle.std.specs.Prelude.{Result, Ok, Err}
use Rattle.read_messages.specs.Reading.{Cursor, cursor, Reading, refuse, got, ◌>>=◌, ask, take_word, next_word, refusal_at, outcome}
use Rattle.read_messages.specs.Message.{Message, name, variable, enter, exit, opens, empty_message, path}
use Rattle.read_messages.specs.ReadMessage.{message_word, word_fits, bound, message_from, read_message, follow, asked}
use Rattle.read_messages.specs.declared.MessageWord.{MessageWord}
use Rattle.read_messages.specs.declared.MessageWord.TheVariants.{Name, Variable, Enter, Exit, Open, Empty, Path, Unfit}
use Rattle.read_messages.specs.declared.Arity.{Arity}
use Rattle.read_messages.specs.declared.Arity.TheVariants.{Leaf, One, Two}
use Rattle.read_messages.specs.declared.Refusal.{Refusal}
use Rattle.read_messages.proofs.Readings.{refuse≢got, bind_all, got-all, bind-cong, bind-got, bind-refuse, ask-inv, Advances, stands, advances-on, Next, next, next-advances, next-shorter, advances-shorter, next-end, placed, outcome-refused, outcome-read}
use Rattle.base_slices.proofs.Tails.{no-element, part, part-drop}

-- What holds where a message was read from c on, p being the message and the cursor behind it.
pub record MessageRead (around : List ℕ) (c : Cursor) (p : Message × Cursor) : Type 0 where
  pub ahead : c.index < p.1.index
  pub advances : Advances c p.1
  pub number : p.1.number ≡ c.number

-- the cursor d stands behind c, and no part was begun between
record Behind (c d : Cursor) : Type 0 where
  advances : Advances c d
  number : d.number ≡ c.number

behind-on : (c d e : Cursor) → Behind c d → Behind d e → Behind c e
behind-on c d e a b = record { advances = advances-on c d e a.advances b.advances; number = b.number ∙ a.number }

behind : (around : List ℕ) (c : Cursor) (p : Message × Cursor) → MessageRead around c p → Behind c p.1
behind around c p r = record { advances = r.advances; number = r.number }

module _ (around : List ℕ) (read : Cursor → Reading (Message × Cursor)) (h : (c : Cursor) (p : Message × Cursor) → read c ≡ got p → MessageRead around c p) where
  leaf-behind : (c : Cursor) (m : Message) (p : Message × Cursor) → ◌≡◌ {A = Reading (Message × Cursor)} (got (m, c)) (got p) → Behind c p.1
  leaf-behind c m p e = got-all (λ (q : Message × Cursor). Behind c q.1) (m, c) (record { advances = stands c; number = refl }) p e

  one-behind : (c : Cursor) (f : Message → Message) (p : Message × Cursor) → (read c >>= λ q. got (f q.0, q.1)) ≡ got p → Behind c p.1
  one-behind c f p e =
      bind_all (λ (q : Message × Cursor). Behind c q.1) (read c) _
      (λ q e₁. got-all (λ (q : Message × Cursor). Behind c q.1) (f q.0, q.1) (behind around c q (h c q e₁))) p e

  from-behind : (m : MessageWord) (c : Cursor) (p : Message × Cursor) → message_from read m c ≡ got p → Behind c p.1
  unfolding message_from
  from-behind (Name n) c p e = leaf-behind c (name n) p e
  from-behind (Variable v) c p e = leaf-behind c (variable v) p e
  from-behind Enter c p e = one-behind c enter p e
  from-behind Exit c p e = one-behind c exit p e
  from-behind Open c p e = one-behind c opens p e
  from-behind Empty c p e = leaf-behind c empty_message p e
  from-behind Path c p e =
      bind_all (λ (q : Message × Cursor). Behind c q.1) (read c) _
      (λ q e₁. bind_all (λ (q : Message × Cursor). Behind c q.1) (read q.1) _
      (λ r e₂. got-all (λ (q : Message × Cursor). Behind c q.1) (path q.0 r.0, r.1)
      (behind-on c q.1 r.1 (behind around c q (h c q e₁)) (behind around q.1 r (h q.1 r e₂))))) p e
  from-behind Unfit c p e = refuse≢got e

-- the message's first word, and what stands in the message
read_behind : (around : List ℕ) (c : Cursor) (q : ℕ × Cursor) (p : Message × Cursor) → Next c q → Behind q.1 p.1 → MessageRead around c p
read_behind around c q p n b = record {
  ahead = omega (arith, n.index, b.advances.ahead);
  advances = advances-on c q.1 p.1 (next-advances c q n) b.advances;
  number = b.number ∙ n.number;
}

-- the questions that the first word of a message was asked, q being that word and the cursor behind it
pub record Begins (nest : ℕ) (around : List ℕ) (c : Cursor) (q : ℕ × Cursor) : Type 0 where
  pub next : Next c q
  pub fit : word_fits (message_word q.0) ≡ true
  pub bounded : bound around (message_word q.0) ≡ true
  pub levelled : nest ≤ 64

-- a claim about a message that was read, by what was read behind its first word
pub message-all : (P : Message × Cursor → Type 0) (f nest : ℕ) (around : List ℕ) (c : Cursor) →
    ((q : ℕ × Cursor) → Begins nest around c q → (p : Message × Cursor) → message_from (read_message f (suc nest) around) (message_word q.0) q.1 ≡ got p → P p) →
    (p : Message × Cursor) → read_message (suc f) nest around c ≡ got p → P p
unfolding read_message
message-all P f nest around c h =
    bind_all P (next_word 5 c) _
    (λ q e₁. bind_all P (ask 2 c.index (word_fits (message_word q.0))) _
    (λ u e₂. bind_all P (ask 3 c.index (bound around (message_word q.0))) _
    (λ v e₃. bind_all P (ask 4 c.index (leb nest 64)) _
    (λ w e₄. h q (record { next = next 5 c q e₁; fit = ask-inv 2 _ _ u e₂; bounded = ask-inv 3 _ _ v e₃; levelled = leb-true nest 64 (ask-inv 4 _ _ w e₄) })))))

pub message-advances : (f nest : ℕ) (around : List ℕ) (c : Cursor) (p : Message × Cursor) → read_message f nest around c ≡ got p → MessageRead around c p
unfolding read_message
message-advances zero nest around c p e = refuse≢got e
message-advances (suc f) nest around c p e =
    message-all (MessageRead around c) f nest around c
    (λ q b r e₁. read_behind around c q r b.next
    (from-behind around (read_message f (suc nest) around) (message-advances f (suc nest) around) (message_word q.0) q.1 r e₁)) p e

-- the readers r and s agree where at most n words are left
abbrev Agree : ℕ → (r s : Cursor → Reading (Message × Cursor)) → Type 0
Agree n r s = (c : Cursor) → length c.left ≤ n → r c ≡ s c

module _ (around : List ℕ) (n : ℕ) (r s : Cursor → Reading (Message × Cursor)) (h : (c : Cursor) (p : Message × Cursor) → r c ≡ got p → MessageRead around c p) (a : Agree n r s) where
  from-agree : (m : MessageWord) (c : Cursor) → length c.left ≤ n → message_from r m c ≡ message_from s m c
  unfolding message_from
  from-agree (Name k) c l = refl
  from-agree (Variable v) c l = refl
  from-agree Enter c l = rw (a c l)
  from-agree Exit c l = rw (a c l)
  from-agree Open c l = rw (a c l)
  from-agree Empty c l = refl
  from-agree Path c l = rw (← a c l) (bind-cong (r c) _ _ (λ q e. rw (a q.1 (omega (arith, advances-shorter c q.1 (h c q e).advances)))))
  from-agree Unfit c l = refl

-- As much fuel as there are words is enough, and more changes nothing.
pub message-fuel : (f g nest : ℕ) (around : List ℕ) (c : Cursor) → length c.left ≤ f → length c.left ≤ g → read_message f nest around c ≡ read_message g nest around c
unfolding read_message
message-fuel zero zero nest around c hf hg = refl
message-fuel zero (suc g) nest around c hf hg = sym (bind-refuse _ _ 5 c.index (next-end 5 c (omega arith)))
message-fuel (suc f) zero nest around c hf hg = bind-refuse _ _ 5 c.index (next-end 5 c (omega arith))
message-fuel (suc f) (suc g) nest around c hf hg =
    bind-cong (next_word 5 c) _ _ (λ w e. bind-cong _ _ _ (λ _ _. bind-cong _ _ _ (λ _ _. bind-cong _ _ _ (λ _ _.
    from-agree around (length w.1.left) _ _ (message-advances f (suc nest) around)
    (λ d l. message-fuel f g (suc nest) around d (omega (arith, next-shorter c w (next 5 c w e))) (omega (arith, next-shorter c w (next 5 c w e))))
    (message_word w.0) w.1 (omega arith)))))

-- The outcome by what the questions 2, 3 and 4 say of the first word: the cursor stands behind it.
abbrev counted : Result Arity Refusal → (read : Cursor → Reading (Message × Cursor)) → Cursor → Result ℕ Refusal
counted (Err e) read c = Err e
counted (Ok Leaf) read c = Ok c.index
counted (Ok One) read c = outcome (read c)
counted (Ok Two) read c = outcome (read c >>= λ p. read p.1)

-- an outcome forgets the message
forget : (f : Message → Message) (x : Reading (Message × Cursor)) → outcome (x >>= λ p. got (f p.0, p.1)) ≡ outcome x
unfolding ◌>>=◌ outcome
forget f (refuse q i) = refl
forget f (got p) = refl

module _ (read : Cursor → Reading (Message × Cursor)) (c : Cursor) where
  forget-two : (x : Reading (Message × Cursor)) → outcome (x >>= λ p. read p.1 >>= λ q. got (path p.0 q.0, q.1)) ≡ outcome (x >>= λ p. read p.1)
  unfolding ◌>>=◌
  forget-two (refuse q j) = refl
  forget-two (got p) = forget (path p.0) (read p.1)

  from-counted : (m : MessageWord) → word_fits m ≡ true → outcome (message_from read m c) ≡ counted (Ok (follow m)) read c
  unfolding message_from follow word_fits outcome
  from-counted (Name n) e = refl
  from-counted (Variable v) e = refl
  from-counted Enter e = forget enter (read c)
  from-counted Exit e = forget exit (read c)
  from-counted Open e = forget opens (read c)
  from-counted Empty e = refl
  from-counted Path e = forget-two (read c)
  from-counted Unfit e = absurd (false≢true e)

  questions : (i : ℕ) (t u v : Bool) (a : Arity) (x : Reading (Message × Cursor)) → (t ≡ true → outcome x ≡ counted (Ok a) read c) →
      outcome (ask 2 i t >>= λ _. ask 3 i u >>= λ _. ask 4 i v >>= λ _. x) ≡ counted (cond t (cond u (cond v (Ok a) (refusal_at 4 i)) (refusal_at 3 i)) (refusal_at 2 i)) read c
  unfolding ◌>>=◌ ask outcome
  questions i false u v a x h = refl
  questions i true false v a x h = refl
  questions i true true false a x h = refl
  questions i true true true a x h = h refl

step : (f nest : ℕ) (around : List ℕ) (at number w : ℕ) (ws : List ℕ) →
    outcome (read_message (suc f) nest around (cursor at number (w ∷ ws))) ≡ counted (asked at nest around (message_word w)) (read_message f (suc nest) around) (cursor (suc at) number ws)
unfolding read_message take_word asked
step f nest around at number w ws =
    ap (λ (x : Reading (Message × Cursor)). outcome x) (bind-got (take_word 5 at number (w ∷ ws)) _ (w, cursor (suc at) number ws) refl)
    ∙ questions (read_message f (suc nest) around) (cursor (suc at) number ws) at (word_fits (message_word w)) (bound around (message_word w)) (leb nest 64) (follow (message_word w)) _
    (from-counted (read_message f (suc nest) around) (cursor (suc at) number ws) (message_word w))

-- the outcome for the words s, the first of which has the index `at`
abbrev pub read_of : (s : List ℕ) (at nest : ℕ) (around : List ℕ) (number : ℕ) → Result ℕ Refusal
read_of s at nest around number = outcome (read_message (length s) nest around (cursor at number s))

-- no word is left
pub read_none : (s : List ℕ) (at nest : ℕ) (around : List ℕ) (number : ℕ) → length s ≡ 0 → refusal_at 5 at ≡ read_of s at nest around number
unfolding read_message outcome
read_none s at nest around number h = rw (no-element s h)

-- a message that was read has a word, and no more than there are
pub read-bounds : (s : List ℕ) (at nest : ℕ) (around : List ℕ) (number : ℕ) (r : Result ℕ Refusal) (n : ℕ) → r ≡ read_of s at nest around number → r ≡ Ok n → (at < n) × (n ≤ at + length s)
read-bounds s at nest around number r n e d =
    let (p, ep, en) = outcome-read (read_message (length s) nest around (cursor at number s)) n (sym e ∙ d) in
    let m : MessageRead around (cursor at number s) p = message-advances (length s) nest around (cursor at number s) p ep in
    between at n (length s) p.1.index (length p.1.left) en m.ahead m.advances.within
  where
    between : (at n l i k : ℕ) → i ≡ n → at < i → i + k ≡ at + l → (at < n) × (n ≤ at + l)
    between at n l i k e h w = (omega arith, omega arith)

-- nesting above 64 is refused
level-told : (i nest : ℕ) (t u v : Bool) (a b : Arity) → leb nest 64 ≡ v → cond t (cond u (cond v (Ok a) (refusal_at 4 i)) (refusal_at 3 i)) (refusal_at 2 i) ≡ Ok b → nest ≤ 64
level-told i nest false u v a b e d = cc
level-told i nest true false v a b e d = cc
level-told i nest true true false a b e d = cc
level-told i nest true true true a b e d = leb-true nest 64 e

-- The laws as the code meets them, where there is a first word, of which the questions 2, 3 and 4 were asked, and `answer` is
-- what they said; then r is what the first call answers, r' what the second answers.
pub record First : Type 0 where
  pub words : List ℕ
  pub at : ℕ
  pub nest : ℕ
  pub around : List ℕ
  pub word : ℕ
  pub rest : List ℕ
  pub answer : Result Arity Refusal
  pub parts : words ≡ word ∷ rest
  pub answers : answer ≡ asked at nest around (message_word word)

module _ (x : First) where
  -- the words behind the first are one less
  pub longer : length x.words ≡ suc (length x.rest)
  longer = ap length x.parts

  pub level : (b : Arity) → x.answer ≡ Ok b → x.nest ≤ 64
  unfolding asked
  level b e =
      let m : MessageWord = message_word x.word in
      level-told x.at x.nest (word_fits m) (bound x.around m) (leb x.nest 64) (follow m) b refl (sym x.answers ∙ e)

  module _ (number : ℕ) where
    -- the cursor at the first word, and the one behind it
    abbrev here : Cursor
    here = cursor x.at number x.words

    abbrev second : Cursor
    second = cursor (suc x.at) number x.rest

    abbrev reader : Cursor → Reading (Message × Cursor)
    reader = read_message (length x.rest) (suc x.nest) x.around

    abbrev pub full_read : Result ℕ Refusal
    full_read = read_of x.words x.at x.nest x.around number

    -- the outcome of the message that begins at the index n of the words, one level further in
    abbrev pub further : ℕ → Result ℕ Refusal
    further n = read_of (part x.words (n - x.at)) n (x.nest + 1) x.around number

    arm : (b : Result Arity Refusal) → x.answer ≡ b → counted b reader second ≡ full_read
    arm b e =
        sym (ap (λ (l : List ℕ). read_of l x.at x.nest x.around number) x.parts
        ∙ step (length x.rest) x.nest x.around x.at number x.word x.rest
        ∙ ap (λ (a : Result Arity Refusal). counted a reader second) (sym x.answers ∙ e))

    -- what was read inside is behind the first word
    inside : (p : Message × Cursor) → reader second ≡ got p → MessageRead x.around here p
    inside p e =
        read_behind x.around here (x.word, second) p (record { words = x.parts; index = refl; number = refl })
        (behind x.around second p (message-advances (length x.rest) (suc x.nest) x.around second p e))

    pub no_read : (q : Refusal) → x.answer ≡ Err q → Err q ≡ full_read
    no_read q e = arm (Err q) e

    pub leaf-read : x.answer ≡ Ok Leaf → Ok (x.at + 1) ≡ full_read
    leaf-read e = rw (add-one x.at) (arm (Ok Leaf) e)

    module _ (r : Result ℕ Refusal) (er : r ≡ read_of x.rest (x.at + 1) (x.nest + 1) x.around number) where
      read-second : r ≡ outcome (reader second)
      read-second = rw (add-one x.at, add-one x.nest) at er

      pub one-read : x.answer ≡ Ok One → r ≡ full_read
      one-read e = read-second ∙ arm (Ok One) e

      pub two-refused : x.answer ≡ Ok Two → (q : Refusal) → r ≡ Err q → Err q ≡ full_read
      two-refused e q d = sym (outcome-refused (reader second) _ q (sym read-second ∙ d)) ∙ arm (Ok Two) e

      module _ (n : ℕ) (d : r ≡ Ok n) where
        pub first-bounds : (x.at + 1 < n) × (n ≤ x.at + length x.words)
        first-bounds =
            let b = read-bounds x.rest (x.at + 1) (x.nest + 1) x.around number r n er d in
            let l = longer in
            (omega arith, omega arith)

        -- the second message's reader stands where the first one's ended
        two-on : (p : Message × Cursor) → p.1.index ≡ n → MessageRead x.around here p → further n ≡ outcome (reader p.1)
        two-on p en m =
            let e : p.1 ≡ cursor n number (drop (n - x.at) x.words) = placed p.1 n number _ en m.number (rw en at m.advances.tail) in
            rw (e, part-drop x.words (n - x.at), add-one x.nest)
            (ap (λ (y : Reading (Message × Cursor)). outcome y)
            (message-fuel _ _ (suc x.nest) x.around (cursor n number (drop (n - x.at) x.words)) (omega arith)
            (omega (arith, longer, length-drop (n - x.at) x.words, first-bounds))))

        pub two-read : x.answer ≡ Ok Two → (r' : Result ℕ Refusal) → r' ≡ further n → r' ≡ full_read
        two-read e r' er' =
            let (p, ep, en) = outcome-read (reader second) n (sym read-second ∙ d) in
            er' ∙ two-on p en (inside p ep)
            ∙ sym (ap (λ (y : Reading (Message × Cursor)). outcome y) (bind-got (reader second) (λ (p : Message × Cursor). reader p.1) p ep))
            ∙ arm (Ok Two) e

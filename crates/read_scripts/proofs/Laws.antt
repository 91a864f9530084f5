-- Laws of the readers of bodies and parts: where they stand when they have read one, that more fuel than words changes
-- nothing, and what question 1 says. Assumes nothing.
use Prim.Native.Nat.{ℕ, zero, suc, ◌+◌, ◌≤◌, ◌<◌}
use mathlib.Core.Bool.{◌&&◌, and-eq-true_iff}
use mathlib.Core.List.{List, ◌∷◌}
use mathlib.Core.Path.{◌≡◌, refl, sym, ap, ◌∙◌, subst}
use native.Mathlib.Omega.{arith}
use lib.Dec.{leb}
use lib.ListN.{length, drop}
use borrow.Author.Tests.{leb-true}
use Rattle.read_messages.specs.Reading.{Cursor, Reading, got, ◌>>=◌, ask, next_word, next_part}
use Rattle.read_messages.specs.Message.{Message}
use Rattle.read_messages.specs.ReadMessage.{read_message}
use Rattle.read_messages.proofs.Readings.{refuse≢got, bind_all, got-all, bind-cong, bind-refuse, ask-inv, Advances, advances-on, CursorAt, stands_on, Next, next, next-advances, next-shorter, advances-shorter, next-end}
use Rattle.read_messages.specs.Spelling.{message_at}
use Rattle.read_messages.proofs.Laws.{MessageRead, message-advances, message-fuel}
use Rattle.read_messages.proofs.Spells.{read-message}
use Rattle.read_scripts.specs.Tree.{Head, ambient, action, receipt, output, close, part, kind_number, total_over, parts}
use Rattle.read_scripts.specs.Script.{Written, Script, guarded_from, part_from, or_close, read_body}
use Rattle.read_script_words.specs.ScriptWords.{part_word, part_fits}
use Rattle.read_scripts.specs.Table.{start_by, start_of}
use Rattle.read_scripts.specs.Represents.{Numbered, PartsAt, Low, head_at}
use Rattle.std.specs.Prelude.{Option, Some, None}
use Rattle.read_script_words.specs.declared.PartWord.{PartWord}
use Rattle.read_script_words.specs.declared.PartWord.TheVariants.{Close, Ambient, Action, Receipt, Output}

-- What holds where a body was read, and where a part was, the cursor behind its word: `numbers` counts the parts, `fewer`
-- says that there are no more of them than words, `numbered` that they are numbered in word order, and `placed` and `says`
-- that they are what the words say. More fields may come.
pub record BodyRead (nest : ℕ) (around : List ℕ) (c : Cursor) (p : Script × Cursor) : Type 0 where
  pub ahead : c.index < p.1.index
  pub advances : Advances c p.1
  pub numbers : p.1.number ≡ c.number + parts p.0
  pub fewer : p.1.number + c.index ≤ c.number + p.1.index
  pub numbered : Numbered c.number p.0
  pub placed : (ws : List ℕ) → CursorAt ws c → PartsAt ws p.0
  pub low : (n : ℕ) → p.1.index ≤ n → Low n p.0

pub record PartRead (nest : ℕ) (around : List ℕ) (c : Cursor) (p : (Written × Script) × Cursor) : Type 0 where
  pub ahead : c.index < p.1.index
  pub advances : Advances c p.1
  pub numbers : p.1.number ≡ c.number + parts p.0.1
  pub fewer : p.1.number + c.index ≤ c.number + p.1.index
  pub numbered : Numbered c.number p.0.1
  pub placed : (ws : List ℕ) → CursorAt ws c → PartsAt ws p.0.1
  pub low : (n : ℕ) → p.1.index ≤ n → Low n p.0.1
  pub says : (ws : List ℕ) → CursorAt ws c → c.index ≡ p.0.0.index + 1 → head_at ws (kind_number p.0.0.head) (start_of p.0.0) ≡ p.0.0.head

-- a message that was read is the one that the words spell
abbrev Spelt : Cursor → Message × Cursor → Type 0
Spelt c q = message_at c.left ≡ q.0

-- what the words say of a part with a message
abbrev Says : (Message → Head Message) → Type 0
Says written = (ws : List ℕ) (i : ℕ) (m : Message) → message_at (drop (i + 1) ws) ≡ m → head_at ws (kind_number (written m)) (start_by (written m) i) ≡ written m

ambient-says : Says ambient
unfolding head_at kind_number
ambient-says ws i m e = ap ambient e

action-says : Says action
unfolding head_at kind_number
action-says ws i m e = ap action e

output-says : Says output
unfolding head_at kind_number
output-says ws i m e = ap output e

receipt-says : (ws : List ℕ) (i : ℕ) → head_at ws (kind_number {A = Message} (receipt i)) i ≡ receipt i
unfolding head_at kind_number
receipt-says ws i = refl

spelt-at : (ws : List ℕ) (c : Cursor) (i : ℕ) (q : Message × Cursor) → Spelt c q → CursorAt ws c → c.index ≡ i + 1 → message_at (drop (i + 1) ws) ≡ q.0
spelt-at ws c i q m s e = ap (λ (j : ℕ). message_at (drop j ws)) (sym e) ∙ ap message_at (sym s) ∙ m

-- what reads the messages and the bodies inside a part
abbrev Messages : Type 0
Messages = Cursor → Reading (Message × Cursor)

abbrev Insides : Type 0
Insides = List ℕ → Cursor → Reading (Script × Cursor)

module _ (nest : ℕ) (around : List ℕ) (c : Cursor) where
  guarded-read : (written : Message → Head Message) → Says written → (i : ℕ) (q : Message × Cursor) (r : Script × Cursor) → MessageRead around c q → Spelt c q
      → BodyRead (suc nest) around q.1 r → PartRead nest around c ((record { index = i; head = written q.0 }, r.0), r.1)
  guarded-read written says i q r m l b = record {
    ahead = omega (arith, m.ahead, b.ahead);
    advances = advances-on c q.1 r.1 m.advances b.advances;
    numbers = b.numbers ∙ ap (λ (n : ℕ). n + parts r.0) m.number;
    fewer = omega (arith, m.ahead, m.number, b.fewer);
    numbered = subst (λ (n : ℕ). Numbered n r.0) m.number b.numbered;
    placed = λ ws s. b.placed ws (stands_on ws c q.1 m.advances s);
    low = b.low;
    says = λ ws s e. says ws i q.0 (spelt-at ws c i q l s e);
  }

  receipt-read : (a : List ℕ) (i : ℕ) (r : Script × Cursor) → BodyRead (suc nest) a c r → PartRead nest around c ((record { index = i; head = receipt i }, r.0), r.1)
  receipt-read a i r b = record { ahead = b.ahead; advances = b.advances; numbers = b.numbers; fewer = b.fewer; numbered = b.numbered; placed = b.placed; low = b.low; says = λ ws s e. receipt-says ws i }

  output-read : (i : ℕ) (q : Message × Cursor) → MessageRead around c q → Spelt c q → PartRead nest around c ((record { index = i; head = output q.0 }, close), q.1)
  unfolding total_over
  output-read i q m l = record {
    ahead = m.ahead;
    advances = m.advances;
    numbers = omega (arith, m.number);
    fewer = omega (arith, m.ahead, m.number);
    numbered = tt;
    placed = λ ws s. tt;
    low = λ n l. tt;
    says = λ ws s e. output-says ws i q.0 (spelt-at ws c i q l s e);
  }

  closed-read : (q : ℕ × Cursor) → Next c q → BodyRead nest around c (close, q.1)
  unfolding total_over
  closed-read q n = record { ahead = omega (arith, n.index); advances = next-advances c q n; numbers = omega (arith, n.number); fewer = omega (arith, n.index, n.number); numbered = tt; placed = λ ws s. tt; low = λ n l. tt }

  part-more : (q : ℕ × Cursor) (p : (Written × Script) × Cursor) (r : Script × Cursor)
      → Next c q → PartRead nest around (next_part q.1) p → (p.0.0.index ≡ c.index) × (start_of p.0.0 ≤ c.index + 1) → BodyRead nest around p.1 r → BodyRead nest around c (part c.number p.0.0 p.0.1 r.0, r.1)
  unfolding total_over
  part-more q p r n a i b = record {
    ahead = omega (arith, n.index, a.ahead, b.ahead);
    advances = advances-on c p.1 r.1 (advances-on c q.1 p.1 (next-advances c q n) (record { ahead = a.advances.ahead; within = a.advances.within; tail = a.advances.tail })) b.advances;
    numbers = omega (arith, n.number, a.numbers, b.numbers);
    fewer = omega (arith, n.index, n.number, a.fewer, b.fewer);
    numbered = (
      refl,
      subst (λ (k : ℕ). Numbered k p.0.1) (let e : suc q.1.number ≡ c.number + 1 = omega (arith, n.number) in e) a.numbered,
      subst (λ (k : ℕ). Numbered k r.0) (let e : p.1.number ≡ c.number + 1 + parts p.0.1 = omega (arith, n.number, a.numbers) in e) b.numbered,
    );
    placed = λ ws s.
        let s₁ : CursorAt ws (next_part q.1) = stands_on ws c q.1 (next-advances c q n) s in (
          a.says ws s₁ (let e : q.1.index ≡ p.0.0.index + 1 = omega (arith, n.index, i.0) in e),
          a.placed ws s₁,
          b.placed ws (stands_on ws (next_part q.1) p.1 a.advances s₁),
        );
    low = λ k l. (omega (arith, i.1, n.index, a.ahead, b.ahead), a.low k (omega (arith, b.ahead)), b.low k l);
  }

-- a body that was read was closed at its first word, or has a part there
pub or-close-all : (P : Script × Cursor → Type 0) (w : Option PartWord) (c : Cursor) (k : Reading (Script × Cursor)) → P (close, c) → ((b : Script × Cursor) → k ≡ got b → P b) → (b : Script × Cursor) → or_close w c k ≡ got b → P b
unfolding or_close
or-close-all P (Some Close) c k h f b e = got-all P (close, c) h b e
or-close-all P (Some Ambient) c k h f b e = f b e
or-close-all P (Some Action) c k h f b e = f b e
or-close-all P (Some Receipt) c k h f b e = f b e
or-close-all P (Some Output) c k h f b e = f b e
or-close-all P None c k h f b e = f b e

or-close-cong : (w : Option PartWord) (c : Cursor) (k l : Reading (Script × Cursor)) → k ≡ l → or_close w c k ≡ or_close w c l
or-close-cong w c k l e = ap (λ (x : Reading (Script × Cursor)). or_close w c x) e

-- a part has the index of its word, and its message starts there or behind
module _ (message : Messages) (inside : Insides) (around : List ℕ) (i : ℕ) where
  abbrev At : (Written × Script) × Cursor → Type 0
  At p = (p.0.0.index ≡ i) × (start_of p.0.0 ≤ i + 1)

  guarded-index : (written : Message → Head Message) → ((m : Message) → start_by (written m) i ≤ i + 1) → (c : Cursor) (p : (Written × Script) × Cursor) → guarded_from written message inside around i c ≡ got p → At p
  guarded-index written low c = bind_all At (message c) _ (λ q _. bind_all At (inside around q.1) _ (λ r _. got-all At _ (refl, low q.0)))

  part-index : (w : Option PartWord) (c : Cursor) (p : (Written × Script) × Cursor) → part_from message inside around w i c ≡ got p → At p
  unfolding part_from
  part-index (Some Ambient) c p e = guarded-index ambient (λ m. omega arith) c p e
  part-index (Some Action) c p e = guarded-index action (λ m. omega arith) c p e
  part-index (Some Receipt) c p e = bind_all At (inside (i ∷ around) c) _ (λ r _. got-all At _ (refl, omega arith)) p e
  part-index (Some Output) c p e = bind_all At (message c) _ (λ q _. got-all At _ (refl, omega arith)) p e
  part-index (Some Close) c p e = refuse≢got e
  part-index None c p e = refuse≢got e

module _ (nest : ℕ) (around : List ℕ) (message : Messages) (inside : Insides)
    (hm : (c : Cursor) (p : Message × Cursor) → message c ≡ got p → MessageRead around c p)
    (hs : (c : Cursor) (p : Message × Cursor) → message c ≡ got p → Spelt c p)
    (hb : (a : List ℕ) (c : Cursor) (p : Script × Cursor) → inside a c ≡ got p → BodyRead (suc nest) a c p) where
  guarded-advances : (written : Message → Head Message) → Says written → (i : ℕ) (c : Cursor) (p : (Written × Script) × Cursor) → guarded_from written message inside around i c ≡ got p → PartRead nest around c p
  guarded-advances written says i c =
      bind_all (PartRead nest around c) (message c) _
      (λ q e₁. bind_all (PartRead nest around c) (inside around q.1) _
      (λ r e₂. got-all (PartRead nest around c) _ (guarded-read nest around c written says i q r (hm c q e₁) (hs c q e₁) (hb around q.1 r e₂))))

  part-advances : (w : Option PartWord) (i : ℕ) (c : Cursor) (p : (Written × Script) × Cursor) → part_from message inside around w i c ≡ got p → PartRead nest around c p
  unfolding part_from
  part-advances (Some Ambient) i c p e = guarded-advances ambient ambient-says i c p e
  part-advances (Some Action) i c p e = guarded-advances action action-says i c p e
  part-advances (Some Receipt) i c p e =
      bind_all (PartRead nest around c) (inside (i ∷ around) c) _ (λ r e₁. got-all (PartRead nest around c) _ (receipt-read nest around c (i ∷ around) i r (hb (i ∷ around) c r e₁))) p e
  part-advances (Some Output) i c p e =
      bind_all (PartRead nest around c) (message c) _ (λ q e₁. got-all (PartRead nest around c) _ (output-read nest around c i q (hm c q e₁) (hs c q e₁))) p e
  part-advances (Some Close) i c p e = refuse≢got e
  part-advances None i c p e = refuse≢got e

pub body-advances : (f nest : ℕ) (around : List ℕ) (c : Cursor) (p : Script × Cursor) → read_body f nest around c ≡ got p → BodyRead nest around c p
unfolding read_body
body-advances zero nest around c p e = refuse≢got e
body-advances (suc f) nest around c p e =
    bind_all (BodyRead nest around c) (next_word 5 c) _
    (λ q e₁. bind_all (BodyRead nest around c) (ask 2 c.index (part_fits (part_word q.0))) _
    (λ _ _. bind_all (BodyRead nest around c) (ask 4 c.index (leb nest 64)) _
    (λ _ _. or-close-all (BodyRead nest around c) (part_word q.0) q.1 _ (closed-read nest around c q (next 5 c q e₁))
    (bind_all (BodyRead nest around c) (part_from (read_message f nest around) (read_body f (suc nest)) around (part_word q.0) c.index (next_part q.1)) _
    (λ p e₂. bind_all (BodyRead nest around c) (read_body f nest around p.1) _
    (λ r e₃. got-all (BodyRead nest around c) _
    (part-more nest around c q p r (next 5 c q e₁)
    (part-advances nest around (read_message f nest around) (read_body f (suc nest)) (message-advances f nest around) (read-message f nest around) (body-advances f (suc nest)) (part_word q.0) c.index (next_part q.1) p e₂)
    (part-index (read_message f nest around) (read_body f (suc nest)) around c.index (part_word q.0) (next_part q.1) p e₂)
    (body-advances f nest around p.1 r e₃)))))))) p e

pub part-read : (f nest : ℕ) (around : List ℕ) (w : Option PartWord) (i : ℕ) (c : Cursor) (p : (Written × Script) × Cursor)
    → part_from (read_message f nest around) (read_body f (suc nest)) around w i c ≡ got p → PartRead nest around c p
part-read f nest around = part-advances nest around (read_message f nest around) (read_body f (suc nest)) (message-advances f nest around) (read-message f nest around) (body-advances f (suc nest))

-- the part reader with messages and bodies read alike where at most n words are left
module _ (around : List ℕ) (n : ℕ) (m m' : Messages) (b b' : Insides)
    (hm : (c : Cursor) (p : Message × Cursor) → m c ≡ got p → MessageRead around c p)
    (am : (c : Cursor) → length c.left ≤ n → m c ≡ m' c)
    (ab : (a : List ℕ) (c : Cursor) → length c.left ≤ n → b a c ≡ b' a c) where
  guarded-agree : (written : Message → Head Message) (i : ℕ) (c : Cursor) → length c.left ≤ n → guarded_from written m b around i c ≡ guarded_from written m' b' around i c
  guarded-agree written i c l = rw (← am c l) (bind-cong (m c) _ _ (λ q e. rw (ab around q.1 (omega (arith, advances-shorter c q.1 (hm c q e).advances)))))

  part-agree : (w : Option PartWord) (i : ℕ) (c : Cursor) → length c.left ≤ n → part_from m b around w i c ≡ part_from m' b' around w i c
  unfolding part_from
  part-agree (Some Ambient) i c l = guarded-agree ambient i c l
  part-agree (Some Action) i c l = guarded-agree action i c l
  part-agree (Some Receipt) i c l = rw (ab (i ∷ around) c l)
  part-agree (Some Output) i c l = rw (am c l)
  part-agree (Some Close) i c l = refl
  part-agree None i c l = refl

-- As much fuel as there are words is enough, and more changes nothing.
pub body-fuel : (f g nest : ℕ) (around : List ℕ) (c : Cursor) → length c.left ≤ f → length c.left ≤ g → read_body f nest around c ≡ read_body g nest around c
unfolding read_body
body-fuel zero zero nest around c hf hg = refl
body-fuel zero (suc g) nest around c hf hg = sym (bind-refuse _ _ 5 c.index (next-end 5 c (omega arith)))
body-fuel (suc f) zero nest around c hf hg = bind-refuse _ _ 5 c.index (next-end 5 c (omega arith))
body-fuel (suc f) (suc g) nest around c hf hg =
    bind-cong (next_word 5 c) _ _ (λ w e. bind-cong _ _ _ (λ _ _. bind-cong _ _ _ (λ _ _.
    let l : length w.1.left ≤ f = omega (arith, next-shorter c w (next 5 c w e)) in
    let k : length w.1.left ≤ g = omega (arith, next-shorter c w (next 5 c w e)) in
    or-close-cong (part_word w.0) w.1 _ _
    (bind-cong (part_from (read_message f nest around) (read_body f (suc nest)) around (part_word w.0) c.index (next_part w.1)) _ _
    (λ p e₁.
    let h : length p.1.left ≤ length w.1.left = advances-shorter (next_part w.1) p.1 (part-read f nest around (part_word w.0) c.index (next_part w.1) p e₁).advances in
    ap (λ (x : Reading (Script × Cursor)). x >>= λ r. got (part c.number p.0.0 p.0.1 r.0, r.1))
    (body-fuel f g nest around p.1 (omega arith) (omega arith)))
    ∙ ap (λ (x : Reading ((Written × Script) × Cursor)). x >>= λ p. read_body g nest around p.1 >>= λ r. got (part c.number p.0.0 p.0.1 r.0, r.1))
    (part-agree around (length w.1.left) _ _ _ _ (message-advances f nest around)
    (λ d h. message-fuel f g nest around d (omega arith) (omega arith))
    (λ a d h. body-fuel f g (suc nest) a d (omega arith) (omega arith))
    (part_word w.0) c.index (next_part w.1) (omega arith))))))

-- a script that question 1 lets pass has at most 1,024 words
pub short : (ws : List ℕ) (u : Unit {0}) → ask 1 0 (leb 1 (length ws) && leb (length ws) 1024) ≡ got u → length ws ≤ 1024
short ws u e = leb-true (length ws) 1024 ((and-eq-true_iff (leb 1 (length ws)) (leb (length ws) 1024)).0 (ask-inv 1 0 _ u e)).1

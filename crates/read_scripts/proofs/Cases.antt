-- What holds of every body that is read: shown by a case for each kind of part. Assumes nothing.
use Prim.Native.Nat.{ℕ, zero, suc}
use mathlib.Core.List.{List, [], ◌∷◌}
use mathlib.Core.Path.{◌≡◌}
use mathlib.Core.Bool.{◌&&◌}
use lib.Dec.{leb}
use lib.ListN.{length}
use Rattle.read_messages.specs.Reading.{Cursor, cursor, got, ask, next_word, next_part, is_empty}
use Rattle.read_messages.specs.Message.{Message}
use Rattle.read_messages.specs.ReadMessage.{read_message}
use Rattle.read_messages.proofs.Readings.{refuse≢got, bind_all, got-all, Next, next}
use Rattle.read_scripts.specs.Tree.{Head, ambient, action, receipt, output, close, part}
use Rattle.read_scripts.specs.Script.{Written, Script, part_from, read_body, read_script}
use Rattle.read_script_words.specs.ScriptWords.{part_word, part_fits}
use Rattle.std.specs.Prelude.{Option, Some, None}
use Rattle.read_script_words.specs.declared.PartWord.{PartWord}
use Rattle.read_script_words.specs.declared.PartWord.TheVariants.{Close, Ambient, Action, Receipt, Output}
use Rattle.read_scripts.proofs.Laws.{or-close-all}

-- a part as it is written at an index
abbrev pub at : ℕ → Head Message → Written
at i h = record { index = i; head = h }

-- The cases of a claim B about bodies that are read, M being known of messages that are read: `around` are the receipts
-- around, c is the cursor at the first word, and p is what was read with the cursor behind it.
pub record Cases (M : List ℕ → Cursor → Message × Cursor → Type 0) (B : List ℕ → Cursor → Script × Cursor → Type 0) : Type 0 where
  pub messages : (f nest : ℕ) (around : List ℕ) (c : Cursor) (p : Message × Cursor) → read_message f nest around c ≡ got p → M around c p
  pub closed : (around : List ℕ) (c : Cursor) (q : ℕ × Cursor) → Next c q → B around c (close, q.1)
  pub ambients : (around : List ℕ) (c : Cursor) (q : ℕ × Cursor) (m : Message × Cursor) (b r : Script × Cursor)
      → Next c q → M around (next_part q.1) m → B around m.1 b → B around b.1 r
      → B around c (part c.number (at c.index (ambient m.0)) b.0 r.0, r.1)
  pub actions : (around : List ℕ) (c : Cursor) (q : ℕ × Cursor) (m : Message × Cursor) (b r : Script × Cursor)
      → Next c q → M around (next_part q.1) m → B around m.1 b → B around b.1 r
      → B around c (part c.number (at c.index (action m.0)) b.0 r.0, r.1)
  pub receipts : (around : List ℕ) (c : Cursor) (q : ℕ × Cursor) (b r : Script × Cursor)
      → Next c q → B (c.index ∷ around) (next_part q.1) b → B around b.1 r
      → B around c (part c.number (at c.index (receipt c.index)) b.0 r.0, r.1)
  pub outputs : (around : List ℕ) (c : Cursor) (q : ℕ × Cursor) (m : Message × Cursor) (r : Script × Cursor)
      → Next c q → M around (next_part q.1) m → B around m.1 r
      → B around c (part c.number (at c.index (output m.0)) close r.0, r.1)

module _ (M : List ℕ → Cursor → Message × Cursor → Type 0) (B : List ℕ → Cursor → Script × Cursor → Type 0) (cases : Cases M B) where
  -- a part that was read, with what stands behind it
  module _ (f nest : ℕ) (around : List ℕ) (c : Cursor) (q : ℕ × Cursor) (n : Next c q) (inside : (a : List ℕ) (d : Cursor) (p : Script × Cursor) → read_body f (suc nest) a d ≡ got p → B a d p) where
    Whole : (Written × Script) × Cursor → Type 0
    Whole p = (r : Script × Cursor) → B around p.1 r → B around c (part c.number p.0.0 p.0.1 r.0, r.1)

    part-case : (w : Option PartWord) (p : (Written × Script) × Cursor)
        → part_from (read_message f nest around) (read_body f (suc nest)) around w c.index (next_part q.1) ≡ got p → Whole p
    unfolding part_from Whole
    part-case (Some Ambient) =
        bind_all Whole (read_message f nest around (next_part q.1)) _
        (λ m e. bind_all Whole (read_body f (suc nest) around m.1) _
        (λ b d. got-all Whole _ (λ r h. cases.ambients around c q m b r n (cases.messages f nest around _ m e) (inside around m.1 b d) h)))
    part-case (Some Action) =
        bind_all Whole (read_message f nest around (next_part q.1)) _
        (λ m e. bind_all Whole (read_body f (suc nest) around m.1) _
        (λ b d. got-all Whole _ (λ r h. cases.actions around c q m b r n (cases.messages f nest around _ m e) (inside around m.1 b d) h)))
    part-case (Some Receipt) =
        bind_all Whole (read_body f (suc nest) (c.index ∷ around) (next_part q.1)) _
        (λ b d. got-all Whole _ (λ r h. cases.receipts around c q b r n (inside (c.index ∷ around) (next_part q.1) b d) h))
    part-case (Some Output) =
        bind_all Whole (read_message f nest around (next_part q.1)) _
        (λ m e. got-all Whole _ (λ r h. cases.outputs around c q m r n (cases.messages f nest around _ m e) h))
    part-case (Some Close) = λ p e. refuse≢got e
    part-case None = λ p e. refuse≢got e

  -- THEOREM: the cases are all.
  pub body-case : (f nest : ℕ) (around : List ℕ) (c : Cursor) (p : Script × Cursor) → read_body f nest around c ≡ got p → B around c p
  unfolding read_body Whole
  body-case zero nest around c = λ p e. refuse≢got e
  body-case (suc f) nest around c =
      bind_all (B around c) (next_word 5 c) _
      (λ q e₁. bind_all (B around c) (ask 2 c.index (part_fits (part_word q.0))) _
      (λ _ _. bind_all (B around c) (ask 4 c.index (leb nest 64)) _
      (λ _ _. or-close-all (B around c) (part_word q.0) q.1 _ (cases.closed around c q (next 5 c q e₁))
      (bind_all (B around c) (part_from (read_message f nest around) (read_body f (suc nest)) around (part_word q.0) c.index (next_part q.1)) _
      (λ p e₂. bind_all (B around c) (read_body f nest around p.1) _
      (λ r e₃. got-all (B around c) _ (part-case f nest around c q (next 5 c q e₁) (body-case f (suc nest)) (part_word q.0) p e₂ r (body-case f nest around p.1 r e₃))))))))

  -- and so of every script that is read
  pub script-case : (ws : List ℕ) (p : Script × Cursor) → read_script ws ≡ got p → B [] (cursor 0 0 ws) p
  unfolding read_script
  script-case ws =
      bind_all (B [] (cursor 0 0 ws)) (ask 1 0 (leb 1 (length ws) && leb (length ws) 1024)) _
      (λ _ _. bind_all (B [] (cursor 0 0 ws)) (read_body (length ws) 0 [] (cursor 0 0 ws)) _
      (λ q e. bind_all (B [] (cursor 0 0 ws)) (ask 5 q.1.index (is_empty q.1.left)) _
      (λ _ _. bind_all (B [] (cursor 0 0 ws)) (ask 6 0 (leb q.1.number 64)) _
      (λ _ _. got-all (B [] (cursor 0 0 ws)) q (body-case (length ws) 0 [] (cursor 0 0 ws) q e)))))

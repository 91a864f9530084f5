-- Where the reader of scripts refuses: at a place that is at most 1,024. Assumes nothing.
use Prim.Native.Nat.{ℕ, zero, suc, ◌≤◌}
use mathlib.Core.Bool.{◌&&◌}
use mathlib.Core.List.{List, [], ◌∷◌}
use mathlib.Core.Path.{◌≡◌}
use native.Mathlib.Omega.{arith}
use lib.Dec.{leb}
use lib.ListN.{length}
use Rattle.read_messages.specs.Reading.{Cursor, cursor, Reading, got, ask, next_word, next_part, is_empty}
use Rattle.read_messages.specs.Message.{Message}
use Rattle.read_messages.specs.ReadMessage.{read_message}
use Rattle.read_messages.proofs.Laws.{MessageRead, message-advances}
use Rattle.read_messages.proofs.Places.{Within, bind-within, ask-within, Ends, ends_on, next-within, next-ends, message-within}
use Rattle.read_scripts.specs.Tree.{Head, ambient, action}
use Rattle.read_scripts.specs.Script.{Script, guarded_from, part_from, or_close, read_body, read_script}
use Rattle.read_script_words.specs.ScriptWords.{part_word, part_fits}
use Rattle.std.specs.Prelude.{Option, Some, None}
use Rattle.read_script_words.specs.declared.PartWord.{PartWord}
use Rattle.read_script_words.specs.declared.PartWord.TheVariants.{Close, Ambient, Action, Receipt, Output}
use Rattle.read_scripts.proofs.Laws.{body-advances, part-read, short}

-- a part, by its message and the body inside it
module _ (x : ℕ) (around : List ℕ) (message : Cursor → Reading (Message × Cursor)) (inside : List ℕ → Cursor → Reading (Script × Cursor))
    (h : (c : Cursor) (p : Message × Cursor) → message c ≡ got p → MessageRead around c p)
    (m : (c : Cursor) → Ends x c → Within x (message c)) (b : (a : List ℕ) (c : Cursor) → Ends x c → Within x (inside a c)) where
  guarded-within : (written : Message → Head Message) (i : ℕ) (c : Cursor) → Ends x c → Within x (guarded_from written message inside around i c)
  guarded-within written i c l =
      bind-within x (message c) _ (m c l)
      (λ q e. bind-within x (inside around q.1) _ (b around q.1 (ends_on x c q.1 (h c q e).advances l)) (λ r d. tt))

  part-within : (w : Option PartWord) (i : ℕ) (c : Cursor) → i ≤ x → Ends x c → Within x (part_from message inside around w i c)
  unfolding part_from
  part-within (Some Ambient) i c k l = guarded-within ambient i c l
  part-within (Some Action) i c k l = guarded-within action i c l
  part-within (Some Receipt) i c k l = bind-within x (inside (i ∷ around) c) _ (b (i ∷ around) c l) (λ r d. tt)
  part-within (Some Output) i c k l = bind-within x (message c) _ (m c l) (λ q e. tt)
  part-within (Some Close) i c k l = k
  part-within None i c k l = k

or-close-within : (x : ℕ) (w : Option PartWord) (c : Cursor) (r : Reading (Script × Cursor)) → Within x r → Within x (or_close w c r)
unfolding or_close
or-close-within x (Some Close) c r h = tt
or-close-within x (Some Ambient) c r h = h
or-close-within x (Some Action) c r h = h
or-close-within x (Some Receipt) c r h = h
or-close-within x (Some Output) c r h = h
or-close-within x None c r h = h

-- a body is refused where the words end or sooner
body-within : (x f nest : ℕ) (around : List ℕ) (c : Cursor) → Ends x c → Within x (read_body f nest around c)
unfolding read_body
body-within x zero nest around c l = omega arith
body-within x (suc f) nest around c l =
    bind-within x (next_word 5 c) _ (next-within x 5 c l)
    (λ q e. bind-within x (ask 2 c.index (part_fits (part_word q.0))) _ (ask-within x 2 c.index _ (omega arith))
    (λ _ _. bind-within x (ask 4 c.index (leb nest 64)) _ (ask-within x 4 c.index _ (omega arith))
    (λ _ _.
    let k : Ends x q.1 = next-ends x 5 c q e l in
    or-close-within x (part_word q.0) q.1 _
    (bind-within x (part_from (read_message f nest around) (read_body f (suc nest)) around (part_word q.0) c.index (next_part q.1)) _
    (part-within x around (read_message f nest around) (read_body f (suc nest)) (message-advances f nest around) (message-within x f nest around) (body-within x f (suc nest)) (part_word q.0) c.index (next_part q.1) (omega arith) k)
    (λ p d. bind-within x (read_body f nest around p.1) _
    (body-within x f nest around p.1 (ends_on x (next_part q.1) p.1 (part-read f nest around (part_word q.0) c.index (next_part q.1) p d).advances k)) (λ r _. tt))))))

-- THEOREM: a script is refused at a place that is at most 1,024.
pub script-within : (ws : List ℕ) → Within 1024 (read_script ws)
unfolding read_script
script-within ws =
    bind-within 1024 (ask 1 0 (leb 1 (length ws) && leb (length ws) 1024)) _ (ask-within 1024 1 0 _ (omega arith))
    (λ u e₁.
    let few : length ws ≤ 1024 = short ws u e₁ in
    bind-within 1024 (read_body (length ws) 0 [] (cursor 0 0 ws)) _ (body-within 1024 (length ws) 0 [] (cursor 0 0 ws) (omega arith))
    (λ q e. bind-within 1024 (ask 5 q.1.index (is_empty q.1.left)) _
    (ask-within 1024 5 q.1.index _ (omega (arith, (body-advances (length ws) 0 [] (cursor 0 0 ws) q e).advances.within)))
    (λ _ _. bind-within 1024 (ask 6 0 (leb q.1.number 64)) _ (ask-within 1024 6 0 _ (omega arith)) (λ _ _. tt))))

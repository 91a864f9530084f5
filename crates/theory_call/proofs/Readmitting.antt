-- Of the words of a tree that stands, no question but 1 (too many words) and 4 (nested too deep) is answered by no: the names
-- fit, each VAR names a REC around it, the body ends at the last word, and there are no more parts than the script has. And
-- these two are just where there are more than 1,024 words, or where the tree's nesting is above 64. Assumes nothing.
use Prim.Native.Nat.{ℕ, zero, suc, ◌+◌, ◌*◌, ◌≤◌, ◌<◌, max}
use mathlib.Core.Bool.{Bool, true, ◌&&◌, false≢true}
use mathlib.Core.List.{List, [], ◌∷◌, ◌++◌, append-nil, append_assoc}
use mathlib.Core.Path.{◌≡◌, refl, sym, ap, ◌∙◌, subst}
use mathlib.Core.Logic.{inl, inr}
use native.Mathlib.Omega.{arith}
use lib.Dec.{leb, eqb}
use lib.ListN.{length, length-append, take}
use borrow.Author.Tests.{leb-true, leb-false, le-leb}
use Rattle.read_messages.specs.Words.{kind, operand, word, name_fits, member}
use Rattle.read_messages.specs.Reading.{Cursor, cursor, Reading, refuse, got, ◌>>=◌, ask, take_word, next_word, next_part, is_empty}
use Rattle.read_messages.specs.Message.{Message, name, variable, enter, exit, opens, empty_message, path, mentions}
use Rattle.read_messages.specs.ReadMessage.{if_zero, message_kind, message_word, word_fits, bound, message_from, read_message}
use Rattle.read_messages.specs.declared.MessageWord.{MessageWord}
use Rattle.read_messages.specs.declared.MessageWord.TheVariants.{Name, Variable, Enter, Exit, Open, Empty, Path, Unfit}
use Rattle.read_messages.proofs.Readings.{refuse≢got, bind_all, bind-got, bind-refuse, got-all, ask-yes, ask-no}
use Rattle.read_messages.proofs.Cases as message
use Rattle.read_scripts.specs.Tree.{Head, close, part, parts, bare, settle, PlainHead, Plain}
use Rattle.read_scripts.specs.Script.{Written, Script, part_from, or_close, read_body, read_script, head_with_items, with_items, started}
use Rattle.read_script_words.specs.ScriptWords.{part_word}
use Rattle.read_script_words.specs.ScriptWords as script
use Rattle.std.specs.Prelude.{Option, Some}
use Rattle.read_script_words.specs.declared.PartWord.{PartWord}
use Rattle.read_script_words.specs.declared.PartWord.TheVariants.{Close, Receipt, Output}
use Rattle.read_scripts.proofs.Cases as body
use Rattle.read_scripts.proofs.Laws.{body-advances}
use Rattle.read_scripts.proofs.Tabled.{script-tabled}
use Rattle.theory_machine.specs.PlainMachine.{Machine, weight_of}
use Rattle.base_slices.proofs.Tests.{by_test, eqb_same, or_right}
use Rattle.theory_machine.proofs.Everywhere.{Everywhere, map-everywhere, settle-everywhere}
use Rattle.theory_written_trees.specs.Write.{Indices, new_index, write_message, write}
use Rattle.theory_written_trees.proofs.Trees.{some_written, receipt-written, output-written, new-hit, new-miss}
use Rattle.theory_calculus.specs.Calculus.{Process, input}
use Rattle.theory_calculus.specs.TreeProcess.{piece, process}
use Rattle.theory_calculus.proofs.Variables.{free, free_other}
use Rattle.theory_calculus.proofs.Substitutions.{Closed}
use Rattle.theory_calculus.proofs.Kept.{Good, good-move}
use Rattle.theory_decision.proofs.Fits.{MessageAll, message-more, Fit, Fits, fits_more, move-fits}
use Rattle.theory_call.specs.Call.{Call, begun, standing_words}
use Rattle.theory_call.specs.Nesting.{message_nesting, part_nesting, nesting}
use Rattle.theory_call.specs.Standing.{After, LetIn, Readmits, Admits}
use Rattle.theory_call.proofs.Runs.{run-keeps, run-weighed}
use Rattle.theory_call.proofs.Begun.{script-good}
use Rattle.theory_call.proofs.Door.{Inked, held_all}
use Rattle.theory_call.proofs.Parts.{behind, Laid, laid, whole-all, IsPart, Guarded, ambient-guarded, action-guarded}
use Rattle.theory_call.proofs.Rereading.{Fitting, Small, name-word, variable-word, enter-word, exit-word, open-word, empty-word, path-word, message-back}
use Rattle.theory_call.proofs.Returning.{close-word, part-all, AnyBack, body_back, small-more}

-- ---- the names

-- "8 NAME, operand 1 to 255"
abbrev Sound : ℕ → Type 0
Sound n = name_fits n ≡ true

sound-fits : (n : ℕ) → Sound n → Fitting n
unfolding name_fits
sound-fits n h = by_test (leb n 255) (λ t. omega (arith, leb-true n 255 t)) (λ t. by_test (leb 1 n) (λ u. absurd (false≢true (rw (u, t) at h))) (λ u. absurd (false≢true (rw u at h))))

abbrev SoundWord : MessageWord → Type 0
SoundWord (Name n) = Sound n
SoundWord (Variable v) = Unit {0}
SoundWord Enter = Unit {0}
SoundWord Exit = Unit {0}
SoundWord Open = Unit {0}
SoundWord Empty = Unit {0}
SoundWord Path = Unit {0}
SoundWord Unfit = Unit {0}

zero-sound : (o : ℕ) (w : MessageWord) → SoundWord w → SoundWord (if_zero o w)
zero-sound o w x = by_test (eqb o 0) (λ t. rw t x) (λ t. rw t tt)

kind-sound : (k o : ℕ) → SoundWord (message_kind k o)
kind-sound k o =
    by_test (eqb k 8) (λ t. rw t (by_test (name_fits o) (λ u. rw u u) (λ u. rw u tt)))
    (λ t₈. rw t₈ (by_test (eqb k 9) (λ t. rw t tt)
    (λ t₉. rw t₉ (by_test (eqb k 10) (λ t. rw t (zero-sound o Enter tt))
    (λ t₁. rw t₁ (by_test (eqb k 11) (λ t. rw t (zero-sound o Exit tt))
    (λ t₂. rw t₂ (by_test (eqb k 12) (λ t. rw t (zero-sound o Open tt))
    (λ t₃. rw t₃ (by_test (eqb k 13) (λ t. rw t (zero-sound o Empty tt))
    (λ t₄. rw t₄ (by_test (eqb k 14) (λ t. rw t (zero-sound o Path tt)) (λ t₅. rw t₅ tt)))))))))))))

word_sound : (w n : ℕ) → message_word w ≡ Name n → Sound n
unfolding message_word
word_sound w n e = subst SoundWord e (kind-sound (kind w) (operand w))

abbrev SoundMessage : List ℕ → Cursor → Message × Cursor → Type 0
SoundMessage around c p = MessageAll Sound p.0

message-sound : message.Cases SoundMessage
message-sound = record {
  names = λ around c q n x e. word_sound q.0 n e;
  variables = λ around c q v x e. tt;
  wraps = λ around c q p x h. (h, h, h);
  empties = λ around c q x. tt;
  paths = λ around c q p r x h g. (h, g);
}

-- every number will do
abbrev Any : ℕ → Type 0
Any k = Unit {0}

abbrev SoundBody : List ℕ → Cursor → Script × Cursor → Type 0
SoundBody around c p = Everywhere (Inked Any Sound) p.0

body-sound : body.Cases SoundMessage SoundBody
body-sound = record {
  messages = message.message-case SoundMessage message-sound;
  closed = λ around c q x. tt;
  ambients = λ around c q m b r x h g f. ((tt, h), g, f);
  actions = λ around c q m b r x h g f. ((tt, h), g, f);
  receipts = λ around c q b r x g f. ((tt, tt), g, f);
  outputs = λ around c q m r x h f. ((tt, h), tt, f);
}

-- THEOREM: every name in the tree that a script begins with is 1 to 255.
pub script-sound : (ws : List ℕ) (p : Script × Cursor) → read_script ws ≡ got p → Fits Any Sound (started p.0)
unfolding started with_items settle
script-sound ws p e =
    settle-everywhere (Fit Any Sound) bare (with_items p.0)
    (map-everywhere (Inked Any Sound) (Fit Any Sound) (λ (w : Written). head_with_items w.head) (λ k w x. (tt, held_all Sound w.head x.1)) p.0
    (body.script-case SoundMessage SoundBody body-sound ws p e))

-- ---- judgements

-- What becomes of words whose greatest nesting is n: of questions 2 to 5 only question 4 can be answered by no, and it is just
-- where n is above 64.
data Judged {A : Type 0} (n : ℕ) : Reading A → Type 0 where
  denied : {j : ℕ} → 64 < n → Judged n (refuse 4 j)
  passed : {a : A} → n ≤ 64 → Judged n (got a)

-- words beside others that are nested less deep
judged-wider : {A : Type 0} (a b n : ℕ) → n ≡ max a b → a ≤ 64 → {x : Reading A} → Judged b x → Judged n x
judged-wider a b n e l (denied h) = denied (omega arith)
judged-wider a b n e l (passed h) = passed (omega arith)

-- words and the words behind them
judged-then : {A B : Type 0} (a b n : ℕ) → n ≡ max a b → (x : Reading A) (k : A → Reading B) → Judged a x → ((v : A) → x ≡ got v → a ≤ 64 → Judged b (k v)) → Judged n (x >>= k)
unfolding ◌>>=◌
judged-then a b n e x k (denied h) f = denied (omega arith)
judged-then a b n e x k (passed {a = v} h) f = judged-wider a b n e h (f v refl h)

-- what is made of what is read
judged-last : {A B : Type 0} (a n : ℕ) → n ≡ a → (x : Reading A) (F : A → B) → Judged a x → Judged n (x >>= λ v. got (F v))
judged-last a n e x F h = judged-then a 0 n (omega arith) x (λ v. got (F v)) h (λ v d l. passed (omega arith))

-- a question that is answered by yes
judged-asked : {B : Type 0} (n q i : ℕ) (t : Bool) (k : Unit {0} → Reading B) → t ≡ true → Judged n (k tt) → Judged n (ask q i t >>= k)
judged-asked n q i t k e h = subst (Judged n) (sym (bind-got (ask q i t) k tt (ask-yes q i t e))) h

-- "4. Is nesting at most 64?"
judged-level : (nest i : ℕ) → Judged nest (ask 4 i (leb nest 64))
unfolding ask
judged-level nest i = by_test (leb nest 64) (λ t. rw t (passed (leb-true nest 64 t))) (λ t. rw t (denied (leb-false nest 64 t)))

-- a word that is there
judged-word : {B : Type 0} (n : ℕ) (c : Cursor) (w : ℕ) (ws : List ℕ) (k : ℕ × Cursor → Reading B) → c.left ≡ w ∷ ws → Judged n (k (w, cursor (suc c.index) c.number ws)) → Judged n (next_word 5 c >>= k)
unfolding take_word
judged-word n c w ws k e h = subst (Judged n) (sym (bind-got (next_word 5 c) k (w, cursor (suc c.index) c.number ws) (rw e))) h

-- ---- messages

-- a message whose first word is known to fit and to be bound
message-first : (f nest n : ℕ) → nest ≤ n → (around : List ℕ) (c : Cursor) (w : ℕ) (ws : List ℕ) → c.left ≡ w ∷ ws → length c.left ≤ f → word_fits (message_word w) ≡ true → bound around (message_word w) ≡ true
    → ((g : ℕ) (d : Cursor) → d.left ≡ ws → length d.left ≤ g → nest ≤ 64 → Judged n (message_from (read_message g (suc nest) around) (message_word w) d))
    → Judged n (read_message f nest around c)
unfolding read_message
message-first zero nest n o around c w ws e l t u h = absurd (let z : ⊥ = omega (arith, ap length e) in z)
message-first (suc f) nest n o around c w ws e l t u h =
    let s : length ws ≤ f = omega (arith, ap length e) in
    judged-word n c w ws _ e
    (judged-asked n 2 c.index (word_fits (message_word w)) _ t
    (judged-asked n 3 c.index (bound around (message_word w)) _ u
    (judged-then nest n n (omega arith) (ask 4 c.index (leb nest 64)) _ (judged-level nest c.index)
    (λ _ _ m. h f (cursor (suc c.index) c.number ws) refl s m))))

sound-message : (m : Message) → MessageAll Sound m → MessageAll Fitting m
sound-message m x = message-more Sound Fitting sound-fits m x

-- THEOREM: the words of a message whose variables' receipts stand around are judged by its nesting.
message-only : (ix : Indices) → Small ix → (around : List ℕ) (m : Message) → MessageAll Sound m → ((v : ℕ) → ¬ (mentions v m ≡ 0) → member (new_index ix v) around ≡ true)
    → (f nest : ℕ) (c : Cursor) (rest : List ℕ) → c.left ≡ write_message ix m ++ rest → length c.left ≤ f → Judged (nest + message_nesting m) (read_message f nest around c)
unfolding write_message message_from word_fits bound mentions message_nesting
message-only ix s around (name n) a b f nest c rest e l =
    let z : message_word (word 8 n) ≡ Name n = name-word n (sound-fits n a) ∙ rw a in
    message-first f nest (nest + message_nesting (name n)) (omega arith) around c (word 8 n) rest e l (rw z refl) (rw z refl) (λ g d dl k o. rw z (passed (omega arith)))
message-only ix s around (variable v) a b f nest c rest e l =
    let z : message_word (word 9 (new_index ix v)) ≡ Variable (new_index ix v) = variable-word (new_index ix v) (s v) in
    let w : member (new_index ix v) around ≡ true = b v (λ y. let o : ◌≡◌ {A = ℕ} 1 0 = rw (eqb_same v) at y in absurd (let u : ⊥ = omega arith in u)) in
    message-first f nest (nest + message_nesting (variable v)) (omega arith) around c (word 9 (new_index ix v)) rest e l (rw z refl) (rw z w) (λ g d dl k o. rw z (passed (omega arith)))
message-only ix s around (enter m) a b f nest c rest e l =
    message-first f nest (nest + message_nesting (enter m)) (omega arith) around c (word 10 0) (write_message ix m ++ rest) e l (rw enter-word refl) (rw enter-word refl)
    (λ g d dl k o. rw enter-word (judged-last (suc nest + message_nesting m) _ (omega arith) (read_message g (suc nest) around d) (λ p. (enter p.0, p.1)) (message-only ix s around m a b g (suc nest) d rest dl k)))
message-only ix s around (exit m) a b f nest c rest e l =
    message-first f nest (nest + message_nesting (exit m)) (omega arith) around c (word 11 0) (write_message ix m ++ rest) e l (rw exit-word refl) (rw exit-word refl)
    (λ g d dl k o. rw exit-word (judged-last (suc nest + message_nesting m) _ (omega arith) (read_message g (suc nest) around d) (λ p. (exit p.0, p.1)) (message-only ix s around m a b g (suc nest) d rest dl k)))
message-only ix s around (opens m) a b f nest c rest e l =
    message-first f nest (nest + message_nesting (opens m)) (omega arith) around c (word 12 0) (write_message ix m ++ rest) e l (rw open-word refl) (rw open-word refl)
    (λ g d dl k o. rw open-word (judged-last (suc nest + message_nesting m) _ (omega arith) (read_message g (suc nest) around d) (λ p. (opens p.0, p.1)) (message-only ix s around m a b g (suc nest) d rest dl k)))
message-only ix s around empty_message a b f nest c rest e l =
    message-first f nest (nest + message_nesting empty_message) (omega arith) around c (word 13 0) rest e l (rw empty-word refl) (rw empty-word refl) (λ g d dl k o. rw empty-word (passed (omega arith)))
message-only ix s around (path m n) a b f nest c rest e l =
    message-first f nest (nest + message_nesting (path m n)) (omega arith) around c (word 14 0) (write_message ix m ++ (write_message ix n ++ rest))
    (e ∙ ap (λ (o : List ℕ). word 14 0 ∷ o) (append_assoc (write_message ix m) (write_message ix n) rest)) l (rw path-word refl) (rw path-word refl)
    (λ g d dl k o. rw path-word
    (judged-then (suc nest + message_nesting m) (suc nest + message_nesting n) _ (omega arith) (read_message g (suc nest) around d) _
    (message-only ix s around m a.0 (λ v o. b v (λ z. o (omega arith))) g (suc nest) d (write_message ix n ++ rest) dl k)
    (λ p y _.
    let u = message-back ix s m (sound-message m a.0) g (suc nest) around d (write_message ix n ++ rest) dl p y in
    let w : length p.1.left ≤ g = omega (arith, ap length u.1.left, ap length dl, length-append (write_message ix m) (write_message ix n ++ rest)) in
    judged-last (suc nest + message_nesting n) _ refl (read_message g (suc nest) around p.1) (λ r. (path p.0 r.0, r.1))
    (message-only ix s around n a.1 (λ v o. b v (λ z. o (omega arith))) g (suc nest) p.1 rest u.1.left w))))

-- ---- bodies

-- the receipts of the variables that are free in a process stand around
abbrev Scoped : Indices → (around : List ℕ) → Process → Type 0
Scoped ix around p = (v : ℕ) → ¬ (free v p ≡ 0) → member (new_index ix v) around ≡ true

close-judged : (n : ℕ) (w : Option PartWord) (c : Cursor) (k : Reading (Script × Cursor)) → w ≡ Some Close → n ≤ 64 → Judged n (or_close w c k)
unfolding or_close
close-judged n w c k e l = rw e (passed l)

-- a body whose first word is known to fit
close-first : (f nest : ℕ) (around : List ℕ) (c : Cursor) (ws : List ℕ) → c.left ≡ word 0 0 ∷ ws → length c.left ≤ f → Judged (nest + 0) (read_body f nest around c)
unfolding read_body script.part_fits
close-first zero nest around c ws e l = absurd (let z : ⊥ = omega (arith, ap length e) in z)
close-first (suc f) nest around c ws e l =
    judged-word (nest + 0) c (word 0 0) ws _ e
    (judged-asked (nest + 0) 2 c.index (script.part_fits (part_word (word 0 0))) _ (ap script.part_fits close-word)
    (judged-then nest 0 (nest + 0) (omega arith) (ask 4 c.index (leb nest 64)) _ (judged-level nest c.index)
    (λ _ _ m. close-judged 0 (part_word (word 0 0)) (cursor (suc c.index) c.number ws) _ close-word (omega arith))))

-- a is the greatest nesting of the part's words behind its own, b of the words behind the part
part-first : (f nest a b n : ℕ) → n ≡ max nest (max a b) → (around : List ℕ) (c : Cursor) (w : ℕ) (ws : List ℕ) → c.left ≡ w ∷ ws → length c.left ≤ f
    → (W : Option PartWord) → part_word w ≡ W → IsPart W → script.part_fits W ≡ true
    → ((g : ℕ) (d : Cursor) → d.left ≡ ws → d.index ≡ suc c.index → length d.left ≤ g
    → Judged a (part_from (read_message g nest around) (read_body g (suc nest)) around W c.index d)
    × ((x : (Written × Script) × Cursor) → part_from (read_message g nest around) (read_body g (suc nest)) around W c.index d ≡ got x → Judged b (read_body g nest around x.1)))
    → Judged n (read_body f nest around c)
unfolding read_body
part-first zero nest a b n o around c w ws e l W t k fit h = absurd (let z : ⊥ = omega (arith, ap length e) in z)
part-first (suc f) nest a b n o around c w ws e l W t k fit h =
    let s : length ws ≤ f = omega (arith, ap length e) in
    let d : Cursor = cursor (suc c.index) c.number ws in
    let H = h f (next_part d) refl refl s in
    judged-word n c w ws _ e
    (judged-asked n 2 c.index (script.part_fits (part_word w)) _ (ap script.part_fits t ∙ fit)
    (judged-then nest (max a b) n o (ask 4 c.index (leb nest 64)) _ (judged-level nest c.index)
    (λ _ _ m. subst (Judged (max a b)) (sym (part-all (part_word w) d _ (subst IsPart (sym t) k)))
    (judged-then a b (max a b) refl (part_from (read_message f nest around) (read_body f (suc nest)) around (part_word w) c.index (next_part d)) _
    (subst (λ (o : Option PartWord). Judged a (part_from (read_message f nest around) (read_body f (suc nest)) around o c.index (next_part d))) (sym t) H.0)
    (λ v y _. judged-last b b refl (read_body f nest around v.1) (λ r. (part c.number v.0.0 v.0.1 r.0, r.1))
    (H.1 v (subst (λ (o : Option PartWord). part_from (read_message f nest around) (read_body f (suc nest)) around o c.index (next_part d) ≡ got v) t y)))))))

-- the words of a body whose variables' receipts stand around are judged by its nesting
abbrev BodyOnly : Plain → Type 0
BodyOnly b = (ix : Indices) → Small ix → (around : List ℕ) → Scoped ix around (process b) → (f nest : ℕ) (c : Cursor) (i : ℕ) (rest : List ℕ) → c.index ≡ i → c.left ≡ write ix i b ++ rest
    → i + length c.left ≤ 268435456 → length c.left ≤ f → Judged (nest + nesting b) (read_body f nest around c)

close-only : BodyOnly close
unfolding write nesting
close-only ix s around b f nest c i rest ei e l m = close-first f nest around c rest e m

guarded-deep : (nest m b r p : ℕ) → p ≡ max m (suc b) → nest + max p r ≡ max nest (max (max (nest + m) (suc nest + b)) (nest + r))
guarded-deep nest m b r p e = omega arith

-- a part that has a message and a body
module _ {h : PlainHead} {m : Message} (G : Guarded h m) where
  guarded-only : MessageAll Sound m → (k : ℕ) (b r : Plain) → AnyBack b → BodyOnly b → BodyOnly r → BodyOnly (part k h b r)
  unfolding process free nesting
  guarded-only names k b r A B R ix s around sc f nest c i rest ei e l n =
      part-first f nest (max (nest + message_nesting m) (suc nest + nesting b)) (nest + nesting r) _ deep around c G.own (write_message ix m ++ (inner ++ (outer ++ rest))) L.spelled n G.says G.worded G.parted G.fitted
      (λ g d dl di dn. (
        subst (Judged _) (sym (G.reads (read_message g nest around) (read_body g (suc nest)) around c.index d))
            (judged-then (nest + message_nesting m) (suc nest + nesting b) _ refl (read_message g nest around d) _
            (message-only ix s around m names (λ v o. sc v (λ z. o (omega (arith, G.frees v (process b))))) g nest d (inner ++ (outer ++ rest)) dl dn)
            (λ p y _.
            let u = message-back ix s m (sound-message m names) g nest around d (inner ++ (outer ++ rest)) dl p y in
            judged-last (suc nest + nesting b) _ refl (read_body g (suc nest) around p.1) (λ t. ((record { index = c.index; head = G.makes p.0 }, t.0), t.1))
            (B ix s around (λ v o. sc v (λ z. o (omega (arith, G.frees v (process b))))) g (suc nest) p.1 j₀ (outer ++ rest) (omega (arith, u.1.index)) u.1.left
            (subst (λ (v : List ℕ). j₀ + length v ≤ 268435456) (sym u.1.left) L.inside) (omega (arith, ap length u.1.left, ap length dl, length-append (write_message ix m) (inner ++ (outer ++ rest))))))),
        (λ x xe. bind_all (Q g) (read_message g nest around d) _
            (λ p y. bind_all (Q g) (read_body g (suc nest) around p.1) _
            (λ t z. got-all (Q g) _
            (let u = message-back ix s m (sound-message m names) g nest around d (inner ++ (outer ++ rest)) dl p y in
            let pl : j₀ + length p.1.left ≤ 268435456 = subst (λ (v : List ℕ). j₀ + length v ≤ 268435456) (sym u.1.left) L.inside in
            let b₁ = A ix s g (suc nest) around p.1 j₀ (outer ++ rest) (omega (arith, u.1.index)) u.1.left pl t z in
            R ix s around (λ v o. sc v (λ w. o (omega arith))) g nest t.1 o₀ rest (omega (arith, b₁.behind.index, L.long)) b₁.behind.left
            (subst (λ (v : List ℕ). o₀ + length v ≤ 268435456) (sym b₁.behind.left) L.beside)
            (omega (arith, ap length b₁.behind.left, ap length dl, length-append (write_message ix m) (inner ++ (outer ++ rest)), length-append inner (outer ++ rest)))))) x
            (sym (G.reads (read_message g nest around) (read_body g (suc nest)) around c.index d) ∙ xe)),
      ))
    where
      j₀ : ℕ
      j₀ = i + length (G.own ∷ write_message ix m)

      inner : List ℕ
      inner = write ix j₀ b

      o₀ : ℕ
      o₀ = behind ix i h b

      outer : List ℕ
      outer = write ix o₀ r

      Q : ℕ → (Written × Script) × Cursor → Type 0
      Q g x = Judged (nest + nesting r) (read_body g nest around x.1)

      deep : nest + nesting (part k h b r) ≡ max nest (max (max (nest + message_nesting m) (suc nest + nesting b)) (nest + nesting r))
      deep = guarded-deep nest (message_nesting m) (nesting b) (nesting r) (part_nesting h (nesting b)) (G.nests (nesting b))

      L : Laid ix i k h b r (G.own ∷ write_message ix m) inner rest c.left
      L = laid ix i k h b r (G.own ∷ write_message ix m) inner rest c.left (G.writes ix i b) e l

-- a receipt
member-own : (i : ℕ) (around : List ℕ) → member i (i ∷ around) ≡ true
unfolding member
member-own i around = rw (eqb_same i)

member-more : (v i : ℕ) (around : List ℕ) → member v around ≡ true → member v (i ∷ around) ≡ true
unfolding member
member-more v i around e = or_right (eqb v i) (member v around) e

receipt-scoped : (ix : Indices) (around : List ℕ) (v i : ℕ) (p : Process) → Scoped ix around (input v p) → Scoped ((v, i) ∷ ix) (i ∷ around) p
receipt-scoped ix around v i p sc u d = by_test (eqb v u)
    (λ t. subst (λ (o : ℕ). member o (i ∷ around) ≡ true) (sym (new-hit v u i ix t)) (member-own i around))
    (λ t. subst (λ (o : ℕ). member o (i ∷ around) ≡ true) (sym (new-miss v u i ix t)) (member-more (new_index ix u) i around (sc u (λ z. d (sym (free_other v u p t) ∙ z)))))

receipt-only : (v k : ℕ) (b r : Plain) → AnyBack b → BodyOnly b → BodyOnly r → BodyOnly (part k (Head.receipt v) b r)
unfolding process piece free part_from script.part_fits nesting part_nesting part_word kind operand word
receipt-only v k b r A B R ix s around sc f nest c i rest ei e l n =
    part-first f nest (suc nest + nesting b) (nest + nesting r) _ deep around c (word 3 0) (inner ++ (outer ++ rest)) L.spelled n (Some Receipt) refl tt refl
    (λ g d dl di dn.
    let room : j₀ + length d.left ≤ 268435456 = subst (λ (o : List ℕ). j₀ + length o ≤ 268435456) (sym dl) L.inside in
    let dj : d.index ≡ j₀ = omega (arith, di, ei) in (
      judged-last (suc nest + nesting b) _ refl (read_body g (suc nest) (c.index ∷ around) d) (λ t. ((record { index = c.index; head = Head.receipt c.index }, t.0), t.1))
          (B ((v, i) ∷ ix) (small-more v i ix fitting s) (c.index ∷ around)
          (subst (λ (o : ℕ). Scoped ((v, i) ∷ ix) (o ∷ around) (process b)) (sym ei) (receipt-scoped ix around v i (process b) (λ u o. sc u (λ z. o (omega arith)))))
          g (suc nest) d j₀ (outer ++ rest) dj dl room dn),
      (λ x xe. bind_all (Q g) (read_body g (suc nest) (c.index ∷ around) d) _
          (λ t z. got-all (Q g) _
          (let b₁ = A ((v, i) ∷ ix) (small-more v i ix fitting s) g (suc nest) (c.index ∷ around) d j₀ (outer ++ rest) dj dl room t z in
          R ix s around (λ u o. sc u (λ w. o (omega arith))) g nest t.1 o₀ rest (omega (arith, b₁.behind.index, L.long)) b₁.behind.left
          (subst (λ (o : List ℕ). o₀ + length o ≤ 268435456) (sym b₁.behind.left) L.beside)
          (omega (arith, ap length b₁.behind.left, ap length dl, length-append inner (outer ++ rest))))) x xe),
    ))
  where
    j₀ : ℕ
    j₀ = i + 1

    inner : List ℕ
    inner = write ((v, i) ∷ ix) j₀ b

    o₀ : ℕ
    o₀ = behind ix i (Head.receipt v) b

    outer : List ℕ
    outer = write ix o₀ r

    Q : ℕ → (Written × Script) × Cursor → Type 0
    Q g x = Judged (nest + nesting r) (read_body g nest around x.1)

    deep : nest + nesting (part k (Head.receipt v) b r) ≡ max nest (max (suc nest + nesting b) (nest + nesting r))
    deep = omega arith

    L : Laid ix i k (Head.receipt v) b r (word 3 0 ∷ []) inner rest c.left
    L = laid ix i k (Head.receipt v) b r (word 3 0 ∷ []) inner rest c.left (receipt-written ix i v b) e l

    fitting : Fitting i
    fitting = omega (arith, ap length L.spelled)

-- an output
output-only : (m : Message) → MessageAll Sound m → (k : ℕ) (b r : Plain) → BodyOnly r → BodyOnly (part k (Head.output m) b r)
unfolding process piece free part_from script.part_fits nesting part_nesting part_word kind operand word
output-only m names k b r R ix s around sc f nest c i rest ei e l n =
    part-first f nest (nest + message_nesting m) (nest + nesting r) _ deep around c (word 4 0) (write_message ix m ++ (outer ++ rest)) L.spelled n (Some Output) refl tt refl
    (λ g d dl di dn. (
      judged-last (nest + message_nesting m) _ refl (read_message g nest around d) (λ p. ((record { index = c.index; head = Head.output p.0 }, close), p.1))
          (message-only ix s around m names (λ v o. sc v (λ z. o (omega arith))) g nest d (outer ++ rest) dl dn),
      (λ x xe. bind_all (Q g) (read_message g nest around d) _
          (λ p y. got-all (Q g) _
          (let u = message-back ix s m (sound-message m names) g nest around d (outer ++ rest) dl p y in
          R ix s around (λ v o. sc v (λ w. o (omega arith))) g nest p.1 o₀ rest (omega (arith, u.1.index, L.long)) u.1.left
          (subst (λ (o : List ℕ). o₀ + length o ≤ 268435456) (sym u.1.left) L.beside)
          (omega (arith, ap length u.1.left, ap length dl, length-append (write_message ix m) (outer ++ rest))))) x xe),
    ))
  where
    o₀ : ℕ
    o₀ = behind ix i (Head.output m) b

    outer : List ℕ
    outer = write ix o₀ r

    Q : ℕ → (Written × Script) × Cursor → Type 0
    Q g x = Judged (nest + nesting r) (read_body g nest around x.1)

    deep : nest + nesting (part k (Head.output m) b r) ≡ max nest (max (nest + message_nesting m) (nest + nesting r))
    deep = omega arith

    L : Laid ix i k (Head.output m) b r (word 4 0 ∷ write_message ix m) [] rest c.left
    L = laid ix i k (Head.output m) b r (word 4 0 ∷ write_message ix m) [] rest c.left (output-written ix i m b) e l

fitting-all : (b : Plain) → Fits Any Sound b → Fits Any Fitting b
fitting-all b x = fits_more Any Any Sound Fitting (λ n h. h) sound-fits b x

body-only : (b : Plain) → Fits Any Sound b → BodyOnly b
body-only close x = close-only
body-only (part k (Head.ambient m) b r) x = guarded-only (ambient-guarded m) x.0.1 k b r (body_back Any b (fitting-all b x.1)) (body-only b x.1) (body-only r x.2)
body-only (part k (Head.action is) b r) x = guarded-only (action-guarded is) (whole-all Sound is x.0.1) k b r (body_back Any b (fitting-all b x.1)) (body-only b x.1) (body-only r x.2)
body-only (part k (Head.receipt v) b r) x = receipt-only v k b r (body_back Any b (fitting-all b x.1)) (body-only b x.1) (body-only r x.2)
body-only (part k (Head.output m) b r) x = output-only m x.0.1 k b r (body-only r x.2)

-- ---- the call

-- What becomes of words, of which there are l and whose greatest nesting is n: questions 1 and 4 alone can be answered by no, and
-- just where there are more than 1,024 words or n is above 64.
data Admitted {A : Type 0} (l n : ℕ) : Reading A → Type 0 where
  crowded : {j : ℕ} → 1024 < l → Admitted l n (refuse 1 j)
  nested : {j : ℕ} → 64 < n → Admitted l n (refuse 4 j)
  let-in : {a : A} → l ≤ 1024 → n ≤ 64 → Admitted l n (got a)

admitted-few : {A : Type 0} (l n : ℕ) → l ≤ 1024 → {x : Reading A} → Judged n x → Admitted l n x
admitted-few l n m (denied h) = nested h
admitted-few l n m (passed h) = let-in m h

-- THEOREM: the words of a tree without free variables, whose names are 1 to 255 and which has at most 64 parts, are let in just
-- where they are at most 1,024 and nested at most 64 deep.
read_only : (b : Plain) → Fits Any Sound b → Closed (process b) → parts b ≤ 64 → Admitted (length (write [] 0 b)) (nesting b) (read_script (write [] 0 b))
unfolding read_script new_index
read_only b x o l = by_test (leb (length ws) 1024)
    (λ t.
    let few : 0 + length ws ≤ 268435456 = omega (arith, leb-true (length ws) 1024 t) in
    admitted-few (length ws) (nesting b) (leb-true (length ws) 1024 t)
    (judged-asked (nesting b) 1 0 (leb 1 (length ws) && leb (length ws) 1024) _ (rw (some_words, t))
    (judged-then (0 + nesting b) 0 (nesting b) (omega arith) (read_body (length ws) 0 [] (cursor 0 0 ws)) _
    (body-only b x [] small [] (λ v d. absurd (d (o v))) (length ws) 0 (cursor 0 0 ws) 0 [] refl (sym (append-nil ws)) few (omega arith))
    (λ p e _.
    let r = body_back Any b (fitting-all b x) [] small (length ws) 0 [] (cursor 0 0 ws) 0 [] refl (sym (append-nil ws)) few p e in
    let n : p.1.number ≤ 64 = omega (arith, r.few, (body-advances (length ws) 0 [] (cursor 0 0 ws) p e).numbers) in
    judged-asked 0 5 p.1.index (is_empty p.1.left) _ (ap is_empty r.behind.left)
    (judged-asked 0 6 0 (leb p.1.number 64) _ (le-leb p.1.number 64 n) (passed (omega arith)))))))
    (λ t. subst (Admitted (length ws) (nesting b)) (sym (bind-refuse (ask 1 0 (leb 1 (length ws) && leb (length ws) 1024)) _ 1 0 (ask-no 1 0 _ (rw (some_words, t))))) (crowded (leb-false (length ws) 1024 t)))
  where
    ws : List ℕ
    ws = write [] 0 b

    small : Small []
    small v = let z : 0 < 268435456 = omega arith in z

    some_words : leb 1 (length ws) ≡ true
    some_words = le-leb 1 (length ws) (some_written [] 0 b)

-- THEOREM: so of every tree that stands in a call, before the first move and after each.
standing-admitted : (c : Call) (p : Script × Cursor) → read_script c.script ≡ got p → (k : ℕ) (m : Machine) → After c p k m → Admitted (length (standing_words m)) (nesting m.tree) (read_script (standing_words m))
unfolding weight_of
standing-admitted c p e k m a =
    let T = script-tabled c.script p e in
    let good = run-keeps (λ l. Good p.1.number l.tree) (λ x y l s g d. good-move p.1.number l.tree x y s g d) p.1.number 0 (take k c.moves) (begun p.0) m (script-good c.script p e) a in
    let named = run-keeps (λ l. Fits Any Sound l.tree) (λ x y l s g d. (move-fits Any Sound x y l.tree s d g).2) p.1.number 0 (take k c.moves) (begun p.0) m (script-sound c.script p e) a in
    let w : parts m.tree + 2 * m.receipts ≤ parts p.0 = run-weighed p.1.number (take k c.moves) p.0 m a in
    read_only m.tree named good.unbound (omega (arith, T.few, T.counted))

refused-by : (ws : List ℕ) (l n : ℕ) {x : Reading (Script × Cursor)} → Admitted l n x → read_script ws ≡ x → LetIn ws
refused-by ws l n (crowded h) d q i e = inl (cc)
refused-by ws l n (nested h) d q i e = inr (cc)
refused-by ws l n (let-in h g) d q i e = refuse≢got (sym e ∙ d)

-- THEOREM: only questions 1 and 4 can refuse them.
pub readmits : (c : Call) → Readmits c
unfolding Readmits
readmits c p e k m a = refused-by (standing_words m) (length (standing_words m)) (nesting m.tree) (standing-admitted c p e k m a) refl

read-within : {A : Type 0} (l n : ℕ) {x : Reading A} → Admitted l n x → (a : A) → x ≡ got a → (l ≤ 1024) × (n ≤ 64)
read-within l n (crowded h) a e = refuse≢got e
read-within l n (nested h) a e = refuse≢got e
read-within l n (let-in h g) a e = (h, g)

within-read : {A : Type 0} (l n : ℕ) {x : Reading A} → Admitted l n x → (l ≤ 1024) × (n ≤ 64) → (a : A) × (x ≡ got a)
within-read l n (crowded h) w = absurd (let z : ⊥ = omega arith in z)
within-read l n (nested h) w = absurd (let z : ⊥ = omega arith in z)
within-read l n (let-in {a} h g) w = (a, refl)

-- THEOREM: and they are let in just where there are at most 1,024 and their nesting is at most 64.
pub admits : (c : Call) → Admits c
unfolding Admits
admits c p e k m a =
    let x = standing-admitted c p e k m a in
    ((λ r. read-within (length (standing_words m)) (nesting m.tree) x r.0 r.1), (λ w. within-read (length (standing_words m)) (nesting m.tree) x w))

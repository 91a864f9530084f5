-- The recurrences of the readers of bodies and parts, and of the table that they fill, as the code meets them.
-- Assumes nothing.
use Prim.Native.Nat.{ℕ, zero, suc, ◌+◌, ◌-◌, ◌*◌, ◌≤◌, ◌<◌}
use mathlib.Core.Bool.{Bool, true, false, cond}
use mathlib.Core.List.{List, [], ◌∷◌}
use mathlib.Core.Path.{◌≡◌, refl, sym, ap, ◌∙◌}
use native.Mathlib.Omega.{arith}
use native.Mathlib.Numerals.{add-one}
use borrow.Author.Tests.{leb-true}
use lib.Dec.{leb, eqb, ltb}
use lib.ListN.{length, get_or, drop, length-drop}
use lib.Seq.{get_or-drop, drop-drop}
use Rattle.read_messages.specs.Reading.{Cursor, cursor, Reading, refuse, got, ◌>>=◌, ask, take_word, next_word, next_part, refusal_at, outcome}
use Rattle.read_messages.specs.Message.{Message}
use Rattle.read_messages.specs.ReadMessage.{read_message}
use Rattle.read_messages.proofs.Readings.{bind-got, placed, outcome-read, outcome-refuses}
use Rattle.base_slices.proofs.Tests.{by_test}
use Rattle.base_slices.proofs.Tails.{part-drop, length_part}
use Rattle.base_slices.proofs.Tails as Tails
use Rattle.read_messages.proofs.Laws.{MessageRead, message-advances, read_of, read-bounds}
use Rattle.read_scripts.specs.Tree.{Head, ambient, action, receipt, close, part, total_over, parts, kind_number}
use Rattle.read_scripts.specs.Script.{Written, Script, guarded_head, guarded_from, part_from, or_close, read_body}
use Rattle.read_script_words.specs.ScriptWords.{part_word, part_fits, asked_part}
use Rattle.read_scripts.specs.Table.{entered, start_by, tabulate, scanned, scanned_part, Readable, PartReadable, GuardedReadable}
use Rattle.read_scripts.specs.declared.Table.{Table}
use Rattle.read_scripts.specs.declared.Scan.{Scan}
use Rattle.std.specs.Prelude.{Option, Some, None, Result, Ok, Err}
use Rattle.read_script_words.specs.declared.PartWord.{PartWord}
use Rattle.read_script_words.specs.declared.PartWord.TheVariants.{Close, Ambient, Action, Receipt, Output}
use Rattle.read_messages.specs.declared.Refusal.{Refusal}
use Rattle.read_scripts.proofs.Laws.{PartRead, part-read, body-fuel}

-- the first word of a part passed question 4
asked-nest : (i nest : ℕ) (p : Option PartWord) (w : PartWord) → Ok w ≡ asked_part i nest p → nest ≤ 64
unfolding asked_part
asked-nest i nest (Some v) w e = by_test (leb nest 64) (leb-true nest 64) (λ d. let z : ◌≡◌ {A = Result PartWord Refusal} (Ok w) (refusal_at 4 i) = e ∙ rw d in cc)
asked-nest i nest None w e = cc

pub passed : {w : PartWord} {s : List ℕ} {at nest f n : ℕ} → PartReadable w s at nest f n → nest ≤ 64
passed r = asked-nest _ _ _ _ r.asked

pub guarded-asks : {w : PartWord} {s : List ℕ} {at nest f n : ℕ} → PartReadable w s at nest f n → (k : ℕ) → 1 ≤ k → k ≤ 2 → GuardedReadable k s at nest f n
guarded-asks r k l m = record { reads = r.reads; some = r.some; nested = passed r; least = l; most = m }

-- what stands inside a receipt may be read, and is less
pub receipt-asks : {w : PartWord} {s : List ℕ} {at nest f n : ℕ} → PartReadable w s at nest f n → (g m t : ℕ) → g + 1 ≡ f → m ≡ suc n → 3 * length s + 1 ≡ t
    → (3 * length (Tails.part s 1) + 2 < t) × Readable (Tails.part s 1) (at + 1) (nest + 1) g m
receipt-asks {s = s} r g m t d c l =
    let b = length_part s 1 in
    let k = passed r in
    (omega (arith, r.some), record { few = omega (arith, r.some, r.reads); shallow = omega arith; receipts = omega (arith, r.reads); room = omega (arith, r.reads); fewer = omega (arith, r.reads) })

-- what is left of questions 2 and 4 once the code has asked them
module _ (around : List ℕ) (message : Cursor → Reading (Message × Cursor)) (inside : List ℕ → Cursor → Reading (Script × Cursor))
    (i : ℕ) (c d : Cursor) (k : (Written × Script) × Cursor → Reading (Script × Cursor)) where
  abbrev goes_on : Option PartWord → Reading (Script × Cursor)
  goes_on w = or_close w c (part_from message inside around w i d >>= k)

  abbrev goes_by : Result PartWord Refusal → Reading (Script × Cursor)
  goes_by (Ok w) = goes_on (Some w)
  goes_by (Err e) = refuse e.question e.place

  fourth : (b : Bool) (w : PartWord) → (ask 4 i b >>= λ _. goes_on (Some w)) ≡ goes_by (cond b (Ok w) (refusal_at 4 i))
  unfolding ask ◌>>=◌
  fourth true w = refl
  fourth false w = refl

  questions : (nest : ℕ) (p : Option PartWord) → (ask 2 i (part_fits p) >>= λ _. ask 4 i (leb nest 64) >>= λ _. goes_on p) ≡ goes_by (asked_part i nest p)
  unfolding part_fits asked_part ask ◌>>=◌
  questions nest (Some w) = fourth (leb nest 64) w
  questions nest None = refl

-- The part at the front of the words l, the first of which has the index i; its number is n.
abbrev pub part_at : (w : PartWord) (l : List ℕ) (i nest : ℕ) (around : List ℕ) (n : ℕ) → Reading ((Written × Script) × Cursor)
part_at w l i nest around n = part_from (read_message (length l - 1) nest around) (read_body (length l - 1) (suc nest)) around (Some w) i (cursor (i + 1) (suc n) (drop 1 l))

abbrev pub guarded_at : (kind : ℕ) (l : List ℕ) (i nest : ℕ) (around : List ℕ) (n : ℕ) → Reading ((Written × Script) × Cursor)
guarded_at kind l i nest around n = guarded_from (guarded_head kind) (read_message (length l - 1) nest around) (read_body (length l - 1) (suc nest)) around i (cursor (i + 1) (suc n) (drop 1 l))

abbrev pub body_at : (l : List ℕ) (i nest : ℕ) (around : List ℕ) (n : ℕ) → Reading (Script × Cursor)
body_at l i nest around n = read_body (length l) nest around (cursor i n l)

-- the part and then the rest
abbrev behind_part : (f nest : ℕ) (around : List ℕ) (n : ℕ) → (Written × Script) × Cursor → Reading (Script × Cursor)
behind_part f nest around n q = read_body f nest around q.1 >>= λ r. got (part n q.0.0 q.0.1 r.0, r.1)

unroll : (f nest : ℕ) (around : List ℕ) (c : Cursor) → read_body (suc f) nest around c
    ≡ (next_word 5 c >>= λ q. ask 2 c.index (part_fits (part_word q.0)) >>= λ _. ask 4 c.index (leb nest 64) >>= λ _.
    goes_on around (read_message f nest around) (read_body f (suc nest)) c.index q.1 (next_part q.1) (behind_part f nest around c.number) (part_word q.0))
unfolding read_body
unroll f nest around c = refl

body-cons : (f nest : ℕ) (around : List ℕ) (i n w : ℕ) (ws : List ℕ) → read_body (suc f) nest around (cursor i n (w ∷ ws))
    ≡ goes_by around (read_message f nest around) (read_body f (suc nest)) i (cursor (suc i) n ws) (cursor (suc i) (suc n) ws) (behind_part f nest around n) (asked_part i nest (part_word w))
unfolding take_word asked_part
body-cons f nest around i n w ws =
    unroll f nest around (cursor i n (w ∷ ws))
    ∙ bind-got (take_word 5 i n (w ∷ ws)) _ (w, cursor (suc i) n ws) refl
    ∙ questions around (read_message f nest around) (read_body f (suc nest)) i (cursor (suc i) n ws) (cursor (suc i) (suc n) ws) (behind_part f nest around n) nest (part_word w)

pub body-none : (l : List ℕ) (i nest : ℕ) (around : List ℕ) (n : ℕ) → length l ≡ 0 → body_at l i nest around n ≡ refuse 5 i
unfolding read_body
body-none [] i nest around n h = refl
body-none (x ∷ l) i nest around n h = absurd (omega arith)

-- The body at the front of the words l by what questions 2 and 4 say of its first word.
body-first : (l : List ℕ) (i nest : ℕ) (around : List ℕ) (n : ℕ) → 0 < length l → (a : Result PartWord Refusal) → a ≡ asked_part i nest (part_word (get_or l 0 0))
    → body_at l i nest around n ≡ goes_by around (read_message (length l - 1) nest around) (read_body (length l - 1) (suc nest)) i (cursor (i + 1) n (drop 1 l)) (cursor (i + 1) (suc n) (drop 1 l)) (behind_part (length l - 1) nest around n) a
body-first [] i nest around n h a e = absurd (omega arith)
body-first (x ∷ l) i nest around n h a e =
    let z : suc (length l) - 1 ≡ length l = omega arith in
    rw (e, add-one i, z) (body-cons (length l) nest around i n x l)

pub body-unfit : (l : List ℕ) (i nest : ℕ) (around : List ℕ) (n : ℕ) → 0 < length l → (q : Refusal) → Err q ≡ asked_part i nest (part_word (get_or l 0 0))
    → body_at l i nest around n ≡ refuse q.question q.place
body-unfit l i nest around n h q e = body-first l i nest around n h (Err q) e

pub body_closed : (l : List ℕ) (i nest : ℕ) (around : List ℕ) (n : ℕ) → 0 < length l → (w : PartWord) → Ok w ≡ asked_part i nest (part_word (get_or l 0 0)) → w ≡ Close
    → body_at l i nest around n ≡ got (close, cursor (i + 1) n (drop 1 l))
unfolding or_close
body_closed l i nest around n h w e c = body-first l i nest around n h (Ok w) e ∙ rw c

-- no CLOSE
abbrev pub Other : PartWord → Type 0
Other p = p ≡ Close → ⊥

or-part : (w : PartWord) (c : Cursor) (k : Reading (Script × Cursor)) → Other w → or_close (Some w) c k ≡ k
unfolding or_close
or-part Close c k o = absurd (o refl)
or-part Ambient c k o = refl
or-part Action c k o = refl
or-part Receipt c k o = refl
or-part Output c k o = refl

pub body-part : (l : List ℕ) (i nest : ℕ) (around : List ℕ) (n : ℕ) → 0 < length l → (w : PartWord) → Ok w ≡ asked_part i nest (part_word (get_or l 0 0)) → Other w
    → body_at l i nest around n ≡ (part_at w l i nest around n >>= behind_part (length l - 1) nest around n)
body-part l i nest around n h w e o = body-first l i nest around n h (Ok w) e ∙ or-part w _ _ o

-- the table: one part more is one more in its count
cond-count : (b : Bool) (x y : Table) (n : ℕ) → x.count ≡ n → y.count ≡ n → (cond b x y).count ≡ n
cond-count true x y n p q = p
cond-count false x y n p q = q

pub entered-count : (o k s : ℕ) (t : Table) → (entered o k s t).count ≡ t.count + 1
unfolding entered
entered-count o k s t = cond-count (ltb t.count 64) _ _ _ refl refl

pub entered-next : (o k s : ℕ) (table t : Table) → t ≡ entered o k s table → t.count ≡ suc table.count
entered-next o k s table t e = ap (λ (x : Table). x.count) e ∙ entered-count o k s table ∙ add-one table.count

pub tabulate-count : (o : ℕ) (b : Script) (t : Table) → (tabulate o b t).count ≡ t.count + parts b
unfolding tabulate total_over
tabulate-count o close t = omega arith
tabulate-count o (part i w b r) t =
    omega (arith, tabulate-count o r (tabulate i b (entered o (kind_number w.head) (start_by w.head w.index) t)), tabulate-count i b (entered o (kind_number w.head) (start_by w.head w.index) t), entered-count o (kind_number w.head) (start_by w.head w.index) t)

-- What the code's answers say of the readings.
scanned-rest : (o : ℕ) (t : Table) (w : Written) (b : Script) (y : Reading (Script × Cursor)) → scanned o t (y >>= λ r. got (part t.count w b r.0, r.1)) ≡ scanned o (tabulate o (part t.count w b close) t) y
unfolding scanned tabulate ◌>>=◌
scanned-rest o t w b (refuse q i) = refl
scanned-rest o t w b (got p) = refl

pub scanned-inside : (o : ℕ) (t : Table) (i : ℕ) (h : Head Message) (y : Reading (Script × Cursor))
    → scanned_part o t (y >>= λ r. got ((record { index = i; head = h }, r.0), r.1)) ≡ scanned t.count (entered o (kind_number h) (start_by h i) t) y
unfolding scanned scanned_part tabulate ◌>>=◌
scanned-inside o t i h (refuse q j) = refl
scanned-inside o t i h (got p) = refl

-- The loop over a body's parts: what is left to read at k with the table t gives the answer.
pub record BodyLoop (s : List ℕ) (at nest : ℕ) (around : List ℕ) (owner : ℕ) (table : Table) (k : ℕ) (t : Table) : Type 0 where
  pub within : k ≤ length s
  pub counted : t.count ≤ at + k
  pub same : scanned owner table (body_at s at nest around table.count) ≡ scanned owner t (body_at (drop k s) (at + k) nest around t.count)

-- the same at the word behind a part
pub record BodyOn (s : List ℕ) (at nest : ℕ) (around : List ℕ) (owner : ℕ) (table : Table) (k n : ℕ) (t : Table) : Type 0 where
  pub ahead : at + k < n
  pub loop : BodyLoop s at nest around owner table (n - at) t

part-told : (o : ℕ) (t : Table) (x : Reading ((Written × Script) × Cursor)) (p : Scan) → Ok p ≡ scanned_part o t x
    → (q : (Written × Script) × Cursor) × (x ≡ got q) × (q.1.index ≡ p.next) × (p.table ≡ tabulate o (part t.count q.0.0 q.0.1 close) t)
unfolding scanned_part
part-told o t (refuse q i) p e = cc
part-told o t (got q) p e =
    let h : p ≡ record { next = q.1.index; table = tabulate o (part t.count q.0.0 q.0.1 close) t } = cc in
    (q, refl, sym (ap (λ (x : Scan). x.next) h), ap (λ (x : Scan). x.table) h)

part-refused : (o : ℕ) (t : Table) (x : Reading ((Written × Script) × Cursor)) (k : (Written × Script) × Cursor → Reading (Script × Cursor)) (q : Refusal)
    → Err q ≡ scanned_part o t x → Err q ≡ scanned o t (x >>= k)
unfolding scanned_part scanned ◌>>=◌
part-refused o t (refuse q' i') k q e = e
part-refused o t (got r) k q e = cc

module _ (s : List ℕ) (at nest : ℕ) (around : List ℕ) (owner : ℕ) (table : Table) where
  pub body-begins : table.count ≤ at → BodyLoop s at nest around owner table 0 table
  body-begins h = record { within = omega arith; counted = omega arith; same = let z : at + 0 ≡ at = omega arith in rw z }

  module _ (k : ℕ) (t : Table) (l : BodyLoop s at nest around owner table k t) where
    pub body-ends : length s ≤ k → refusal_at 5 (at + k) ≡ scanned owner table (body_at s at nest around table.count)
    unfolding scanned
    body-ends h = sym (l.same ∙ ap (scanned owner t) (body-none (drop k s) (at + k) nest around t.count (omega (arith, length-drop k s))))

    module _ (h : k < length s) where
      left : 0 < length (drop k s)
      left = omega (arith, length-drop k s)

      front : (a : Result PartWord Refusal) → a ≡ asked_part (at + k) nest (part_word (get_or s k 0)) → a ≡ asked_part (at + k) nest (part_word (get_or (drop k s) 0 0))
      front a e = let z : k + 0 ≡ k = omega arith in e ∙ rw (get_or-drop k s 0 0, z)

      pub body-refuses : (q : Refusal) → Err q ≡ asked_part (at + k) nest (part_word (get_or s k 0)) → Err q ≡ scanned owner table (body_at s at nest around table.count)
      unfolding scanned
      body-refuses q e = sym (l.same ∙ ap (scanned owner t) (body-unfit (drop k s) (at + k) nest around t.count left q (front (Err q) e)))

    module _ (h : k < length s) (w : PartWord) (e : Ok w ≡ asked_part (at + k) nest (part_word (get_or s k 0))) where
      -- the part there may be read, and is less than what is left of the words
      pub body-asks : {f : ℕ} → Readable s at nest f table.count → (u : ℕ) → 3 * length s + 2 ≡ u → (3 * length (Tails.part s k) + 1 < u) × PartReadable w (Tails.part s k) (at + k) nest f t.count
      body-asks r u d =
          let b = length_part s k in (
            omega arith,
            record {
              reads = record { few = omega (arith, r); shallow = r.shallow; receipts = r.receipts; room = r.room; fewer = l.counted };
              some = omega arith;
              asked = let z : k + 0 ≡ k = omega arith in e ∙ rw (part-drop s k, get_or-drop k s 0 0, z);
            },
          )

      pub body-closes : w ≡ Close → Ok (record { next = at + k + 1; table = t }) ≡ scanned owner table (body_at s at nest around table.count)
      unfolding scanned tabulate
      body-closes c = sym (l.same ∙ ap (scanned owner t) (body_closed (drop k s) (at + k) nest around t.count (left h) w (front h (Ok w) e) c))

      module _ (o : Other w) (r : Result Scan Refusal) (ep : r ≡ scanned_part owner t (part_at w (Tails.part s k) (at + k) nest around t.count)) where
        abbrev here : Reading ((Written × Script) × Cursor)
        here = part_at w (drop k s) (at + k) nest around t.count

        told : r ≡ scanned_part owner t here
        told = rw (part-drop s k) at ep

        goes : scanned owner table (body_at s at nest around table.count) ≡ scanned owner t (here >>= behind_part (length (drop k s) - 1) nest around t.count)
        goes = l.same ∙ ap (scanned owner t) (body-part (drop k s) (at + k) nest around t.count (left h) w (front h (Ok w) e) o)

        pub body-hands : (q : Refusal) → r ≡ Err q → Err q ≡ scanned owner table (body_at s at nest around table.count)
        body-hands q d = part-refused owner t here _ q (sym d ∙ told) ∙ sym goes

        again : (q : (Written × Script) × Cursor) (n : ℕ) (t' : Table) → here ≡ got q → q.1.index ≡ n → t' ≡ tabulate owner (part t.count q.0.0 q.0.1 close) t → BodyOn s at nest around owner table k n t'
        unfolding total_over
        again q n t' eq en et =
            let a : PartRead nest around (cursor (at + k + 1) (suc t.count) (drop 1 (drop k s))) q = part-read (length (drop k s) - 1) nest around (Some w) (at + k) (cursor (at + k + 1) (suc t.count) (drop 1 (drop k s))) q eq in
            let c : t'.count ≡ t.count + parts (part t.count q.0.0 q.0.1 close) = ap (λ (x : Table). x.count) et ∙ tabulate-count owner (part t.count q.0.0 q.0.1 close) t in
            let y : at + (n - at) ≡ n = omega (arith, a.ahead, en) in
            let v : length (drop (n - at) s) ≤ length (drop k s) - 1 = omega (arith, a.ahead, en, length-drop (n - at) s, length-drop k s) in
            record {
              ahead = omega (arith, a.ahead, en);
              loop = record {
                within = omega (arith, en, a.advances.within, length-drop 1 (drop k s), length-drop k s);
                counted = omega (arith, en, a.fewer, a.numbers, l.counted);
                same = goes ∙ ap (scanned owner t) (bind-got here _ q eq) ∙ scanned-rest owner t q.0.0 q.0.1 _ ∙ rw (← et, y) (ap (scanned owner t')
                    (ap (λ (x : Cursor). read_body (length (drop k s) - 1) nest around x)
                    (placed q.1 n t'.count (drop (n - at) s) en (omega (arith, a.numbers)) (behind q n en a.advances.tail a.ahead))
                    ∙ body-fuel _ _ nest around (cursor n t'.count (drop (n - at) s)) v (omega arith)));
              };
            }
          where
            behind : (q : (Written × Script) × Cursor) (n : ℕ) → q.1.index ≡ n → q.1.left ≡ drop (q.1.index - (at + k + 1)) (drop 1 (drop k s)) → at + k + 1 < q.1.index → q.1.left ≡ drop (n - at) s
            behind q n en d h =
                let z : k + (1 + (n - (at + k + 1))) ≡ n - at = omega (arith, en) in
                d ∙ rw (en, drop-drop (n - (at + k + 1)) 1 (drop k s), drop-drop, z)

        pub body-again : (p : Scan) → r ≡ Ok p → BodyOn s at nest around owner table k p.next p.table
        body-again p d = let (q, eq, en, et) = part-told owner t here p (sym d ∙ told) in again q p.next p.table eq en et

-- A part's message: the one at the second of the words s, the first of which is the part's, with the index `at`.
abbrev pub message_at : (s : List ℕ) (at nest : ℕ) (around : List ℕ) (n : ℕ) → Reading (Message × Cursor)
message_at s at nest around n = read_message (length s - 1) nest around (cursor (at + 1) (suc n) (drop 1 s))

message-told : (s : List ℕ) (at nest : ℕ) (around : List ℕ) (n : ℕ) (m : Result ℕ Refusal) → m ≡ read_of (Tails.part s 1) (at + 1) nest around (suc n) → m ≡ outcome (message_at s at nest around n)
message-told s at nest around n m e = rw (part-drop s 1, length-drop 1 s) at e

-- a message that was refused refuses its part
refused-message : (o : ℕ) (t : Table) (x : Reading (Message × Cursor)) (k : Message × Cursor → Reading ((Written × Script) × Cursor)) (q : Refusal) → outcome x ≡ Err q → Err q ≡ scanned_part o t (x >>= k)
unfolding scanned_part ◌>>=◌
refused-message o t x k q e = rw (outcome-refuses x q e)

-- what a guarded part is entered as
guarded-kind : (kind : ℕ) (m : Message) → 1 ≤ kind → kind ≤ 2 → kind_number (guarded_head kind m) ≡ kind
unfolding kind_number
guarded-kind zero m h k = absurd (omega arith)
guarded-kind (suc zero) m h k = refl
guarded-kind (suc (suc zero)) m h k = refl
guarded-kind (suc (suc (suc n))) m h k = absurd (omega arith)

guarded-start : (b : Bool) (m : Message) (i : ℕ) → start_by (cond b (ambient m) (action m)) i ≡ i + 1
guarded-start true m i = refl
guarded-start false m i = refl

module _ (s : List ℕ) (at nest : ℕ) (around : List ℕ) (owner : ℕ) (table : Table) where
  -- a receipt: its body, with one receipt more around
  pub receipt-law : (w : PartWord) (a : List ℕ) (t : Table) (r : Result Scan Refusal) → w ≡ Receipt → a ≡ at ∷ around → t ≡ entered owner 3 at table → r ≡ scanned table.count t (body_at (Tails.part s 1) (at + 1) (nest + 1) a t.count)
      → r ≡ scanned_part owner table (part_at w s at nest around table.count)
  unfolding part_from kind_number
  receipt-law w a t r ew ea et er =
      er ∙ rw (ew, part-drop s 1, length-drop 1 s, ea, add-one nest)
      (ap (λ (n : ℕ). scanned table.count t (read_body (length s - 1) (suc nest) (at ∷ around) (cursor (at + 1) n (drop 1 s)))) (entered-next owner 3 at table t et)
      ∙ rw et (sym (scanned-inside owner table at (receipt at) _)))

  module _ (m : Result ℕ Refusal) (em : m ≡ read_of (Tails.part s 1) (at + 1) nest around (suc table.count)) where
    pub message-bounds : 0 < length s → (n : ℕ) → m ≡ Ok n → (at + 1 < n) × (n ≤ at + length s)
    message-bounds h n d =
        let b = read-bounds (Tails.part s 1) (at + 1) nest around (suc table.count) m n em d in
        (b.0, omega (arith, b.1, length_part s 1))

    -- the body behind the message may be read, and is less
    pub guarded-inside : {kind f : ℕ} → GuardedReadable kind s at nest f table.count → (n : ℕ) → m ≡ Ok n → (t : Table) → t ≡ entered owner kind (at + 1) table → (u : ℕ) → 3 * length s ≡ u
        → (3 * length (Tails.part s (n - at)) + 2 < u) × Readable (Tails.part s (n - at)) n (nest + 1) f t.count
    guarded-inside {kind} r n d t et u e =
        let b = message-bounds r.some n d in
        let l = length_part s (n - at) in (
          omega (arith, b),
          record {
            few = omega (arith, b, r.reads);
            shallow = omega (arith, r.nested);
            receipts = r.reads.receipts;
            room = omega (arith, r.reads);
            fewer = omega (arith, b, r.reads, entered-next owner kind (at + 1) table t et);
          },
        )

    pub output-law : (w : PartWord) (n : ℕ) (t : Table) → w ≡ Output → m ≡ Ok n → t ≡ entered owner 4 (at + 1) table → Ok (record { next = n; table = t }) ≡ scanned_part owner table (part_at w s at nest around table.count)
    unfolding part_from scanned_part tabulate kind_number
    output-law w n t ew d et =
        let (p, ep, en) = outcome-read (message_at s at nest around table.count) n (sym (message-told s at nest around table.count m em) ∙ d) in
        rw (ew, et, bind-got (message_at s at nest around table.count) _ p ep, en)

    module _ (q : Refusal) (d : m ≡ Err q) where
      refusal_is : (k : Message × Cursor → Reading ((Written × Script) × Cursor)) → Err q ≡ scanned_part owner table (message_at s at nest around table.count >>= k)
      refusal_is k = refused-message owner table (message_at s at nest around table.count) k q (sym (message-told s at nest around table.count m em) ∙ d)

      pub output-refused : (w : PartWord) → w ≡ Output → Err q ≡ scanned_part owner table (part_at w s at nest around table.count)
      unfolding part_from
      output-refused w ew = rw ew (refusal_is _)

      pub guarded-refused : (kind : ℕ) → Err q ≡ scanned_part owner table (guarded_at kind s at nest around table.count)
      guarded-refused kind = refusal_is _

    -- an ambient or an action: message, then body
    pub guarded-law : (kind n : ℕ) (t : Table) (r : Result Scan Refusal) → 1 ≤ kind → kind ≤ 2 → 0 < length s → m ≡ Ok n → t ≡ entered owner kind (at + 1) table
        → r ≡ scanned table.count t (body_at (Tails.part s (n - at)) n (nest + 1) around t.count) → r ≡ scanned_part owner table (guarded_at kind s at nest around table.count)
    guarded-law kind n t r h k z d et er =
        let (p, ep, en) = outcome-read (message_at s at nest around table.count) n (sym (message-told s at nest around table.count m em) ∙ d) in
        (rw (part-drop s (n - at), add-one nest) at er)
        ∙ body_is p n t en et (message-advances (length s - 1) nest around (cursor (at + 1) (suc table.count) (drop 1 s)) p ep)
        ∙ sym (ap (scanned_part owner table) (bind-got (message_at s at nest around table.count) _ p ep) ∙ scanned-inside owner table at (guarded_head kind p.0) _
        ∙ rw (guarded-kind kind p.0 h k, guarded-start (eqb kind 1) p.0 at, et))
      where
        body_is : (p : Message × Cursor) (n : ℕ) (t : Table) → p.1.index ≡ n → t ≡ entered owner kind (at + 1) table → MessageRead around (cursor (at + 1) (suc table.count) (drop 1 s)) p
            → scanned table.count t (body_at (drop (n - at) s) n (suc nest) around t.count) ≡ scanned table.count t (read_body (length s - 1) (suc nest) around p.1)
        body_is p n t en et a =
            let c : t.count ≡ suc table.count = entered-next owner kind (at + 1) table t et in
            let y : 1 + (n - (at + 1)) ≡ n - at = omega (arith, a.ahead, en) in
            let l : p.1.left ≡ drop (n - at) s = a.advances.tail ∙ rw (en, drop-drop, y) in
            ap (scanned table.count t)
            (body-fuel _ _ (suc nest) around (cursor n t.count (drop (n - at) s)) (omega arith) (omega (arith, a.ahead, en, length-drop (n - at) s))
            ∙ ap (λ (x : Cursor). read_body (length s - 1) (suc nest) around x) (sym (placed p.1 n t.count (drop (n - at) s) en (a.number ∙ sym c) l)))

-- The script and the rule as read: their part numbers and their names are below what the call hands to the walk.
-- Assumes nothing.
use Prim.Native.Nat.{ℕ, ◌≤◌, ◌<◌, max}
use mathlib.Core.Bool.{true, ◌||◌}
use mathlib.Core.List.{List, ◌∷◌}
use mathlib.Core.Path.{◌≡◌, refl, ◌∙◌, subst}
use native.Mathlib.Omega.{arith}
use lib.Dec.{leb, eqb}
use borrow.Author.Tests.{eqb-true, eq-eqb, leb-false, lt-ltb}
use Rattle.read_messages.specs.Words.{operand, kind, name_fits}
use Rattle.read_messages.specs.Reading.{Cursor, got, next_part}
use Rattle.read_messages.specs.Message.{Message}
use Rattle.read_messages.specs.ReadMessage.{if_zero, message_kind, message_word}
use Rattle.read_messages.specs.declared.MessageWord.{MessageWord}
use Rattle.read_messages.specs.declared.MessageWord.TheVariants.{Name, Variable, Enter, Exit, Open, Empty, Path, Unfit}
use Rattle.read_messages.proofs.Readings.{Next}
use Rattle.read_messages.proofs.Cases as message
use Rattle.read_scripts.specs.Tree.{Head, ambient, action, receipt, output, close, part, settle, bare}
use Rattle.read_scripts.specs.Script.{Written, Script, read_script, head_with_items, with_items, started}
use Rattle.read_script_words.specs.ScriptWords.{greatest_name}
use Rattle.read_scripts.proofs.Cases as body
use Rattle.base_slices.proofs.Tests.{by_test}
use Rattle.theory_machine.proofs.Everywhere.{Everywhere, map-everywhere, more-everywhere, settle-everywhere}
use Rattle.read_rule_words.specs.Rule.{Rule, negation, either, beside, some-name, sometime, somewhere, rule_name, greatest_rule_name}
use Rattle.read_rule_words.specs.ReadRule.{is_chosen, term_of, read_whole_rule}
use Rattle.read_rule_words.proofs.Cases as rule
use Rattle.theory_decision.proofs.Fits.{MessageAll, HeadAll, Fit, Fits, TermAll, RuleAll, items-all, rule-more}

-- ---- names

-- the names of these words are at most G
abbrev Low : ℕ → Cursor → Type 0
Low G c = greatest_name c.left ≤ G

low-tail : (w : ℕ) (ws : List ℕ) → greatest_name ws ≤ greatest_name (w ∷ ws)
unfolding greatest_name
low-tail w ws = by_test (eqb (kind w) 8) (λ t. rw t (omega arith)) (λ t. rw t (omega arith))

low-head : (w : ℕ) (ws : List ℕ) → kind w ≡ 8 → operand w ≤ greatest_name (w ∷ ws)
unfolding greatest_name
low-head w ws e = rw (eq-eqb (kind w) 8 e) (omega arith)

low-next : (G : ℕ) (c : Cursor) (q : ℕ × Cursor) → Next c q → Low G c → Low G q.1
low-next G c q n h = omega (arith, low-tail q.0 q.1.left, rw n.words at h)

-- a NAME word is of kind 8, and its operand is the name
abbrev IsName : ℕ → ℕ → MessageWord → Type 0
IsName k o (Name n) = (k ≡ 8) × (o ≡ n)
IsName k o (Variable v) = Unit {0}
IsName k o Enter = Unit {0}
IsName k o Exit = Unit {0}
IsName k o Open = Unit {0}
IsName k o Empty = Unit {0}
IsName k o Path = Unit {0}
IsName k o Unfit = Unit {0}

zero-name : (k o : ℕ) (w : MessageWord) → IsName k o w → IsName k o (if_zero o w)
zero-name k o w x = by_test (eqb o 0) (λ t. rw t x) (λ t. rw t tt)

kind-name : (k o : ℕ) → IsName k o (message_kind k o)
kind-name k o =
    by_test (eqb k 8) (λ t. rw t (by_test (name_fits o) (λ u. rw u (eqb-true k 8 t, refl)) (λ u. rw u tt)))
    (λ t₈. rw t₈ (by_test (eqb k 9) (λ t. rw t tt)
    (λ t₉. rw t₉ (by_test (eqb k 10) (λ t. rw t (zero-name k o Enter tt))
    (λ t₁. rw t₁ (by_test (eqb k 11) (λ t. rw t (zero-name k o Exit tt))
    (λ t₂. rw t₂ (by_test (eqb k 12) (λ t. rw t (zero-name k o Open tt))
    (λ t₃. rw t₃ (by_test (eqb k 13) (λ t. rw t (zero-name k o Empty tt))
    (λ t₄. rw t₄ (by_test (eqb k 14) (λ t. rw t (zero-name k o Path tt)) (λ t₅. rw t₅ tt)))))))))))))

word-name : (w n : ℕ) → message_word w ≡ Name n → (kind w ≡ 8) × (operand w ≡ n)
unfolding message_word
word-name w n e = subst (IsName (kind w) (operand w)) e (kind-name (kind w) (operand w))

-- ---- the script

-- of a message and of a body that is read: the names are at most G, and so are those behind; a body's numbers rise from the
-- cursor's
record Said (G : ℕ) (c : Cursor) (p : Message × Cursor) : Type 0 where
  low : Low G p.1
  number : p.1.number ≡ c.number
  names : MessageAll (λ n. n ≤ G) p.0

abbrev SaidIf : ℕ → List ℕ → Cursor → Message × Cursor → Type 0
SaidIf G around c p = Low G c → Said G c p

message-said : (G : ℕ) → message.Cases (SaidIf G)
message-said G = record {
  names = λ around c q n x e l.
      let w = word-name q.0 n e in
      record { low = low-next G c q x l; number = x.number; names = omega (arith, low-head q.0 q.1.left w.0, rw x.words at l, w.1) };
  variables = λ around c q v x e l. record { low = low-next G c q x l; number = x.number; names = tt };
  wraps = λ around c q p x h.
      let z : Low G c → Said G q.1 p = λ l. h (low-next G c q x l) in (
        (λ l. record { low = (z l).low; number = (z l).number ∙ x.number; names = (z l).names }),
        (λ l. record { low = (z l).low; number = (z l).number ∙ x.number; names = (z l).names }),
        (λ l. record { low = (z l).low; number = (z l).number ∙ x.number; names = (z l).names }),
      );
  empties = λ around c q x l. record { low = low-next G c q x l; number = x.number; names = tt };
  paths = λ around c q p r x h g l.
      let a = h (low-next G c q x l) in
      let b = g a.low in
      record { low = b.low; number = b.number ∙ a.number ∙ x.number; names = (a.names, b.names) };
}

-- every name of a part as it is written has P
abbrev pub WrittenAll : (ℕ → Type 0) → Head Message → Type 0
WrittenAll P (ambient m) = MessageAll P m
WrittenAll P (action m) = MessageAll P m
WrittenAll P (receipt v) = Unit {0}
WrittenAll P (output m) = MessageAll P m

abbrev pub Inked : (K P : ℕ → Type 0) → ℕ → Written → Type 0
Inked K P k w = K k × WrittenAll P w.head

record Bodied (G : ℕ) (c : Cursor) (p : Script × Cursor) : Type 0 where
  low : Low G p.1
  rises : c.number ≤ p.1.number
  fits : Everywhere (Inked (λ k. k < p.1.number) (λ n. n ≤ G)) p.0

abbrev BodiedIf : ℕ → List ℕ → Cursor → Script × Cursor → Type 0
BodiedIf G around c p = Low G c → Bodied G c p

module _ (G : ℕ) (c : Cursor) where
  part-fits : (h : Head Message) (d : Cursor) (b r : Script × Cursor) → c.number < d.number → WrittenAll (λ n. n ≤ G) h → Bodied G d b → Bodied G b.1 r
      → Bodied G c (part c.number (record { index = c.index; head = h }) b.0 r.0, r.1)
  part-fits h d b r l w x y = record {
    low = y.low;
    rises = omega (arith, x.rises, y.rises);
    fits = (
      (omega (arith, x.rises, y.rises), w),
      more-everywhere (Inked (λ k. k < b.1.number) (λ n. n ≤ G)) (Inked (λ k. k < r.1.number) (λ n. n ≤ G)) (λ k g z. (omega (arith, z.0, y.rises), z.1)) b.0 x.fits,
      y.fits,
    );
  }

  none-fits : (d : Cursor) → Low G d → d.number ≡ c.number → Bodied G c (close, d)
  none-fits d l e = record { low = l; rises = omega arith; fits = tt }

body-said : (G : ℕ) → body.Cases (SaidIf G) (BodiedIf G)
body-said G = record {
  messages = message.message-case (SaidIf G) (message-said G);
  closed = λ around c q x l. none-fits G c q.1 (low-next G c q x l) x.number;
  ambients = λ around c q m b r x h g f l.
      let a = h (low-next G c q x l) in
      let d = g a.low in
      part-fits G c (ambient m.0) m.1 b r (omega (arith, a.number, x.number)) a.names d (f d.low);
  actions = λ around c q m b r x h g f l.
      let a = h (low-next G c q x l) in
      let d = g a.low in
      part-fits G c (action m.0) m.1 b r (omega (arith, a.number, x.number)) a.names d (f d.low);
  receipts = λ around c q b r x g f l.
      let d = g (low-next G c q x l) in
      part-fits G c (receipt c.index) (next_part q.1) b r (omega (arith, x.number)) tt d (f d.low);
  outputs = λ around c q m r x h f l.
      let a = h (low-next G c q x l) in
      part-fits G c (output m.0) m.1 (close, m.1) r (omega (arith, a.number, x.number)) a.names (none-fits G m.1 m.1 a.low refl) (f a.low);
}

pub held_all : (P : ℕ → Type 0) (h : Head Message) → WrittenAll P h → HeadAll P (head_with_items h)
unfolding head_with_items
held_all P (ambient m) x = x
held_all P (action m) x = items-all P m x
held_all P (receipt v) x = tt
held_all P (output m) x = x

-- THEOREM: in the tree that a script begins with, every part number is below the number of parts, and no name is above the
-- greatest.
pub script-fits : (ws : List ℕ) (p : Script × Cursor) → read_script ws ≡ got p → Fits (λ k. k < p.1.number) (λ n. n ≤ greatest_name ws) (started p.0)
unfolding started with_items settle
script-fits ws p e =
    let K : ℕ → Type 0 = λ k. k < p.1.number in
    let P : ℕ → Type 0 = λ n. n ≤ greatest_name ws in
    settle-everywhere (Fit K P) bare (with_items p.0)
    (map-everywhere (Inked K P) (Fit K P) (λ (w : Written). head_with_items w.head) (λ k w x. (x.0, held_all P w.head x.1)) p.0
    (body.script-case (SaidIf (greatest_name ws)) (BodiedIf (greatest_name ws)) (body-said (greatest_name ws)) ws p e (omega arith)).fits)

-- ---- the rule

-- a word of AT or PLACED has a term
at-termed : (k : ℕ) → k ≡ 4 → (eqb k 4 || eqb k 9) ≡ true
at-termed k e = rw e

placed-termed : (k : ℕ) → k ≡ 9 → (eqb k 4 || eqb k 9) ≡ true
placed-termed k e = rw e

-- the names of these words are at most G
abbrev LowRule : ℕ → Cursor → Type 0
LowRule G c = greatest_rule_name c.left ≤ G

rule-next : (G : ℕ) (c : Cursor) (q : ℕ × Cursor) → Next c q → LowRule G c → (rule_name q.0 ≤ G) × LowRule G q.1
unfolding greatest_rule_name
rule-next G c q n h = let z : max (rule_name q.0) (greatest_rule_name q.1.left) ≤ G = rw n.words at h in (omega arith, omega arith)

term_fits : (G w : ℕ) → (eqb (kind w) 4 || eqb (kind w) 9) ≡ true → rule_name w ≤ G → TermAll (λ n. n ≤ G) (term_of (operand w))
unfolding term_of is_chosen rule_name
term_fits G w e h = by_test (leb 134217728 (operand w))
    (λ t. rw t tt)
    (λ t. rw t (rw (e, lt-ltb (operand w) 134217728 (leb-false 134217728 (operand w) t)) at h))

record Ruled (G : ℕ) (c : Cursor) (p : Rule × Cursor) : Type 0 where
  low : LowRule G p.1
  rises : c.number ≤ p.1.number
  fits : RuleAll (λ j. j < p.1.number) (λ n. n ≤ G) p.0

abbrev RuledIf : ℕ → List ℕ → Cursor → Rule × Cursor → Type 0
RuledIf G somes c p = LowRule G c → Ruled G c p

module _ (G : ℕ) where
  ruled-one : (c : Cursor) (q : ℕ × Cursor) (p : Rule × Cursor) (g : Rule → Rule) → Next c q → (LowRule G q.1 → Ruled G q.1 p)
      → ((J P : ℕ → Type 0) → RuleAll J P p.0 → RuleAll J P (g p.0)) → LowRule G c → Ruled G c (g p.0, p.1)
  ruled-one c q p g x h f l =
      let a = h (rule-next G c q x l).1 in
      record { low = a.low; rises = omega (arith, a.rises, x.number); fits = f (λ j. j < p.1.number) (λ n. n ≤ G) a.fits }

  ruled-two : (c : Cursor) (q : ℕ × Cursor) (p r : Rule × Cursor) (g : Rule → Rule → Rule) → Next c q → (LowRule G q.1 → Ruled G q.1 p) → (LowRule G p.1 → Ruled G p.1 r)
      → ((J P : ℕ → Type 0) → RuleAll J P p.0 → RuleAll J P r.0 → RuleAll J P (g p.0 r.0)) → LowRule G c → Ruled G c (g p.0 r.0, r.1)
  ruled-two c q p r g x h k f l =
      let a = h (rule-next G c q x l).1 in
      let b = k a.low in
      record {
        low = b.low;
        rises = omega (arith, a.rises, b.rises, x.number);
        fits = f (λ j. j < r.1.number) (λ n. n ≤ G) (rule-more (λ j. j < p.1.number) (λ j. j < r.1.number) (λ n. n ≤ G) (λ n. n ≤ G) (λ j z. omega (arith, z, b.rises)) (λ n z. z) p.0 a.fits) b.fits;
      }

  rule-said : rule.Cases (RuledIf G)
  rule-said = record {
    leaves = λ somes c q x. (
      (λ k l. record { low = (rule-next G c q x l).1; rises = omega (arith, x.number); fits = tt }),
      (λ k l. record { low = (rule-next G c q x l).1; rises = omega (arith, x.number); fits = tt }),
    );
    ones = λ somes c q p x h. (
      (λ k. ruled-one c q p (negation c.index) x h (λ J P z. z)),
      (λ k. ruled-one c q p (sometime c.index) x h (λ J P z. z)),
      (λ k. ruled-one c q p (somewhere c.index) x h (λ J P z. z)),
    );
    twos = λ somes c q p r x h k. (
      (λ n. ruled-two c q p r (either c.index) x h k (λ J P y z. (y, z))),
      (λ n. ruled-two c q p r (beside c.index) x h k (λ J P y z. (y, z))),
    );
    ats = λ somes c q p x e o h l.
        let a = h (rule-next G c q x l).1 in
        record { low = a.low; rises = omega (arith, a.rises, x.number); fits = (term_fits G q.0 (at-termed (kind q.0) e) (rule-next G c q x l).0, a.fits) };
    chooses = λ somes c q p x k s h. ruled-one c q p (some-name c.index) x h (λ J P z. z);
    placings = λ somes c q p x e o h l.
        let a = h (rule-next G c q x l).1 in
        record { low = a.low; rises = omega (arith, a.rises, x.number); fits = (omega (arith, a.rises), term_fits G q.0 (placed-termed (kind q.0) e) (rule-next G c q x l).0, a.fits) };
  }

-- THEOREM: in a rule as read every PLACED's place is below their number, and no name is above the greatest.
pub rule_fits : (n : ℕ) (ws : List ℕ) (p : Rule × Cursor) → read_whole_rule n ws ≡ got p → RuleAll (λ j. j < p.1.number) (λ m. m ≤ greatest_rule_name ws) p.0
rule_fits n ws p e = (rule.whole-rule-case (RuledIf (greatest_rule_name ws)) (rule-said (greatest_rule_name ws)) n ws p e (omega arith)).fits

-- The reader of rules as the code meets it: what a call inside answers, and what the whole answer then is. Assumes nothing.
use Prim.Native.Nat.{ℕ, suc, ◌+◌, ◌-◌, ◌≤◌, ◌<◌}
use mathlib.Core.Bool.{Bool, true, false, ◌&&◌, cond, and-eq-true_iff}
use mathlib.Core.List.{List, ◌∷◌}
use mathlib.Core.Path.{◌≡◌, refl, sym, ap, ◌∙◌, subst}
use native.Mathlib.Omega.{arith}
use native.Mathlib.Numerals.{add-one}
use lib.Dec.{leb}
use lib.ListN.{length, drop, length-drop}
use borrow.Author.Tests.{leb-true}
use Rattle.read_messages.specs.Words.{operand}
use Rattle.read_messages.specs.Reading.{Cursor, cursor, Reading, refuse, got, refusal_at}
use Rattle.std.specs.Prelude.{Result, Ok, Err}
use Rattle.read_messages.specs.declared.Refusal.{Refusal}
use Rattle.read_messages.proofs.Readings.{placed}
use Rattle.base_slices.proofs.Tails.{no-element, part, part-drop}
use Rattle.read_rule_words.specs.Rule.{Rule}
use Rattle.read_rule_words.specs.ReadRule.{RuleKind, TRUE, NOT, OR, VOID, AT, BESIDE, SOME, SOMETIME, SOMEWHERE, PLACED, OTHER, rule_kind, operand_fits, bound, somes_with, Reader, read_rule}
use Rattle.read_rule_words.specs.RuleWords.{follow, levelled, asked}
use Rattle.read_rules.specs.RuleTable.{turned, entered, tabulate, scanned, Readable}
use Rattle.read_rules.specs.declared.RuleTable.{RuleTable}
use Rattle.read_rules.specs.declared.RuleScan.{RuleScan}
use Rattle.read_rule_words.specs.declared.RuleShape.{RuleShape}
use Rattle.read_rule_words.specs.declared.RuleShape.TheVariants.{Leaf, One, Two, Choice, Place}
use Rattle.read_rules.proofs.Laws.{RuleRead, rule-read, rule-fuel, onward, stepped, step}

-- the rule at the front of the words l, the first of which has the index i; n PLACED words stand before it
abbrev pub rule_at : (l : List ℕ) (i around : ℕ) (somes : List ℕ) (n : ℕ) → Reading (Rule × Cursor)
rule_at l i around somes n = read_rule (length l) around somes (cursor i n l)

-- one SOME more stands in the array
pub next-first : (f g : ℕ) → f + 1 ≡ g → g ≤ 8 → f ≤ 8
next-first f g e h = omega arith

-- the count of a table that was turned or entered
pub same_count : (u v : RuleTable) (m : ℕ) → u ≡ v → v.count ≤ m → u.count ≤ m
same_count u v m e h = rw e h

-- no word is left
pub read_none : (l : List ℕ) (i around : ℕ) (somes : List ℕ) (t : RuleTable) → length l ≡ 0 → refusal_at 11 i ≡ scanned t (rule_at l i around somes t.count)
unfolding read_rule scanned
read_none l i around somes t h = rw (no-element l h)

-- what an answer says of a reading
pub scan-told : (t : RuleTable) (x : Reading (Rule × Cursor)) (a : RuleScan) → Ok a ≡ scanned t x
    → (p : Rule × Cursor) × (x ≡ got p) × (p.1.index ≡ a.next) × (a.table ≡ tabulate p.0 t)
unfolding scanned
scan-told t (refuse q i) a e = cc
scan-told t (got p) a e =
    let h : a ≡ record { next = p.1.index; table = tabulate p.0 t } = cc in
    (p, refl, sym (ap (λ (x : RuleScan). x.next) h), ap (λ (x : RuleScan). x.table) h)

onward-refused : (i : ℕ) (read : Reader) (somes : List ℕ) (t : RuleTable) (x : Reading (Rule × Cursor)) (q : Refusal) → Err q ≡ scanned t x → Err q ≡ onward i read somes t x
unfolding scanned
onward-refused i read somes t (refuse q' j') q e = e
onward-refused i read somes t (got p) q e = cc

onward-read : (i : ℕ) (read : Reader) (somes : List ℕ) (t : RuleTable) (x : Reading (Rule × Cursor)) (p : Rule × Cursor) → x ≡ got p → (u v : RuleTable) (n : ℕ) → u ≡ turned i n v → v ≡ tabulate p.0 t → p.1.index ≡ n
    → scanned u (read somes p.1) ≡ onward i read somes t x
onward-read i read somes t x p e u v n eu ev en = rw (e, eu, ev, en)

-- a word that has rules inside passed question 10
abbrev Level : (around somes : ℕ) → RuleShape → Type 0
Level around m Leaf = Unit {0}
Level around m One = around ≤ 64
Level around m Two = around ≤ 64
Level around m Choice = (around ≤ 64) × (m < 8)
Level around m Place = around ≤ 64

level-kind : (around m : ℕ) (k : RuleKind) → around ≤ 64 → somes_with k m ≤ 8 → Level around m (follow k)
unfolding somes_with follow
level-kind around m TRUE a b = tt
level-kind around m NOT a b = a
level-kind around m OR a b = a
level-kind around m VOID a b = tt
level-kind around m AT a b = a
level-kind around m BESIDE a b = a
level-kind around m SOME a b = (a, omega arith)
level-kind around m SOMETIME a b = a
level-kind around m SOMEWHERE a b = a
level-kind around m PLACED a b = a
level-kind around m OTHER a b = tt

level-told : (i around m : ℕ) (k : RuleKind) (x y z : Bool) (b : RuleShape) → (leb around 64 && leb (somes_with k m) 8) ≡ z
    → cond x (cond y (cond z (Ok (follow k)) (refusal_at 10 i)) (refusal_at 9 i)) (refusal_at 8 i) ≡ Ok b → Level around m b
level-told i around m k false y z b e d = cc
level-told i around m k true false z b e d = cc
level-told i around m k true true false b e d = cc
level-told i around m k true true true b e d =
    let h = (and-eq-true_iff (leb around 64) (leb (somes_with k m) 8)).0 e in
    let f : follow k ≡ b = cc in
    subst (Level around m) f (level-kind around m k (leb-true around 64 h.0) (leb-true (somes_with k m) 8 h.1))

-- The laws as the code meets them: where the questions 8, 9 and 10 were asked of the first word, and what they said. The SOMEs
-- around stand in an array of 8 from `first` on.
pub record First : Type 0 where
  pub words : List ℕ
  pub at : ℕ
  pub around : ℕ
  pub first : ℕ
  pub somes : List ℕ
  pub table : RuleTable
  pub word : ℕ
  pub rest : List ℕ
  pub answer : Result RuleShape Refusal
  pub parts : words ≡ word ∷ rest
  pub answers : answer ≡ asked at around somes (rule_kind word) (operand word)
  pub free : first + length somes ≡ 8
  pub asks : Readable words at around first table.count

module _ (x : First) where
  -- the words behind the first are one less
  pub longer : length x.words ≡ suc (length x.rest)
  longer = ap length x.parts

  pub level : (b : RuleShape) → x.answer ≡ Ok b → Level x.around (length x.somes) b
  unfolding asked levelled
  level b e =
      level-told x.at x.around (length x.somes) (rule_kind x.word) (operand_fits (rule_kind x.word) (operand x.word)) (bound x.somes (rule_kind x.word) (operand x.word)) _ b refl (sym x.answers ∙ e)

  -- what stands behind the first word may be read there, with the SOMEs from f on, and is less
  pub behind : (t f n : ℕ) → length x.words ≡ t → x.around ≤ 64 → f ≤ 8 → n ≤ x.at + 1 → (length x.rest < t) × Readable x.rest (x.at + 1) (x.around + 1) f n
  behind t f n e a b h =
      let l = longer in
      (omega arith, record { few = omega (arith, x.asks); shallow = omega arith; somes = b; fewer = h })

  -- the cursor behind the first word, and what reads there
  abbrev second : Cursor
  second = cursor (suc x.at) x.table.count x.rest

  abbrev reader : Reader
  reader = read_rule (length x.rest) (suc x.around)

  abbrev pub full_scan : Result RuleScan Refusal
  full_scan = scanned x.table (rule_at x.words x.at x.around x.somes x.table.count)

  -- the rule behind the first word, one level further in, with the table u
  abbrev pub further : (somes : List ℕ) (u : RuleTable) → Result RuleScan Refusal
  further somes u = scanned u (rule_at x.rest (x.at + 1) (x.around + 1) somes u.count)

  arm : (b : Result RuleShape Refusal) → x.answer ≡ b → stepped b x.at reader x.somes second x.table ≡ full_scan
  arm b e =
      sym (ap (λ (l : List ℕ). scanned x.table (rule_at l x.at x.around x.somes x.table.count)) x.parts
      ∙ step (length x.rest) x.around x.at x.somes x.table x.table.count x.word x.rest
      ∙ ap (λ (a : Result RuleShape Refusal). stepped a x.at reader x.somes second x.table) (sym x.answers ∙ e))

  pub no_read : (q : Refusal) → x.answer ≡ Err q → Err q ≡ full_scan
  no_read q e = arm (Err q) e

  pub leaf-read : x.answer ≡ Ok Leaf → Ok (record { next = x.at + 1; table = x.table }) ≡ full_scan
  leaf-read e = rw (add-one x.at) (arm (Ok Leaf) e)

  -- what is read behind the first word, with the table u
  inside : (somes : List ℕ) (u : RuleTable) (r : Result RuleScan Refusal) → r ≡ further somes u → r ≡ scanned u (reader somes (cursor (suc x.at) u.count x.rest))
  inside somes u r e = rw (add-one x.at, add-one x.around) at e

  pub one-read : (r : Result RuleScan Refusal) → r ≡ further x.somes x.table → x.answer ≡ Ok One → r ≡ full_scan
  one-read r er e = inside x.somes x.table r er ∙ arm (Ok One) e

  pub choice-read : (a : List ℕ) (r : Result RuleScan Refusal) → a ≡ x.at ∷ x.somes → r ≡ further a x.table → x.answer ≡ Ok Choice → r ≡ full_scan
  choice-read a r ea er e = inside (x.at ∷ x.somes) x.table r (rw ea at er) ∙ arm (Ok Choice) e

  pub place_read : (u : RuleTable) (r : Result RuleScan Refusal) → u ≡ entered x.at x.table.count x.table → r ≡ further x.somes u → x.answer ≡ Ok Place → r ≡ full_scan
  place_read u r eu er e =
      inside x.somes (entered x.at x.table.count x.table) r (rw eu at er)
      ∙ ap (λ (n : ℕ). scanned (entered x.at x.table.count x.table) (reader x.somes (cursor (suc x.at) n x.rest))) (add-one x.table.count)
      ∙ arm (Ok Place) e

  -- the first of two rules, l being what its reader answers
  module _ (r : Result RuleScan Refusal) (er : r ≡ further x.somes x.table) where
    pub two-refused : (q : Refusal) → r ≡ Err q → x.answer ≡ Ok Two → Err q ≡ full_scan
    two-refused q d e = onward-refused x.at reader x.somes x.table (reader x.somes second) q (sym d ∙ inside x.somes x.table r er) ∙ arm (Ok Two) e

    -- it has a word, and no more than there are; the PLACED words are no more than the words
    module _ (l : RuleScan) (d : r ≡ Ok l) where
      pub record Left : Type 0 where
        pub ahead : x.at + 1 < l.next
        pub within : l.next ≤ x.at + length x.words
        pub fewer : x.table.count ≤ x.at → l.table.count ≤ l.next

      between : (p : Rule × Cursor) → RuleRead x.somes second p → p.1.index ≡ l.next → l.table.count ≡ p.1.number → Left
      between p m en ec = record {
        ahead = omega (arith, m.ahead, en);
        within = omega (arith, m.advances.within, en, longer);
        fewer = λ h. omega (arith, m.fewer, en, ec);
      }

      pub left-read : Left
      left-read =
          let (p, ep, en, et) = scan-told x.table (reader x.somes second) l (sym d ∙ inside x.somes x.table r er) in
          let m : RuleRead x.somes second p = rule-read (length x.rest) (suc x.around) x.somes second p ep in
          between p m en (ap (λ (y : RuleTable). y.count) et ∙ m.counted x.table refl)

      -- the second rule's reader stands where the first one's ended
      two-on : (p : Rule × Cursor) → RuleRead x.somes second p → p.1.index ≡ l.next → (u : RuleTable) → u.count ≡ p.1.number
          → scanned u (rule_at (part x.words (l.next - x.at)) l.next (x.around + 1) x.somes u.count) ≡ scanned u (reader x.somes p.1)
      two-on p m en u ec =
          let n : ℕ = l.next in
          let y : n - x.at ≡ suc (n - suc x.at) = omega (arith, m.ahead, en) in
          let k : p.1.left ≡ drop (n - x.at) x.words = m.advances.tail ∙ rw (en, y, x.parts) in
          let e : p.1 ≡ cursor n u.count (drop (n - x.at) x.words) = placed p.1 n u.count _ en (sym ec) k in
          rw (e, part-drop x.words (n - x.at), add-one x.around)
          (ap (scanned u)
          (rule-fuel _ _ (suc x.around) x.somes (cursor n u.count (drop (n - x.at) x.words)) (omega arith)
          (omega (arith, m.ahead, en, longer, length-drop (n - x.at) x.words))))

      pub two-read : (u : RuleTable) (r' : Result RuleScan Refusal) → u ≡ turned x.at l.next l.table
          → r' ≡ scanned u (rule_at (part x.words (l.next - x.at)) l.next (x.around + 1) x.somes u.count) → x.answer ≡ Ok Two → r' ≡ full_scan
      two-read u r' eu er' e =
          let (p, ep, en, et) = scan-told x.table (reader x.somes second) l (sym d ∙ inside x.somes x.table r er) in
          let m : RuleRead x.somes second p = rule-read (length x.rest) (suc x.around) x.somes second p ep in
          er' ∙ two-on p m en u (ap (λ (y : RuleTable). y.count) eu ∙ ap (λ (y : RuleTable). y.count) et ∙ m.counted x.table refl)
          ∙ onward-read x.at reader x.somes x.table (reader x.somes second) p ep u l.table l.next eu et en
          ∙ arm (Ok Two) e

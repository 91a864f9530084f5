-- The rule as a whole: questions 7, 11 and 12 around the reading of its first rule, as the code asks them. Assumes nothing.
use Prim.Native.Nat.{ℕ, ◌+◌, ◌≤◌, ◌<◌}
use mathlib.Core.Bool.{false, ◌&&◌}
use mathlib.Core.List.{List, []}
use mathlib.Core.Path.{◌≡◌, refl, sym, ap, ap₂, ◌∙◌}
use native.Mathlib.Omega.{arith}
use borrow.Author.Tests.{le-leb, lt-leb}
use lib.Dec.{leb}
use lib.ListN.{length, drop, length-drop}
use Rattle.read_messages.specs.Reading.{Cursor, cursor, Reading, refuse, got, ◌>>=◌, ask, is_empty, refusal_at}
use Rattle.std.specs.Prelude.{Result, Ok, Err}
use Rattle.read_messages.specs.declared.Refusal.{Refusal}
use Rattle.base_slices.proofs.Tails.{no-element}
use Rattle.read_messages.proofs.Readings.{bind-got, bind-refuse, ask-yes, ask-no, left-none, left-some}
use Rattle.read_rule_words.specs.Rule.{Rule}
use Rattle.read_rule_words.specs.ReadRule.{read_whole_rule}
use Rattle.read_rules.specs.RuleTable.{vacant, tabulate, scanned, table_of}
use Rattle.read_rules.specs.declared.RuleTable.{RuleTable}
use Rattle.read_rules.specs.declared.RuleScan.{RuleScan}
use Rattle.read_rules.proofs.Laws.{RuleRead, rule-read}
use Rattle.read_rules.proofs.Steps.{rule_at, scan-told}

scan-refused : (t : RuleTable) (x : Reading (Rule × Cursor)) (k : Rule × Cursor → Reading (Rule × Cursor)) (q : Refusal) → Err q ≡ scanned t x → Err q ≡ table_of (x >>= k)
unfolding scanned table_of ◌>>=◌
scan-refused t (refuse q' i') k q e = let d : q ≡ record { question = q'; place = i' } = cc in rw d
scan-refused t (got p) k q e = cc

-- n is the number of the script's parts
module _ (n : ℕ) where
  -- questions 11 and 12, once the rule was read
  abbrev checked : Rule × Cursor → Reading (Rule × Cursor)
  checked p = ask 11 p.1.index (is_empty p.1.left) >>= λ _. ask 12 0 (leb (n + p.1.number) 64) >>= λ _. got (p.0, p.1)

  unroll : (s : List ℕ) → read_whole_rule n s ≡ (ask 7 0 (leb 1 (length s) && leb (length s) 256) >>= λ _. rule_at s 0 0 [] 0 >>= checked)
  unfolding read_whole_rule
  unroll s = refl

  -- question 7
  module _ (s : List ℕ) where
    sized : (leb 1 (length s) && leb (length s) 256) ≡ false → refusal_at 7 0 ≡ table_of (read_whole_rule n s)
    unfolding table_of
    sized e = sym (ap table_of (unroll s ∙ bind-refuse _ _ 7 0 (ask-no 7 0 _ e)))

    pub rule-none : length s ≡ 0 → refusal_at 7 0 ≡ table_of (read_whole_rule n s)
    rule-none h = sized (rw (lt-leb 1 (length s) (omega arith)))

    pub rule-long : 256 < length s → refusal_at 7 0 ≡ table_of (read_whole_rule n s)
    rule-long h = sized (rw (le-leb 1 (length s) (omega arith), lt-leb (length s) 256 h))

  -- What holds where the code has asked question 7 and read the rule with the answer r.
  pub record RuleAsked (s : List ℕ) (r : Result RuleScan Refusal) : Type 0 where
    pub some : 0 < length s
    pub most : length s ≤ 256
    pub rule : r ≡ scanned vacant (rule_at s 0 0 [] 0)

  -- the table t that it was read into was the empty one, and no SOMEs were around
  pub rule-asked : {s : List ℕ} {r : Result RuleScan Refusal} (t : RuleTable) (somes : List ℕ) (first : ℕ) → t ≡ vacant → length somes ≡ first → 0 < length s → length s ≤ 256
      → r ≡ scanned t (rule_at s 0 0 (drop first somes) t.count) → RuleAsked s r
  rule-asked {s} t somes first e k some most r =
      record { some = some; most = most; rule = r ∙ ap₂ (λ (u : RuleTable) (l : List ℕ). scanned u (rule_at s 0 0 l u.count)) e (no-element _ (omega (arith, length-drop first somes))) }

  module _ (s : List ℕ) (some : 0 < length s) (most : length s ≤ 256) where
    goes : read_whole_rule n s ≡ (rule_at s 0 0 [] 0 >>= checked)
    goes = unroll s ∙ bind-got _ _ tt (ask-yes 7 0 _ (rw (le-leb 1 (length s) some, le-leb (length s) 256 most)))

    -- the reading behind the rule p
    module _ (p : Rule × Cursor) (ep : rule_at s 0 0 [] 0 ≡ got p) where
      rule : RuleRead [] (cursor 0 0 s) p
      rule = rule-read (length s) 0 [] (cursor 0 0 s) p ep

      reads : read_whole_rule n s ≡ checked p
      reads = goes ∙ bind-got (rule_at s 0 0 [] 0) checked p ep

      behind : p.1.index < length s → read_whole_rule n s ≡ refuse 11 p.1.index
      behind h = reads ∙ bind-refuse _ _ 11 p.1.index (ask-no 11 p.1.index _ (left-some p.1.left (omega (arith, rule.advances.within))))

      ends : length s ≤ p.1.index → read_whole_rule n s ≡ (ask 12 0 (leb (n + p.1.number) 64) >>= λ _. got (p.0, p.1))
      ends h = reads ∙ bind-got _ _ tt (ask-yes 11 p.1.index _ (left-none p.1.left (omega (arith, rule.advances.within))))

      many : length s ≤ p.1.index → 64 < n + p.1.number → read_whole_rule n s ≡ refuse 12 0
      many h k = ends h ∙ bind-refuse _ _ 12 0 (ask-no 12 0 _ (lt-leb (n + p.1.number) 64 k))

      whole : length s ≤ p.1.index → n + p.1.number ≤ 64 → read_whole_rule n s ≡ got (p.0, p.1)
      whole h k = ends h ∙ bind-got _ _ tt (ask-yes 12 0 _ (le-leb (n + p.1.number) 64 k))

      -- the table's count is the number of PLACED words
      counted : (t : RuleTable) → t ≡ tabulate p.0 vacant → t.count ≡ p.1.number
      counted t e = ap (λ (x : RuleTable). x.count) e ∙ rule.counted vacant refl

  module _ {s : List ℕ} {r : Result RuleScan Refusal} (b : RuleAsked s r) where
    pub rule-refused : (q : Refusal) → r ≡ Err q → Err q ≡ table_of (read_whole_rule n s)
    rule-refused q d = scan-refused vacant (rule_at s 0 0 [] 0) checked q (sym d ∙ b.rule) ∙ sym (ap table_of (goes s b.some b.most))

    module _ (a : RuleScan) (d : r ≡ Ok a) where
      pub rule-behind : a.next < length s → refusal_at 11 a.next ≡ table_of (read_whole_rule n s)
      unfolding table_of
      rule-behind h =
          let (p, ep, en, et) = scan-told vacant (rule_at s 0 0 [] 0) a (sym d ∙ b.rule) in
          sym (ap table_of (behind s b.some b.most p ep (rw en h)) ∙ ap (λ (x : ℕ). refusal_at {A = RuleTable} 11 x) en)

      pub rule-many : length s ≤ a.next → 64 < n + a.table.count → refusal_at 12 0 ≡ table_of (read_whole_rule n s)
      unfolding table_of
      rule-many h l =
          let (p, ep, en, et) = scan-told vacant (rule_at s 0 0 [] 0) a (sym d ∙ b.rule) in
          sym (ap table_of (many s b.some b.most p ep (rw en h) (rw (← counted s b.some b.most p ep a.table et) l)))

      pub rule-whole : length s ≤ a.next → n + a.table.count ≤ 64 → Ok a.table ≡ table_of (read_whole_rule n s)
      unfolding table_of
      rule-whole h l =
          let (p, ep, en, et) = scan-told vacant (rule_at s 0 0 [] 0) a (sym d ∙ b.rule) in
          ap (λ (t : RuleTable). Ok t) et ∙ sym (ap table_of (whole s b.some b.most p ep (rw en h) (rw (← counted s b.some b.most p ep a.table et) l)))

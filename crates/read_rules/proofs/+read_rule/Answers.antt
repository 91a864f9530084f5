-- `read_rules::read_rule` meets its contract. The measure is how many words are left. Assumes nothing.
use Prim.Native.Nat.{ℕ, ◌-◌}
use mathlib.Core.List.{List, ◌∷◌}
use mathlib.Core.Path.{◌≡◌, ap, ◌∙◌}
use native.Mathlib.Omega.{arith}
use native.Mathlib.Nat.{add-le-add, le_refl}
use lib.ListN.{length, drop, length-drop}
use borrow.Author.Rules.{rules}
use Rattle.std.specs.Prelude.{Result, Ok}
use Rattle.read_messages.specs.Words.{operand}
use Rattle.read_messages.specs.declared.Refusal.{Refusal}
use Rattle.base_slices.proofs.Tails.{length_part}
use Rattle.read_rule_words.specs.ReadRule.{rule_kind}
use Rattle.read_rule_words.specs.RuleWords.{asked}
use Rattle.read_rule_words.specs.declared.RuleShape.{RuleShape}
use Rattle.read_rules.specs.RuleTable.{Readable}
use Rattle.read_rules.specs.declared.RuleTable.{RuleTable}
use Rattle.read_rules.proofs.Steps.{next-first, same_count, First, level, behind, read_none, no_read, leaf-read, one-read, two-refused, left-read, two-read, choice-read, place_read}
use Rattle.read_rules.proofs.+read_rule.Goals as goal

-- the words by the first of them, of which the questions were asked, with the SOMEs around as the contract has them
abbrev first : (words : List ℕ) (at around : ℕ) (indices : List ℕ) (from : ℕ) (table : RuleTable) (word : ℕ) (rest somes : List ℕ) (a : Result RuleShape Refusal) → length indices ≡ 8
    → words ≡ word ∷ rest → somes ≡ drop from indices → a ≡ asked at around somes (rule_kind word) (operand word) → Readable words at around from table.count → First
first words at around indices from table word rest somes a l p e h r =
    record {
      words = words;
      at = at;
      around = around;
      first = from;
      somes = drop from indices;
      table = table;
      word = word;
      rest = rest;
      answer = a;
      parts = p;
      answers = rw e at h;
      free = omega (arith, length-drop from indices, r.somes);
      asks = r;
    }

pub returns-in_default : goal.returns-in_default
returns-in_default t c = search (rules, read_none, c.in_default.ensures.cases)

pub returns-in_err-ask_rule : goal.returns-in_err-ask_rule
returns-in_err-ask_rule t c =
    let x = first c.args.s.now c.args.at c.args.around c.args.somes.indices c.args.somes.first c.args.table _ _ _ _ (search rules) c.in-Some.ensures.cases.0 c.as_slice.ensures c.ask_rule.ensures c.requires in
    search rules ∙ no_read x _ c.in_err-ask_rule.was

pub read_rule-requires : goal.read_rule-requires
read_rule-requires t c =
    let x = first c.args.s.now c.args.at c.args.around c.args.somes.indices c.args.somes.first c.args.table _ _ _ _ (search rules) c.in-Some.ensures.cases.0 c.as_slice.ensures c.ask_rule.ensures c.requires in
    behind x t _ _ c.decreases (level x _ (c.in_ok-ask_rule.was ∙ ap (λ (s : RuleShape). Ok s) c.in-One.is)) x.asks.somes (omega (arith, c.requires.fewer))

pub read_rule-requires-in-Two : goal.read_rule-requires-in-Two
read_rule-requires-in-Two t c =
    let x = first c.args.s.now c.args.at c.args.around c.args.somes.indices c.args.somes.first c.args.table _ _ _ _ (search rules) c.in-Some.ensures.cases.0 c.as_slice.ensures c.ask_rule.ensures c.requires in
    behind x t _ _ c.decreases (level x _ (c.in_ok-ask_rule.was ∙ ap (λ (s : RuleShape). Ok s) c.in-Two.is)) x.asks.somes (omega (arith, c.requires.fewer))

pub returns-in_err-left-in-Two : goal.returns-in_err-left-in-Two
returns-in_err-left-in-Two t c =
    let x = first c.args.s.now c.args.at c.args.around c.args.somes.indices c.args.somes.first c.args.table _ _ _ _ (search rules) c.in-Some.ensures.cases.0 c.as_slice.ensures c.ask_rule.ensures c.requires in
    search rules ∙ two-refused x _ c.read_rule-in-Two.ensures _ c.in_err-left-in-Two.was (c.in_ok-ask_rule.was ∙ ap (λ (s : RuleShape). Ok s) c.in-Two.is)

pub overflow_cast-next : goal.overflow_cast-next
overflow_cast-next t c =
    let x = first c.args.s.now c.args.at c.args.around c.args.somes.indices c.args.somes.first c.args.table _ _ _ _ (search rules) c.in-Some.ensures.cases.0 c.as_slice.ensures c.ask_rule.ensures c.requires in
    omega (arith, left-read x _ c.read_rule-in-Two.ensures _ c.in_ok-left-in-Two.was, c.requires.few)

pub overflow_sub-next : goal.overflow_sub-next
overflow_sub-next t c =
    let x = first c.args.s.now c.args.at c.args.around c.args.somes.indices c.args.somes.first c.args.table _ _ _ _ (search rules) c.in-Some.ensures.cases.0 c.as_slice.ensures c.ask_rule.ensures c.requires in
    omega (arith, left-read x _ c.read_rule-in-Two.ensures _ c.in_ok-left-in-Two.was)

pub offset_bounds-s-next : goal.offset_bounds-s-next
offset_bounds-s-next t c =
    let x = first c.args.s.now c.args.at c.args.around c.args.somes.indices c.args.somes.first c.args.table _ _ _ _ (search rules) c.in-Some.ensures.cases.0 c.as_slice.ensures c.ask_rule.ensures c.requires in
    omega (arith, left-read x _ c.read_rule-in-Two.ensures _ c.in_ok-left-in-Two.was, c.requires.few)

pub slice_bounds-read_rule-count : goal.slice_bounds-read_rule-count
slice_bounds-read_rule-count t c =
    let x = first c.args.s.now c.args.at c.args.around c.args.somes.indices c.args.somes.first c.args.table _ _ _ _ (search rules) c.in-Some.ensures.cases.0 c.as_slice.ensures c.ask_rule.ensures c.requires in
    omega (arith, left-read x _ c.read_rule-in-Two.ensures _ c.in_ok-left-in-Two.was)

pub slice_bounds-read_rule-start : goal.slice_bounds-read_rule-start
slice_bounds-read_rule-start t c =
    let x = first c.args.s.now c.args.at c.args.around c.args.somes.indices c.args.somes.first c.args.table _ _ _ _ (search rules) c.in-Some.ensures.cases.0 c.as_slice.ensures c.ask_rule.ensures c.requires in
    omega (arith, left-read x _ c.read_rule-in-Two.ensures _ c.in_ok-left-in-Two.was)

pub read_rule-requires-in-Two-2 : goal.read_rule-requires-in-Two-2
read_rule-requires-in-Two-2 t c =
    let x = first c.args.s.now c.args.at c.args.around c.args.somes.indices c.args.somes.first c.args.table _ _ _ _ (search rules) c.in-Some.ensures.cases.0 c.as_slice.ensures c.ask_rule.ensures c.requires in
    let b = left-read x _ c.read_rule-in-Two.ensures _ c.in_ok-left-in-Two.was in
    let l = length_part x.words (c.in_ok-left-in-Two.left.next - x.at) in
    (omega arith, record { few = omega (arith, c.requires.few); shallow = omega (arith, level x _ (c.in_ok-ask_rule.was ∙ ap (λ (s : RuleShape). Ok s) c.in-Two.is)); somes = x.asks.somes; fewer = search (rules, same_count, b.fewer x.asks.fewer) })

pub with-requires : goal.with-requires
with-requires t c =
    let x = first c.args.s.now c.args.at c.args.around c.args.somes.indices c.args.somes.first c.args.table _ _ _ _ (search rules) c.in-Some.ensures.cases.0 c.as_slice.ensures c.ask_rule.ensures c.requires in
    (omega arith, (omega (arith, x.free, level x _ (c.in_ok-ask_rule.was ∙ ap (λ (s : RuleShape). Ok s) c.in-Choice.is)), x.asks.somes))

pub read_rule-requires-in-Choice : goal.read_rule-requires-in-Choice
read_rule-requires-in-Choice t c =
    let x = first c.args.s.now c.args.at c.args.around c.args.somes.indices c.args.somes.first c.args.table _ _ _ _ (search rules) c.in-Some.ensures.cases.0 c.as_slice.ensures c.ask_rule.ensures c.requires in
    behind x t _ _ c.decreases (level x _ (c.in_ok-ask_rule.was ∙ ap (λ (s : RuleShape). Ok s) c.in-Choice.is)).0 (search (rules, next-first)) (omega (arith, c.requires.fewer))

pub read_rule-requires-in-Place : goal.read_rule-requires-in-Place
read_rule-requires-in-Place t c =
    let x = first c.args.s.now c.args.at c.args.around c.args.somes.indices c.args.somes.first c.args.table _ _ _ _ (search rules) c.in-Some.ensures.cases.0 c.as_slice.ensures c.ask_rule.ensures c.requires in
    behind x t _ _ c.decreases (level x _ (c.in_ok-ask_rule.was ∙ ap (λ (s : RuleShape). Ok s) c.in-Place.is)) x.asks.somes (search (rules, same_count, add-le-add, le_refl))

pub returns-in-Leaf : goal.returns-in-Leaf
returns-in-Leaf t c =
    let x = first c.args.s.now c.args.at c.args.around c.args.somes.indices c.args.somes.first c.args.table _ _ _ _ (search rules) c.in-Some.ensures.cases.0 c.as_slice.ensures c.ask_rule.ensures c.requires in
    leaf-read x (c.in_ok-ask_rule.was ∙ ap (λ (s : RuleShape). Ok s) c.in-Leaf.is)

pub returns-in-One : goal.returns-in-One
returns-in-One t c =
    let x = first c.args.s.now c.args.at c.args.around c.args.somes.indices c.args.somes.first c.args.table _ _ _ _ (search rules) c.in-Some.ensures.cases.0 c.as_slice.ensures c.ask_rule.ensures c.requires in
    one-read x _ c.read_rule.ensures (c.in_ok-ask_rule.was ∙ ap (λ (s : RuleShape). Ok s) c.in-One.is)

pub returns-in_ok-left-in-Two : goal.returns-in_ok-left-in-Two
returns-in_ok-left-in-Two t c =
    let x = first c.args.s.now c.args.at c.args.around c.args.somes.indices c.args.somes.first c.args.table _ _ _ _ (search rules) c.in-Some.ensures.cases.0 c.as_slice.ensures c.ask_rule.ensures c.requires in
    two-read x _ c.read_rule-in-Two.ensures _ c.in_ok-left-in-Two.was _ _ (search rules) c.read_rule-in-Two-2.ensures (c.in_ok-ask_rule.was ∙ ap (λ (s : RuleShape). Ok s) c.in-Two.is)

pub returns-in-Choice : goal.returns-in-Choice
returns-in-Choice t c =
    let x = first c.args.s.now c.args.at c.args.around c.args.somes.indices c.args.somes.first c.args.table _ _ _ _ (search rules) c.in-Some.ensures.cases.0 c.as_slice.ensures c.ask_rule.ensures c.requires in
    choice-read x _ _ (search rules) c.read_rule-in-Choice.ensures (c.in_ok-ask_rule.was ∙ ap (λ (s : RuleShape). Ok s) c.in-Choice.is)

pub returns-in-Place : goal.returns-in-Place
returns-in-Place t c =
    let x = first c.args.s.now c.args.at c.args.around c.args.somes.indices c.args.somes.first c.args.table _ _ _ _ (search rules) c.in-Some.ensures.cases.0 c.as_slice.ensures c.ask_rule.ensures c.requires in
    place_read x _ _ (search rules) c.read_rule-in-Place.ensures (c.in_ok-ask_rule.was ∙ ap (λ (s : RuleShape). Ok s) c.in-Place.is)

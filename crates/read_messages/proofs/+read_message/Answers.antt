-- `read_messages::read_message` meets its contract. The measure is how many words are left.
-- Assumes nothing.
use Prim.Native.Nat.{ℕ, ◌-◌, ◌≤◌}
use mathlib.Core.List.{List, ◌∷◌}
use mathlib.Core.Path.{◌≡◌, ap, ◌∙◌}
use native.Mathlib.Omega.{arith}
use Rattle.std.specs.Prelude.{Result, Ok}
use borrow.Author.Rules.{rules}
use Rattle.base_slices.proofs.Tails.{length_part}
use Rattle.read_messages.specs.declared.Arity.{Arity}
use Rattle.read_messages.specs.declared.Refusal.{Refusal}
use Rattle.read_messages.specs.ReadMessage.{asked, message_word}
use Rattle.read_messages.proofs.Laws.{First, read_none, longer, level, no_read, leaf-read, one-read, two-refused, first-bounds, two-read}
use Rattle.read_messages.proofs.+read_message.Goals as goal

-- the words by the first of them, of which the questions were asked
abbrev first : (words : List ℕ) (at nest : ℕ) (around : List ℕ) (word : ℕ) (rest : List ℕ) (a : Result Arity Refusal) → words ≡ word ∷ rest → a ≡ asked at nest around (message_word word) → First
first words at nest around word rest a p h =
    record { words = words; at = at; nest = nest; around = around; word = word; rest = rest; answer = a; parts = p; answers = h }

pub returns-in_default : goal.returns-in_default
returns-in_default t c number = search (rules, read_none, c.in_default.ensures.cases)

pub returns-in_err-ask_message : goal.returns-in_err-ask_message
returns-in_err-ask_message t c number =
    let x = first c.args.s.now c.args.at c.args.nest c.args.around.now _ _ _ c.in-Some.ensures.cases.0 c.ask_message.ensures in
    search rules ∙ no_read x number _ c.in_err-ask_message.was

pub read_message-requires : goal.read_message-requires
read_message-requires t c =
    let x = first c.args.s.now c.args.at c.args.nest c.args.around.now _ _ _ c.in-Some.ensures.cases.0 c.ask_message.ensures in
    let k : c.args.nest ≤ 64 = level x _ c.in_ok-ask_message.was in
    (omega (arith, longer x), record { few = omega (arith, longer x, c.requires.few); shallow = omega arith })

pub read_message-requires-in-Two : goal.read_message-requires-in-Two
read_message-requires-in-Two t c =
    let x = first c.args.s.now c.args.at c.args.nest c.args.around.now _ _ _ c.in-Some.ensures.cases.0 c.ask_message.ensures in
    let k : c.args.nest ≤ 64 = level x _ c.in_ok-ask_message.was in
    (omega (arith, longer x), record { few = omega (arith, longer x, c.requires.few); shallow = omega arith })

pub returns-in_err-next-in-Two : goal.returns-in_err-next-in-Two
returns-in_err-next-in-Two t c number =
    let x = first c.args.s.now c.args.at c.args.nest c.args.around.now _ _ _ c.in-Some.ensures.cases.0 c.ask_message.ensures in
    search rules ∙ two-refused x number _ (c.read_message-in-Two.ensures number) (c.in_ok-ask_message.was ∙ ap Ok c.in-Two.is) _ c.in_err-next-in-Two.was

pub overflow_sub-next : goal.overflow_sub-next
overflow_sub-next t c =
    let x = first c.args.s.now c.args.at c.args.nest c.args.around.now _ _ _ c.in-Some.ensures.cases.0 c.ask_message.ensures in
    omega (arith, first-bounds x 0 _ (c.read_message-in-Two.ensures 0) _ c.in_ok-next-in-Two.was)

pub offset_bounds-s-next : goal.offset_bounds-s-next
offset_bounds-s-next t c =
    let x = first c.args.s.now c.args.at c.args.nest c.args.around.now _ _ _ c.in-Some.ensures.cases.0 c.ask_message.ensures in
    omega (arith, first-bounds x 0 _ (c.read_message-in-Two.ensures 0) _ c.in_ok-next-in-Two.was)

pub slice_bounds-read_message-count : goal.slice_bounds-read_message-count
slice_bounds-read_message-count t c =
    let x = first c.args.s.now c.args.at c.args.nest c.args.around.now _ _ _ c.in-Some.ensures.cases.0 c.ask_message.ensures in
    omega (arith, first-bounds x 0 _ (c.read_message-in-Two.ensures 0) _ c.in_ok-next-in-Two.was)

pub slice_bounds-read_message-start : goal.slice_bounds-read_message-start
slice_bounds-read_message-start t c =
    let x = first c.args.s.now c.args.at c.args.nest c.args.around.now _ _ _ c.in-Some.ensures.cases.0 c.ask_message.ensures in
    omega (arith, first-bounds x 0 _ (c.read_message-in-Two.ensures 0) _ c.in_ok-next-in-Two.was)

pub read_message-requires-in-Two-2 : goal.read_message-requires-in-Two-2
read_message-requires-in-Two-2 t c =
    let x = first c.args.s.now c.args.at c.args.nest c.args.around.now _ _ _ c.in-Some.ensures.cases.0 c.ask_message.ensures in
    let b = first-bounds x 0 _ (c.read_message-in-Two.ensures 0) _ c.in_ok-next-in-Two.was in
    let l = length_part x.words (c.in_ok-next-in-Two.next - x.at) in
    (omega arith, record { few = omega (arith, c.requires.few); shallow = omega (arith, level x _ c.in_ok-ask_message.was) })

pub returns-in-Leaf : goal.returns-in-Leaf
returns-in-Leaf t c number =
    leaf-read (first c.args.s.now c.args.at c.args.nest c.args.around.now _ _ _ c.in-Some.ensures.cases.0 c.ask_message.ensures) number (c.in_ok-ask_message.was ∙ ap Ok c.in-Leaf.is)

pub returns-in-One : goal.returns-in-One
returns-in-One t c number =
    let x = first c.args.s.now c.args.at c.args.nest c.args.around.now _ _ _ c.in-Some.ensures.cases.0 c.ask_message.ensures in
    one-read x number _ (c.read_message.ensures number) (c.in_ok-ask_message.was ∙ ap Ok c.in-One.is)

pub returns-in_ok-next-in-Two : goal.returns-in_ok-next-in-Two
returns-in_ok-next-in-Two t c number =
    let x = first c.args.s.now c.args.at c.args.nest c.args.around.now _ _ _ c.in-Some.ensures.cases.0 c.ask_message.ensures in
    two-read x number _ (c.read_message-in-Two.ensures number) _ c.in_ok-next-in-Two.was (c.in_ok-ask_message.was ∙ ap Ok c.in-Two.is) _ (c.read_message-in-Two-2.ensures number)

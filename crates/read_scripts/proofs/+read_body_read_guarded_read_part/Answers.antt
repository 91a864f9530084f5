-- `read_scripts::read_body`, `read_scripts::read_guarded` and `read_scripts::read_part` meet their contracts: the loop of
-- `read_body` goes from part to part; `read_guarded` reads message, then body; `read_part` goes by what its first word is.
-- Assumes nothing.
use Prim.Native.Nat.{ℕ, suc, ◌+◌}
use mathlib.Core.Path.{◌≡◌, sym, ◌∙◌}
use mathlib.Core.List.{List}
use native.Mathlib.Omega.{arith}
use Rattle.std.specs.Prelude.{Result}
use borrow.Author.Rules.{rules}
use Rattle.base_slices.proofs.Tails as Tails
use Rattle.read_messages.specs.declared.Refusal.{Refusal}
use Rattle.read_messages.proofs.Laws.{read_of}
use Rattle.read_script_words.specs.declared.PartWord.{PartWord}
use Rattle.read_scripts.specs.Script.{part_from}
use Rattle.read_scripts.specs.Table.{scanned_part}
use Rattle.read_scripts.specs.declared.Table.{Table}
use Rattle.read_scripts.specs.declared.Scan.{Scan}
use Rattle.read_scripts.proofs.Steps.{part_at, body-asks, body-refuses, body-again, body-closes, body-hands, body-ends, message-bounds, guarded-inside, guarded-refused, guarded-law, guarded-asks, passed, receipt-asks, receipt-law, output-law, output-refused, entered-next}
use Rattle.read_scripts.proofs.+read_body_read_guarded_read_part.Goals as goal

-- what is read of a part whose first word is known
by_word : (s : List ℕ) (at nest : ℕ) (around : List ℕ) (owner : ℕ) (table : Table) (w v : PartWord) (r : Result Scan Refusal) → w ≡ v → r ≡ scanned_part owner table (part_at v s at nest around table.count)
    → r ≡ scanned_part owner table (part_at w s at nest around table.count)
by_word s at nest around owner table w v r e h = rw e h

-- the receipts around a message, as the code lends them
around_is : (s : List ℕ) (i nest n : ℕ) (a b : List ℕ) (m : Result ℕ Refusal) → a ≡ b → m ≡ read_of s i nest a n → m ≡ read_of s i nest b n
around_is s i nest n a b m e h = rw e at h

-- the loop of the reader of bodies
pub read_body-returns-in_err-w : goal.read_body-returns-in_err-w
read_body-returns-in_err-w t c =
    search rules ∙ body-refuses _ _ _ _ _ _ _ _ c.loop-k.invariant c.loop-k-test.true _ (sym c.in_err-w.was ∙ c.ask_part.ensures)

pub read_body-returns-in-Close : goal.read_body-returns-in-Close
read_body-returns-in-Close t c = body-closes _ _ _ _ _ _ _ _ c.loop-k.invariant c.loop-k-test.true _ (sym c.in_ok-w.was ∙ c.ask_part.ensures) c.in-Close.is

pub read_body-read_part-requires : goal.read_body-read_part-requires
read_body-read_part-requires t c = body-asks _ _ _ _ _ _ _ _ c.loop-k.invariant c.loop-k-test.true _ (sym c.in_ok-w.was ∙ c.ask_part.ensures) c.requires t c.decreases

pub read_body-returns-in_err-p : goal.read_body-returns-in_err-p
read_body-returns-in_err-p t c =
    search rules ∙ body-hands _ _ _ _ _ _ _ _ c.loop-k.invariant c.loop-k-test.true _ (sym c.in_ok-w.was ∙ c.ask_part.ensures) c.in_default.not-Close _ c.read_part.ensures _ c.in_err-p.was

pub read_body-overflow_sub-k : goal.read_body-overflow_sub-k
read_body-overflow_sub-k t c =
    let b = body-again _ _ _ _ _ _ _ _ c.loop-k.invariant c.loop-k-test.true _ (sym c.in_ok-w.was ∙ c.ask_part.ensures) c.in_default.not-Close _ c.read_part.ensures _ c.in_ok-p.was in
    omega (arith, b.ahead)

pub read_body-loop-k-smaller : goal.read_body-loop-k-smaller
read_body-loop-k-smaller t c =
    let b = body-again _ _ _ _ _ _ _ _ c.loop-k.invariant c.loop-k-test.true _ (sym c.in_ok-w.was ∙ c.ask_part.ensures) c.in_default.not-Close _ c.read_part.ensures _ c.in_ok-p.was in
    omega (arith, b.ahead, b.loop.within)

pub read_body-loop-k-preserved : goal.read_body-loop-k-preserved
read_body-loop-k-preserved t c =
    (body-again _ _ _ _ _ _ _ _ c.loop-k.invariant c.loop-k-test.true _ (sym c.in_ok-w.was ∙ c.ask_part.ensures) c.in_default.not-Close _ c.read_part.ensures _ c.in_ok-p.was).loop

pub read_body-returns : goal.read_body-returns
read_body-returns t c = body-ends _ _ _ _ _ _ _ _ c.loop-k.invariant c.loop-k-test.false

-- an ambient or an action
pub read_guarded-returns-in_err-next : goal.read_guarded-returns-in_err-next
read_guarded-returns-in_err-next t c =
    let told = around_is (Tails.part c.args.s.now 1) (c.args.at + 1) c.args.nest (suc c.args.table.count) _ _ _ c.as_slice.ensures (c.read_message.ensures (suc c.args.table.count)) in
    search rules ∙ guarded-refused _ _ _ _ _ _ _ told _ c.in_err-next.was _

pub read_guarded-overflow_sub-next : goal.read_guarded-overflow_sub-next
read_guarded-overflow_sub-next t c =
    let told = around_is (Tails.part c.args.s.now 1) (c.args.at + 1) c.args.nest (suc c.args.table.count) _ _ _ c.as_slice.ensures (c.read_message.ensures (suc c.args.table.count)) in
    omega (arith, message-bounds c.args.s.now c.args.at c.args.nest _ c.args.owner c.args.table _ told c.requires.some _ c.in_ok-next.was)

pub read_guarded-offset_bounds-s-next : goal.read_guarded-offset_bounds-s-next
read_guarded-offset_bounds-s-next t c =
    let told = around_is (Tails.part c.args.s.now 1) (c.args.at + 1) c.args.nest (suc c.args.table.count) _ _ _ c.as_slice.ensures (c.read_message.ensures (suc c.args.table.count)) in
    omega (arith, message-bounds c.args.s.now c.args.at c.args.nest _ c.args.owner c.args.table _ told c.requires.some _ c.in_ok-next.was)

pub read_guarded-slice_bounds-read_body-count : goal.read_guarded-slice_bounds-read_body-count
read_guarded-slice_bounds-read_body-count t c =
    let told = around_is (Tails.part c.args.s.now 1) (c.args.at + 1) c.args.nest (suc c.args.table.count) _ _ _ c.as_slice.ensures (c.read_message.ensures (suc c.args.table.count)) in
    omega (arith, message-bounds c.args.s.now c.args.at c.args.nest _ c.args.owner c.args.table _ told c.requires.some _ c.in_ok-next.was)

pub read_guarded-slice_bounds-read_body-start : goal.read_guarded-slice_bounds-read_body-start
read_guarded-slice_bounds-read_body-start t c =
    let told = around_is (Tails.part c.args.s.now 1) (c.args.at + 1) c.args.nest (suc c.args.table.count) _ _ _ c.as_slice.ensures (c.read_message.ensures (suc c.args.table.count)) in
    omega (arith, message-bounds c.args.s.now c.args.at c.args.nest _ c.args.owner c.args.table _ told c.requires.some _ c.in_ok-next.was)

pub read_guarded-read_body-requires : goal.read_guarded-read_body-requires
read_guarded-read_body-requires t c =
    let told = around_is (Tails.part c.args.s.now 1) (c.args.at + 1) c.args.nest (suc c.args.table.count) _ _ _ c.as_slice.ensures (c.read_message.ensures (suc c.args.table.count)) in
    guarded-inside c.args.s.now _ _ _ c.args.owner c.args.table _ told c.requires _ c.in_ok-next.was _ c.enter-t.ensures t c.decreases

pub read_guarded-returns : goal.read_guarded-returns
read_guarded-returns t c =
    let told = around_is (Tails.part c.args.s.now 1) (c.args.at + 1) c.args.nest (suc c.args.table.count) _ _ _ c.as_slice.ensures (c.read_message.ensures (suc c.args.table.count)) in
    guarded-law c.args.s.now _ _ _ _ c.args.table _ told _ _ _ _ c.requires.least c.requires.most c.requires.some c.in_ok-next.was c.enter-t.ensures c.read_body.ensures

-- a part by its word
pub read_part-read_guarded-requires : goal.read_part-read_guarded-requires
read_part-read_guarded-requires t c = (omega arith, guarded-asks c.requires _ (omega arith) (omega arith))

pub read_part-read_guarded-requires-in-Action : goal.read_part-read_guarded-requires-in-Action
read_part-read_guarded-requires-in-Action t c = (omega arith, guarded-asks c.requires _ (omega arith) (omega arith))

pub read_part-with-inner-requires : goal.read_part-with-inner-requires
read_part-with-inner-requires t c = (omega arith, (omega (arith, c.requires.reads.room, passed c.requires), c.requires.reads.receipts))

pub read_part-read_body-requires : goal.read_part-read_body-requires
read_part-read_body-requires t c = receipt-asks c.requires _ _ t (search rules) (search (rules, entered-next)) c.decreases

pub read_part-returns-in_err-next-in-Output : goal.read_part-returns-in_err-next-in-Output
read_part-returns-in_err-next-in-Output t c =
    let told = around_is (Tails.part c.args.s.now 1) (c.args.at + 1) c.args.nest (suc c.args.table.count) _ _ _ c.as_slice.ensures (c.read_message.ensures (suc c.args.table.count)) in
    search rules ∙ output-refused _ _ _ _ _ _ _ told _ c.in_err-next-in-Output.was _ c.in-Output.is

pub read_part-returns-in-Close : goal.read_part-returns-in-Close
unfolding part_from scanned_part
read_part-returns-in-Close t c = search (rules, by_word)

pub read_part-returns-in-Ambient : goal.read_part-returns-in-Ambient
unfolding part_from
read_part-returns-in-Ambient t c = search (rules, by_word)

pub read_part-returns-in-Action : goal.read_part-returns-in-Action
unfolding part_from
read_part-returns-in-Action t c = search (rules, by_word)

pub read_part-returns-in-Receipt : goal.read_part-returns-in-Receipt
read_part-returns-in-Receipt t c = search (rules, receipt-law)

pub read_part-returns-in_ok-next-in-Output : goal.read_part-returns-in_ok-next-in-Output
read_part-returns-in_ok-next-in-Output t c =
    let told = around_is (Tails.part c.args.s.now 1) (c.args.at + 1) c.args.nest (suc c.args.table.count) _ _ _ c.as_slice.ensures (c.read_message.ensures (suc c.args.table.count)) in
    output-law _ _ _ _ _ _ _ told _ _ _ c.in-Output.is c.in_ok-next-in-Output.was c.enter-table.ensures

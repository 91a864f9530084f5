-- `write_own` and `write_rest` meet their contracts: a word's own items, then those behind it. The measure falls with the
-- bindings, and then with the words and messages that are left. Assumes nothing.
use Prim.Native.Nat.{ℕ, ◌+◌, ◌-◌, ◌^◌, ◌≤◌, ◌<◌}
use mathlib.Core.List.{List, ◌++◌}
use mathlib.Core.Path.{◌≡◌, refl, ap}
use native.Mathlib.Omega.{arith}
use borrow.Author.Rules.{rules}
use lib.ListN.{length, drop}
use Rattle.std.proofs.lemmas.List.{take_rest}
use Rattle.read_messages.specs.Message.{Message}
use Rattle.read_messages.specs.Spelling.{spelled}
use Rattle.engine_message_words.specs.declared.Binding.{Binding}
use Rattle.engine_bindings.specs.Bindings.{bindings_in}
use Rattle.engine_bindings.specs.declared.Behind.{Behind}
use Rattle.engine_bindings.specs.Passes.{Passed, firsts, all_items, own_items}
use Rattle.engine_bindings.proofs.Passing.{none-pending, first-bound, unbound-free, single, given-own, part_room, older-less}
use Rattle.engine_bindings.proofs.Counting.{kept-drop, drop_past, OwnCount, own-count, own-within, rank-own, rank-behind, rank-older}
use Rattle.theory_written_trees.specs.Write.{Indices}
use Rattle.write_messages.specs.declared.Receipt.{Receipt}
use Rattle.write_messages.specs.Indices.{indices_in}
use Rattle.write_messages.specs.Asked.{ItemsAsked, PendingItemsAsked}
use Rattle.write_messages.specs.Buffer.{Wrote}
use Rattle.write_messages.specs.Passes.{strung}
use Rattle.write_messages.proofs.Lending.{lent, joined, Partly, partly-lent, wrote_none, wrote_as, wrote-if, wrote-more}
use Rattle.write_messages.proofs.Items.{strung-none, strung-single, strung-split}
use Rattle.write_messages.proofs.+write_own_write_rest.Goals as goal

-- ---- what is asked and written, by what is known

-- a buffer in which no count of items stops
partly-small : (o m : ℕ) (xs ys : List ℕ) → o + length xs < 4294967295 → m ≤ length xs → length ys ≡ length xs → Partly xs ys m
partly-small o m xs ys small h kept = record { long = omega arith; within = h; kept = kept }

-- the older bindings, where the first word has one
older-asked : (script g : List ℕ) (us bs : List Binding) (rs : List Receipt) (o k : ℕ) (xs : List ℕ) → ItemsAsked script o bs rs xs → us ≡ drop k bs → 1 + length g < 2 ^ 64 → PendingItemsAsked script g 1 o us rs xs
older-asked script g us bs rs o k xs a e h = record { room = h; asked = record { counted = rw e (kept-drop a.counted k); indexed = a.indexed; small = a.small } }

-- the word's own items are passed: what is behind them may be asked for from the offset on that is left
module _ (script : List ℕ) (bs : List Binding) (rs : List Receipt) (ws ts xs : List ℕ) (p o : ℕ) (b : Behind) (a : PendingItemsAsked script ws p o bs rs xs) (passed : Passed ws p b) (e : ts ≡ drop b.used ws) where
  past-asked : (c : ℕ) → PendingItemsAsked script ts b.left (o - c) bs rs xs
  past-asked c = record { room = omega (arith, ap length e, passed.room, a.room); asked = record { counted = a.asked.counted; indexed = a.asked.indexed; small = omega (arith, a.asked.small) } }

  behind-asked : (m : ℕ) (ys : List ℕ) → m ≤ length xs → length ys ≡ length xs → PendingItemsAsked script ts b.left 0 bs rs (lent m ys)
  behind-asked m ys h kept =
      record { room = omega (arith, ap length e, passed.room, a.room); asked = record { counted = a.asked.counted; indexed = a.asked.indexed; small = omega (arith, a.asked.small, partly-lent (partly-small o m xs ys a.asked.small h kept)) } }

  -- what is pending is the word's own items and those behind them
  module _ (c : ℕ) (count : OwnCount c bs ws) where
    abbrev σ : List (ℕ × Message)
    σ = bindings_in script bs

    pending-after : all_items σ (firsts p (spelled ws)) ≡ own_items σ ws ++ all_items σ (firsts b.left (spelled ts))
    pending-after = rw e (passed.split σ)

    past-wrote : (ix : Indices) (l r : ℕ) (ys : List ℕ) → Wrote (strung ix l (drop (o - c) (all_items σ (firsts b.left (spelled ts))))) xs ys r → c ≤ o
        → Wrote (strung ix l (drop o (all_items σ (firsts p (spelled ws))))) xs ys r
    past-wrote ix l r ys w h = wrote_as (ap (strung ix l) (drop_past _ (own_items σ ws) _ o c pending-after (count script a.asked.counted) h (omega (arith, a.asked.small)))) w

    behind-wrote : (ix : Indices) (l n m r : ℕ) (ys zs : List ℕ) → Wrote (strung ix l (drop o (own_items σ ws))) xs ys m → Wrote (strung ix n (drop 0 (all_items σ (firsts b.left (spelled ts))))) (lent m ys) zs r
        → length ys ≡ length xs → o < c → n ≡ l - (c - o)
        → Wrote (strung ix l (drop o (all_items σ (firsts p (spelled ws))))) xs (joined m ys zs) (r + m)
    behind-wrote ix l n m r ys zs w v f h q =
        wrote-if (λ i. strung-split ix l o c n _ (own_items σ ws) _ pending-after (count script a.asked.counted) h q (omega (arith, i, a.asked.small))) (wrote-more (partly-small o m xs ys a.asked.small w.within f) w v)

pub write_own-write_rest-requires : goal.write_own-write_rest-requires
write_own-write_rest-requires t c = (
  rank-older _ _ _ _ _ c.decreases (older-less _ _ c.in-Some.k (search (take_rest, rules)) c.in-Some.ensures.within _ refl) (search (part_room, rules)),
  older-asked _ _ _ _ _ _ (c.in-Some.k + 1) _ c.requires.asked (take_rest c.args.bindings.now _) (search (part_room, rules)),
)

pub write_own-returns-in-Some : goal.write_own-returns-in-Some
write_own-returns-in-Some t c =
    wrote_as (ap (λ (i : List Message). strung (indices_in c.args.receipts.now) c.args.left (drop c.args.offset i)) (given-own c.args.script.now _ c.in-Some.k _ (first-bound _ _ c.first_word.ensures c.in-Some.ensures.newest) (take_rest c.args.bindings.now (c.in-Some.k + 1)) c.given-of_binding.ensures)) c.write_rest.ensures

pub write_own-returns : goal.write_own-returns
write_own-returns t c =
    let free = unbound-free c.args.script.now c.args.bindings.now _ (first-bound _ _ c.first_word.ensures c.in_default.ensures.newest) in
    wrote_as (strung-single _ _ _ _ c.args.words.now (single _ _ _ free c.requires.within))
    (wrote-more (partly-small c.args.offset _ _ _ c.requires.asked.small c.write_link-m.ensures.within (omega arith)) c.write_link-m.ensures c.write_from.ensures)

pub write_rest-returns-then-pending-eq0 : goal.write_rest-returns-then-pending-eq0
write_rest-returns-then-pending-eq0 t c = wrote_none (strung-none _ _ _ _ (none-pending _ _ _ c.if-pending-eq0.true))

pub write_rest-write_rest-requires : goal.write_rest-write_rest-requires
write_rest-write_rest-requires t c = (search (rank-behind, rules), search (past-asked, rules))

pub write_rest-returns-then-o-offset : goal.write_rest-returns-then-o-offset
write_rest-returns-then-o-offset t c =
    past-wrote _ _ _ _ _ _ _ _ _ c.requires c.after_own-b.ensures c.tail-behind.ensures _ (own-count _ _ _ c.own-o.ensures) _ _ _ _ c.write_rest.ensures c.if-o-offset.true

pub write_rest-write_own-m-requires : goal.write_rest-write_own-m-requires
write_rest-write_own-m-requires t c = (search (rank-own, rules), record { asked = search rules; within = search (own-within, own-count, rules) })

pub write_rest-write_rest-requires-2 : goal.write_rest-write_rest-requires-2
write_rest-write_rest-requires-2 t c = (search (rank-behind, rules), search (behind-asked, rules))

pub write_rest-returns : goal.write_rest-returns
write_rest-returns t c =
    behind-wrote _ _ _ _ _ _ _ _ _ c.requires c.after_own-b.ensures c.tail-behind.ensures _ (own-count _ _ _ c.own-o.ensures) _ _ _ _ _ _ _ c.write_own-m.ensures c.write_rest-2.ensures (omega arith) c.if-o-offset.false c.saturating_sub-next.ensures

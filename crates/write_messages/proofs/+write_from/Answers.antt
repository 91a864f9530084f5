-- `write_from` meets its contract: a variable with a binding is the message of that binding, any other word represents itself.
-- The measure falls with the bindings, and then with the words and messages that are left. Assumes nothing.
use Prim.Native.Nat.{ℕ, ◌+◌, ◌-◌, ◌*◌, ◌^◌, ◌≤◌, ◌<◌}
use mathlib.Core.List.{List}
use mathlib.Core.Path.{◌≡◌, refl, sym, ap, ◌∙◌}
use native.Mathlib.Omega.{arith}
use borrow.Author.Rules.{rules}
use mir.Syntax.{w64}
use mir.Val.{Fits}
use lib.ListN.{length, drop, length-drop}
use Rattle.std.proofs.lemmas.List.{take_rest}
use Rattle.read_messages.specs.declared.MessageWord.{MessageWord}
use Rattle.read_messages.specs.declared.MessageWord.TheVariants.{Name}
use Rattle.engine_message_words.specs.Words.{first_word, arity_of}
use Rattle.engine_bindings.proofs.Passing.{less-behind, part_room, older-less, first-bound, unbound-free}
use Rattle.engine_bindings.proofs.Counting.{rank_less, rank-older}
use Rattle.write_messages.specs.declared.Receipt.{Receipt}
use Rattle.write_messages.specs.Asked.{MessagesAsked}
use Rattle.write_messages.specs.Passes.{plain_word}
use Rattle.write_messages.proofs.Lending.{wrote_none, wrote_as, wrote-more}
use Rattle.write_messages.proofs.Words.{first-name, none_written, written-first, written-bound}
use Rattle.write_messages.proofs.+write_from.Goals as goal

-- ---- what is asked and written, by what is known

first_small : (ws : List ℕ) (m : MessageWord) → m ≡ first_word ws → (n : ℕ) → m ≡ Name n → n ≤ 255
first_small ws m e n f = first-name ws n (sym e ∙ f)

-- the first word's message is passed
tail-less : (ws ts : List ℕ) (p : ℕ) → ts ≡ drop 1 ws → (p ≡ 0 → ⊥) → 3 * length ts + (p - 1) < 3 * length ws + p
tail-less ws ts p e h = omega (arith, ap length e, length-drop 1 ws)

tail-asked : (ws ts : List ℕ) (p : ℕ) (rs : List Receipt) → MessagesAsked ws p rs → ts ≡ drop 1 ws → (p ≡ 0 → ⊥) → MessagesAsked ts (p - 1) rs
tail-asked ws ts p rs a e h = record { room = omega (arith, ap length e, length-drop 1 ws, a.room); indexed = a.indexed }

-- the word is passed, and what stands in it comes behind it
module _ (ws ts : List ℕ) (p a : ℕ) (m : MessageWord) (first : m ≡ first_word ws) (e : ts ≡ drop 1 ws) (some : p ≡ 0 → ⊥) (opened : a ≡ arity_of m) where
  behind : (p - 1 + a + length ts ≤ p + length ws) × (3 * length ts + (p - 1 + a) < 3 * length ws + p)
  behind = less-behind ws p a e (omega arith) (omega (arith, opened ∙ ap arity_of first))

  opened-less : 3 * length ts + (p - 1 + a) < 3 * length ws + p
  opened-less = behind.1

  opened-fits : p + length ws < 2 ^ 64 → Fits w64 (p - 1 + a)
  opened-fits room = omega (arith, behind.0)

  opened-asked : (rs : List Receipt) → MessagesAsked ws p rs → MessagesAsked ts (p - 1 + a) rs
  opened-asked rs b = record { room = omega (arith, behind.0, b.room); indexed = b.indexed }

pub returns-then-pending-eq0 : goal.returns-then-pending-eq0
returns-then-pending-eq0 t c = wrote_none (none_written _ _ _ _ c.if-pending-eq0.true)

pub write_from-m-requires : goal.write_from-m-requires
write_from-m-requires t c = (rank-older _ _ _ _ _ c.decreases (older-less _ _ c.in-Some.k (search (take_rest, rules)) c.in-Some.ensures.within _ refl) (search (part_room, rules)), search (part_room, rules))

pub write_from-requires : goal.write_from-requires
write_from-requires t c = (rank_less _ _ _ _ c.decreases (search (tail-less, rules)), search (tail-asked, c.requires, rules))

pub returns-in-Some : goal.returns-in-Some
returns-in-Some t c =
    wrote_as (written-bound _ _ _ _ c.args.pending c.in-Some.k (omega arith) (first-bound _ _ c.first_word-w.ensures c.in-Some.ensures.newest) (search (take_rest, rules)) c.given-of_binding.ensures c.tail-rest.ensures)
    (wrote-more (record { long = omega arith; within = c.write_from-m.ensures.within; kept = omega arith }) c.write_from-m.ensures c.write_from.ensures)

pub plain_word-requires : goal.plain_word-requires
plain_word-requires t c = search (first_small, rules)

pub overflow_add-pending : goal.overflow_add-pending
overflow_add-pending t c = search (opened-fits, c.requires, rules)

pub write_from-requires-2 : goal.write_from-requires-2
write_from-requires-2 t c = (rank_less _ _ _ _ c.decreases (search (opened-less, rules)), search (opened-asked, c.requires, rules))

pub returns : goal.returns
returns t c =
    let first = c.first_word-w.ensures in
    let free = unbound-free c.args.script.now c.args.bindings.now _ (first-bound _ _ first c.in_default.ensures.newest) in
    wrote_as (written-first _ _ _ c.args.pending (omega arith) free (c.plain_word.ensures ∙ ap (plain_word _) first) (c.arity-inside.ensures ∙ ap arity_of first) c.tail-rest.ensures)
    (wrote-more (record { long = omega arith; within = c.write_word-m.ensures.within; kept = omega arith }) c.write_word-m.ensures c.write_from-2.ensures)

-- `engine_held_bindings::bulk_from` and `engine_held_bindings::own_bulk` meet their contracts. The measure falls with the bindings, and
-- then with the words and messages that are left. Assumes nothing.
use Prim.Native.Nat.{◌+◌}
use borrow.Author.Rules.{rules}
use Rattle.std.proofs.lemmas.List.{take_rest}
use Rattle.engine_bindings.proofs.Passing.{none-pending, behind-room, part_room}
use Rattle.engine_bindings.proofs.Counting.{own-count, own-within, rank-own, rank-behind}
use Rattle.engine_held_bindings.proofs.Sizing.{bulk-none, bulk-past, bulk-within, bulk-kept, bulk-older, bulk-single, cached-drop, rank-given}
use Rattle.engine_held_bindings.proofs.+bulk_from_own_bulk.Goals as goal

pub bulk_from-returns-then-pending-eq0 : goal.bulk_from-returns-then-pending-eq0
bulk_from-returns-then-pending-eq0 t c = search (bulk-none, none-pending, rules)

pub bulk_from-bulk_from-requires : goal.bulk_from-bulk_from-requires
bulk_from-bulk_from-requires t c = (search (rank-behind, rules), record { room = search (behind-room, rules); cached = search rules; below = search rules })

pub bulk_from-returns-then-o-offset : goal.bulk_from-returns-then-o-offset
bulk_from-returns-then-o-offset t c = search (bulk-past, own-count, c.requires.cached.counted, rules)

pub bulk_from-own_bulk-requires : goal.bulk_from-own_bulk-requires
bulk_from-own_bulk-requires t c = search (rank-own, own-within, own-count, rules)

pub bulk_from-bulk_from-requires-2 : goal.bulk_from-bulk_from-requires-2
bulk_from-bulk_from-requires-2 t c = (search (rank-behind, rules), record { room = search (behind-room, rules); cached = search rules; below = search rules })

pub bulk_from-returns : goal.bulk_from-returns
bulk_from-returns t c = search (bulk-within, own-count, c.requires.cached.counted, rules)

pub own_bulk-returns-in_default : goal.own_bulk-returns-in_default
own_bulk-returns-in_default t c = search (bulk-single, rules)

pub own_bulk-returns-then-offset-eq0 : goal.own_bulk-returns-then-offset-eq0
own_bulk-returns-then-offset-eq0 t c = search (bulk-kept, rules)

pub own_bulk-bulk_from-requires : goal.own_bulk-bulk_from-requires
own_bulk-bulk_from-requires t c =
    let older = take_rest c.args.bindings.now (c.in-Some.k + 1) in (
      rank-given c.args.script.now _ _ c.given.ensures (search rules) _ _ c.in-Some.k _ older c.in-Some.ensures.within c.decreases,
      record {
        room = part_room c.args.script.now _ _ c.given.ensures (search rules);
        cached = cached-drop _ _ c.requires.cached (c.in-Some.k + 1) _ older;
        below = c.requires.below;
      },
    )

pub own_bulk-returns : goal.own_bulk-returns
own_bulk-returns t c = search (bulk-older, take_rest, rules)

-- `write_tree` meets its contract: the words are counted first, and written only where they fit. Assumes nothing.
use mathlib.Core.List.{[]}
use mathlib.Core.Logic.{inl, inr}
use mathlib.Core.Path.{ap}
use native.Mathlib.Omega.{arith}
use Rattle.theory_closures.specs.Closure.{unfolded}
use Rattle.theory_written_trees.specs.Write.{Indices, write}
use Rattle.write_messages.proofs.Lending.{wrote_as}
use Rattle.write_counts.specs.Trees.{bindings_under}
use Rattle.write_trees.proofs.Answers.{over-limit, over-buffer, fitted}
use Rattle.write_trees.proofs.write_tree.Goals as goal

pub returns-then-n-gt-MOST_WORDS : goal.returns-then-n-gt-MOST_WORDS
returns-then-n-gt-MOST_WORDS c b e h p =
    let count = c.count_words-n.ensures [] 0 b e h p in
    elim c.then-n-gt-MOST_WORDS.either [ inl f ↦ over-limit _ _ _ count f | inr f ↦ over-buffer _ _ _ count (omega (arith, f.1)) ]

pub returns : goal.returns
returns c b e h p =
    let none = ap (λ (ix : Indices). write ix 0 (unfolded (bindings_under c.args.tree.now) b)) c.nothing_around-around.ensures.none in
    fitted _ _ _ (c.count_words-n.ensures [] 0 b e h p) c.if-n-gt-MOST_WORDS.false _ c.wide-words.ensures c.if-out-words.false _ _ (wrote_as none (c.write_body.ensures.written b e h p))

-- `read_scripts::Table::enter` meets its contract: outside the table nothing is set. Assumes nothing.
use native.Mathlib.Omega.{arith}
use mathlib.Core.Path.{◌≡◌}
use borrow.Author.Tests.{lt-ltb, le-ltb}
use lib.ListN.{length}
use lib.Seq.{set_out}
use Rattle.base_sets.proofs.Members.{mask-members}
use Rattle.read_scripts.specs.Table.{entered}
use borrow.Author.Rules.{rules}
use Rattle.read_scripts.proofs.Table.enter.Goals as goal

pub returns-then-n-ge-MOST_PARTS : goal.returns-then-n-ge-MOST_PARTS
unfolding entered
returns-then-n-ge-MOST_PARTS c = search (rules, le-ltb)

pub returns-else-owner-le-SCRIPT_BODY : goal.returns-else-owner-le-SCRIPT_BODY
unfolding entered
returns-else-owner-le-SCRIPT_BODY c = let l : length c.args.self.kids ≡ 65 = search rules in
    rw (lt-ltb c.args.self.count 64 (omega arith), set_out c.args.self.kids c.args.owner _ (omega arith))

pub returns-then-owner-le-SCRIPT_BODY : goal.returns-then-owner-le-SCRIPT_BODY
unfolding entered
returns-then-owner-le-SCRIPT_BODY c = rw (lt-ltb c.args.self.count 64 (omega arith), ← c.with.ensures, mask-members _ c.with.type_inv)

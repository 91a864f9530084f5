-- `targets` meets its contract: one test for each act. Assumes nothing.
use Prim.Native.Nat.{ℕ, ◌<◌}
use mathlib.Core.List.{List}
use mathlib.Core.Path.{◌≡◌, refl, sym, ◌∙◌}
use lib.ListN.{get_or}
use native.Mathlib.Omega.{arith}
use Rattle.base_sets.specs.Sets.{members, elem}
use Rattle.read_scripts.specs.Represents.{body_in}
use Rattle.engine_targets.specs.Targets.{is_target, TargetsOf}
use Rattle.engine_targets.proofs.Aiming.{targets_of, no_target, in-none}
use Rattle.engine_targets.proofs.targets.Goals as goal

-- r has the parts that pass the test of the act n
answers : (kids : List ℕ) (act aim : ℕ) (homes : List ℕ) (a : ℕ) → a < 64 → (n r : ℕ) → act ≡ n
    → ((t : ℕ) → elem t (members r) ≡ is_target (body_in kids) n (get_or homes a 0) (get_or homes (get_or homes a 0) 0) t (elem t (members aim)))
    → TargetsOf (body_in kids) act (members aim) (λ i. get_or homes i 0) a (members r)
answers kids act aim homes a low n r = targets_of (body_in kids) act (members aim) (λ i. get_or homes i 0) a (members r) low n

pub returns-in-1 : goal.returns-in-1
unfolding is_target
returns-in-1 c = answers c.args.kids.now c.args.act c.args.aim c.args.homes.now c.args.a c.requires 1 c.aimed_within.result c.in-1.is c.aimed_within.ensures

pub returns-in-2 : goal.returns-in-2
unfolding is_target
returns-in-2 c = answers c.args.kids.now c.args.act c.args.aim c.args.homes.now c.args.a c.requires 2 c.aimed_beside.result c.in-2.is c.aimed_beside.ensures

pub returns-in-3 : goal.returns-in-3
unfolding is_target
returns-in-3 c = answers c.args.kids.now c.args.act c.args.aim c.args.homes.now c.args.a c.requires 3 c.aimed_around.result c.in-3.is c.aimed_around.ensures

pub returns-in-4 : goal.returns-in-4
unfolding is_target
returns-in-4 c = answers c.args.kids.now c.args.act c.args.aim c.args.homes.now c.args.a c.requires 4 c.aimed_within-in-4.result c.in-4.is c.aimed_within-in-4.ensures

pub returns-in_default : goal.returns-in_default
returns-in_default c =
    answers c.args.kids.now c.args.act c.args.aim c.args.homes.now c.args.a c.requires c.args.act 0 refl
    (λ t. in-none t ∙ sym (no_target (body_in c.args.kids.now) c.args.act (get_or c.args.homes.now c.args.a 0) (get_or c.args.homes.now (get_or c.args.homes.now c.args.a 0) 0) t (elem t (members c.args.aim)) (omega arith) (omega arith) (omega arith) (omega arith)))

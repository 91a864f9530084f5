-- The walk over a closure is the walk over the tree that it unfolds to, with its visits and its stops. Assumes nothing.
use Prim.Native.Nat.{ℕ, ◌+◌}
use mathlib.Core.Bool.{Bool, true, false, cond}
use mathlib.Core.List.{List, [], ◌++◌}
use mathlib.Core.Path.{◌≡◌, refl, ap, ◌∙◌, subst}
use mathlib.Core.Option.{Option, none, some, map}
use native.Mathlib.Omega.{arith}
use Rattle.read_messages.specs.Message.{Message, name, mentions}
use Rattle.std.specs.Prelude.{Some}
use Rattle.read_scripts.specs.Tree.{ambient, action, receipt, output, close, part, map_heads, Plain}
use Rattle.theory_closures.proofs.Resolving.{resolve-name}
use Rattle.theory_machine.specs.Moves.{MoveMade, head_name, is_named, same_name}
use Rattle.theory_machine.specs.PlainMachine.{plain}
use Rattle.base_slices.proofs.Tests.{by_test}
use Rattle.theory_machine.proofs.Inversion.{is_named-inv, same_name-inv}
use Rattle.read_rule_words.specs.Rule.{Rule}
use Rattle.theory_calculus.specs.Satisfaction.{wrapped}
use Rattle.theory_closures.specs.Closure.{Action, ClosureHead, Closure, Bindings, view_under, closure_move, unfold_head, unfolded, unfolded_move, ClosureMachine}
use Rattle.theory_closures.proofs.Tallies.{Tally, tally_of}
use Rattle.theory_closures.proofs.Invariant.{Good, good-less, good-inside, good-rest, move-good}
use Rattle.theory_closures.proofs.Simulation.{unfold-move}
use Rattle.theory_decision.specs.Divisions.{is_void, with_either, divisions}
use Rattle.theory_decision.specs.Walk.{Setting, walk_from}
use Rattle.theory_decision.specs.PlainWalk.{body_after, plain_space}
use Rattle.theory_decision.specs.PlainWalk as plain_walk
use Rattle.theory_decision.specs.ClosureWalk.{beside, only, insides, machine_after, nexts, shares, closure_space}
use Rattle.theory_decision.proofs.Related.{Both, neither, found, RelatedLists, none_left, one_more, lists-map, lists-more, order-lists, Related, walk-related}

-- a closure with the invariant, and the tree that it unfolds to
abbrev pub Unfolds : ClosureMachine → Plain → Type 0
Unfolds m b = Good m.bindings m.tree × (unfolded m.bindings m.tree ≡ b)

pub unfold-name : (σ : Bindings) (h : ClosureHead) → head_name plain (unfold_head σ h) ≡ head_name (view_under σ) h
unfolding head_name unfold_head
unfold-name σ (ambient m) = refl
unfold-name σ (action a) = refl
unfold-name σ (receipt v) = refl
unfold-name σ (output m) = refl

void-unfolded : (σ : Bindings) (b : Closure) → is_void b ≡ is_void (unfolded σ b)
unfolding is_void unfolded map_heads
void-unfolded σ close = refl
void-unfolded σ (part k h b r) = refl

-- where the test is the same, both find it or neither does
cond_both : {A B : Type 0} (R : A → B → Type 0) (t : Bool) (a : A) (b : B) → (t ≡ true → R a b) → Both R (cond t (some a) none) (cond t (some b) none)
cond_both R true a b f = found (f refl)
cond_both R false a b f = neither

only-unfolded : (σ : Bindings) (n : ℕ) (b : Closure) → Good σ b → Both Unfolds (only σ n b) (plain_walk.only n (unfolded σ b))
unfolding only plain_walk.only unfolded map_heads
only-unfolded σ n close G = neither
only-unfolded σ n (part k h b close) G = rw (unfold-name σ h)
    (cond_both Unfolds (same_name (Some n) (head_name (view_under σ) h)) (beside σ b) (unfolded σ b)
    (λ t. (good-inside σ k _ h b close (same_name-inv (Some n) (head_name (view_under σ) h) t).2 G, refl)))
only-unfolded σ n (part k h b (part k₁ h₁ b₁ r)) G = neither

insides-unfolded : (σ : Bindings) (b : Closure) → Good σ b → RelatedLists Unfolds (insides σ b) (plain_walk.insides (unfolded σ b))
unfolding insides plain_walk.insides unfolded map_heads
insides-unfolded σ close G = none_left
insides-unfolded σ (part k h b r) G =
    let p = insides-unfolded σ r (good-rest σ k h b r G) in
    rw (unfold-name σ h) (by_test (is_named (head_name (view_under σ) h))
    (λ t. rw t (one_more (good-inside σ k _ h b r (is_named-inv (head_name (view_under σ) h) t).1 G, refl) p))
    (λ t. rw t p))

-- a share and the rest of a closure, and of the tree: together they count what the closure counts
record Shares (σ : Bindings) (b : Closure) (d : Closure × Closure) (e : Plain × Plain) : Type 0 where
  share : unfolded σ d.0 ≡ e.0
  others : unfolded σ d.1 ≡ e.1
  counts : (T : Tally) → tally_of T d.0 + tally_of T d.1 ≡ tally_of T b

either-unfolded : (σ : Bindings) (k : ℕ) (h : ClosureHead) (i b : Closure) {l : List (Closure × Closure)} {m : List (Plain × Plain)} → RelatedLists (Shares σ b) l m →
    RelatedLists (Shares σ (part k h i b)) (with_either k h i l) (with_either k (unfold_head σ h) (unfolded σ i) m)
unfolding with_either unfolded map_heads tally_of
either-unfolded σ k h i b none_left = none_left
either-unfolded σ k h i b (one_more {a = d} {b = e} x p) =
    let right : Shares σ (part k h i b) (d.0, part k h i d.1) (e.0, part k (unfold_head σ h) (unfolded σ i) e.1)
    = record { share = x.share; others = ap (part k (unfold_head σ h) (unfolded σ i)) x.others; counts = λ T. omega (arith, x.counts T) } in
    let left : Shares σ (part k h i b) (part k h i d.0, d.1) (part k (unfold_head σ h) (unfolded σ i) e.0, e.1)
    = record { share = ap (part k (unfold_head σ h) (unfolded σ i)) x.share; others = x.others; counts = λ T. omega (arith, x.counts T) } in
    one_more right (one_more left (either-unfolded σ k h i b p))

divisions-unfolded : (σ : Bindings) (b : Closure) → RelatedLists (Shares σ b) (divisions b) (divisions (unfolded σ b))
unfolding divisions unfolded map_heads tally_of
divisions-unfolded σ close =
    let none_left_lem : Shares σ close (close, close) (close, close) = record { share = refl; others = refl; counts = λ T. omega arith } in
    one_more none_left_lem none_left
divisions-unfolded σ (part k h b r) = either-unfolded σ k h b r (divisions-unfolded σ r)

after-unfolded : (σ : Bindings) (x : Option (MoveMade Action)) → ((s : MoveMade Action) → x ≡ some s → Good (s.news ++ σ) s.body) →
    Both Unfolds (machine_after σ x) (body_after (map (unfolded_move σ) x))
unfolding unfolded_move
after-unfolded σ none f = neither
after-unfolded σ (some s) f = found (f s refl, refl)

nexts-unfolded : (limit : ℕ) (σ : Bindings) (b : Closure) → Good σ b → RelatedLists Unfolds (nexts σ limit b) (plain_walk.nexts limit (unfolded σ b))
unfolding nexts plain_walk.nexts
nexts-unfolded limit σ b G = order-lists Unfolds limit _ _
    (λ a t. rw (unfold-move σ a t b G) (after-unfolded σ (closure_move σ a t b) (λ s e. move-good σ a t b s e G)))

-- PLACED
good-wrapped : (σ : Bindings) (k n : ℕ) (b : Closure) → Good σ b → Good σ (part k (ambient (name n)) b close)
unfolding tally_of mentions
good-wrapped σ k n b G = record {
  once = λ v. omega (arith, G.once v);
  apart = λ v i. omega (arith, G.apart v (omega arith));
  new = λ v i. G.new v (omega arith);
}

wrap-unfolded : (σ : Bindings) (k n : ℕ) (b : Closure) → unfolded σ (part k (ambient (name n)) b close) ≡ wrapped k n (unfolded σ b)
unfolding unfolded map_heads unfold_head
wrap-unfolded σ k n b = ap (λ (m : Message). part k (ambient m) (unfolded σ b) close) (resolve-name σ n)

-- THEOREM: the closures answer every question of the walk as the trees that they unfold to.
pub closures-related : (limit : ℕ) → Related Unfolds (closure_space limit) (plain_space limit)
closures-related limit = record {
  is_void = λ m b x. void-unfolded m.bindings m.tree ∙ ap is_void x.1;
  only = λ n m b x. subst (λ (t : Plain). Both Unfolds (only m.bindings n m.tree) (plain_walk.only n t)) x.1 (only-unfolded m.bindings n m.tree x.0);
  divisions = λ m b x. lists-map (λ d e. Unfolds d.0 e.0 × Unfolds d.1 e.1) (shares m.bindings)
      (lists-more (Shares m.bindings m.tree) _
      (λ d e y. (
        (good-less m.bindings m.tree d.0 (λ T. omega (arith, y.counts T)) x.0, y.share),
        (good-less m.bindings m.tree d.1 (λ T. omega (arith, y.counts T)) x.0, y.others),
      ))
      (subst (λ (t : Plain). RelatedLists (Shares m.bindings m.tree) (divisions m.tree) (divisions t)) x.1 (divisions-unfolded m.bindings m.tree)));
  nexts = λ m b x. subst (λ (t : Plain). RelatedLists Unfolds (nexts m.bindings limit m.tree) (plain_walk.nexts limit t)) x.1 (nexts-unfolded limit m.bindings m.tree x.0);
  insides = λ m b x. subst (λ (t : Plain). RelatedLists Unfolds (insides m.bindings m.tree) (plain_walk.insides t)) x.1 (insides-unfolded m.bindings m.tree x.0);
  wrap = λ k n m b x. (good-wrapped m.bindings k n m.tree x.0, wrap-unfolded m.bindings k n m.tree ∙ ap (wrapped k n) x.1);
}

-- THEOREM: the walk over a closure is the walk over the tree that it unfolds to.
pub walk-unfolded : (limit : ℕ) (s : Setting) (r : Rule) (m : ClosureMachine) → Good m.bindings m.tree →
    walk_from (closure_space limit) s r m ≡ walk_from (plain_space limit) s r (unfolded m.bindings m.tree)
walk-unfolded limit s r m G = walk-related Unfolds (closure_space limit) (plain_space limit) (closures-related limit) s 256 1 [] r m (unfolded m.bindings m.tree) (G, refl) (record { visits = 0; deepest = 0 })

-- The state with its top parts in the body of one new ambient, whose start represents its name. Assumes nothing.
use Prim.Native.Nat.{ℕ, ◌+◌, ◌*◌, ◌-◌, ◌≤◌, ◌<◌}
use mathlib.Core.List.{List, [], ◌∷◌}
use mathlib.Core.Path.{◌≡◌, refl, sym, ap, ◌∙◌, subst}
use native.Mathlib.Omega.{arith}
use lib.Dec.{eqb}
use lib.ListN.{get_or, set, length}
use lib.Seq.{get_or-set_same, get_or-set_other, lt-length-set}
use borrow.Author.Tests.{eqb-true, ne_eqb, le-ltb}
use Rattle.read_messages.specs.Message.{name}
use Rattle.base_sets.specs.Sets.{members}
use Rattle.read_scripts.specs.Tree.{ambient, close, part, tops, total_over, parts, times_in}
use Rattle.read_scripts.specs.Represents.{body_in}
use Rattle.engine_bindings.specs.Bindings.{message_of}
use Rattle.engine_held_bindings.specs.declared.Bindings as arrays
use Rattle.base_slices.proofs.Tests.{by_test}
use Rattle.theory_closures.specs.Closure.{Closure}
use Rattle.engine_states.specs.Represents.{head_of, heads, Represents}
use Rattle.engine_states.specs.declared.State.{State}
use Rattle.engine_states.proofs.Heads.{head-ambient}
use Rattle.engine_states.proofs.Holding.{numbers-differ, frame}

-- a start from 65536 on is a name
given : (script : List ℕ) (n : ℕ) → message_of script (65536 + n) ≡ name n
unfolding message_of
given script n = let e : 65536 + n - 65536 ≡ n = omega arith in rw (le-ltb (65536 + n) 65536 (omega arith)) (ap name e)

module _ (script kinds starts : List ℕ) (weight spent : ℕ) (s r : State) (b : Closure) (i n m : ℕ) (R : Represents script kinds starts weight spent s b) (free : times_in i b ≡ 0)
    (low : i < 64) (in-kinds : i < length kinds) (in-starts : i < length starts) (in-kids : length s.kids ≡ 65)
    (bodies : r.kids ≡ set (set s.kids i (get_or s.kids 64 0)) 64 m) (top : members m ≡ i ∷ []) (offsets : r.offsets ≡ s.offsets) (bound : r.bindings ≡ s.bindings) where
  abbrev kinds' : List ℕ
  kinds' = set kinds i 1

  abbrev starts' : List ℕ
  starts' = set starts i (65536 + n)

  abbrev inner : List ℕ
  inner = set s.kids i (get_or s.kids 64 0)

  body_is : (j v : ℕ) → get_or (set inner 64 m) j 0 ≡ v → body_in r.kids j ≡ members v
  body_is j v e = ap members (ap (λ (l : List ℕ). get_or l j 0) bodies ∙ e)

  -- a part of the tree is neither the new one nor the top
  others : (j : ℕ) → 1 ≤ times_in j b → (body_in s.kids j ≡ body_in r.kids j) × (heads script kinds starts s.offsets j ≡ heads script kinds' starts' r.offsets j)
  others j c =
      let not_new : j ≡ i → ⊥ = numbers-differ j i b c free in
      let not_top : j ≡ 64 → ⊥ = numbers-differ j 64 b c (R.inside 64 (omega arith)) in
      let ek : get_or kinds' j 0 ≡ get_or kinds j 0 = get_or-set_other kinds i j 1 0 not_new in
      let es : get_or starts' j 0 ≡ get_or starts j 0 = get_or-set_other starts i j (65536 + n) 0 not_new in (
        sym (body_is j (get_or s.kids j 0) (get_or-set_other inner 64 j m 0 not_top ∙ get_or-set_other s.kids i j (get_or s.kids 64 0) 0 not_new)),
        λ q. head_of script (sym ek q) (sym es q) (get_or (sym offsets q) j 0),
      )

  pub placed-is : weight < 64 → Represents script kinds' starts' (weight + 1) spent r (part i (ambient (name n)) b close)
  unfolding tops total_over
  placed-is light = record {
    top = body_is 64 m (get_or-set_same inner 64 m 0 (lt-length-set s.kids i (get_or s.kids 64 0) (omega arith))) ∙ top;
    held = (
      body_is i (get_or s.kids 64 0) (get_or-set_other inner 64 i m 0 (λ e. let z : ⊥ = omega arith in z) ∙ get_or-set_same s.kids i (get_or s.kids 64 0) 0 (omega arith)) ∙ R.top,
      ap (λ (x : ℕ). head_of script x (get_or starts' i 0) (get_or r.offsets i 0)) (get_or-set_same kinds i 1 0 in-kinds) ∙ ap (λ (x : ℕ). head_of script 1 x (get_or r.offsets i 0)) (get_or-set_same starts i (65536 + n) 0 in-starts)
          ∙ head-ambient script 1 (65536 + n) (get_or r.offsets i 0) refl ∙ ap ambient (given script n),
      frame (body_in s.kids) (body_in r.kids) (heads script kinds starts s.offsets) (heads script kinds' starts' r.offsets) b R.held others,
      tt,
    );
    once = λ j. by_test (eqb j i) (λ t. let z : times_in j b ≡ 0 = subst (λ (x : ℕ). times_in x b ≡ 0) (sym (eqb-true j i t)) free in rw t (omega (arith, z))) (λ t. rw t (omega (arith, R.once j)));
    inside = λ j l. rw (ne_eqb j i (λ e. let z : ⊥ = omega arith in z)) (omega (arith, R.inside j l));
    light = omega arith;
    weighs = subst (λ (x : arrays.Bindings). 1 + (parts b + 0) + 2 * (32 - x.first) ≤ weight + 1) (sym bound) (omega (arith, R.weighs));
    spends = λ j. subst (λ (o : List ℕ). get_or o j 0 ≤ spent) (sym offsets) (R.spends j);
  }

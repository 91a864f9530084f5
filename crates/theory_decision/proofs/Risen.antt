-- Every operation on a tree and every move keep its bodies in rising order, and so does what the walk asks about: divisions,
-- insides, PLACED. The divisions of a body that rises come by rising sum of 2^number over the share's parts. Assumes nothing.
use Prim.Native.Nat.{ℕ, suc, ◌+◌, ◌^◌, ◌≤◌}
use mathlib.Core.Bool.{Bool, false}
use mathlib.Core.List.{List, [], ◌∷◌, map, Memᴰ}
use mathlib.Core.Path.{◌≡◌, refl, sym, subst}
use mathlib.Core.Logic.{inl, inr}
use mathlib.Core.Option.{Option, none, some}
use native.Mathlib.Nat.{pow-suc}
use native.Mathlib.Omega.{arith}
use lib.Dec.{eqb, ltb}
use lib.Pow.{pow_pos, pow_mono}
use borrow.Author.Tests.{eqb-false, ltb-true, ltb-false}
use Rattle.read_messages.specs.Message.{Message}
use Rattle.base_sets.specs.Sets.{mask, RisingFrom}
use Rattle.read_scripts.specs.Tree.{Head, is_ambient, Body, close, part, tops, parts, put, merge_parts, map_heads, settle_by, bare, PlainHead, Plain, settle}
use Rattle.read_scripts.specs.Represents.{Numbered}
use Rattle.theory_machine.specs.Bodies.{find_part, remove_part, alter}
use Rattle.theory_machine.specs.Moves.{View, MoveMade, head_name, is_named, spent_head, spend, move_here, inside, anywhere}
use Rattle.theory_machine.specs.PlainMachine.{substitute_head, substitute_body, plain, settled_by, move}
use Rattle.base_slices.proofs.Tests.{by_test}
use Rattle.theory_machine.proofs.Options.{some_is, none≢some, cond-inv, or_else-inv, onward-inv}
use Rattle.theory_machine.proofs.Inversion.{Here, by-open, by-receive, by-enter, by-exit, here-inv}
use Rattle.theory_calculus.specs.Satisfaction.{Divided, nothing, to_left, to_right, Inside, first, later, Within, here, deeper, Reaches, stay, go, Alone, wrapped}
use Rattle.theory_decision.specs.Divisions.{with_either, divisions}
use Rattle.theory_decision.specs.PlainWalk.{only, insides, nexts}
use Rattle.theory_decision.specs.Rising.{Rises, sum_of, share_sums}
use Rattle.theory_decision.proofs.Listed.{Next, of-nexts, of-divisions, of-insides, of-only}

-- ---- the operations

past : (n i : ℕ) → ltb n i ≡ false → eqb n i ≡ false → suc i ≤ n
past n i t u = let d = eqb-false n i u in omega (arith, ltb-false n i t)

module _ {H : Type 0} where
  pub rises-down : (m n : ℕ) (b : Body H) → m ≤ n → Rises n b → Rises m b
  rises-down m n close l x = tt
  rises-down m n (part i h b r) l x = let k : n ≤ i = x.0 in (omega arith, x.1, x.2)

  -- the body's own numbers rise
  pub rises-tops : (n : ℕ) (b : Body H) → Rises n b → RisingFrom n (tops b)
  unfolding tops
  rises-tops n close x = tt
  rises-tops n (part i h b r) x = (x.0, rises-tops (suc i) r x.2)

  pub put-rises : (m n : ℕ) (g : H) (s b : Body H) → m ≤ n → Rises 0 s → Rises m b → Rises m (put n g s b)
  unfolding put
  put-rises m n g s close l y x = (l, y, tt)
  put-rises m n g s (part i h b r) l y x = by_test (ltb n i)
      (λ t. rw t (l, y, (ltb-true n i t, x.1, x.2)))
      (λ t. by_test (eqb n i) (λ u. rw (t, u) x) (λ u. rw (t, u) (x.0, x.1, put-rises (suc i) n g s r (past n i t u) y x.2)))

  pub merge-rises : (m : ℕ) (b c : Body H) → Rises m b → Rises m c → Rises m (merge_parts b c)
  unfolding merge_parts
  merge-rises m close c x y = y
  merge-rises m (part i h b r) c x y =
      let l : m ≤ i = x.0 in
      put-rises m i h b (merge_parts r c) l x.1 (merge-rises m r c (rises-down m (suc i) r (omega arith) x.2) y)

  pub remove_part-rises : (m n : ℕ) (b : Body H) → Rises m b → Rises m (remove_part n b)
  unfolding remove_part
  remove_part-rises m n close x = tt
  remove_part-rises m n (part i h b r) x =
      let l : m ≤ i = x.0 in
      by_test (eqb n i)
      (λ t. rw t (remove_part-rises m n r (rises-down m (suc i) r (omega arith) x.2)))
      (λ t. rw t (x.0, x.1, remove_part-rises (suc i) n r x.2))

  pub alter-rises : (m n : ℕ) (F : H → H) (G : Body H → Body H) → ((s : Body H) → Rises 0 s → Rises 0 (G s)) → (b : Body H) → Rises m b → Rises m (alter n F G b)
  unfolding alter
  alter-rises m n F G g close x = tt
  alter-rises m n F G g (part i h b r) x = by_test (eqb n i)
      (λ t. rw t (x.0, g b x.1, x.2))
      (λ t. rw t (x.0, x.1, alter-rises (suc i) n F G g r x.2))

  pub find-rises : (m n : ℕ) (b : Body H) (p : H × Body H) → find_part n b ≡ some p → Rises m b → Rises 0 p.1
  unfolding find_part
  find-rises m n close p e x = none≢some e
  find-rises m n (part i h b r) p e x = by_test (eqb n i)
      (λ t. let q : (h, b) ≡ p = some_is (rw t at e) in subst (λ (y : H × Body H). Rises 0 y.1) q x.1)
      (λ t. find-rises (suc i) n r p (rw t at e) x.2)

  -- "Parts (kinds 1 to 4) are numbered 0, 1, 2 in word order"
  pub numbered-rises : (n : ℕ) (b : Body H) → Numbered n b → Rises n b
  numbered-rises n close x = tt
  numbered-rises n (part i h b r) x =
      let e : i ≡ n = x.0 in
      (omega arith, rises-down 0 (n + 1) b (omega arith) (numbered-rises (n + 1) b x.1), rises-down (suc i) (n + 1 + parts b) r (omega arith) (numbered-rises (n + 1 + parts b) r x.2))

pub map-rises : {G H : Type 0} (m : ℕ) (F : G → H) (b : Body G) → Rises m b → Rises m (map_heads F b)
unfolding map_heads
map-rises m F close x = tt
map-rises m F (part i h b r) x = (x.0, map-rises 0 F b x.1, map-rises (suc i) F r x.2)

pub settle-rises : {A : Type 0} (m : ℕ) (empty : Head A → Bool) (b : Body (Head A)) → Rises m b → Rises 0 (settle_by empty b)
unfolding settle_by
settle-rises m empty close x = tt
settle-rises m empty (part i h b r) x =
    let rest : Rises 0 (settle_by empty r) = settle-rises (suc i) empty r x.2 in
    by_test (empty h)
    (λ t. rw t (merge-rises 0 (settle_by empty b) (settle_by empty r) (settle-rises 0 empty b x.1) rest))
    (λ t. by_test (is_ambient h)
    (λ u. rw (t, u) (put-rises 0 i h (settle_by empty b) (settle_by empty r) (omega arith) (settle-rises 0 empty b x.1) rest))
    (λ u. rw (t, u) (put-rises 0 i h b (settle_by empty r) (omega arith) x.1 rest)))

-- ---- moves

module _ {A : Type 0} (view : View A) (delivers : (v : ℕ) (m : Message) (b : Body (Head A)) → Rises 0 b → Rises 0 (view.delivered v m b)) where
  spend-rises : (a : ℕ) (b : Body (Head A)) → Rises 0 b → Rises 0 (spend view a b)
  spend-rises a b x = alter-rises 0 a (spent_head view) (λ s. s) (λ s y. y) b x

  here-rises : (a t : ℕ) (b c : Body (Head A)) (news : List (ℕ × Message)) → Here view a t b c news → Rises 0 b → Rises 0 c
  here-rises a t b c news (by-open o e) x = rw o.result (spend-rises a _ (merge-rises 0 o.room (remove_part t b) (find-rises 0 t b _ o.target x) (remove_part-rises 0 t b x)))
  here-rises a t b c news (by-receive o) x =
      rw o.result
      (merge-rises 0 (view.delivered o.bound o.sent o.after) (remove_part t (remove_part a b)) (delivers o.bound o.sent o.after (find-rises 0 a b _ o.actor x))
      (remove_part-rises 0 t (remove_part a b) (remove_part-rises 0 a b x)))
  here-rises a t b c news (by-enter o e) x =
      rw o.result
      (alter-rises 0 t (λ g. g) (put o.mover o.shell (spend view a o.inside))
      (λ s y. put-rises 0 o.mover o.shell (spend view a o.inside) s (omega arith) (spend-rises a o.inside (find-rises 0 o.mover b _ o.around x)) y)
      (remove_part o.mover b) (remove_part-rises 0 o.mover b x))
  here-rises a t b c news (by-exit o e) x =
      rw o.result
      (put-rises 0 o.mover o.shell (spend view a o.inside) (alter t (λ g. g) (remove_part o.mover) b) (omega arith)
      (spend-rises a o.inside (find-rises 0 o.mover o.room _ o.around (find-rises 0 t b _ o.target x)))
      (alter-rises 0 t (λ g. g) (remove_part o.mover) (remove_part-rises 0 o.mover) b x))

  -- a rewriting g made inside the named ambients of a body leaves the body's own numbers
  module _ (g : Body (Head A) → Option (MoveMade A)) (f : (s : Body (Head A)) (l : MoveMade A) → g s ≡ some l → Rises 0 s → Rises 0 l.body) where
    within-rises : (n : ℕ) (b : Body (Head A)) (m : MoveMade A) → inside view g b ≡ some m → Rises n b → Rises n m.body
    unfolding inside
    within-rises n close m e x = none≢some e
    within-rises n (part i h b r) m e x = elim (or_else-inv _ _ m e) [
      | inl u ↦
          let y = onward-inv _ _ m u in
          let z = cond-inv (is_named (head_name view h)) _ y.0 y.1 in
          let c : Rises 0 y.0.body = elim (or_else-inv _ _ y.0 z.1) [ inl w ↦ f b y.0 w x.1 | inr w ↦ within-rises 0 b y.0 w x.1 ] in
          subst (λ (d : Body (Head A)). Rises n d) (sym y.2) (x.0, c, x.2)
      | inr u ↦
          let y = onward-inv _ _ m u in
          subst (λ (d : Body (Head A)). Rises n d) (sym y.2) (x.0, x.1, within-rises (suc i) r y.0 y.1 x.2)
    ]

    anywhere-rises : (b : Body (Head A)) (m : MoveMade A) → anywhere view g b ≡ some m → Rises 0 b → Rises 0 m.body
    anywhere-rises b m e x = elim (or_else-inv _ _ m e) [ inl u ↦ f b m u x | inr u ↦ within-rises 0 b m u x ]

delivered-rises : (v : ℕ) (m : Message) (b : Plain) → Rises 0 b → Rises 0 (substitute_body v m b)
unfolding substitute_body
delivered-rises v m b x = map-rises 0 (substitute_head v m) b x

settled-rises : (o : Option (MoveMade (List Message))) (m : MoveMade (List Message)) → ((l : MoveMade (List Message)) → o ≡ some l → Rises 0 l.body) → settled_by o ≡ some m → Rises 0 m.body
unfolding settled_by settle
settled-rises none m f e = none≢some e
settled-rises (some l) m f e = subst (λ (k : MoveMade (List Message)). Rises 0 k.body) (some_is e) (settle-rises 0 bare l.body (f l refl))

-- THEOREM: a move keeps every body in rising order.
pub move-rises : (a t : ℕ) (b : Plain) (m : MoveMade (List Message)) → move a t b ≡ some m → Rises 0 b → Rises 0 m.body
unfolding move
move-rises a t b m e x =
    settled-rises (anywhere plain (move_here plain a t) b) m
    (λ l d. anywhere-rises plain delivered-rises (move_here plain a t) (λ s k u y. here-rises plain delivered-rises a t s k.body k.news (here-inv plain a t s k u) y) b l d x) e

-- ---- what the walk asks about

-- THEOREM: a share and the rest rise.
pub divided-rises : {b c d : Plain} → Divided b c d → (n : ℕ) → Rises n b → Rises n c × Rises n d
divided-rises nothing n x = (tt, tt)
divided-rises (to_left {k = k} {d = d} p) n x =
    let y = divided-rises p (suc k) x.2 in
    let l : n ≤ k = x.0 in
    ((x.0, x.1, y.0), rises-down n (suc k) d (omega arith) y.1)
divided-rises (to_right {k = k} {c = c} p) n x =
    let y = divided-rises p (suc k) x.2 in
    let l : n ≤ k = x.0 in
    (rises-down n (suc k) c (omega arith) y.0, (x.0, x.1, y.1))

inside-rises : {b c : Plain} → Inside b c → (n : ℕ) → Rises n b → Rises 0 c
inside-rises (first e) n x = x.1
inside-rises (later {k = k} p) n x = inside-rises p (suc k) x.2

-- THEOREM: what stands inside named ambients rises.
pub within-ambients-rises : {b c : Plain} → Within b c → Rises 0 b → Rises 0 c
within-ambients-rises here x = x
within-ambients-rises (deeper p q) x = within-ambients-rises q (inside-rises p 0 x)

-- THEOREM: and so after any list of moves.
pub reaches-rises : {b c : Plain} → Reaches b c → Rises 0 b → Rises 0 c
reaches-rises stay x = x
reaches-rises (go {b = b} a t m e r) x = reaches-rises r (move-rises a t b m e x)

-- THEOREM: the tree wrapped by PLACED rises.
pub placed-rises : (k n : ℕ) (b : Plain) → Rises 0 b → Rises 0 (wrapped k n b)
placed-rises k n b x = (omega arith, x, tt)

-- ---- the order of the shares

-- each number is the gap or more above the one before, the first being from or more
abbrev Apart : (gap from : ℕ) → List ℕ → Type 0
Apart g n [] = Unit {0}
Apart g n (x ∷ l) = (n ≤ x) × Apart g (x + g) l

apart-less : (g k m n : ℕ) (l : List ℕ) → k ≤ g → m ≤ n → Apart g n l → Apart k m l
apart-less g k m n [] u v a = tt
apart-less g k m n (x ∷ l) u v a = let w : n ≤ x = a.0 in (omega arith, apart-less g k (x + k) (x + g) l u (omega arith) a.1)

apart-rising : (g n : ℕ) (l : List ℕ) → 1 ≤ g → Apart g n l → RisingFrom n l
apart-rising g n [] u a = tt
apart-rising g n (x ∷ l) u a = (a.0, apart-rising g (suc x) l u (apart-less g g (suc x) (x + g) l (omega arith) (omega arith) a.1))

-- the sums of these shares
abbrev sums : List (Plain × Plain) → List ℕ
sums l = map (λ (d : Plain × Plain). sum_of d.0) l

-- a part below all others goes to neither and then to each share: the gap is halved
either-apart : (k : ℕ) (h : PlainHead) (b : Plain) (n : ℕ) (l : List (Plain × Plain)) → Apart (2 ^ suc k) n (sums l) → Apart (2 ^ k) n (sums (with_either k h b l))
unfolding with_either tops mask
either-apart k h b n [] a = tt
either-apart k h b n (d ∷ l) a =
    let s : ℕ = sum_of d.0 in
    let u : n ≤ s = a.0 in
    let e : s + 2 ^ suc k ≡ 2 ^ k + s + 2 ^ k = omega (arith, pow-suc 2 k) in
    (u, (omega arith, subst (λ (x : ℕ). Apart (2 ^ k) x (sums (with_either k h b l))) e (either-apart k h b (s + 2 ^ suc k) l a.1)))

divisions-apart : (n : ℕ) (b : Plain) → RisingFrom n (tops b) → Apart (2 ^ n) 0 (share_sums b)
unfolding divisions tops mask
divisions-apart n close x = (omega arith, tt)
divisions-apart n (part k h b r) x =
    let y = either-apart k h b 0 (divisions r) (divisions-apart (suc k) r x.1) in
    apart-less (2 ^ k) (2 ^ n) 0 0 (sums (with_either k h b (divisions r))) (pow_mono x.0) (omega arith) y

-- THEOREM: "shares in rising order of the sum of 2^number over their parts": so the divisions of a body that rises.
pub divisions-rise : (b : Plain) → Rises 0 b → RisingFrom 0 (share_sums b)
divisions-rise b x = apart-rising (2 ^ 0) 0 (share_sums b) (pow_pos 0) (divisions-apart 0 b (rises-tops 0 b x))

-- What the walk takes of a tree, through the space that it walks in and in no other way: all of it rises, and the shares come
-- by rising sum.
pub record Taken (limit : ℕ) (b : Plain) : Type 0 where
  pub only : (n : ℕ) (c : Plain) → only n b ≡ some c → Rises 0 c
  pub shares : (d : Plain × Plain) → Memᴰ d (divisions b) → Rises 0 d.0 × Rises 0 d.1
  pub nexts : (c : Plain) → Memᴰ c (nexts limit b) → Rises 0 c
  pub insides : (c : Plain) → Memᴰ c (insides b) → Rises 0 c
  pub wrap : (k n : ℕ) → Rises 0 (wrapped k n b)
  pub order : RisingFrom 0 (share_sums b)

alone-rises : (n : ℕ) (b c : Plain) → Alone n b c → Rises 0 b → Rises 0 c
alone-rises n b c a x = let y : Rises 0 (part a.number a.head c close) = subst (λ (d : Plain). Rises 0 d) a.only x in y.1

next-rises : (b c : Plain) → Next b c → Rises 0 b → Rises 0 c
next-rises b c (a, t, m, e, q) x = subst (λ (d : Plain). Rises 0 d) (sym q) (move-rises a t b m e x)

-- THEOREM: so of every tree that rises, whatever visit takes it.
pub all-rise : (limit : ℕ) (b : Plain) → Rises 0 b → Taken limit b
all-rise limit b x = record {
  only = λ n c e. alone-rises n b c (of-only n b c e) x;
  shares = λ d i. divided-rises (of-divisions b d i) 0 x;
  nexts = λ c i. next-rises b c (of-nexts limit b c i) x;
  insides = λ c i. inside-rises (of-insides b c i) 0 x;
  wrap = λ k n. placed-rises k n b x;
  order = divisions-rise b x;
}

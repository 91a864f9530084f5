-- What holds of every part of a tree, at any depth: it is kept by every operation and by every move, if spending an item
-- and delivering a message keep it. Assumes nothing.
use Prim.Native.Nat.{ℕ}
use mathlib.Core.Bool.{Bool}
use mathlib.Core.List.{List}
use mathlib.Core.Path.{◌≡◌, refl, sym, subst}
use mathlib.Core.Option.{some}
use lib.Dec.{eqb, ltb}
use borrow.Author.Tests.{eqb-true}
use Rattle.read_messages.specs.Message.{Message}
use Rattle.read_scripts.specs.Tree.{Head, receipt, output, is_ambient, Body, close, part, put, merge_parts, map_heads, settle_by, bare, Plain, settle}
use Rattle.theory_machine.specs.Bodies.{find_part, remove_part, alter}
use Rattle.theory_machine.specs.Moves.{View, MoveMade, spent_head, spend, move_here}
use Rattle.theory_machine.specs.PlainMachine.{plain, move}
use Rattle.base_slices.proofs.Tests.{by_test}
use Rattle.theory_machine.proofs.Options.{some_is, none≢some}
use Rattle.theory_machine.proofs.Inversion.{Here, by-open, by-receive, by-enter, by-exit, here-inv, Makes, now, inner, outer, move-inv}

-- every part, by its number and its head, has Q
abbrev pub Everywhere : {H : Type 0} → (ℕ → H → Type 0) → Body H → Type 0
Everywhere Q close = Unit {0}
Everywhere Q (part i h b r) = Q i h × Everywhere Q b × Everywhere Q r

pub map-everywhere : {G H : Type 0} (Q : ℕ → G → Type 0) (R : ℕ → H → Type 0) (F : G → H) → ((k : ℕ) (h : G) → Q k h → R k (F h)) →
    (b : Body G) → Everywhere Q b → Everywhere R (map_heads F b)
unfolding map_heads
map-everywhere Q R F f close x = tt
map-everywhere Q R F f (part i h b r) x = (f i h x.0, map-everywhere Q R F f b x.1, map-everywhere Q R F f r x.2)

-- a map that leaves every head with Q alone leaves the tree alone
pub still-everywhere : {H : Type 0} (Q : ℕ → H → Type 0) (F : H → H) → ((k : ℕ) (h : H) → Q k h → F h ≡ h) → (b : Body H) → Everywhere Q b → map_heads F b ≡ b
unfolding map_heads
still-everywhere Q F f close x = refl
still-everywhere Q F f (part i h b r) x = rw (f i h x.0, still-everywhere Q F f b x.1, still-everywhere Q F f r x.2)

pub more-everywhere : {H : Type 0} (Q R : ℕ → H → Type 0) → ((k : ℕ) (h : H) → Q k h → R k h) → (b : Body H) → Everywhere Q b → Everywhere R b
more-everywhere Q R f close x = tt
more-everywhere Q R f (part i h b r) x = (f i h x.0, more-everywhere Q R f b x.1, more-everywhere Q R f r x.2)

module _ {H : Type 0} (Q : ℕ → H → Type 0) where
  pub find-everywhere : (n : ℕ) (b : Body H) (p : H × Body H) → find_part n b ≡ some p → Everywhere Q b → Q n p.0 × Everywhere Q p.1
  unfolding find_part
  find-everywhere n close p e x = none≢some e
  find-everywhere n (part i h b r) p e x = by_test (eqb n i)
      (λ t.
      let q : (h, b) ≡ p = some_is (rw t at e) in
      subst (λ (y : H × Body H). Q n y.0 × Everywhere Q y.1) q (subst (λ (k : ℕ). Q k h) (sym (eqb-true n i t)) x.0, x.1))
      (λ t. find-everywhere n r p (rw t at e) x.2)

  pub remove_part-everywhere : (n : ℕ) (b : Body H) → Everywhere Q b → Everywhere Q (remove_part n b)
  unfolding remove_part
  remove_part-everywhere n close x = tt
  remove_part-everywhere n (part i h b r) x = by_test (eqb n i) (λ t. rw t (remove_part-everywhere n r x.2)) (λ t. rw t (x.0, x.1, remove_part-everywhere n r x.2))

  pub put-everywhere : (n : ℕ) (g : H) (s b : Body H) → Q n g → Everywhere Q s → Everywhere Q b → Everywhere Q (put n g s b)
  unfolding put
  put-everywhere n g s close q y x = (q, y, tt)
  put-everywhere n g s (part i h b r) q y x = by_test (ltb n i) (λ t. rw t (q, y, x))
      (λ t. by_test (eqb n i) (λ u. rw (t, u) x) (λ u. rw (t, u) (x.0, x.1, put-everywhere n g s r q y x.2)))

  pub merge-everywhere : (b c : Body H) → Everywhere Q b → Everywhere Q c → Everywhere Q (merge_parts b c)
  unfolding merge_parts
  merge-everywhere close c x y = y
  merge-everywhere (part i h b r) c x y = put-everywhere i h b (merge_parts r c) x.0 x.1 (merge-everywhere r c x.2 y)

  pub alter-everywhere : (n : ℕ) (F : H → H) (G : Body H → Body H) → ((k : ℕ) (h : H) → Q k h → Q k (F h)) → ((s : Body H) → Everywhere Q s → Everywhere Q (G s)) →
      (b : Body H) → Everywhere Q b → Everywhere Q (alter n F G b)
  unfolding alter
  alter-everywhere n F G f g close x = tt
  alter-everywhere n F G f g (part i h b r) x = by_test (eqb n i)
      (λ t. rw t (f i h x.0, g b x.1, x.2))
      (λ t. rw t (x.0, x.1, alter-everywhere n F G f g r x.2))

pub settle-everywhere : {A : Type 0} (Q : ℕ → Head A → Type 0) (empty : Head A → Bool) (b : Body (Head A)) → Everywhere Q b → Everywhere Q (settle_by empty b)
unfolding settle_by
settle-everywhere Q empty close x = tt
settle-everywhere Q empty (part i h b r) x = by_test (empty h)
    (λ t. rw t (merge-everywhere Q (settle_by empty b) (settle_by empty r) (settle-everywhere Q empty b x.1) (settle-everywhere Q empty r x.2)))
    (λ t. by_test (is_ambient h)
    (λ u. rw (t, u) (put-everywhere Q i h (settle_by empty b) (settle_by empty r) x.0 (settle-everywhere Q empty b x.1) (settle-everywhere Q empty r x.2)))
    (λ u. rw (t, u) (put-everywhere Q i h b (settle_by empty r) x.0 x.1 (settle-everywhere Q empty r x.2))))

-- what a spent item and a delivered message keep
pub record Keeps {A : Type 0} (view : View A) (Q : ℕ → Head A → Type 0) : Type 0 where
  pub spends : (k : ℕ) (h : Head A) → Q k h → Q k (spent_head view h)
  pub delivers : (k v : ℕ) (m : Message) (b : Body (Head A)) → Q k (output m) → Everywhere Q b → Everywhere Q (view.delivered v m b)

-- some head has Q with the number k
abbrev pub SomeHead : {H : Type 0} → (ℕ → H → Type 0) → ℕ → Type 0
SomeHead {H} Q k = (h : H) × Q k h

module _ {A : Type 0} (view : View A) (Q : ℕ → Head A → Type 0) (K : Keeps view Q) where
  spend-everywhere : (a : ℕ) (b : Body (Head A)) → Everywhere Q b → Everywhere Q (spend view a b)
  spend-everywhere a b x = alter-everywhere Q a (spent_head view) (λ s. s) K.spends (λ s y. y) b x

  -- the actor and the target are parts of the tree, and what stands after the move has Q
  abbrev pub Kept : (a t : ℕ) → Body (Head A) → Type 0
  Kept a t c = SomeHead Q a × SomeHead Q t × Everywhere Q c

  pub here-everywhere : (a t : ℕ) (b c : Body (Head A)) (news : List (ℕ × Message)) → Here view a t b c news → Everywhere Q b → Kept a t c
  here-everywhere a t b c news (by-open o e) x =
      let (p, y) = find-everywhere Q a b _ o.actor x in
      let (q, z) = find-everywhere Q t b _ o.target x in
      ((o.doer, p), (o.goal, q), rw o.result (spend-everywhere a _ (merge-everywhere Q o.room (remove_part t b) z (remove_part-everywhere Q t b x))))
  here-everywhere a t b c news (by-receive o) x =
      let (p, y) = find-everywhere Q a b _ o.actor x in
      let (q, z) = find-everywhere Q t b _ o.target x in (
        (receipt o.bound, p),
        (output o.sent, q),
        rw o.result
            (merge-everywhere Q (view.delivered o.bound o.sent o.after) (remove_part t (remove_part a b)) (K.delivers t o.bound o.sent o.after q y) (remove_part-everywhere Q t (remove_part a b) (remove_part-everywhere Q a b x))),
      )
  here-everywhere a t b c news (by-enter o e) x =
      let (q, z) = find-everywhere Q t b _ o.target x in
      let (s, y) = find-everywhere Q o.mover b _ o.around x in
      let (p, w) = find-everywhere Q a o.inside _ o.actor y in (
        (o.doer, p),
        (o.goal, q),
        rw o.result
            (alter-everywhere Q t (λ g. g) (put o.mover o.shell (spend view a o.inside)) (λ k h u. u)
            (λ d u. put-everywhere Q o.mover o.shell (spend view a o.inside) d s (spend-everywhere a o.inside y) u) (remove_part o.mover b) (remove_part-everywhere Q o.mover b x)),
      )
  here-everywhere a t b c news (by-exit o e) x =
      let (q, z) = find-everywhere Q t b _ o.target x in
      let (s, y) = find-everywhere Q o.mover o.room _ o.around z in
      let (p, w) = find-everywhere Q a o.inside _ o.actor y in (
        (o.doer, p),
        (o.goal, q),
        rw o.result
            (put-everywhere Q o.mover o.shell (spend view a o.inside) (alter t (λ g. g) (remove_part o.mover) b) s (spend-everywhere a o.inside y)
            (alter-everywhere Q t (λ g. g) (remove_part o.mover) (λ k h u. u) (remove_part-everywhere Q o.mover) b x)),
      )

  pub makes-everywhere : (a t : ℕ) {b c : Body (Head A)} {news : List (ℕ × Message)} → Makes view (move_here view a t) b c news → Everywhere Q b → Kept a t c
  makes-everywhere a t (now {b} m e) x = here-everywhere a t b m.body m.news (here-inv view a t b m e) x
  makes-everywhere a t (inner e w) x = let (p, q, y) = makes-everywhere a t w x.1 in (p, q, (x.0, y, x.2))
  makes-everywhere a t (outer w) x = let (p, q, y) = makes-everywhere a t w x.2 in (p, q, (x.0, x.1, y))

-- the plain machine
pub move-everywhere : (Q : ℕ → Head (List Message) → Type 0) → Keeps plain Q → (a t : ℕ) (b : Plain) (m : MoveMade (List Message)) → move a t b ≡ some m → Everywhere Q b →
    SomeHead Q a × SomeHead Q t × Everywhere Q m.body
unfolding settle
move-everywhere Q K a t b m e x =
    let (c, w, q) = move-inv a t b m e in
    let (y, z, u) = makes-everywhere plain Q K a t w x in
    (y, z, rw q (settle-everywhere Q bare c u))

-- Sums over the parts of a tree: no operation and no move makes one greater, if spending an item and delivering a message
-- don't; and what it comes to exactly where no number stands twice. So the weight does not rise. Assumes nothing.
use Prim.Native.Nat.{ℕ, ◌+◌, ◌*◌, ◌≤◌}
use mathlib.Core.Bool.{Bool, false, cond}
use mathlib.Core.List.{List}
use mathlib.Core.Path.{◌≡◌, refl, sym, ap, ◌∙◌}
use mathlib.Core.Option.{Option, none, some}
use native.Mathlib.Omega.{arith}
use lib.Dec.{eqb, ltb}
use lib.ListN.{length}
use borrow.Author.Tests.{eqb-true, eqb-false, ne_eqb}
use Rattle.read_messages.specs.Message.{Message}
use Rattle.read_scripts.specs.Tree.{Head, receipt, output, Body, close, part, is_ambient, total_over, parts, times_in, put, merge_parts, map_heads, settle_by, bare, Plain, settle}
use Rattle.theory_machine.specs.Bodies.{find_part, remove_part, alter}
use Rattle.theory_machine.specs.Moves.{View, MoveMade, spent_head, spend, move_here, anywhere}
use Rattle.theory_machine.specs.PlainMachine.{substitute_head, substitute_body, plain, move}
use Rattle.base_slices.proofs.Tests.{by_test}
use Rattle.theory_machine.proofs.Options.{some_is, none≢some}
use Rattle.theory_machine.proofs.Inversion.{Received, Entered, Here, by-open, by-receive, by-enter, by-exit, here-inv, Makes, now, inner, outer, anywhere-inv, move-inv}

module _ {H : Type 0} where
  -- a part is found beside another that is dropped
  pub find-remove_part : (n a : ℕ) (b : Body H) → eqb n a ≡ false → find_part n (remove_part a b) ≡ find_part n b
  unfolding find_part remove_part
  find-remove_part n a close d = refl
  find-remove_part n a (part i h b r) d = by_test (eqb a i)
      (λ t. let s : eqb n i ≡ false = ap (eqb n) (sym (eqb-true a i t)) ∙ d in rw (t, s) (find-remove_part n a r d))
      (λ t. rw t (ap (cond (eqb n i) (some (h, b))) (find-remove_part n a r d)))

  -- what is found under two numbers differs only where the numbers do
  pub apart : {p q : H × Body H} (n a : ℕ) (b : Body H) → find_part n b ≡ some p → find_part a b ≡ some q → ¬ (p ≡ q) → eqb n a ≡ false
  apart n a b e g d = by_test (eqb n a) (λ t. absurd (d (some_is (sym e ∙ ap (λ (k : ℕ). find_part k b) (eqb-true n a t) ∙ g)))) (λ t. t)

  -- a number that stands nowhere
  pub find_none : (n : ℕ) (b : Body H) → times_in n b ≡ 0 → find_part n b ≡ none
  unfolding find_part total_over
  find_none n close e = refl
  find_none n (part i h b r) e = by_test (eqb n i)
      (λ t. absurd (omega (arith, rw t at e)))
      (λ t. rw t (find_none n r (omega arith)))

  pub remove_part-none : (n : ℕ) (b : Body H) → times_in n b ≡ 0 → remove_part n b ≡ b
  unfolding remove_part total_over
  remove_part-none n close e = refl
  remove_part-none n (part i h b r) e = by_test (eqb n i)
      (λ t. absurd (omega (arith, rw t at e)))
      (λ t. rw t (ap (part i h b) (remove_part-none n r (omega arith))))

module _ {H : Type 0} (f : ℕ → H → ℕ) where
  pub remove_part-total : (a : ℕ) (b : Body H) → total_over f (remove_part a b) ≤ total_over f b
  unfolding remove_part total_over
  remove_part-total a close = omega arith
  remove_part-total a (part i h b r) = by_test (eqb a i) (λ t. rw t (omega (arith, remove_part-total a r))) (λ t. rw t (omega (arith, remove_part-total a r)))

  pub find-total : (a : ℕ) (b : Body H) (p : H × Body H) → find_part a b ≡ some p → f a p.0 + (total_over f p.1 + total_over f (remove_part a b)) ≤ total_over f b
  unfolding find_part remove_part total_over
  find-total a close p e = none≢some e
  find-total a (part i h b r) p e = by_test (eqb a i)
      (λ t.
      let q : (h, b) ≡ p = some_is (rw t at e) in
      rw (t, ← q, eqb-true a i t) (omega (arith, remove_part-total a r)))
      (λ t. rw t (omega (arith, find-total a r p (rw t at e))))

  pub put-total : (n : ℕ) (g : H) (s b : Body H) → total_over f (put n g s b) ≤ f n g + (total_over f s + total_over f b)
  unfolding put total_over
  put-total n g s close = omega arith
  put-total n g s (part i h b r) = by_test (ltb n i) (λ t. rw t (omega arith))
      (λ t. by_test (eqb n i) (λ u. rw (t, u) (omega arith)) (λ u. rw (t, u) (omega (arith, put-total n g s r))))

  pub merge-total : (b c : Body H) → total_over f (merge_parts b c) ≤ total_over f b + total_over f c
  unfolding merge_parts total_over
  merge-total close c = omega arith
  merge-total (part i h b r) c = omega (arith, put-total i h b (merge_parts r c), merge-total r c)

  -- what changes where one part is altered
  pub alter-total : (n : ℕ) (F : H → H) (G : Body H → Body H) (b : Body H) (p : H × Body H) → find_part n b ≡ some p →
      total_over f (alter n F G b) + (f n p.0 + total_over f p.1) ≡ total_over f b + (f n (F p.0) + total_over f (G p.1))
  unfolding find_part alter total_over
  alter-total n F G close p e = none≢some e
  alter-total n F G (part i h b r) p e = by_test (eqb n i)
      (λ t.
      let q : (h, b) ≡ p = some_is (rw t at e) in
      rw (t, ← q, eqb-true n i t) (omega arith))
      (λ t. rw t (omega (arith, alter-total n F G r p (rw t at e))))

  -- where every head and every inside that could be altered shrinks
  pub alter-less : (n : ℕ) (F : H → H) (G : Body H → Body H) → ((k : ℕ) (h : H) → f k (F h) ≤ f k h) → ((s : Body H) → total_over f (G s) ≤ total_over f s) →
      (b : Body H) → total_over f (alter n F G b) ≤ total_over f b
  unfolding alter total_over
  alter-less n F G u v close = omega arith
  alter-less n F G u v (part i h b r) = by_test (eqb n i) (λ t. rw t (omega (arith, u i h, v b))) (λ t. rw t (omega (arith, alter-less n F G u v r)))

  -- exactly, where the numbers are distinct

  pub remove_part-exact : (a : ℕ) (b : Body H) (p : H × Body H) → times_in a b ≤ 1 → find_part a b ≡ some p → total_over f b ≡ f a p.0 + (total_over f p.1 + total_over f (remove_part a b))
  unfolding find_part remove_part total_over
  remove_part-exact a close p c e = none≢some e
  remove_part-exact a (part i h b r) p c e = by_test (eqb a i)
      (λ t.
      let q : (h, b) ≡ p = some_is (rw t at e) in
      let z : remove_part a r ≡ r = remove_part-none a r (omega (arith, rw t at c)) in
      rw (t, z, ← q, eqb-true a i t) refl)
      (λ t. rw t (omega (arith, remove_part-exact a r p (omega arith) (rw t at e))))

-- a sum over other heads
pub map-total : {G H : Type 0} (f : ℕ → H → ℕ) (F : G → H) (b : Body G) → total_over f (map_heads F b) ≡ total_over (λ i h. f i (F h)) b
unfolding map_heads total_over
map-total f F close = refl
map-total f F (part i h b r) = rw (map-total f F b, map-total f F r)

-- "An action with no items .. is gone": settled, whatever head counts as one
pub settle-total : {A : Type 0} (f : ℕ → Head A → ℕ) (empty : Head A → Bool) (b : Body (Head A)) → total_over f (settle_by empty b) ≤ total_over f b
unfolding settle_by total_over
settle-total f empty close = omega arith
settle-total f empty (part i h b r) = by_test (empty h)
    (λ t. rw t (omega (arith, merge-total f (settle_by empty b) (settle_by empty r), settle-total f empty b, settle-total f empty r)))
    (λ t. by_test (is_ambient h)
    (λ u. rw (t, u) (omega (arith, put-total f i h (settle_by empty b) (settle_by empty r), settle-total f empty b, settle-total f empty r)))
    (λ u. rw (t, u) (omega (arith, put-total f i h b (settle_by empty r), settle-total f empty r))))

-- what a spent item and a delivered message don't make greater; a receipt and an output together come to w at the least
pub record Shrinks {A : Type 0} (view : View A) (f : ℕ → Head A → ℕ) (w : ℕ) : Type 0 where
  pub spends : (k : ℕ) (h : Head A) → f k (spent_head view h) ≤ f k h
  pub delivers : (v : ℕ) (m : Message) (b : Body (Head A)) → total_over f (view.delivered v m b) ≤ total_over f b
  pub takes : (k l v : ℕ) (m : Message) → w ≤ f k (receipt v) + f l (output m)

receipt≢output : {A : Type 0} {v : ℕ} {m : Message} → ¬ (◌≡◌ {A = Head A} (receipt v) (output m))
receipt≢output e = let z : ◌≡◌ {A = ℕ} 0 1 = cc in omega arith

-- the target is there still when the part that moves, or the receipt, is dropped
module _ {A : Type 0} (view : View A) {a t : ℕ} {b c : Body (Head A)} where
  pub entered-target : (x : Entered view a t b c) → find_part t (remove_part x.mover b) ≡ some (x.goal, x.room)
  entered-target x = find-remove_part t x.mover b (ne_eqb t x.mover (λ z. eqb-false x.mover t x.another (sym z))) ∙ x.target

  pub received-target : {news : List (ℕ × Message)} (x : Received view a t b c news) → find_part t (remove_part a b) ≡ some (output x.sent, x.idle)
  received-target x =
      find-remove_part t a b (apart t a b x.target x.actor (λ z. receipt≢output (ap (λ (p : Head A × Body (Head A)). p.0) (sym z)))) ∙ x.target

module _ {A : Type 0} (view : View A) (f : ℕ → Head A → ℕ) (w : ℕ) (s : Shrinks view f w) where
  pub spend-total : (a : ℕ) (b : Body (Head A)) → total_over f (spend view a b) ≤ total_over f b
  spend-total a b = alter-less f a (spent_head view) (λ c. c) s.spends (λ c. omega arith) b

  pub here-total : (a t : ℕ) (b c : Body (Head A)) (news : List (ℕ × Message)) → Here view a t b c news → total_over f c + w * length news ≤ total_over f b
  here-total a t b c news (by-open x e) = rw (x.result, e) (omega (
    arith,
    spend-total a (merge_parts x.room (remove_part t b)),
    merge-total f x.room (remove_part t b),
    find-total f t b _ x.target,
  ))
  here-total a t b c news (by-receive x) = rw (x.result, x.told) (omega (
    arith,
    merge-total f (view.delivered x.bound x.sent x.after) (remove_part t (remove_part a b)),
    s.delivers x.bound x.sent x.after,
    s.takes a t x.bound x.sent,
    find-total f a b _ x.actor,
    find-total f t (remove_part a b) _ (received-target view x),
  ))
  here-total a t b c news (by-enter x e) = rw (x.result, e) (omega (
    arith,
    alter-total f t (λ g. g) (put x.mover x.shell (spend view a x.inside)) (remove_part x.mover b) _ (entered-target view x),
    put-total f x.mover x.shell (spend view a x.inside) x.room,
    spend-total a x.inside,
    find-total f x.mover b _ x.around,
  ))
  here-total a t b c news (by-exit x e) = rw (x.result, e) (omega (
    arith,
    put-total f x.mover x.shell (spend view a x.inside) (alter t (λ g. g) (remove_part x.mover) b),
    alter-total f t (λ g. g) (remove_part x.mover) b _ x.target,
    spend-total a x.inside,
    find-total f x.mover x.room _ x.around,
  ))

  pub makes-total : (g : Body (Head A) → Option (MoveMade A)) → ((b : Body (Head A)) (m : MoveMade A) → g b ≡ some m → total_over f m.body + w * length m.news ≤ total_over f b) →
      {b c : Body (Head A)} {news : List (ℕ × Message)} → Makes view g b c news → total_over f c + w * length news ≤ total_over f b
  unfolding total_over
  makes-total g k (now {b} m e) = k b m e
  makes-total g k (inner e x) = omega (arith, makes-total g k x)
  makes-total g k (outer x) = omega (arith, makes-total g k x)

  pub made-total : (a t : ℕ) {b c : Body (Head A)} {news : List (ℕ × Message)} → Makes view (move_here view a t) b c news → total_over f c + w * length news ≤ total_over f b
  made-total a t x = makes-total (move_here view a t) (λ d l g. here-total a t d l.body l.news (here-inv view a t d l g)) x

  -- before the tree is settled, and after
  pub anywhere-total : (a t : ℕ) (b : Body (Head A)) (m : MoveMade A) → anywhere view (move_here view a t) b ≡ some m → total_over f m.body + w * length m.news ≤ total_over f b
  anywhere-total a t b m e = made-total a t (anywhere-inv view (move_here view a t) b m e)

-- the plain machine

pub move-total : (f : ℕ → Head (List Message) → ℕ) (w : ℕ) → Shrinks plain f w → (a t : ℕ) (b : Plain) (m : MoveMade (List Message)) → move a t b ≡ some m →
    total_over f m.body + w * length m.news ≤ total_over f b
unfolding settle
move-total f w s a t b m e =
    let (c, x, q) = move-inv a t b m e in
    rw q (omega (arith, settle-total f bare c, made-total plain f w s a t x))

-- what depends on the numbers alone
pub by-numbers : {A : Type 0} (view : View A) (u : ℕ → ℕ) (w : ℕ) → ((v : ℕ) (m : Message) (b : Body (Head A)) → total_over (λ k h. u k) (view.delivered v m b) ≤ total_over (λ k h. u k) b) →
    ((k l : ℕ) → w ≤ u k + u l) → Shrinks view (λ k h. u k) w
by-numbers view u w delivers least = record { spends = λ k h. omega arith; delivers = delivers; takes = λ k l v m. least k l }

pub plain-numbers : (u : ℕ → ℕ) (w : ℕ) → ((k l : ℕ) → w ≤ u k + u l) → Shrinks plain (λ k h. u k) w
unfolding substitute_body
plain-numbers u w = by-numbers plain u w (λ v m b. omega (arith, map-total (λ k h. u k) (substitute_head v m) b))

-- THEOREM: a move does not raise the weight, and a receipt takes two parts away.
pub weight : (a t : ℕ) (b : Plain) (m : MoveMade (List Message)) → move a t b ≡ some m → parts m.body + 2 * length m.news ≤ parts b
weight a t b m e = move-total (λ k h. 1) 2 (plain-numbers (λ k. 1) 2 (λ k l. omega arith)) a t b m e

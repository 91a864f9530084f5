-- The part table holds the tree that the words are read as. First the table alone, by the numbers of the parts; then
-- what reading gives: the parts are numbered in word order, and their messages are those that the words spell.
-- Assumes nothing.
use Prim.Native.Nat.{ℕ, ◌+◌, ◌≤◌, ◌<◌}
use mathlib.Core.Bool.{◌&&◌}
use mathlib.Core.List.{List, [], ◌∷◌, ◌++◌, append_assoc, append-nil}
use mathlib.Core.Path.{◌≡◌, refl, sym, ap, ap₂, ◌∙◌}
use mathlib.Core.Logic.{◌⊎◌, inl, inr, ⊎_elim}
use native.Mathlib.Omega.{arith}
use lib.ListN.{length, get_or, set, length-set, length-replicate, get_or-replicate, get_or-eq_default}
use lib.Seq.{get_or-set_same, get_or-set_other}
use lib.Dec.{leb, ltb, eqb}
use borrow.Author.Tests.{ne_eqb, eqb-true, eqb-false, lt-ltb, le-ltb, ltb-true, ltb-false, leb-true}
use Rattle.base_slices.proofs.Tails.{zeros}
use Rattle.base_slices.proofs.Tests.{by_test}
use Rattle.base_sets.specs.Sets.{members, inserted, mask, AllUnder}
use Rattle.base_sets.proofs.Members.{members-rising, members-below, members-empty}
use Rattle.base_sets.proofs.Lists.{members-mask, inserted_rising}
use Rattle.std.specs.Prelude.{Result, Ok, Err}
use Rattle.read_messages.specs.declared.Refusal.{Refusal}
use Rattle.read_messages.specs.Reading.{Cursor, cursor, Reading, refuse, got, ask, is_empty}
use Rattle.read_messages.proofs.Readings.{bind_all, got-all, ask-inv}
use Rattle.read_scripts.specs.Tree.{Body, close, part, tops, total_over, parts, map_heads, kind_number}
use Rattle.read_scripts.specs.Script.{Written, Script, read_body, read_script}
use Rattle.read_scripts.specs.Table.{vacant, entered, start_of, tabulate, table_of}
use Rattle.read_scripts.specs.Represents.{Numbered, Held, body_in, head_at, head_in, unindexed, PartsAt, Low, Tabled, Answers}
use Rattle.read_scripts.specs.declared.Table.{Table}
use Rattle.read_scripts.proofs.Laws.{body-advances, short}

-- ---- a number above all others of a rising list is inserted at its end

inserted-last : (n : ℕ) (l : List ℕ) → AllUnder n l → inserted n l ≡ l ++ (n ∷ [])
unfolding inserted
inserted-last n [] b = refl
inserted-last n (x ∷ l) b =
    rw (le-ltb n x (omega (arith, b.0)), ne_eqb n x (λ e. omega (arith, b.0))) (ap (λ (k : List ℕ). x ∷ k) (inserted-last n l b.1))

below_more : (n m : ℕ) (l : List ℕ) → n ≤ m → AllUnder n l → AllUnder m l
below_more n m [] h b = tt
below_more n m (x ∷ l) h b = (omega (arith, b.0), below_more n m l h b.1)

below-append : (n : ℕ) (l k : List ℕ) → AllUnder n l → AllUnder n k → AllUnder n (l ++ k)
below-append n [] k a b = b
below-append n (x ∷ l) k a b = (a.0, below-append n l k a.1 b)

-- ---- trees with other heads

module _ {G H : Type 0} (f : G → H) where
  pub tops-map : (b : Body G) → tops (map_heads f b) ≡ tops b
  unfolding tops map_heads
  tops-map close = refl
  tops-map (part i h b r) = ap (λ (l : List ℕ). i ∷ l) (tops-map r)

-- bodies and heads that agree at a tree's numbers hold the same tree
module _ {G H : Type 0} (f : G → H) (k k' : ℕ → List ℕ) (w w' : ℕ → H) where
  held-frame : (n : ℕ) (b : Body G) → Numbered n b
      → ((j : ℕ) → n ≤ j → j < n + parts b → k j ≡ k' j) → ((j : ℕ) → n ≤ j → j < n + parts b → w j ≡ w' j)
      → Held k w (map_heads f b) → Held k' w' (map_heads f b)
  unfolding total_over map_heads
  held-frame n close N K W h = tt
  held-frame n (part i g b r) N K W h =
      let e : i ≡ n = N.0 in (
        sym (K i (omega arith) (omega arith)) ∙ h.0,
        sym (W i (omega arith) (omega arith)) ∙ h.1,
        held-frame (n + 1) b N.1 (λ j a z. K j (omega arith) (omega arith)) (λ j a z. W j (omega arith) (omega arith)) h.2,
        held-frame (n + 1 + parts b) r N.2 (λ j a z. K j (omega arith) (omega arith)) (λ j a z. W j (omega arith) (omega arith)) h.3,
      )

-- ---- the table

-- the arrays have their lengths, and no part from `count` on has a body yet
record Room (t : Table) : Type 0 where
  kinds-length : length t.kinds ≡ 64
  starts-length : length t.starts ≡ 64
  kids-length : length t.kids ≡ 65
  fresh : (j : ℕ) → t.count ≤ j → j < 64 → body_in t.kids j ≡ []

-- the parts n to m - 1 were written to t, with o as the owner of the first ones: what else u has is what t has
record Wrote (o n m : ℕ) (t u : Table) : Type 0 where
  counts : u.count ≡ m
  room : Room u
  kinds_kept : (j : ℕ) → j < n → get_or u.kinds j 0 ≡ get_or t.kinds j 0
  starts-kept : (j : ℕ) → j < n → get_or u.starts j 0 ≡ get_or t.starts j 0
  kids-kept : (j : ℕ) → (j ≡ o → ⊥) → (j < n) ⊎ (m ≤ j) → get_or u.kids j 0 ≡ get_or t.kids j 0

-- an owner: a part with a smaller number, or 64 for the script's own body
record Owner (o n : ℕ) : Type 0 where
  inside : o < 65
  smaller : (o < n) ⊎ (64 ≤ o)

other : (o n j : ℕ) → Owner o n → n ≤ j → j < 64 → j ≡ o → ⊥
other o n j w a b e = ⊎_elim (λ h. omega arith) (λ h. omega arith) w.smaller

owner-more : (o n m : ℕ) → n ≤ m → Owner o n → Owner o m
owner-more o n m h w = record { inside = w.inside; smaller = ⊎_elim (λ a. inl (omega arith)) (λ a. inr a) w.smaller }

inserted-members : (n m : ℕ) → n < 64 → AllUnder n (members m) → members (mask (inserted n (members m))) ≡ members m ++ (n ∷ [])
inserted-members n m l b =
    members-mask (inserted n (members m)) (inserted_rising 0 n (members m) (omega arith) (members-rising m))
    (rw (inserted-last n (members m) b) (below-append 64 (members m) (n ∷ []) (members-below m) (l, tt)))
    ∙ inserted-last n (members m) b

-- one part more
module _ (o k s : ℕ) (t : Table) (R : Room t) (W : Owner o t.count) (l : t.count < 64) where
  entered-is : entered o k s t ≡ record {
    kinds = set t.kinds t.count k;
    starts = set t.starts t.count s;
    kids = set t.kids o (mask (inserted t.count (members (get_or t.kids o 0))));
    count = t.count + 1;
  }
  unfolding entered
  entered-is = rw (lt-ltb t.count 64 l)

  entered-kind : get_or (entered o k s t).kinds t.count 0 ≡ k
  entered-kind = rw entered-is (get_or-set_same t.kinds t.count k 0 (omega (arith, R.kinds-length)))

  entered-start : get_or (entered o k s t).starts t.count 0 ≡ s
  entered-start = rw entered-is (get_or-set_same t.starts t.count s 0 (omega (arith, R.starts-length)))

  entered-own : AllUnder t.count (body_in t.kids o) → body_in (entered o k s t).kids o ≡ body_in t.kids o ++ (t.count ∷ [])
  entered-own B =
      rw entered-is
      (ap members (get_or-set_same t.kids o (mask (inserted t.count (members (get_or t.kids o 0)))) 0 (omega (arith, R.kids-length, W.inside)))
      ∙ inserted-members t.count (get_or t.kids o 0) l B)

  entered-kids : (j : ℕ) → (j ≡ o → ⊥) → get_or (entered o k s t).kids j 0 ≡ get_or t.kids j 0
  entered-kids j n = rw entered-is (get_or-set_other t.kids o j _ 0 n)

  entered-wrote : Wrote o t.count (t.count + 1) t (entered o k s t)
  entered-wrote = record {
    counts = rw entered-is;
    room = record {
      kinds-length = rw entered-is (length-set t.kinds t.count k ∙ R.kinds-length);
      starts-length = rw entered-is (length-set t.starts t.count s ∙ R.starts-length);
      kids-length = rw entered-is (length-set t.kids o _ ∙ R.kids-length);
      fresh = λ j a b. ap members (entered-kids j (other o t.count j W (let c : (entered o k s t).count ≡ t.count + 1 = rw entered-is in omega arith) b)) ∙ R.fresh j (let c : (entered o k s t).count ≡ t.count + 1 = rw entered-is in omega arith) b;
    };
    kinds_kept = λ j a. rw entered-is (get_or-set_other t.kinds t.count j k 0 (λ e. omega arith));
    starts-kept = λ j a. rw entered-is (get_or-set_other t.starts t.count j s 0 (λ e. omega arith));
    kids-kept = λ j n a. entered-kids j n;
  }

-- no message starts behind the n-th word

set-low : (n i v : ℕ) (l : List ℕ) → v ≤ n → ((j : ℕ) → get_or l j 0 ≤ n) → (j : ℕ) → get_or (set l i v) j 0 ≤ n
set-low n i v l m h j = by_test (eqb j i)
    (λ t. by_test (ltb i (length l))
    (λ u. rw (eqb-true j i t) (omega (arith, get_or-set_same l i v 0 (ltb-true i (length l) u))))
    (λ u. let e : get_or (set l i v) j 0 ≡ 0 = get_or-eq_default (set l i v) 0 (omega (arith, length-set l i v, ltb-false i (length l) u, eqb-true j i t)) in omega arith))
    (λ t. omega (arith, get_or-set_other l i j v 0 (eqb-false j i t), h j))

starts-low : (n o : ℕ) (b : Script) (t : Table) → ((i : ℕ) → get_or t.starts i 0 ≤ n) → Low n b → (i : ℕ) → get_or (tabulate o b t).starts i 0 ≤ n
unfolding tabulate entered
starts-low n o close t h L = h
starts-low n o (part i w b r) t h L = starts-low n o r _
    (starts-low n i b _
    (by_test (ltb t.count 64) (λ u. rw u (set-low n t.count (start_of w) t.starts L.0 h)) (λ u. rw u h))
    L.1) L.2

-- what a table holds after a body's parts
record Filled (ws : List ℕ) (o : ℕ) (b : Script) (t u : Table) : Type 0 where
  wrote : Wrote o t.count (t.count + parts b) t u
  own : body_in u.kids o ≡ body_in t.kids o ++ tops b
  held : Held (body_in u.kids) (head_in ws u.kinds u.starts) (unindexed b)

-- what is shown of a body's parts, for every table that they are written to
abbrev Fills : List ℕ → (o : ℕ) → Script → Type 0
Fills ws o b =
    (t : Table) → Numbered t.count b → PartsAt ws b → t.count + parts b ≤ 64 → Room t → Owner o t.count → AllUnder t.count (body_in t.kids o) → Filled ws o b t (tabulate o b t)

-- A part and what stands in it are written: i is the part's number, t₁ the table with the part, t₂ with what stands in it too.
module _ (ws : List ℕ) (o i : ℕ) (w : Written) (b r : Script) (t t₁ t₂ : Table) (e : i ≡ t.count) (l : t.count + (1 + (parts b + parts r)) ≤ 64) (W : Owner o t.count)
    (E : Wrote o t.count (t.count + 1) t t₁) (F : Filled ws i b t₁ t₂) where
  first_count : t₁.count ≡ t.count + 1
  first_count = E.counts

  inside-count : t₂.count ≡ t.count + 1 + parts b
  inside-count = F.wrote.counts ∙ ap (λ (z : ℕ). z + parts b) first_count

  owned : (j : ℕ) → t.count ≤ j → j < t.count + (1 + (parts b + parts r)) → j ≡ o → ⊥
  owned j x y = other o t.count j W x (omega arith)

  next-own : body_in t₁.kids o ≡ body_in t.kids o ++ (i ∷ []) → body_in t₂.kids o ≡ body_in t.kids o ++ (i ∷ [])
  next-own h =
      ap members (F.wrote.kids-kept o (λ z. owned i (omega arith) (omega arith) (sym z)) (⊎_elim (λ a. inl (omega (arith, first_count))) (λ a. inr (omega (arith, first_count))) W.smaller))
      ∙ h

  next-below : body_in t₂.kids o ≡ body_in t.kids o ++ (i ∷ []) → AllUnder t.count (body_in t.kids o) → AllUnder t₂.count (body_in t₂.kids o)
  next-below h B = rw h (below-append t₂.count (body_in t.kids o) (i ∷ []) (below_more t.count t₂.count (body_in t.kids o) (omega (arith, inside-count)) B) (omega (arith, inside-count), tt))

  -- the parts behind it are written
  rest-filled : Fills ws o r → Numbered (t.count + 1 + parts b) r → PartsAt ws r → body_in t₂.kids o ≡ body_in t.kids o ++ (i ∷ []) → AllUnder t.count (body_in t.kids o) → Filled ws o r t₂ (tabulate o r t₂)
  rest-filled f N P h B = f t₂ (rw inside-count N) P (omega (arith, inside-count)) F.wrote.room (owner-more o t.count t₂.count (omega (arith, inside-count)) W) (next-below h B)

  module _ (u : Table) (G : Filled ws o r t₂ u) where
    all-wrote : Wrote o t.count (t.count + (1 + (parts b + parts r))) t u
    all-wrote = record {
      counts = omega (arith, G.wrote.counts, inside-count);
      room = G.wrote.room;
      kinds_kept = λ j a. G.wrote.kinds_kept j (omega (arith, inside-count)) ∙ F.wrote.kinds_kept j (omega (arith, first_count)) ∙ E.kinds_kept j a;
      starts-kept = λ j a. G.wrote.starts-kept j (omega (arith, inside-count)) ∙ F.wrote.starts-kept j (omega (arith, first_count)) ∙ E.starts-kept j a;
      kids-kept = λ j d a.
          G.wrote.kids-kept j d (⊎_elim (λ z. inl (omega (arith, inside-count))) (λ z. inr (omega (arith, inside-count))) a)
          ∙ F.wrote.kids-kept j (λ y. ⊎_elim (λ z. omega arith) (λ z. omega arith) a) (⊎_elim (λ z. inl (omega (arith, first_count))) (λ z. inr (omega (arith, first_count))) a)
          ∙ E.kids-kept j d (⊎_elim (λ z. inl z) (λ z. inr (omega arith)) a);
    }

    part-head : get_or t₁.kinds i 0 ≡ kind_number w.head → get_or t₁.starts i 0 ≡ start_of w → head_in ws u.kinds u.starts i ≡ head_at ws (kind_number w.head) (start_of w)
    part-head k s =
        ap₂ (head_at ws)
        (G.wrote.kinds_kept i (omega (arith, inside-count)) ∙ F.wrote.kinds_kept i (omega (arith, first_count)) ∙ k)
        (G.wrote.starts-kept i (omega (arith, inside-count)) ∙ F.wrote.starts-kept i (omega (arith, first_count)) ∙ s)

    part_body : body_in t₁.kids i ≡ [] → body_in u.kids i ≡ tops b
    part_body n = ap members (G.wrote.kids-kept i (owned i (omega arith) (omega arith)) (inl (omega (arith, inside-count)))) ∙ F.own ∙ ap (λ (m : List ℕ). m ++ tops b) n

    inside-held : Numbered (t.count + 1) b → Held (body_in u.kids) (head_in ws u.kinds u.starts) (unindexed b)
    inside-held N =
        held-frame (λ w. w.head) (body_in t₂.kids) (body_in u.kids) (head_in ws t₂.kinds t₂.starts) (head_in ws u.kinds u.starts) (t.count + 1) b N
        (λ j a z. sym (ap members (G.wrote.kids-kept j (owned j (omega arith) (omega arith)) (inl (omega (arith, inside-count))))))
        (λ j a z. sym (ap₂ (head_at ws) (G.wrote.kinds_kept j (omega (arith, inside-count))) (G.wrote.starts-kept j (omega (arith, inside-count)))))
        F.held

    part_filled : body_in t₂.kids o ≡ body_in t.kids o ++ (i ∷ []) → body_in t₁.kids i ≡ [] → get_or t₁.kinds i 0 ≡ kind_number w.head → get_or t₁.starts i 0 ≡ start_of w
        → Numbered (t.count + 1) b → PartsAt ws (part i w b r) → Filled ws o (part i w b r) t u
    unfolding total_over tops map_heads
    part_filled h n k s N P = record {
      wrote = all-wrote;
      own = G.own ∙ ap (λ (m : List ℕ). m ++ tops r) h ∙ append_assoc (body_in t.kids o) (i ∷ []) (tops r);
      held = (rw (tops-map (λ (w : Written). w.head) b) (part_body n), part-head k s ∙ P.0, inside-held N, G.held);
    }

-- the part is entered, and what stands in it written
module _ (ws : List ℕ) (o i : ℕ) (w : Written) (b r : Script) (t : Table) (e : i ≡ t.count) (l : t.count + (1 + (parts b + parts r)) ≤ 64) (R : Room t) (W : Owner o t.count) where
  abbrev kind_of : ℕ
  kind_of = kind_number w.head

  abbrev with_part : Table
  with_part = entered o kind_of (start_of w) t

  room : t.count < 64
  room = omega arith

  no_body : body_in with_part.kids i ≡ []
  no_body = ap members (entered-kids o kind_of (start_of w) t R W room i (other o t.count i W (omega arith) (omega arith))) ∙ R.fresh i (omega arith) (omega arith)

  inside-filled : Fills ws i b → Numbered (t.count + 1) b → PartsAt ws b → Filled ws i b with_part (tabulate i b with_part)
  inside-filled f N P =
      let c : with_part.count ≡ t.count + 1 = (entered-wrote o kind_of (start_of w) t R W room).counts in
      f with_part (rw c N) P (omega arith) (entered-wrote o kind_of (start_of w) t R W room).room (record { inside = omega arith; smaller = inl (omega arith) }) (rw no_body tt)

  -- a part and the parts behind it
  both-filled : Filled ws i b with_part (tabulate i b with_part) → Fills ws o r → Numbered t.count (part i w b r) → PartsAt ws (part i w b r) → AllUnder t.count (body_in t.kids o)
      → Filled ws o (part i w b r) t (tabulate o r (tabulate i b with_part))
  both-filled F f N P B =
      let E = entered-wrote o kind_of (start_of w) t R W room in
      let h = next-own ws o i w b r t with_part (tabulate i b with_part) e l W E F (entered-own o kind_of (start_of w) t R W room B ∙ rw e) in
      part_filled ws o i w b r t with_part (tabulate i b with_part) e l W E F (tabulate o r (tabulate i b with_part))
      (rest-filled ws o i w b r t with_part (tabulate i b with_part) e l W E F f N.2 P.2 h B)
      h no_body (rw e (entered-kind o kind_of (start_of w) t R W room)) (rw e (entered-start o kind_of (start_of w) t R W room)) N.1 P

module _ (ws : List ℕ) where
  filled : (o : ℕ) (b : Script) → Fills ws o b
  unfolding tabulate total_over tops map_heads
  filled o close t N P l R W B = record {
    wrote = record { counts = omega arith; room = R; kinds_kept = λ j a. refl; starts-kept = λ j a. refl; kids-kept = λ j n a. refl };
    own = sym (append-nil (body_in t.kids o));
    held = tt;
  }
  filled o (part i w b r) t N P l R W B = both-filled ws o i w b r t N.0 l R W (inside-filled ws o i w b r t N.0 l R W (filled i b) N.1 P.1) (filled o r) N P B

  -- the table of a script whose parts are numbered from 0 and stand where the words say
  pub tabled : (b : Script) → Numbered 0 b → PartsAt ws b → Low 1024 b → parts b ≤ 64 → Tabled ws (tabulate 64 b vacant) b
  tabled b N P L l =
      let none : (j : ℕ) → j < 65 → body_in vacant.kids j ≡ [] = λ j a. ap members (get_or-replicate 65 j 0 0 a) ∙ members-empty in
      let top : body_in vacant.kids 64 ≡ [] = none 64 (omega arith) in
      let F = filled 64 b vacant N P (omega arith)
      (record { kinds-length = length-replicate {A = ℕ} 64 0; starts-length = length-replicate {A = ℕ} 64 0; kids-length = length-replicate {A = ℕ} 65 0; fresh = λ j a z. none j (omega arith) })
      (record { inside = omega arith; smaller = inr (omega arith) })
      (rw top tt) in
      record {
        few = omega (arith, F.wrote.counts);
        counted = F.wrote.counts ∙ (let z : 0 + parts b ≡ parts b = omega arith in z);
        numbered = N;
        top = F.own ∙ ap (λ (m : List ℕ). m ++ tops b) top;
        held = F.held;
        low = starts-low 1024 64 b vacant (λ i. omega (arith, zeros 64 i)) L;
      }

-- what is claimed of a script that is read
abbrev Holds : List ℕ → Script × Cursor → Type 0
Holds ws p = Tabled ws (tabulate 64 p.0 vacant) p.0

-- THEOREM: the table of a script that is accepted holds the tree that the script is read as.
pub script-tabled : (ws : List ℕ) (p : Script × Cursor) → read_script ws ≡ got p → Tabled ws (tabulate 64 p.0 vacant) p.0
unfolding read_script
script-tabled ws =
    bind_all (Holds ws) (ask 1 0 (leb 1 (length ws) && leb (length ws) 1024)) _
    (λ u₁ e₁. bind_all (Holds ws) (read_body (length ws) 0 [] (cursor 0 0 ws)) _
    (λ q e. bind_all (Holds ws) (ask 5 q.1.index (is_empty q.1.left)) _
    (λ _ _. bind_all (Holds ws) (ask 6 0 (leb q.1.number 64)) _
    (λ u e₆. got-all (Holds ws) q
    (let b = body-advances (length ws) 0 [] (cursor 0 0 ws) q e in
    let few : length ws ≤ 1024 = short ws u₁ e₁ in
    tabled ws q.0 b.numbered (b.placed ws refl) (b.low 1024 (omega (arith, b.advances.within))) (omega (arith, b.numbers, leb-true q.1.number 64 (ask-inv 6 0 _ u e₆))))))))

-- the cursor's number is the number of parts
abbrev CountsParts : Script × Cursor → Type 0
CountsParts p = p.1.number ≡ parts p.0

pub script-number : (ws : List ℕ) (p : Script × Cursor) → read_script ws ≡ got p → p.1.number ≡ parts p.0
unfolding read_script
script-number ws =
    bind_all CountsParts (ask 1 0 (leb 1 (length ws) && leb (length ws) 1024)) _
    (λ _ _. bind_all CountsParts (read_body (length ws) 0 [] (cursor 0 0 ws)) _
    (λ q e. bind_all CountsParts (ask 5 q.1.index (is_empty q.1.left)) _
    (λ _ _. bind_all CountsParts (ask 6 0 (leb q.1.number 64)) _
    (λ _ _. got-all CountsParts q (omega (arith, (body-advances (length ws) 0 [] (cursor 0 0 ws) q e).numbers))))))

-- an answer that is a refusal, and one that is a table
no_table : (q i : ℕ) (t : Table) {B : Type 0} → Ok t ≡ table_of (refuse q i) → B
unfolding table_of
no_table q i t e = cc

refused : (x : Reading (Script × Cursor)) (q : Refusal) → Err q ≡ table_of x → x ≡ refuse q.question q.place
unfolding table_of
refused (refuse q' i') q e = let r : q ≡ record { question = q'; place = i' } = cc in rw r
refused (got p) q e = cc

-- what the reader answers, and so what its table holds
pub answers : (ws : List ℕ) (r : Result Table Refusal) → r ≡ table_of (read_script ws) → Answers ws r
unfolding table_of
answers ws r e = record {
  answer = e;
  table = λ p t d k.
      let h : Ok t ≡ Ok (tabulate 64 p.0 vacant) = sym k ∙ e ∙ ap table_of d in
      let g : t ≡ tabulate 64 p.0 vacant = cc in
      rw g (script-tabled ws p d);
}

-- a table that is answered is that of a script, which it holds with the words
pub script-accepted : (ws : List ℕ) (r : Result Table Refusal) (t : Table) → Answers ws r → r ≡ Ok t → (p : Script × Cursor) × (read_script ws ≡ got p) × Tabled ws t p.0
script-accepted ws r t a k = told (read_script ws) refl (sym k ∙ a.answer)
  where
    told : (x : Reading (Script × Cursor)) → read_script ws ≡ x → Ok t ≡ table_of (read_script ws) → (p : Script × Cursor) × (read_script ws ≡ got p) × Tabled ws t p.0
    told (refuse q i) d e = no_table q i t (e ∙ ap table_of d)
    told (got p) d e = (p, d, a.table p t d k)

-- a refusal that is answered is the reading's
pub script-refuses : (ws : List ℕ) (r : Result Table Refusal) (q : Refusal) → Answers ws r → r ≡ Err q → read_script ws ≡ refuse q.question q.place
script-refuses ws r q a k = refused (read_script ws) q (sym k ∙ a.answer)

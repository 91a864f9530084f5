-- Satisfaction does not change when names are permuted: moves commute with renaming, and so does everything that a rule
-- looks at. Assumes nothing.
use Prim.Native.Nat.{ℕ, ◌+◌, ◌≤◌}
use mathlib.Core.List.{List, [], ◌∷◌, ◌++◌, map}
use mathlib.Core.Path.{◌≡◌, refl, sym, ap, ap₂, ◌∙◌, subst}
use mathlib.Core.Logic.{inl, inr, ◌↔◌}
use mathlib.Core.Option
use mathlib.Core.Option.{Option, none, some}
use lib.Dec.{eqb}
use borrow.Author.Tests.{eqb-true, eqb-false, eq-eqb, ne_eqb}
use Rattle.read_messages.specs.Message.{Message, name, variable, enter, exit, opens, empty_message, path, items, name_of, substitute, substitute_items, asks, first_item}
use Rattle.std.specs.Prelude.{Some}
use Rattle.read_scripts.specs.Tree.{ambient, action, receipt, output, close, part, map_heads, PlainHead, Plain, no_items, bare, settle}
use Rattle.theory_machine.specs.Moves.{MoveMade, head_name, move_here, anywhere}
use Rattle.theory_machine.specs.PlainMachine.{rest, substitute_head, substitute_body, plain, settled_by, move}
use Rattle.base_slices.proofs.Tests.{by_test}
use Rattle.theory_machine.proofs.Naturality.{map_heads-twice, map_heads-same, settle-map, renamed, asked, NamesApart, map_head, is_ambient-map, Translates, head_name-map, map_moved, moved-map}
use Rattle.read_rule_words.specs.Rule.{Term, constant, chosen, Rule, truth, negation, either, void, at, beside, some-name, sometime, somewhere, placed, Names, chosen_name, term_name}
use Rattle.theory_calculus.specs.Satisfaction.{Divided, nothing, to_left, to_right, Inside, first, later, Within, here, deeper, Reaches, stay, go, Alone, wrapped, Sat}

-- names changed by f
module _ (f : ℕ → ℕ) where
  unfoldable pub rename_message : Message → Message
  rename_message (name n) = name (f n)
  rename_message (variable v) = variable v
  rename_message (enter m) = enter (rename_message m)
  rename_message (exit m) = exit (rename_message m)
  rename_message (opens m) = opens (rename_message m)
  rename_message empty_message = empty_message
  rename_message (path m k) = path (rename_message m) (rename_message k)

  abbrev pub rename_items : List Message → List Message
  rename_items l = map rename_message l

  abbrev pub rename_head : PlainHead → PlainHead
  rename_head = map_head rename_items rename_message

  abbrev pub rename_tree : Plain → Plain
  rename_tree b = map_heads rename_head b

  unfoldable pub rename_term : Term → Term
  rename_term (constant n) = constant (f n)
  rename_term (chosen i) = chosen i

  unfoldable pub rename_rule : Rule → Rule
  rename_rule (truth i) = truth i
  rename_rule (negation i r) = negation i (rename_rule r)
  rename_rule (either i r q) = either i (rename_rule r) (rename_rule q)
  rename_rule (void i) = void i
  rename_rule (at i t r) = at i (rename_term t) (rename_rule r)
  rename_rule (beside i r q) = beside i (rename_rule r) (rename_rule q)
  rename_rule (some-name i r) = some-name i (rename_rule r)
  rename_rule (sometime i r) = sometime i (rename_rule r)
  rename_rule (somewhere i r) = somewhere i (rename_rule r)
  rename_rule (placed i j t r) = placed i j (rename_term t) (rename_rule r)

  unfoldable pub rename_names : Names → Names
  rename_names [] = []
  rename_names (p ∷ e) = (p.0, f p.1) ∷ rename_names e

  abbrev pub rename_moved : MoveMade (List Message) → MoveMade (List Message)
  rename_moved = map_moved rename_head rename_message

-- there and back again
module _ (f g : ℕ → ℕ) (back : (n : ℕ) → g (f n) ≡ n) where
  message-back : (m : Message) → rename_message g (rename_message f m) ≡ m
  unfolding rename_message
  message-back (name n) = ap name (back n)
  message-back (variable v) = refl
  message-back (enter m) = ap enter (message-back m)
  message-back (exit m) = ap exit (message-back m)
  message-back (opens m) = ap opens (message-back m)
  message-back empty_message = refl
  message-back (path m k) = ap₂ path (message-back m) (message-back k)

  items_back : (l : List Message) → rename_items g (rename_items f l) ≡ l
  items_back [] = refl
  items_back (m ∷ l) = ap₂ ◌∷◌ (message-back m) (items_back l)

  head-back : (h : PlainHead) → rename_head g (rename_head f h) ≡ h
  unfolding map_head
  head-back (ambient m) = ap ambient (message-back m)
  head-back (action is) = ap action (items_back is)
  head-back (receipt v) = refl
  head-back (output m) = ap output (message-back m)

  tree-back : (b : Plain) → rename_tree g (rename_tree f b) ≡ b
  tree-back b = map_heads-twice (rename_head g) (rename_head f) (λ h. h) (λ h. h) head-back b ∙ map_heads-same (λ h. h) (λ h. refl) _ ∙ map_heads-same (λ h. h) (λ h. refl) b

  injective : NamesApart f
  injective m n = by_test (eqb m n)
      (λ t. eq-eqb (f m) (f n) (ap f (eqb-true m n t)) ∙ sym t)
      (λ t. ne_eqb (f m) (f n) (λ e. eqb-false m n t (sym (back m) ∙ ap g e ∙ back n)) ∙ sym t)

module _ (f : ℕ → ℕ) where
  name_of-rename : (m : Message) → name_of (rename_message f m) ≡ renamed f (name_of m)
  unfolding name_of rename_message
  name_of-rename (name n) = refl
  name_of-rename (variable v) = refl
  name_of-rename (enter m) = refl
  name_of-rename (exit m) = refl
  name_of-rename (opens m) = refl
  name_of-rename empty_message = refl
  name_of-rename (path m k) = refl

  asks-rename : (i : Message) → asks (rename_message f i) ≡ asked f (asks i)
  unfolding asks rename_message
  asks-rename (name n) = refl
  asks-rename (variable v) = refl
  asks-rename (enter m) = rw (name_of-rename m)
  asks-rename (exit m) = rw (name_of-rename m)
  asks-rename (opens m) = rw (name_of-rename m)
  asks-rename empty_message = refl
  asks-rename (path m k) = refl

  first-rename : (l : List Message) → first_item (rename_items f l) ≡ asked f (first_item l)
  unfolding first_item
  first-rename [] = refl
  first-rename (i ∷ is) = asks-rename i

  rest-rename : (l : List Message) → rest (rename_items f l) ≡ rename_items f (rest l)
  unfolding rest
  rest-rename [] = refl
  rest-rename (i ∷ is) = refl

  rename-append : (l k : List Message) → rename_items f (l ++ k) ≡ rename_items f l ++ rename_items f k
  rename-append [] k = refl
  rename-append (m ∷ l) k = ap (λ (r : List Message). rename_message f m ∷ r) (rename-append l k)

  items-rename : (m : Message) → items (rename_message f m) ≡ rename_items f (items m)
  unfolding items rename_message
  items-rename (name n) = refl
  items-rename (variable v) = refl
  items-rename (enter m) = refl
  items-rename (exit m) = refl
  items-rename (opens m) = refl
  items-rename empty_message = refl
  items-rename (path m k) = rw (items-rename m, items-rename k, rename-append)

  substitute-rename : (v : ℕ) (r m : Message) → substitute v (rename_message f r) (rename_message f m) ≡ rename_message f (substitute v r m)
  unfolding substitute rename_message
  substitute-rename v r (name n) = refl
  substitute-rename v r (variable u) = by_test (eqb u v) (λ t. rw t) (λ t. rw t)
  substitute-rename v r (enter m) = ap enter (substitute-rename v r m)
  substitute-rename v r (exit m) = ap exit (substitute-rename v r m)
  substitute-rename v r (opens m) = ap opens (substitute-rename v r m)
  substitute-rename v r empty_message = refl
  substitute-rename v r (path m k) = ap₂ path (substitute-rename v r m) (substitute-rename v r k)

  substitute_items-rename : (v : ℕ) (r : Message) (l : List Message) → substitute_items v (rename_message f r) (rename_items f l) ≡ rename_items f (substitute_items v r l)
  unfolding substitute_items
  substitute_items-rename v r [] = refl
  substitute_items-rename v r (m ∷ l) = rw (substitute-rename v r m, items-rename (substitute v r m), substitute_items-rename v r l, rename-append)

  substitute_head-rename : (v : ℕ) (r : Message) (h : PlainHead) → substitute_head v (rename_message f r) (rename_head f h) ≡ rename_head f (substitute_head v r h)
  unfolding substitute_head map_head
  substitute_head-rename v r (ambient m) = ap ambient (substitute-rename v r m)
  substitute_head-rename v r (action is) = ap action (substitute_items-rename v r is)
  substitute_head-rename v r (receipt u) = refl
  substitute_head-rename v r (output m) = ap output (substitute-rename v r m)

  delivered-rename : (v : ℕ) (m : Message) (b : Plain) → substitute_body v (rename_message f m) (rename_tree f b) ≡ rename_tree f (substitute_body v m b)
  unfolding substitute_body
  delivered-rename v m b = map_heads-twice (substitute_head v (rename_message f m)) (rename_head f) (rename_head f) (substitute_head v m) (substitute_head-rename v m) b

  no_items-rename : (l : List Message) → no_items (rename_items f l) ≡ no_items l
  no_items-rename [] = refl
  no_items-rename (m ∷ l) = refl

  bare-rename : (h : PlainHead) → bare (rename_head f h) ≡ bare h
  unfolding bare map_head
  bare-rename (ambient m) = refl
  bare-rename (action is) = no_items-rename is
  bare-rename (receipt v) = refl
  bare-rename (output m) = refl

  settle-rename : (b : Plain) → settle (rename_tree f b) ≡ rename_tree f (settle b)
  unfolding settle
  settle-rename b = settle-map (rename_head f) bare bare bare-rename (is_ambient-map (rename_items f) (rename_message f)) b

  settled-rename : (x : Option (MoveMade (List Message))) → settled_by (Option.map (rename_moved f) x) ≡ Option.map (rename_moved f) (settled_by x)
  unfolding settled_by
  settled-rename none = refl
  settled-rename (some m) = ap some (rw (settle-rename m.body))

  divided-rename : {b c d : Plain} → Divided b c d → Divided (rename_tree f b) (rename_tree f c) (rename_tree f d)
  unfolding map_heads
  divided-rename nothing = nothing
  divided-rename (to_left d) = to_left (divided-rename d)
  divided-rename (to_right d) = to_right (divided-rename d)

  close-rename : (b : Plain) → (b ≡ close) ↔ (rename_tree f b ≡ close)
  unfolding map_heads
  close-rename close = (λ e. refl, λ e. refl)
  close-rename (part k h b r) = (λ e. cc, λ e. cc)

  -- the name of an ambient that is placed
  wrapped-rename : (k n : ℕ) (b : Plain) → rename_tree f (wrapped k n b) ≡ wrapped k (f n) (rename_tree f b)
  unfolding map_heads map_head rename_message
  wrapped-rename k n b = refl

  chosen_name-rename : f 0 ≡ 0 → (e : Names) (i : ℕ) → chosen_name (rename_names f e) i ≡ f (chosen_name e i)
  unfolding chosen_name rename_names
  chosen_name-rename z [] i = sym z
  chosen_name-rename z (p ∷ e) i = by_test (eqb p.0 i) (λ t. rw t) (λ t. rw t (chosen_name-rename z e i))

  term-rename : f 0 ≡ 0 → (e : Names) (t : Term) → term_name (rename_names f e) (rename_term f t) ≡ f (term_name e t)
  unfolding term_name rename_term
  term-rename z e (constant n) = refl
  term-rename z e (chosen i) = chosen_name-rename z e i

module _ (f g : ℕ → ℕ) (back : (n : ℕ) → g (f n) ≡ n) where
  translates : Translates plain plain (rename_items f) (rename_message f) f
  translates = record { injective = injective f g back; named = name_of-rename f; first = first-rename f; spent = rest-rename f }

  name-rename : (h : PlainHead) {n : ℕ} → head_name plain h ≡ Some n → head_name plain (rename_head f h) ≡ Some (f n)
  name-rename h e = head_name-map plain plain (rename_items f) (rename_message f) f translates h ∙ ap (renamed f) e

  pub move-rename : (a t : ℕ) (b : Plain) → move a t (rename_tree f b) ≡ Option.map (rename_moved f) (move a t b)
  unfolding move
  move-rename a t b =
      ap settled_by (moved-map plain plain (rename_items f) (rename_message f) f translates (delivered-rename f) a t b)
      ∙ settled-rename f (anywhere plain (move_here plain a t) b)

  reaches-rename : {b c : Plain} → Reaches b c → Reaches (rename_tree f b) (rename_tree f c)
  reaches-rename stay = stay
  reaches-rename (go {b = b} a t m e r) = go a t (rename_moved f m) (move-rename a t b ∙ ap (Option.map (rename_moved f)) e) (reaches-rename r)

  inside-rename : {b c : Plain} → Inside b c → Inside (rename_tree f b) (rename_tree f c)
  unfolding map_heads
  inside-rename (first {h = h} e) = first (name-rename h e)
  inside-rename (later i) = later (inside-rename i)

  within-rename : {b c : Plain} → Within b c → Within (rename_tree f b) (rename_tree f c)
  within-rename here = here
  within-rename (deeper i w) = deeper (inside-rename i) (within-rename w)

  alone-rename : {n : ℕ} {b c : Plain} → Alone n b c → Alone (f n) (rename_tree f b) (rename_tree f c)
  unfolding map_heads
  alone-rename x = record { number = x.number; head = rename_head f x.head; only = ap (rename_tree f) x.only; named = name-rename x.head x.named }

-- a permutation of the names from 1 on
pub record Permutation : Type 0 where
  pub to : ℕ → ℕ
  pub back : ℕ → ℕ
  pub back_to : (n : ℕ) → back (to n) ≡ n
  pub to_back : (n : ℕ) → to (back n) ≡ n
  pub positive : (n : ℕ) → 1 ≤ n → 1 ≤ to n
  pub back-positive : (n : ℕ) → 1 ≤ n → 1 ≤ back n
  pub null : to 0 ≡ 0

module _ (π : Permutation) where
  open π use {to, back, back_to, to_back, positive, back-positive, null}

  unfoldable pub Same : ℕ → Rule → Type 0
  Same n r = (e : Names) (b : Plain) → Sat n e r b ↔ Sat n (rename_names to e) (rename_rule to r) (rename_tree to b)

  pub sat-rename : (n : ℕ) (r : Rule) → Same n r
  unfolding Sat rename_rule rename_names Same
  sat-rename n (truth i) e b = (λ _. tt, λ _. tt)
  sat-rename n (negation i r) e b = (λ x y. x ((sat-rename n r e b).1 y), λ x y. x ((sat-rename n r e b).0 y))
  sat-rename n (either i r q) e b = (
    λ s. elim s [ inl x ↦ inl ((sat-rename n r e b).0 x) | inr y ↦ inr ((sat-rename n q e b).0 y) ],
    λ s. elim s [ inl x ↦ inl ((sat-rename n r e b).1 x) | inr y ↦ inr ((sat-rename n q e b).1 y) ],
  )
  sat-rename n (void i) e b = close-rename to b
  sat-rename n (at i t r) e b = (
    λ s. (rename_tree to s.0, rw (term-rename to null e t) (alone-rename to back back_to s.1), (sat-rename n r e s.0).0 s.2),
    λ s. (
      rename_tree back s.0,
      rw (tree-back to back back_to b, back_to (term_name e t)) at (alone-rename back to to_back (rw (term-rename to null e t) at s.1)),
      (sat-rename n r e (rename_tree back s.0)).1 (rw (tree-back back to to_back s.0) s.2),
    ),
  )
  sat-rename n (beside i r q) e b = (
    λ s. (rename_tree to s.0, rename_tree to s.1, divided-rename to s.2, (sat-rename n r e s.0).0 s.3, (sat-rename n q e s.1).0 s.4),
    λ s. (
      rename_tree back s.0,
      rename_tree back s.1,
      rw (tree-back to back back_to b) at (divided-rename back s.2),
      (sat-rename n r e (rename_tree back s.0)).1 (rw (tree-back back to to_back s.0) s.3),
      (sat-rename n q e (rename_tree back s.1)).1 (rw (tree-back back to to_back s.1) s.4),
    ),
  )
  sat-rename n (some-name i r) e b = (
    λ s. (to s.0, positive s.0 s.1, (sat-rename n r ((i, s.0) ∷ e) b).0 s.2),
    λ s. (back s.0, back-positive s.0 s.1, (sat-rename n r ((i, back s.0) ∷ e) b).1 (rw (to_back s.0) s.2)),
  )
  sat-rename n (sometime i r) e b = (
    λ s. (rename_tree to s.0, reaches-rename to back back_to s.1, (sat-rename n r e s.0).0 s.2),
    λ s. (
      rename_tree back s.0,
      rw (tree-back to back back_to b) at (reaches-rename back to to_back s.1),
      (sat-rename n r e (rename_tree back s.0)).1 (rw (tree-back back to to_back s.0) s.2),
    ),
  )
  sat-rename n (somewhere i r) e b = (
    λ s. (rename_tree to s.0, within-rename to back back_to s.1, (sat-rename n r e s.0).0 s.2),
    λ s. (
      rename_tree back s.0,
      rw (tree-back to back back_to b) at (within-rename back to to_back s.1),
      (sat-rename n r e (rename_tree back s.0)).1 (rw (tree-back back to to_back s.0) s.2),
    ),
  )
  sat-rename n (placed i j t r) e b =
      let q : rename_tree to (wrapped (n + j) (term_name e t) b) ≡ wrapped (n + j) (term_name (rename_names to e) (rename_term to t)) (rename_tree to b)
      = wrapped-rename to (n + j) (term_name e t) b ∙ ap (λ (m : ℕ). wrapped (n + j) m (rename_tree to b)) (sym (term-rename to null e t)) in
      let ih = sat-rename n r e (wrapped (n + j) (term_name e t) b) in
      (λ s. subst (Sat n (rename_names to e) (rename_rule to r)) q (ih.0 s), λ s. ih.1 (subst (Sat n (rename_names to e) (rename_rule to r)) (sym q) s))

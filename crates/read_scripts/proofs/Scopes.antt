-- The variables of a script that is read: each receipt has its own, the index of its word, and none is used but inside its
-- receipt. Assumes nothing.
use Prim.Native.Nat.{ℕ, ◌+◌, ◌≤◌}
use mathlib.Core.Bool.{Bool, false, cond, true≢false}
use mathlib.Core.List.{List, ◌∷◌}
use mathlib.Core.Path.{◌≡◌, refl, sym, ap, ◌∙◌, subst}
use native.Mathlib.Omega.{arith}
use lib.Dec.{eqb}
use borrow.Author.Tests.{ne_eqb}
use Rattle.read_messages.specs.Words.{member}
use Rattle.read_messages.specs.Reading.{Cursor, got, next_part}
use Rattle.read_messages.specs.Message.{Message, mentions}
use Rattle.read_messages.proofs.Mentioning.{mentions-other}
use Rattle.read_messages.proofs.Readings.{Next}
use Rattle.read_messages.proofs.Cases as message
use Rattle.base_slices.proofs.Tests.{by_test}
use Rattle.read_scripts.specs.Tree.{Head, ambient, action, receipt, output, close, part, one_if, total_over}
use Rattle.read_scripts.specs.Script.{Script, read_script}
use Rattle.read_scripts.proofs.Cases as body
use Rattle.read_scripts.proofs.Numbers.{Range, two-ranges, sooner, one-range}

-- a receipt of that variable
abbrev pub receives : {A : Type 0} → ℕ → Head A → Bool
receives v (ambient m) = false
receives v (action a) = false
receives v (receipt u) = eqb v u
receives v (output m) = false

-- how often a part's own message uses it
abbrev pub uses : ℕ → Head Message → ℕ
uses v (ambient m) = mentions v m
uses v (action m) = mentions v m
uses v (receipt u) = 0
uses v (output m) = mentions v m

-- how many receipts it has
abbrev pub receipts_of : ℕ → Script → ℕ
receipts_of v b = total_over (λ k w. one_if (receives v w.head)) b

-- how often it is used outside them
unfoldable pub loose_in : ℕ → Script → ℕ
loose_in v close = 0
loose_in v (part k w b r) = uses v w.head + (cond (receives v w.head) 0 (loose_in v b) + loose_in v r)

-- a message that is read uses only the variables around it
record Known (around : List ℕ) (c : Cursor) (p : Message × Cursor) : Type 0 where
  rises : c.index ≤ p.1.index
  bound : (v : ℕ) → member v around ≡ false → mentions v p.0 ≡ 0

message-known : message.Cases Known
unfolding mentions
message-known = record {
  names = λ around c q n x e. record { rises = omega (arith, x.index); bound = λ v d. refl };
  variables = λ around c q v x e. record {
    rises = omega (arith, x.index);
    bound = λ u d. mentions-other v u (ne_eqb v u (λ y. true≢false (sym e ∙ ap (λ (z : ℕ). member z around) y ∙ d)));
  };
  wraps = λ around c q p x h.
      let k : c.index ≤ p.1.index = omega (arith, x.index, h.rises) in (
        record { rises = k; bound = h.bound },
        record { rises = k; bound = h.bound },
        record { rises = k; bound = h.bound },
      );
  empties = λ around c q x. record { rises = omega (arith, x.index); bound = λ v d. refl };
  paths = λ around c q p r x h g. record { rises = omega (arith, x.index, h.rises, g.rises); bound = λ v d. omega (arith, h.bound v d, g.bound v d) };
}

-- a body that is read: its receipts have their indices, and only the variables around it are used outside them
pub record Bound (around : List ℕ) (c : Cursor) (p : Script × Cursor) : Type 0 where
  pub rises : c.index ≤ p.1.index
  pub ranges : (v : ℕ) → Range v c.index p.1.index (receipts_of v p.0)
  pub bound : (v : ℕ) → member v around ≡ false → loose_in v p.0 ≡ 0

none-bound : (around : List ℕ) (c d : Cursor) → c.index ≤ d.index → Bound around c (close, d)
unfolding total_over loose_in
none-bound around c d l = record { rises = l; ranges = λ v. record { once = omega arith; under = λ h. refl; over = λ h. refl }; bound = λ v d. refl }

-- a part that is no receipt
module _ (around : List ℕ) (c : Cursor) (q : ℕ × Cursor) (x : Next c q) (m : Message × Cursor) (k : Known around (next_part q.1) m) where
  with-message : (h : Head Message) (b r : Script × Cursor) → Bound around m.1 b → Bound around b.1 r → ((v : ℕ) → receives v h ≡ false) → ((v : ℕ) → uses v h ≡ mentions v m.0)
      → Bound around c (part c.number (body.at c.index h) b.0 r.0, r.1)
  unfolding total_over loose_in
  with-message h b r B R n u = record {
    rises = omega (arith, x.index, k.rises, B.rises, R.rises);
    ranges = λ v. rw (n v)
        (sooner v c.index m.1.index r.1.index _ (omega (arith, x.index, k.rises))
        (subst (Range v m.1.index r.1.index) (omega arith) (two-ranges v m.1.index b.1.index r.1.index _ _ (B.ranges v) (R.ranges v) B.rises R.rises)));
    bound = λ v d. rw (n v) (omega (arith, u v, k.bound v d, B.bound v d, R.bound v d));
  }

member-cons : (v i : ℕ) (around : List ℕ) → eqb v i ≡ false → member v around ≡ false → member v (i ∷ around) ≡ false
unfolding member
member-cons v i around t d = rw (t, d)

receipt-bound : (around : List ℕ) (c : Cursor) (q : ℕ × Cursor) (b r : Script × Cursor) → Next c q → Bound (c.index ∷ around) (next_part q.1) b → Bound around b.1 r
    → Bound around c (part c.number (body.at c.index (receipt c.index)) b.0 r.0, r.1)
unfolding total_over loose_in
receipt-bound around c q b r x B R = record {
  rises = omega (arith, x.index, B.rises, R.rises);
  ranges = λ v.
      let w = two-ranges v q.1.index b.1.index r.1.index _ _ (B.ranges v) (R.ranges v) B.rises R.rises in
      two-ranges v c.index (c.index + 1) r.1.index _ _ (one-range v c.index) (sooner v (c.index + 1) q.1.index r.1.index _ (omega (arith, x.index)) w) (omega arith) (omega (arith, x.index, B.rises, R.rises));
  bound = λ v d. by_test (eqb v c.index) (λ t. rw t (omega (arith, R.bound v d))) (λ t. rw t (omega (arith, B.bound v (member-cons v c.index around t d), R.bound v d)));
}

body-bound : body.Cases Known Bound
body-bound = record {
  messages = message.message-case Known message-known;
  closed = λ around c q x. none-bound around c q.1 (omega (arith, x.index));
  ambients = λ around c q m b r x k B R. with-message around c q x m k (ambient m.0) b r B R (λ v. refl) (λ v. refl);
  actions = λ around c q m b r x k B R. with-message around c q x m k (action m.0) b r B R (λ v. refl) (λ v. refl);
  receipts = λ around c q b r x B R. receipt-bound around c q b r x B R;
  outputs = λ around c q m r x k R. with-message around c q x m k (output m.0) (close, m.1) r (none-bound around m.1 m.1 (omega arith)) R (λ v. refl) (λ v. refl);
}

-- THEOREM: in a script that is read no variable has two receipts, and none is used outside its receipt.
pub script-bound : (ws : List ℕ) (p : Script × Cursor) → read_script ws ≡ got p → (v : ℕ) → (receipts_of v p.0 ≤ 1) × (loose_in v p.0 ≡ 0)
unfolding member
script-bound ws p e v = let B = body.script-case Known Bound body-bound ws p e in ((B.ranges v).once, B.bound v refl)

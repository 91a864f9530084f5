-- How the part sets and the offsets change with a move, and that the arrays in which one or two entries are set change so.
-- Assumes nothing.
use Prim.Native.Nat.{ℕ, ◌+◌, ◌<◌}
use mathlib.Core.List.{List}
use mathlib.Core.Path.{◌≡◌, sym, ap, ◌∙◌}
use lib.ListN.{get_or, set, length}
use lib.Seq.{get_or-set_same, get_or-set_other, lt-length-set}
use Rattle.base_sets.specs.Sets.{members, inserted, removed}
use Rattle.read_scripts.specs.Represents.{body_in}

-- the sets after that of b has become l
pub record Replaced (k k' : ℕ → List ℕ) (b : ℕ) (l : List ℕ) : Type 0 where
  pub becomes : k' b ≡ l
  pub others : (i : ℕ) → (i ≡ b → ⊥) → k i ≡ k' i

-- the sets after p has gone out of one body into another
pub record Carried (k k' : ℕ → List ℕ) (p from into : ℕ) : Type 0 where
  pub loses : k' from ≡ removed p (k from)
  pub gains : k' into ≡ inserted p (k into)
  pub others : (i : ℕ) → (i ≡ from → ⊥) → (i ≡ into → ⊥) → k i ≡ k' i

-- the offsets after one more item of a is spent
pub record Raised (offsets offsets' : List ℕ) (a : ℕ) : Type 0 where
  pub more : get_or offsets' a 0 ≡ get_or offsets a 0 + 1
  pub others : (i : ℕ) → (i ≡ a → ⊥) → get_or offsets i 0 ≡ get_or offsets' i 0

module _ (kids : List ℕ) where
  pub set-replaced : (b m : ℕ) (l : List ℕ) → b < length kids → members m ≡ l → Replaced (body_in kids) (body_in (set kids b m)) b l
  set-replaced b m l small e = record {
    becomes = ap members (get_or-set_same kids b m 0 small) ∙ e;
    others = λ i n. sym (ap members (get_or-set_other kids b i m 0 n));
  }

  -- first out of the one body, then into the other
  pub set-carried : (p from into m n : ℕ) → from < length kids → into < length kids → (from ≡ into → ⊥) → members m ≡ removed p (body_in kids from)
      → members n ≡ inserted p (body_in (set kids from m) into) → Carried (body_in kids) (body_in (set (set kids from m) into n)) p from into
  set-carried p from into m n low high two loses gains = record {
    loses = ap members (get_or-set_other (set kids from m) into from n 0 two) ∙ ap members (get_or-set_same kids from m 0 low) ∙ loses;
    gains = ap members (get_or-set_same (set kids from m) into n 0 (lt-length-set kids from m high)) ∙ gains
        ∙ ap (λ (x : ℕ). inserted p (members x)) (get_or-set_other kids from into m 0 (λ e. two (sym e)));
    others = λ i d e. sym (ap members (get_or-set_other (set kids from m) into i n 0 e ∙ get_or-set_other kids from i m 0 d));
  }

pub set-raised : (offsets : List ℕ) (a n : ℕ) → a < length offsets → n ≡ get_or offsets a 0 + 1 → Raised offsets (set offsets a n) a
set-raised offsets a n small e = record { more = get_or-set_same offsets a n 0 small ∙ e; others = λ i d. sym (get_or-set_other offsets a i n 0 d) }

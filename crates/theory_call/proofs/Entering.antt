-- The questions before the moves: what follows where all are answered by yes, and where one is answered by no. Assumes
-- nothing.
use Prim.Native.Nat.{ℕ, ◌+◌, ◌≤◌}
use mathlib.Core.Bool.{and-eq-true_iff}
use mathlib.Core.Path.{◌≡◌, refl, ap, ◌∙◌}
use native.Mathlib.Omega.{arith}
use lib.Dec.{leb}
use lib.ListN.{length}
use borrow.Author.Tests.{leb-true}
use Rattle.read_messages.specs.Reading.{Cursor, Reading, refuse, got}
use Rattle.read_messages.proofs.Readings.{bind_inv, bind_all, got-all, bind-got, bind-refuse}
use Rattle.read_messages.proofs.Places.{Within, bind-within}
use Rattle.read_scripts.specs.Script.{Script, read_script}
use Rattle.read_rule_words.specs.Rule.{Rule}
use Rattle.read_rule_words.specs.ReadRule.{read_whole_rule}
use Rattle.read_rules.proofs.Places.{rule-within}
use Rattle.theory_call.specs.Call.{Call, Start, parts_of, start_of, starting, asking, terms, door}
use Rattle.theory_call.proofs.Asking.{asking-inv, asking-within}

-- ---- questions 1 to 6

module _ (c : Call) where
  pub starting-got : (p : Script × Cursor) → read_script c.script ≡ got p → starting c ≡ got (start_of c.script p)
  unfolding starting
  starting-got p e = bind-got (read_script c.script) (λ p. got (start_of c.script p)) p e

  pub starting-refused : (q i : ℕ) → read_script c.script ≡ refuse q i → starting c ≡ refuse q i
  unfolding starting
  starting-refused q i e = bind-refuse (read_script c.script) (λ p. got (start_of c.script p)) q i e

  -- what holds of the start of every script that is read
  pub start-all : (P : Start → Type 0) → ((p : Script × Cursor) → read_script c.script ≡ got p → P (start_of c.script p)) → (s : Start) → starting c ≡ got s → P s
  unfolding starting
  start-all P f s e = bind_all P (read_script c.script) (λ p. got (start_of c.script p)) (λ p x. got-all P (start_of c.script p) (f p x)) s e

  -- a start is its script's own: the script is read, and no move is made
  pub start-reads : (s : Start) → starting c ≡ got s → (read_script c.script ≡ got s.read) × (s ≡ start_of c.script s.read)
  start-reads = start-all (λ s. (read_script c.script ≡ got s.read) × (s ≡ start_of c.script s.read)) (λ p e. (e, refl))

-- ---- the questions that ask numbers

pub terms-few : (p k l : ℕ) → asking (terms p k l) ≡ got tt → k ≤ 4096
terms-few p k l e = leb-true k 4096 (asking-inv (terms p k l) tt e).1.0

pub terms-long : (p k l : ℕ) → asking (terms p k l) ≡ got tt → 256 ≤ l
terms-long p k l e = leb-true 256 l (asking-inv (terms p k l) tt e).1.1.0

pub terms-patience : (p k l : ℕ) → asking (terms p k l) ≡ got tt → p ≤ 16777216
terms-patience p k l e = leb-true p 16777216 ((and-eq-true_iff (leb 1 p) (leb p 16777216)).0 (asking-inv (terms p k l) tt e).0).1

terms-within : (p k l : ℕ) → Within 256 (asking (terms p k l))
terms-within p k l = asking-within 256 (terms p k l) refl

-- ---- questions 7 to 14 and 21

module _ (c : Call) (s : Start) where
  abbrev asks : Reading (Unit {0})
  asks = asking (terms c.patience (s.made + length c.moves) (length c.list))

  pub door-inv : (r : Rule × Cursor) → door c s ≡ got r → (read_whole_rule (parts_of s) c.rule ≡ got r) × (asks ≡ got tt)
  unfolding door
  door-inv r e =
      let (q, x, y) = bind_inv (read_whole_rule (parts_of s) c.rule) _ r e in
      let (u, z, v) = bind_inv asks _ r y in
      (x ∙ v, z)

  pub door-few : (r : Rule × Cursor) → door c s ≡ got r → s.made + length c.moves ≤ 4096
  door-few r e = terms-few c.patience (s.made + length c.moves) (length c.list) (door-inv r e).1

  pub door-patience : (r : Rule × Cursor) → door c s ≡ got r → c.patience ≤ 16777216
  door-patience r e = terms-patience c.patience (s.made + length c.moves) (length c.list) (door-inv r e).1

  pub door-unread : (q i : ℕ) → read_whole_rule (parts_of s) c.rule ≡ refuse q i → door c s ≡ refuse q i
  unfolding door
  door-unread q i e = bind-refuse (read_whole_rule (parts_of s) c.rule) _ q i e

  module _ (r : Rule × Cursor) (e : read_whole_rule (parts_of s) c.rule ≡ got r) where
    pub door-unasked : (q i : ℕ) → asks ≡ refuse q i → door c s ≡ refuse q i
    unfolding door
    door-unasked q i d = bind-got (read_whole_rule (parts_of s) c.rule) _ r e ∙ bind-refuse asks _ q i d

    pub door-got : asks ≡ got tt → door c s ≡ got r
    unfolding door
    door-got d = bind-got (read_whole_rule (parts_of s) c.rule) _ r e ∙ bind-got asks _ tt d

  pub door-within : Within 256 (door c s)
  unfolding door
  door-within = bind-within 256 (read_whole_rule (parts_of s) c.rule) _ (rule-within (parts_of s) c.rule) (λ r e. bind-within 256 asks _ (terms-within c.patience (s.made + length c.moves) (length c.list)) (λ u d. tt))

-- ---- from the script's own start, along whose line no move is made

module _ (c : Call) (p : Script × Cursor) (r : Rule × Cursor) (e : read_whole_rule p.1.number c.rule ≡ got r) where
  -- what is asked of the numbers
  abbrev asked-own : Reading (Unit {0})
  asked-own = asking (terms c.patience (length c.moves) (length c.list))

  no_more : asking (terms c.patience (0 + length c.moves) (length c.list)) ≡ asked-own
  no_more = let z : 0 + length c.moves ≡ length c.moves = omega arith in ap (λ (k : ℕ). asking (terms c.patience k (length c.list))) z

  pub own-unasked : (q i : ℕ) → asked-own ≡ refuse q i → door c (start_of c.script p) ≡ refuse q i
  own-unasked q i d = door-unasked c (start_of c.script p) r e q i (no_more ∙ d)

  pub own-got : asked-own ≡ got tt → door c (start_of c.script p) ≡ got r
  own-got d = door-got c (start_of c.script p) r e (no_more ∙ d)

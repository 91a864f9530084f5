-- The script as a whole: questions 1, 5 and 6 around the reading of its body, as the code asks them. Assumes nothing.
use Prim.Native.Nat.{ℕ, ◌≤◌, ◌<◌}
use mathlib.Core.Bool.{false, ◌&&◌}
use mathlib.Core.List.{List, []}
use mathlib.Core.Path.{◌≡◌, refl, sym, ap, ap₂, ◌∙◌}
use native.Mathlib.Omega.{arith}
use borrow.Author.Tests.{le-leb, lt-leb}
use lib.Dec.{leb}
use lib.ListN.{length, drop, length-drop}
use Rattle.base_slices.proofs.Tails.{no-element}
use Rattle.std.specs.Prelude.{Result, Ok, Err}
use Rattle.read_messages.specs.Reading.{Cursor, cursor, Reading, refuse, got, ◌>>=◌, ask, is_empty, refusal_at}
use Rattle.read_messages.specs.declared.Refusal.{Refusal}
use Rattle.read_messages.proofs.Readings.{bind-got, bind-refuse, ask-yes, ask-no, left-none, left-some}
use Rattle.read_scripts.specs.Script.{Script, read_script}
use Rattle.read_scripts.specs.Table.{vacant, tabulate, scanned, table_of}
use Rattle.read_scripts.specs.declared.Table.{Table}
use Rattle.read_scripts.specs.declared.Scan.{Scan}
use Rattle.read_scripts.proofs.Laws.{BodyRead, body-advances}
use Rattle.read_scripts.proofs.Steps.{body_at, tabulate-count}

-- questions 5 and 6, once the body was read
abbrev checked : Script × Cursor → Reading (Script × Cursor)
checked p = ask 5 p.1.index (is_empty p.1.left) >>= λ _. ask 6 0 (leb p.1.number 64) >>= λ _. got (p.0, p.1)

unroll : (s : List ℕ) → read_script s ≡ (ask 1 0 (leb 1 (length s) && leb (length s) 1024) >>= λ _. body_at s 0 0 [] 0 >>= checked)
unfolding read_script
unroll s = refl

-- question 1
module _ (s : List ℕ) where
  sized : (leb 1 (length s) && leb (length s) 1024) ≡ false → refusal_at 1 0 ≡ table_of (read_script s)
  unfolding table_of
  sized e = sym (ap table_of (unroll s ∙ bind-refuse _ _ 1 0 (ask-no 1 0 _ e)))

  pub script-none : length s ≡ 0 → refusal_at 1 0 ≡ table_of (read_script s)
  script-none h = sized (rw (lt-leb 1 (length s) (omega arith)))

  pub script-long : 1024 < length s → refusal_at 1 0 ≡ table_of (read_script s)
  script-long h = sized (rw (le-leb 1 (length s) (omega arith), lt-leb (length s) 1024 h))

-- what an answer says of the body's reading
scan-told : (o : ℕ) (t : Table) (x : Reading (Script × Cursor)) (a : Scan) → Ok a ≡ scanned o t x
    → (p : Script × Cursor) × (x ≡ got p) × (p.1.index ≡ a.next) × (a.table ≡ tabulate o p.0 t)
unfolding scanned
scan-told o t (refuse q i) a e = cc
scan-told o t (got p) a e =
    let h : a ≡ record { next = p.1.index; table = tabulate o p.0 t } = cc in
    (p, refl, sym (ap (λ (x : Scan). x.next) h), ap (λ (x : Scan). x.table) h)

scan-refused : (o : ℕ) (t : Table) (x : Reading (Script × Cursor)) (k : Script × Cursor → Reading (Script × Cursor)) (q : Refusal) → Err q ≡ scanned o t x → Err q ≡ table_of (x >>= k)
unfolding scanned table_of ◌>>=◌
scan-refused o t (refuse q' i') k q e = let d : q ≡ record { question = q'; place = i' } = cc in rw d
scan-refused o t (got p) k q e = cc

-- What holds where the code has asked question 1 and read the body with the answer r.
pub record BodyAsked (s : List ℕ) (r : Result Scan Refusal) : Type 0 where
  pub some : 0 < length s
  pub most : length s ≤ 1024
  pub body : r ≡ scanned 64 vacant (body_at s 0 0 [] 0)

-- the table t that it was read into was the empty one, and no receipts were around
pub body-asked : {s : List ℕ} {r : Result Scan Refusal} (t : Table) (around : List ℕ) (first : ℕ) → t ≡ vacant → length around ≡ first → 0 < length s → length s ≤ 1024 → r ≡ scanned 64 t (body_at s 0 0 (drop first around) t.count) → BodyAsked s r
body-asked {s} t around first e n some most r =
    record { some = some; most = most; body = r ∙ ap₂ (λ (u : Table) (l : List ℕ). scanned 64 u (body_at s 0 0 l u.count)) e (no-element _ (omega (arith, length-drop first around))) }

module _ (s : List ℕ) (some : 0 < length s) (most : length s ≤ 1024) where
  goes : read_script s ≡ (body_at s 0 0 [] 0 >>= checked)
  goes = unroll s ∙ bind-got _ _ tt (ask-yes 1 0 _ (rw (le-leb 1 (length s) some, le-leb (length s) 1024 most)))

  -- the reading behind the body p
  module _ (p : Script × Cursor) (ep : body_at s 0 0 [] 0 ≡ got p) where
    body : BodyRead 0 [] (cursor 0 0 s) p
    body = body-advances (length s) 0 [] (cursor 0 0 s) p ep

    reads : read_script s ≡ checked p
    reads = goes ∙ bind-got (body_at s 0 0 [] 0) checked p ep

    behind : p.1.index < length s → read_script s ≡ refuse 5 p.1.index
    behind h = reads ∙ bind-refuse _ _ 5 p.1.index (ask-no 5 p.1.index _ (left-some p.1.left (omega (arith, body.advances.within))))

    ends : length s ≤ p.1.index → read_script s ≡ (ask 6 0 (leb p.1.number 64) >>= λ _. got (p.0, p.1))
    ends h = reads ∙ bind-got _ _ tt (ask-yes 5 p.1.index _ (left-none p.1.left (omega (arith, body.advances.within))))

    many : length s ≤ p.1.index → 64 < p.1.number → read_script s ≡ refuse 6 0
    many h k = ends h ∙ bind-refuse _ _ 6 0 (ask-no 6 0 _ (lt-leb p.1.number 64 k))

    whole : length s ≤ p.1.index → p.1.number ≤ 64 → read_script s ≡ got (p.0, p.1)
    whole h k = ends h ∙ bind-got _ _ tt (ask-yes 6 0 _ (le-leb p.1.number 64 k))

    -- the table's count is the number of the parts
    counted : (t : Table) → t ≡ tabulate 64 p.0 vacant → t.count ≡ p.1.number
    counted t e = ap (λ (x : Table). x.count) e ∙ tabulate-count 64 p.0 vacant ∙ sym body.numbers

module _ {s : List ℕ} {r : Result Scan Refusal} (b : BodyAsked s r) where
  pub script-refused : (q : Refusal) → r ≡ Err q → Err q ≡ table_of (read_script s)
  script-refused q d = scan-refused 64 vacant (body_at s 0 0 [] 0) checked q (sym d ∙ b.body) ∙ sym (ap table_of (goes s b.some b.most))

  module _ (a : Scan) (d : r ≡ Ok a) where
    pub script-behind : a.next < length s → refusal_at 5 a.next ≡ table_of (read_script s)
    unfolding table_of
    script-behind h =
        let (p, ep, en, et) = scan-told 64 vacant (body_at s 0 0 [] 0) a (sym d ∙ b.body) in
        sym (ap table_of (behind s b.some b.most p ep (rw en h)) ∙ ap (λ (x : ℕ). refusal_at {A = Table} 5 x) en)

    pub script-many : length s ≤ a.next → 64 < a.table.count → refusal_at 6 0 ≡ table_of (read_script s)
    unfolding table_of
    script-many h k =
        let (p, ep, en, et) = scan-told 64 vacant (body_at s 0 0 [] 0) a (sym d ∙ b.body) in
        sym (ap table_of (many s b.some b.most p ep (rw en h) (rw (← counted s b.some b.most p ep a.table et) k)))

    pub script-read : length s ≤ a.next → a.table.count ≤ 64 → Ok a.table ≡ table_of (read_script s)
    unfolding table_of
    script-read h k =
        let (p, ep, en, et) = scan-told 64 vacant (body_at s 0 0 [] 0) a (sym d ∙ b.body) in
        ap (λ (t : Table). Ok t) et ∙ sym (ap table_of (whole s b.some b.most p ep (rw en h) (rw (← counted s b.some b.most p ep a.table et) k)))

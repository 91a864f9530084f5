-- How a part table and the script's words represent the tree that was read. The law that they do is in
-- proofs/Tabled.antt. Assumes nothing: these are definitions.
use Rattle.std.specs.Prelude.{ℕ, ◌+◌, ◌≤◌, cond, List, ◌≡◌, get_or, drop, eqb, Result, Ok}
use Rattle.base_sets.specs.Sets.{members}
use Rattle.read_messages.specs.Reading.{Cursor, got}
use Rattle.read_messages.specs.Message.{Message}
use Rattle.read_messages.specs.declared.Refusal.{Refusal}
use Rattle.read_messages.specs.Spelling.{message_at}
use Rattle.read_scripts.specs.Tree.{Head, ambient, action, receipt, output, Body, close, part, kind_number, tops, parts, map_heads}
use Rattle.read_scripts.specs.Script.{Script, read_script}
use Rattle.read_scripts.specs.Table.{start_of, table_of}
use Rattle.read_scripts.specs.declared.Table.{Table}

-- "Parts (kinds 1 to 4) are numbered 0, 1, 2 in word order": from n on
abbrev pub Numbered : {H : Type 0} → ℕ → Body H → Type 0
Numbered n close = Unit {0}
Numbered n (part i h b r) = (i ≡ n) × Numbered (n + 1) b × Numbered (n + 1 + parts b) r

-- every part of the tree has its head in `heads`, and the numbers of its body's parts in `bodies`
abbrev pub Held : {H : Type 0} → (bodies : ℕ → List ℕ) (heads : ℕ → H) → Body H → Type 0
Held bodies heads close = Unit {0}
Held bodies heads (part i h b r) = (bodies i ≡ tops b) × (heads i ≡ h) × Held bodies heads b × Held bodies heads r

-- the numbers of the parts in the body of the part i
abbrev pub body_in : List ℕ → ℕ → List ℕ
body_in kids i = members (get_or kids i 0)

-- what the part is whose kind (1 ambient, 2 action, 3 receipt, 4 output) and start are these
unfoldable pub head_at : (script : List ℕ) (kind start : ℕ) → Head Message
head_at ws k s =
    cond (eqb k 1) (ambient (message_at (drop s ws)))
    (cond (eqb k 2) (action (message_at (drop s ws)))
    (cond (eqb k 3) (receipt s) (output (message_at (drop s ws)))))

abbrev pub head_in : (script kinds starts : List ℕ) → ℕ → Head Message
head_in ws kinds starts i = head_at ws (get_or kinds i 0) (get_or starts i 0)

-- every part is what the words say at its index
abbrev pub PartsAt : (script : List ℕ) → Script → Type 0
PartsAt ws close = Unit {0}
PartsAt ws (part i w b r) = (head_at ws (kind_number w.head) (start_of w) ≡ w.head) × PartsAt ws b × PartsAt ws r

-- no part's message starts behind the n-th word
abbrev pub Low : (n : ℕ) → Script → Type 0
Low n close = Unit {0}
Low n (part i w b r) = (start_of w ≤ n) × Low n b × Low n r

-- the tree, its parts being what they are without the indices of their words
abbrev pub unindexed : Script → Body (Head Message)
unindexed b = map_heads (λ w. w.head) b

-- the table and the script's words hold the tree: its top parts are those of number 64's body
pub record Tabled (script : List ℕ) (t : Table) (b : Script) : Type 0 where
  pub few : t.count ≤ 64
  pub counted : t.count ≡ parts b
  pub numbered : Numbered 0 b
  pub top : body_in t.kids 64 ≡ tops b
  pub held : Held (body_in t.kids) (head_in script t.kinds t.starts) (unindexed b)
  pub low : (i : ℕ) → get_or t.starts i 0 ≤ 1024

-- what the reader of the script answers
pub record Answers (script : List ℕ) (r : Result Table Refusal) : Type 0 where
  -- the refusal or the table is that of the definition; the script's own body is number 64's
  pub answer : r ≡ table_of (read_script script)
  -- the table of a script that is accepted, and the words, hold its tree
  pub table : (p : Script × Cursor) (t : Table) → read_script script ≡ got p → r ≡ Ok t → Tabled script t p.0

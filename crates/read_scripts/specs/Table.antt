-- The part table that the reader fills, as a function of the tree that the words are read as, and what the readers ask of
-- what they are called with. Assumes nothing: these are definitions.
use Rattle.std.specs.Prelude.{ℕ, ◌+◌, ◌≤◌, ◌<◌, cond, List, ◌≡◌, length, get_or, set, replicate, ltb, Result, Ok}
use Rattle.base_sets.specs.Sets.{members, inserted, mask}
use Rattle.read_messages.specs.Reading.{Cursor, Reading, refuse, got, refusal_at}
use Rattle.read_messages.specs.Message.{Message}
use Rattle.read_messages.specs.declared.Refusal.{Refusal}
use Rattle.read_scripts.specs.Tree.{Head, ambient, action, receipt, output, close, part, kind_number}
use Rattle.read_scripts.specs.Script.{Written, Script}
use Rattle.read_script_words.specs.ScriptWords.{part_word, asked_part}
use Rattle.read_script_words.specs.declared.PartWord.{PartWord}
use Rattle.read_scripts.specs.declared.Table.{Table}
use Rattle.read_scripts.specs.declared.Scan.{Scan}

-- no part yet
abbrev pub vacant : Table
vacant = record { kinds = replicate 64 0; starts = replicate 64 0; kids = replicate 65 0; count = 0 }

-- The table with one part more, which has the next number, in the body of the part `owner`. A part beyond the 64th is
-- only counted: question 6 refuses its script.
unfoldable pub entered : (owner kind start : ℕ) → Table → Table
entered o k s t =
    cond (ltb t.count 64)
    (record {
      kinds = set t.kinds t.count k;
      starts = set t.starts t.count s;
      kids = set t.kids o (mask (inserted t.count (members (get_or t.kids o 0))));
      count = t.count + 1;
    })
    (record { kinds = t.kinds; starts = t.starts; kids = t.kids; count = t.count + 1 })

-- where a part's message starts; of a receipt, its own index, which is its variable
abbrev pub start_by : Head Message → ℕ → ℕ
start_by (ambient m) i = i + 1
start_by (action m) i = i + 1
start_by (receipt v) i = v
start_by (output m) i = i + 1

abbrev pub start_of : Written → ℕ
start_of w = start_by w.head w.index

-- the table after one part and the body inside it, and after all parts of a body; the part numbered i is the owner of the
-- parts inside it
unfoldable pub tabulate : (owner : ℕ) → Script → Table → Table
tabulate o close t = t
tabulate o (part i w b r) t = tabulate o r (tabulate i b (entered o (kind_number w.head) (start_of w) t))

-- What the readers of the code answer. The body of the script is owned by number 64.
unfoldable pub scanned : (owner : ℕ) → Table → Reading (Script × Cursor) → Result Scan Refusal
scanned o t (refuse q i) = refusal_at q i
scanned o t (got p) = Ok (record { next = p.1.index; table = tabulate o p.0 t })

unfoldable pub scanned_part : (owner : ℕ) → Table → Reading ((Written × Script) × Cursor) → Result Scan Refusal
scanned_part o t (refuse q i) = refusal_at q i
scanned_part o t (got p) = Ok (record { next = p.1.index; table = tabulate o (part t.count p.0.0 p.0.1 close) t })

unfoldable pub table_of : Reading (Script × Cursor) → Result Table Refusal
table_of (refuse q i) = refusal_at q i
table_of (got p) = Ok (tabulate 64 p.0 vacant)

-- What the reader of a body is called with: the words, the first of which has the index `at`, their nesting, the index from
-- which on the array has the receipts around, and how many parts stand before.
pub record Readable (words : List ℕ) (at nest first count : ℕ) : Type 0 where
  -- a script has at most 1,024 words
  pub few : at + length words ≤ 1024
  -- question 4 lets in a nesting of at most 64, and is still to ask
  pub shallow : nest ≤ 65
  -- the receipts around stand in an array of 65
  pub receipts : first ≤ 65
  -- there are no more of them than the nesting
  pub room : 65 ≤ first + nest
  -- the parts before are no more than the words before
  pub fewer : count ≤ at

-- the same for the reader of a part, with what its first word is
pub record PartReadable (w : PartWord) (words : List ℕ) (at nest first count : ℕ) : Type 0 where
  pub reads : Readable words at nest first count
  -- there is a first word
  pub some : 0 < length words
  -- questions 2 and 4 were asked of it, and w is the answer
  pub asked : Ok w ≡ asked_part at nest (part_word (get_or words 0 0))

-- the same for the reader of an ambient (kind 1) or an action (kind 2), whose first word passed question 4
pub record GuardedReadable (kind : ℕ) (words : List ℕ) (at nest first count : ℕ) : Type 0 where
  pub reads : Readable words at nest first count
  -- there is a first word
  pub some : 0 < length words
  -- its nesting is at most 64
  pub nested : nest ≤ 64
  -- it is one of the two kinds
  pub least : 1 ≤ kind
  pub most : kind ≤ 2

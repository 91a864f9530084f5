-- What the engine keeps of every part beside the script: its name, what it does first and to which parts that can be done,
-- so that no search reads messages. Assumes nothing: these are definitions.
use Rattle.std.specs.Prelude.{ℕ, ◌<◌, Bool, true, false, cond, List, ◌≡◌, eqb, get_or, Some, None}
use Rattle.read_messages.specs.Message.{Named}
use Rattle.read_messages.specs.declared.First.{First}
use Rattle.read_messages.specs.declared.First.TheVariants.{Nothing, Enter, Exit, Open, Other}
use Rattle.base_sets.specs.Sets.{members, elem}
use Rattle.read_scripts.specs.Tree.{ambient, action, receipt, output, is_ambient}
use Rattle.theory_machine.specs.Moves.{is_named, same_name, head_name, first_of}
use Rattle.theory_closures.specs.Closure.{ClosureHead, Bindings, view_under, all_spent}
use Rattle.engine_states.specs.declared.PartNotes.{PartNotes}
use Rattle.engine_states.specs.declared.Deed.{Deed}

-- the name of part i in a table of names, `named` being the set of the parts that have one
unfoldable pub name_in : (named : ℕ) (names : List ℕ) (i : ℕ) → Named
name_in named names i = cond (elem i (members named)) (Some (get_or names i 0)) None

-- what a first item does: 1 OPEN, 2 IN, 3 EXIT, 0 none of them
unfoldable pub item_act : First → ℕ
item_act Nothing = 0
item_act (Enter n) = 2
item_act (Exit n) = 3
item_act (Open n) = 1
item_act Other = 0

-- the name that a first item says
unfoldable pub item_name : First → Named
item_name Nothing = None
item_name (Enter n) = n
item_name (Exit n) = n
item_name (Open n) = n
item_name Other = None

-- whether there is no item
unfoldable pub is_nothing : First → Bool
is_nothing Nothing = true
is_nothing (Enter n) = false
is_nothing (Exit n) = false
is_nothing (Open n) = false
is_nothing Other = false

-- the same by a part's kind (1 ambient, 2 action, 3 receipt, else output) and first item: a receipt's act is 4
unfoldable pub act_of : (kind : ℕ) → First → ℕ
act_of kind item = cond (eqb kind 2) (item_act item) (cond (eqb kind 3) 4 0)

-- whether it can be done to a part of that name, or, by a receipt, to an output
unfoldable pub aim_of : (kind : ℕ) → First → (is_output : Bool) → Named → Bool
aim_of kind item o n = cond (eqb kind 2) (same_name (item_name item) n) (cond (eqb kind 3) o false)

-- whether settling concerns the part: an ambient, whose body it settles, or an action with no items left, which goes
unfoldable pub busy_of : (kind : ℕ) → First → Bool
busy_of kind item = cond (eqb kind 1) true (cond (eqb kind 2) (is_nothing item) false)

-- The same of a head under the bindings.
unfoldable pub is_output : ClosureHead → Bool
is_output (ambient m) = false
is_output (action a) = false
is_output (receipt v) = false
is_output (output m) = true

unfoldable pub act_under : Bindings → ClosureHead → ℕ
act_under σ (ambient m) = 0
act_under σ (action a) = item_act (first_of (view_under σ) (action a))
act_under σ (receipt v) = 4
act_under σ (output m) = 0

unfoldable pub aim_under : Bindings → (h g : ClosureHead) → Bool
aim_under σ (ambient m) g = false
aim_under σ (action a) g = same_name (item_name (first_of (view_under σ) (action a))) (head_name (view_under σ) g)
aim_under σ (receipt v) g = is_output g
aim_under σ (output m) g = false

unfoldable pub busy_under : Bindings → ClosureHead → Bool
busy_under σ (ambient m) = true
busy_under σ (action a) = all_spent σ (action a)
busy_under σ (receipt v) = false
busy_under σ (output m) = false

-- d is what a part with the head h does first, w being the heads of all parts
pub record Does (σ : Bindings) (w : ℕ → ClosureHead) (h : ClosureHead) (d : Deed) : Type 0 where
  pub acts : d.act ≡ act_under σ h
  pub aims : (j : ℕ) → j < 64 → elem j (members d.aim) ≡ aim_under σ h (w j)
  pub settles : d.busy ≡ busy_under σ h

-- what is kept of part i
abbrev pub deed_in : PartNotes → (i : ℕ) → Deed
deed_in l i = record { act = get_or l.acts i 0; aim = get_or l.aims i 0; busy = elem i (members l.busy) }

-- what is kept is right
pub record Seen (σ : Bindings) (w : ℕ → ClosureHead) (l : PartNotes) : Type 0 where
  pub names : (i : ℕ) → i < 64 → name_in l.named l.names i ≡ head_name (view_under σ) (w i)
  pub deeds : (i : ℕ) → i < 64 → Does σ w (w i) (deed_in l i)

-- l has the parts that settling concerns, and kinds says which of them are ambients
abbrev pub Busy : Bindings → (ℕ → ClosureHead) → List ℕ → Type 0
Busy σ w l = (i : ℕ) → i < 64 → elem i l ≡ busy_under σ (w i)

abbrev pub Ambients : (ℕ → ClosureHead) → (kinds : List ℕ) → Type 0
Ambients w kinds = (i : ℕ) → i < 64 → eqb (get_or kinds i 0) 1 ≡ is_ambient (w i)

-- l has the parts that have a name
abbrev pub Names : Bindings → (ℕ → ClosureHead) → List ℕ → Type 0
Names σ w l = (i : ℕ) → i < 64 → elem i l ≡ is_named (head_name (view_under σ) (w i))

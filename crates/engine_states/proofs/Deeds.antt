-- What a part does first, by its kind and first item, is what its head does. Assumes nothing.
use Prim.Native.Nat.{ℕ, zero, suc, ◌+◌, ◌≤◌, ◌<◌}
use mathlib.Core.Bool.{Bool, true, false, not, ◌&&◌, ◌||◌, cond}
use mathlib.Core.List.{List, [], ◌∷◌}
use mathlib.Core.Path.{◌≡◌, refl, sym, ap, ◌∙◌, subst}
use native.Mathlib.Omega.{arith}
use lib.Dec.{eqb, leb}
use lib.ListN.{get_or, set, length, drop}
use lib.Seq.{get_or-set_same, get_or-set_other}
use borrow.Author.Tests.{eqb-true, eqb-false, eq-eqb, ne_eqb, leb-true, leb-false, le-leb, lt-leb}
use Rattle.read_messages.specs.Message.{Message, name, variable, enter, exit, opens, empty_message, path, items, asks, first_item}
use Rattle.read_messages.specs.Spelling.{message_at}
use Rattle.read_messages.specs.Message.{Named}
use Rattle.read_messages.specs.declared.First.{First}
use Rattle.base_sets.specs.Sets.{members, elem, inserted, removed}
use Rattle.base_sets.proofs.Lists.{elem-inserted, elem-remove}
use Rattle.theory_closures.specs.Resolve.{resolve}
use Rattle.read_scripts.specs.Tree.{ambient, action, receipt, output}
use Rattle.theory_machine.specs.Moves.{same_name, first_of, head_name}
use Rattle.base_slices.proofs.Tests.{by_test}
use Rattle.theory_closures.specs.Closure.{Action, ClosureHead, Bindings, items_left, view_under, all_spent}
use Rattle.engine_states.specs.Represents.{head_of, heads}
use Rattle.engine_states.specs.Seen.{name_in, is_nothing, item_act, item_name, act_of, aim_of, busy_of, is_output, act_under, aim_under, busy_under, Does, deed_in, Seen}
use Rattle.engine_states.specs.declared.PartNotes.{PartNotes}
use Rattle.engine_states.specs.declared.Deed.{Deed}
use Rattle.engine_states.proofs.Heads.{by_kind}

-- nothing is left of a list where the offset is its length or more
some-asked : (m : Message) → is_nothing (asks m) ≡ false
unfolding asks is_nothing
some-asked (name n) = refl
some-asked (variable v) = refl
some-asked (enter m) = refl
some-asked (exit m) = refl
some-asked (opens m) = refl
some-asked empty_message = refl
some-asked (path m k) = refl

none_left_lem : (l : List Message) (o : ℕ) → is_nothing (first_item (drop o l)) ≡ leb (length l) o
unfolding first_item is_nothing
none_left_lem [] zero = sym (le-leb 0 0 (omega arith))
none_left_lem [] (suc o) = sym (le-leb 0 (suc o) (omega arith))
none_left_lem (m ∷ l) zero = some-asked m ∙ sym (lt-leb (suc (length l)) 0 (omega arith))
none_left_lem (m ∷ l) (suc o) = none_left_lem l o ∙ by_test (leb (length l) o)
    (λ t. t ∙ sym (le-leb (suc (length l)) (suc o) (omega (arith, leb-true (length l) o t))))
    (λ t. t ∙ sym (lt-leb (suc (length l)) (suc o) (omega (arith, leb-false (length l) o t))))

module _ (script : List ℕ) (kind start offset : ℕ) where
  abbrev h : ClosureHead
  h = head_of script kind start offset

  pub out-kind : (kind ≡ 1 → ⊥) → (kind ≡ 2 → ⊥) → (kind ≡ 3 → ⊥) → is_output h ≡ true
  unfolding is_output
  out-kind a b c = by_kind script kind start offset (λ x. is_output x ≡ true) (λ e. absurd (a e)) (λ e. absurd (b e)) (λ e. absurd (c e)) (λ x y z. refl)

  pub not_out : 1 ≤ kind → kind ≤ 3 → false ≡ is_output h
  unfolding is_output
  not_out l m = by_kind script kind start offset (λ x. false ≡ is_output x) (λ e. refl) (λ e. refl) (λ e. refl) (λ x y z. absurd (let c : ⊥ = omega (arith, x, y, z) in c))

  module _ (σ : Bindings) where
    act-is : act_of kind (first_of (view_under σ) h) ≡ act_under σ h
    unfolding act_of act_under item_act first_of
    act-is = by_kind script kind start offset (λ x. act_of kind (first_of (view_under σ) x) ≡ act_under σ x)
        (λ e. rw e)
        (λ e. rw e)
        (λ e. rw e)
        (λ x y z. rw (ne_eqb kind 2 y, ne_eqb kind 3 z))

    aim-is : (g : ClosureHead) → aim_of kind (first_of (view_under σ) h) (is_output g) (head_name (view_under σ) g) ≡ aim_under σ h g
    unfolding aim_of aim_under item_name first_of
    aim-is g = by_kind script kind start offset (λ x. aim_of kind (first_of (view_under σ) x) (is_output g) (head_name (view_under σ) g) ≡ aim_under σ x g)
        (λ e. rw e)
        (λ e. rw e)
        (λ e. rw e)
        (λ x y z. rw (ne_eqb kind 2 y, ne_eqb kind 3 z))

    busy-is : busy_of kind (first_of (view_under σ) h) ≡ busy_under σ h
    unfolding busy_of busy_under first_of all_spent items_left
    busy-is = by_kind script kind start offset (λ x. busy_of kind (first_of (view_under σ) x) ≡ busy_under σ x)
        (λ e. rw e)
        (λ e. rw e (none_left_lem (items (resolve σ (message_at (drop start script)))) offset))
        (λ e. rw e)
        (λ x y z. rw (ne_eqb kind 1 x, ne_eqb kind 2 y))

    pub does-is : (w : ℕ → ClosureHead) (item : First) (d : Deed) (o : ℕ → Bool) (n : ℕ → Named) → item ≡ first_of (view_under σ) h
        → (d.act ≡ act_of kind item) × ((i : ℕ) → i < 64 → elem i (members d.aim) ≡ aim_of kind item (o i) (n i)) × (d.busy ≡ busy_of kind item)
        → ((j : ℕ) → j < 64 → o j ≡ is_output (w j)) → ((j : ℕ) → j < 64 → n j ≡ head_name (view_under σ) (w j)) → Does σ w h d
    does-is w item d o n e D p q = record {
      acts = D.0 ∙ ap (act_of kind) e ∙ act-is;
      aims = λ j m. D.1 j m ∙ (λ i. aim_of kind (e i) (p j m i) (q j m i)) ∙ aim-is (w j);
      settles = D.2 ∙ ap (busy_of kind) e ∙ busy-is;
    }

-- ---- one part's deed put among the others

pub deed-same : (d e : Deed) → d.act ≡ e.act → d.aim ≡ e.aim → d.busy ≡ e.busy → d ≡ e
deed-same d e a b c = λ i. record { act = a i; aim = b i; busy = c i }

module _ (so : Bool) (i : ℕ) (l k : List ℕ) (x : k ≡ cond so (inserted i (removed i l)) (removed i l)) where
  taken_out : (j : ℕ) → elem j (removed i l) ≡ (not (eqb i j) && elem j l)
  taken_out j = elem-remove j i l

  pub put-here : elem i k ≡ so
  put-here = ap (elem i) x ∙ by_test so
      (λ t. rw t (elem-inserted i i (removed i l) ∙ ap (λ (b : Bool). b || elem i (removed i l)) (eq-eqb i i refl)))
      (λ t. rw t (taken_out i ∙ ap (λ (b : Bool). not b && elem i l) (eq-eqb i i refl)))

  pub put_other : (j : ℕ) → (j ≡ i → ⊥) → elem j k ≡ elem j l
  put_other j n =
      let gone : elem j (removed i l) ≡ elem j l = taken_out j ∙ ap (λ (b : Bool). not b && elem j l) (ne_eqb i j (λ e. n (sym e))) in
      ap (elem j) x ∙ by_test so
      (λ t. rw t (elem-inserted j i (removed i l) ∙ ap (λ (b : Bool). b || elem j (removed i l)) (ne_eqb j i n) ∙ gone))
      (λ t. rw t gone)

-- what is kept of part j by the arrays
pub kept_set : (l r : PartNotes) (i : ℕ) (d : Deed) → i < length l.acts → i < length l.aims → r.acts ≡ set l.acts i d.act → r.aims ≡ set l.aims i d.aim
    → members r.busy ≡ cond d.busy (inserted i (removed i (members l.busy))) (removed i (members l.busy)) → deed_in r i ≡ d
kept_set l r i d m n a b c = deed-same (deed_in r i) d
    (ap (λ (x : List ℕ). get_or x i 0) a ∙ get_or-set_same l.acts i d.act 0 m)
    (ap (λ (x : List ℕ). get_or x i 0) b ∙ get_or-set_same l.aims i d.aim 0 n)
    (put-here d.busy i (members l.busy) (members r.busy) c)

pub kept-other : (l r : PartNotes) (i : ℕ) (d : Deed) → r.acts ≡ set l.acts i d.act → r.aims ≡ set l.aims i d.aim
    → members r.busy ≡ cond d.busy (inserted i (removed i (members l.busy))) (removed i (members l.busy)) → (j : ℕ) → (j ≡ i → ⊥) → deed_in r j ≡ deed_in l j
kept-other l r i d a b c j n = deed-same (deed_in r j) (deed_in l j)
    (ap (λ (x : List ℕ). get_or x j 0) a ∙ get_or-set_other l.acts i j d.act 0 n)
    (ap (λ (x : List ℕ). get_or x j 0) b ∙ get_or-set_other l.aims i j d.aim 0 n)
    (put_other d.busy i (members l.busy) (members r.busy) c j n)

-- ---- all parts' deeds

-- those below i are right
abbrev pub Done : Bindings → (ℕ → ClosureHead) → ℕ → PartNotes → Type 0
Done σ w i l = (j : ℕ) → j < i → Does σ w (w j) (deed_in l j)

pub done_next : (σ : Bindings) (w : ℕ → ClosureHead) (i : ℕ) (l r : PartNotes) (d : Deed) → Done σ w i l → Does σ w (w i) d → deed_in r i ≡ d
    → ((j : ℕ) → (j ≡ i → ⊥) → deed_in r j ≡ deed_in l j) → Done σ w (i + 1) r
done_next σ w i l r d D e here others j m = by_test (eqb j i)
    (λ t. rw (eqb-true j i t) (subst (Does σ w (w i)) (sym here) e))
    (λ t. subst (Does σ w (w j)) (sym (others j (eqb-false j i t))) (D j (omega (arith, eqb-false j i t))))

-- ---- one item more of an action is spent: names and outputs are as they were

module _ (script : List ℕ) (kind start offset offset' : ℕ) where
  by-head : (P : ClosureHead → ClosureHead → Type 0) → ((m : Message) → P (ambient m) (ambient m)) → ((a b : Action) → P (action a) (action b)) → ((v : ℕ) → P (receipt v) (receipt v))
      → ((m : Message) → P (output m) (output m)) → P (head_of script kind start offset) (head_of script kind start offset')
  unfolding head_of
  by-head P a b r o = by_test (eqb kind 1) (λ t. rw t (a _)) (λ t. by_test (eqb kind 2) (λ u. rw (t, u) (b _ _)) (λ u. by_test (eqb kind 3) (λ v. rw (t, u, v) (r _)) (λ v. rw (t, u, v) (o _))))

  pub output-stays : is_output (head_of script kind start offset) ≡ is_output (head_of script kind start offset')
  unfolding is_output
  output-stays = by-head (λ g h. is_output g ≡ is_output h) (λ m. refl) (λ a b. refl) (λ v. refl) (λ m. refl)

  pub name-stays : (σ : Bindings) → head_name (view_under σ) (head_of script kind start offset) ≡ head_name (view_under σ) (head_of script kind start offset')
  unfolding head_name
  name-stays σ = by-head (λ g h. head_name (view_under σ) g ≡ head_name (view_under σ) h) (λ m. refl) (λ a b. refl) (λ v. refl) (λ m. refl)

aim-alike : (σ : Bindings) (h g g' : ClosureHead) → is_output g ≡ is_output g' → head_name (view_under σ) g ≡ head_name (view_under σ) g' → aim_under σ h g ≡ aim_under σ h g'
unfolding aim_under
aim-alike σ (ambient m) g g' o n = refl
aim-alike σ (action a) g g' o n = ap (same_name (item_name (first_of (view_under σ) (action a)))) n
aim-alike σ (receipt v) g g' o n = o
aim-alike σ (output m) g g' o n = refl

-- what a part does, to parts of which names and outputs are as they were
does-alike : (σ : Bindings) (w w' : ℕ → ClosureHead) (h : ClosureHead) (d : Deed) → ((j : ℕ) → is_output (w j) ≡ is_output (w' j)) → ((j : ℕ) → head_name (view_under σ) (w j) ≡ head_name (view_under σ) (w' j))
    → Does σ w h d → Does σ w' h d
does-alike σ w w' h d o n D = record { acts = D.acts; aims = λ j m. D.aims j m ∙ aim-alike σ h (w j) (w' j) (o j) (n j); settles = D.settles }

module _ (script kinds starts offsets : List ℕ) (σ : Bindings) (a : ℕ) (l r : PartNotes) (d : Deed) (item : First) (within : a < length offsets) (action-kind : get_or kinds a 0 ≡ 2) where
  abbrev next : List ℕ
  next = set offsets a (get_or offsets a 0 + 1)

  abbrev w : ℕ → ClosureHead
  w = heads script kinds starts offsets

  abbrev w' : ℕ → ClosureHead
  w' = heads script kinds starts next

  names-stay : (j : ℕ) → head_name (view_under σ) (w j) ≡ head_name (view_under σ) (w' j)
  names-stay j = name-stays script (get_or kinds j 0) (get_or starts j 0) (get_or offsets j 0) (get_or next j 0) σ

  outputs-stay : (j : ℕ) → is_output (w j) ≡ is_output (w' j)
  outputs-stay j = output-stays script (get_or kinds j 0) (get_or starts j 0) (get_or offsets j 0) (get_or next j 0)

  pub seen-spent : Seen σ w l → item ≡ first_of (view_under σ) (head_of script (get_or kinds a 0) (get_or starts a 0) (get_or offsets a 0 + 1))
      → ((o : Bool) → (d.act ≡ act_of 2 item) × ((i : ℕ) → i < 64 → elem i (members d.aim) ≡ aim_of 2 item o (name_in l.named l.names i)) × (d.busy ≡ busy_of 2 item))
      → deed_in r a ≡ d → ((j : ℕ) → (j ≡ a → ⊥) → deed_in r j ≡ deed_in l j) → r.named ≡ l.named → r.names ≡ l.names → Seen σ w' r
  seen-spent S first deed here others en es = record {
    names = λ i m. (λ q. name_in (en q) (es q) i) ∙ S.names i m ∙ names-stay i;
    deeds =
        λ i m. by_test (eqb i a)
        (λ t.
        let e : head_of script (get_or kinds a 0) (get_or starts a 0) (get_or offsets a 0 + 1) ≡ w' a = ap (head_of script (get_or kinds a 0) (get_or starts a 0)) (sym (get_or-set_same offsets a (get_or offsets a 0 + 1) 0 within)) in
        rw (eqb-true i a t)
        (subst (Does σ w' (w' a)) (sym here)
        (subst (λ (h : ClosureHead). Does σ w' h d) e
        (does-is script (get_or kinds a 0) (get_or starts a 0) (get_or offsets a 0 + 1) σ w' item d (λ j. is_output (w' j)) (name_in l.named l.names) first
        (subst (λ (k : ℕ). (d.act ≡ act_of k item) × ((i : ℕ) → i < 64 → elem i (members d.aim) ≡ aim_of k item (is_output (w' i)) (name_in l.named l.names i)) × (d.busy ≡ busy_of k item))
        (sym action-kind) ((deed false).0, λ j n. (deed (is_output (w' j))).1 j n, (deed false).2))
        (λ j n. refl) (λ j n. S.names j n ∙ names-stay j)))))
        (λ t.
        let n = eqb-false i a t in
        let e : w i ≡ w' i = ap (head_of script (get_or kinds i 0) (get_or starts i 0)) (sym (get_or-set_other offsets a i (get_or offsets a 0 + 1) 0 n)) in
        subst (Does σ w' (w' i)) (sym (others i n)) (subst (λ (h : ClosureHead). Does σ w' h (deed_in l i)) e (does-alike σ w w' (w i) (deed_in l i) outputs-stay names-stay (S.deeds i m))));
  }

-- where no offset is 2^32 - 1 after one is raised, none was before
pub raised-low : (offsets : List ℕ) (a : ℕ) → a < length offsets → ((i : ℕ) → get_or (set offsets a (get_or offsets a 0 + 1)) i 0 < 4294967295) → get_or offsets a 0 + 1 < 4294967295
raised-low offsets a within low = subst (λ (n : ℕ). n < 4294967295) (get_or-set_same offsets a (get_or offsets a 0 + 1) 0 within) (low a)

pub lower : (offsets : List ℕ) (a i : ℕ) → a < length offsets → ((i : ℕ) → get_or (set offsets a (get_or offsets a 0 + 1)) i 0 < 4294967295) → get_or offsets i 0 < 4294967295
lower offsets a i within low = by_test (eqb i a)
    (λ t. rw (eqb-true i a t) (omega (arith, raised-low offsets a within low)))
    (λ t. subst (λ (n : ℕ). n < 4294967295) (get_or-set_other offsets a i (get_or offsets a 0 + 1) 0 (eqb-false i a t)) (low i))

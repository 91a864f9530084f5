-- What a move that is made says: which parts were found where, which names they had, and the tree that stands after it.
-- Over any view; then what names and first items are in the plain machine. Assumes nothing.
use Prim.Native.Nat.{ℕ}
use mathlib.Core.Bool.{true, false, not, ◌&&◌, false≢true, and-eq-true_iff}
use mathlib.Core.List.{List, [], ◌∷◌}
use mathlib.Core.Path.{◌≡◌, refl, sym, ap, ◌∙◌, subst, subst₂}
use mathlib.Core.Logic.{inl, inr}
use mathlib.Core.Option.{Option, none, some}
use native.Mathlib.Omega.{arith}
use lib.Dec.{eqb}
use borrow.Author.Tests.{eqb-true, not-true}
use Rattle.read_messages.specs.Message.{Message, name, variable, enter, exit, opens, empty_message, path, name_of, asks, first_item}
use Rattle.read_messages.specs.Message.{Named}
use Rattle.std.specs.Prelude.{Some, None}
use Rattle.read_scripts.specs.Tree.{Head, ambient, action, receipt, output, Body, close, part, put, merge_parts, Plain, settle}
use Rattle.theory_machine.specs.Bodies.{find_part, remove_part, alter}
use Rattle.theory_machine.specs.Moves.{View, is_named, is_that, same_name, to_enter, to_exit, to_open, MoveMade, variable_of, message_of, quiet, head_name, first_of, spend, enter_move, exit_move, open_move, receive_move, move_here, inside, anywhere}
use Rattle.theory_machine.specs.PlainMachine.{plain, settled_by, move}
use Rattle.read_messages.specs.declared.First.{First}
use Rattle.read_messages.specs.declared.First.TheVariants.{Nothing, Enter, Exit, Open, Other}
use Rattle.theory_machine.proofs.Options.{some_is, none≢some, bind_inv, check_inv, cond-inv, or_else-inv, onward-inv}

pub is_named-inv : (x : Named) → is_named x ≡ true → (n : ℕ) × (x ≡ Some n)
unfolding is_named
is_named-inv (Some n) e = (n, refl)
is_named-inv None e = absurd (false≢true e)

is_that-inv : (n : ℕ) (y : Named) → is_that n y ≡ true → y ≡ Some n
is_that-inv n (Some m) e = ap Some (eqb-true m n e)
is_that-inv n None e = absurd (false≢true e)

pub same_name-inv : (x y : Named) → same_name x y ≡ true → (n : ℕ) × (x ≡ Some n) × (y ≡ Some n)
unfolding same_name
same_name-inv (Some n) y e = (n, refl, is_that-inv n y e)
same_name-inv None y e = absurd (false≢true e)

pub to_enter-inv : (x : First) (n : ℕ) → to_enter x ≡ Some n → x ≡ Enter (Some n)
unfolding to_enter
to_enter-inv Nothing n e = cc
to_enter-inv (Enter m) n e = ap Enter e
to_enter-inv (Exit m) n e = cc
to_enter-inv (Open m) n e = cc
to_enter-inv Other n e = cc

pub to_exit-inv : (x : First) (n : ℕ) → to_exit x ≡ Some n → x ≡ Exit (Some n)
unfolding to_exit
to_exit-inv Nothing n e = cc
to_exit-inv (Enter m) n e = cc
to_exit-inv (Exit m) n e = ap Exit e
to_exit-inv (Open m) n e = cc
to_exit-inv Other n e = cc

pub to_open-inv : (x : First) (n : ℕ) → to_open x ≡ Some n → x ≡ Open (Some n)
unfolding to_open
to_open-inv Nothing n e = cc
to_open-inv (Enter m) n e = cc
to_open-inv (Exit m) n e = cc
to_open-inv (Open m) n e = ap Open e
to_open-inv Other n e = cc

module _ {A : Type 0} where
  pub variable_of-inv : (h : Head A) (v : ℕ) → variable_of h ≡ some v → h ≡ receipt v
  unfolding variable_of
  variable_of-inv (ambient m) v e = none≢some e
  variable_of-inv (action a) v e = none≢some e
  variable_of-inv (receipt u) v e = ap receipt (some_is e)
  variable_of-inv (output m) v e = none≢some e

  pub message_of-inv : (h : Head A) (m : Message) → message_of h ≡ some m → h ≡ output m
  unfolding message_of
  message_of-inv (ambient k) m e = none≢some e
  message_of-inv (action a) m e = none≢some e
  message_of-inv (receipt v) m e = none≢some e
  message_of-inv (output k) m e = ap output (some_is e)

  -- a part found, by what its head is
  pub found : {x : Option (Head A × Body (Head A))} {p : Head A × Body (Head A)} {h : Head A} → x ≡ some p → p.0 ≡ h → x ≡ some (h, p.1)
  found {p = p} e f = e ∙ ap (λ g. some (g, p.1)) f

module _ {A : Type 0} (view : View A) where
  pub head_name-inv : (h : Head A) (n : ℕ) → head_name view h ≡ Some n → (m : Message) × (h ≡ ambient m) × (view.named m ≡ Some n)
  unfolding head_name
  head_name-inv (ambient m) n e = (m, refl, e)
  head_name-inv (action a) n e = (empty_message, cc, cc)
  head_name-inv (receipt v) n e = (empty_message, cc, cc)
  head_name-inv (output m) n e = (m, cc, cc)

  -- OPEN: the actor and the target, both in b
  pub record Opened (a t : ℕ) (b c : Body (Head A)) : Type 0 where
    pub sought : ℕ
    pub doer : Head A
    pub goal : Head A
    pub after : Body (Head A)
    pub room : Body (Head A)
    pub actor : find_part a b ≡ some (doer, after)
    pub target : find_part t b ≡ some (goal, room)
    pub asked : first_of view doer ≡ Open (Some sought)
    pub named : head_name view goal ≡ Some sought
    pub result : c ≡ spend view a (merge_parts room (remove_part t b))

  -- a receipt is made: the actor and the target, both in b
  pub record Received (a t : ℕ) (b c : Body (Head A)) (news : List (ℕ × Message)) : Type 0 where
    pub bound : ℕ
    pub sent : Message
    pub after : Body (Head A)
    pub idle : Body (Head A)
    pub actor : find_part a b ≡ some (receipt bound, after)
    pub target : find_part t b ≡ some (output sent, idle)
    pub told : news ≡ (bound, sent) ∷ []
    pub result : c ≡ merge_parts (view.delivered bound sent after) (remove_part t (remove_part a b))

  -- IN and EXIT, by what the actor asks for: the target in b, the ambient that moves in the body that `home` says of the target's,
  -- and in it the actor
  pub record Carried (a t : ℕ) (b c : Body (Head A)) (verb : Named → First) (home : Body (Head A) → Body (Head A)) (Apart : ℕ → Type 0) (made : ℕ → Head A → Body (Head A) → Body (Head A)) : Type 0 where
    pub sought : ℕ
    pub own : ℕ
    pub mover : ℕ
    pub shell : Head A
    pub inside : Body (Head A)
    pub doer : Head A
    pub after : Body (Head A)
    pub goal : Head A
    pub room : Body (Head A)
    pub target : find_part t b ≡ some (goal, room)
    pub around : find_part mover (home room) ≡ some (shell, inside)
    pub actor : find_part a inside ≡ some (doer, after)
    pub another : Apart mover
    pub shell-named : head_name view shell ≡ Some own
    pub asked : first_of view doer ≡ verb (Some sought)
    pub named : head_name view goal ≡ Some sought
    pub result : c ≡ made mover shell inside

  -- IN: the ambient that moves stands in b too, and is not the target
  abbrev pub Entered : (a t : ℕ) (b c : Body (Head A)) → Type 0
  Entered a t b c = Carried a t b c Enter (λ room. b) (λ mover. eqb mover t ≡ false) (λ mover shell inside. alter t (λ e. e) (put mover shell (spend view a inside)) (remove_part mover b))

  -- EXIT: the ambient that moves stands in the target
  abbrev pub Exited : (a t : ℕ) (b c : Body (Head A)) → Type 0
  Exited a t b c = Carried a t b c Exit (λ room. room) (λ mover. Unit {0}) (λ mover shell inside. put mover shell (spend view a inside) (alter t (λ e. e) (remove_part mover) b))

  -- a move made whose target stands in b
  pub data Here (a t : ℕ) (b c : Body (Head A)) (news : List (ℕ × Message)) : Type 0 where
    by-open : Opened a t b c → news ≡ [] → Here a t b c news
    by-receive : Received a t b c news → Here a t b c news
    by-enter : Entered a t b c → news ≡ [] → Here a t b c news
    by-exit : Exited a t b c → news ≡ [] → Here a t b c news

  -- what a quiet move says of its body and its news
  is-quiet : {b : Body (Head A)} {m : MoveMade A} → some (quiet b) ≡ some m → (m.body ≡ b) × (m.news ≡ [])
  is-quiet e = let f = some_is e in (ap (λ (l : MoveMade A). l.body) (sym f), ap (λ (l : MoveMade A). l.news) (sym f))

  pub open-inv : (a t : ℕ) (b : Body (Head A)) (m : MoveMade A) → open_move view a t b ≡ some m → Here a t b m.body m.news
  unfolding open_move
  open-inv a t b m e =
      let x = bind_inv _ _ m e in
      let y = bind_inv _ _ m x.2 in
      let z = bind_inv _ _ m y.2 in
      let s = same_name-inv (to_open (first_of view y.0.0)) (head_name view x.0.0) (check_inv _ z.0 z.1) in
      let q = is-quiet z.2 in
      by-open (record {
        sought = s.0;
        doer = y.0.0;
        goal = x.0.0;
        after = y.0.1;
        room = x.0.1;
        actor = y.1;
        target = x.1;
        asked = to_open-inv (first_of view y.0.0) s.0 s.1;
        named = s.2;
        result = q.0;
      }) q.1

  pub receive-inv : (a t : ℕ) (b : Body (Head A)) (m : MoveMade A) → receive_move view a t b ≡ some m → Here a t b m.body m.news
  unfolding receive_move
  receive-inv a t b m e =
      let x = bind_inv _ _ m e in
      let y = bind_inv _ _ m x.2 in
      let z = bind_inv _ _ m y.2 in
      let w = bind_inv _ _ m z.2 in
      let f = some_is w.2 in
      by-receive (record {
        bound = z.0;
        sent = w.0;
        after = y.0.1;
        idle = x.0.1;
        actor = found y.1 (variable_of-inv y.0.0 z.0 z.1);
        target = found x.1 (message_of-inv x.0.0 w.0 w.1);
        told = ap (λ (l : MoveMade A). l.news) (sym f);
        result = ap (λ (l : MoveMade A). l.body) (sym f);
      })

  module _ (verb : Named → First) (to : First → Named) (to_inv : (x : First) (n : ℕ) → to x ≡ Some n → x ≡ verb (Some n)) where
    carried : {a t : ℕ} {b c : Body (Head A)} {home : Body (Head A) → Body (Head A)} {Apart : ℕ → Type 0} {made : ℕ → Head A → Body (Head A) → Body (Head A)} (mover : ℕ) (x y z : Head A × Body (Head A))
        → find_part t b ≡ some x → find_part mover (home x.1) ≡ some y → find_part a y.1 ≡ some z → Apart mover → (is_named (head_name view y.0) && same_name (to (first_of view z.0)) (head_name view x.0)) ≡ true
        → c ≡ made mover y.0 y.1 → Carried a t b c verb home Apart made
    carried mover x y z target around actor another e result =
        let d = (and-eq-true_iff (is_named (head_name view y.0)) _).0 e in
        let n = is_named-inv (head_name view y.0) d.0 in
        let s = same_name-inv (to (first_of view z.0)) (head_name view x.0) d.1 in
        record {
          sought = s.0;
          own = n.0;
          mover = mover;
          shell = y.0;
          inside = y.1;
          doer = z.0;
          after = z.1;
          goal = x.0;
          room = x.1;
          target = target;
          around = around;
          actor = actor;
          another = another;
          shell-named = n.1;
          asked = to_inv (first_of view z.0) s.0 s.1;
          named = s.2;
          result = result;
        }

  pub enter-inv : (a t : ℕ) (b : Body (Head A)) (m : MoveMade A) → enter_move view a t b ≡ some m → Here a t b m.body m.news
  unfolding enter_move
  enter-inv a t b m e =
      let x = bind_inv _ _ m e in
      let p = bind_inv _ _ m x.2 in
      let y = bind_inv _ _ m p.2 in
      let z = bind_inv _ _ m y.2 in
      let w = bind_inv _ _ m z.2 in
      let c = (and-eq-true_iff (not (eqb p.0 t)) _).0 (check_inv _ w.0 w.1) in
      let q = is-quiet w.2 in
      by-enter (carried Enter to_enter to_enter-inv p.0 x.0 y.0 z.0 x.1 y.1 z.1 (not-true (eqb p.0 t) c.0) c.1 q.0) q.1

  pub exit-inv : (a t : ℕ) (b : Body (Head A)) (m : MoveMade A) → exit_move view a t b ≡ some m → Here a t b m.body m.news
  unfolding exit_move
  exit-inv a t b m e =
      let x = bind_inv _ _ m e in
      let p = bind_inv _ _ m x.2 in
      let y = bind_inv _ _ m p.2 in
      let z = bind_inv _ _ m y.2 in
      let w = bind_inv _ _ m z.2 in
      let q = is-quiet w.2 in
      by-exit (carried Exit to_exit to_exit-inv p.0 x.0 y.0 z.0 x.1 y.1 z.1 tt (check_inv _ w.0 w.1) q.0) q.1

  pub here-inv : (a t : ℕ) (b : Body (Head A)) (m : MoveMade A) → move_here view a t b ≡ some m → Here a t b m.body m.news
  unfolding move_here
  here-inv a t b m e = elim (or_else-inv _ _ m e) [
    | inl x ↦ open-inv a t b m x
    | inr y ↦ elim (or_else-inv _ _ m y) [
      | inl x ↦ receive-inv a t b m x
      | inr z ↦ elim (or_else-inv _ _ m z) [ inl x ↦ enter-inv a t b m x | inr x ↦ exit-inv a t b m x ]
    ]
  ]

  -- a rewriting g made in this body, or inside its named ambients at any depth
  pub data Makes (g : Body (Head A) → Option (MoveMade A)) : Body (Head A) → Body (Head A) → List (ℕ × Message) → Type 0 where
    now : {b : Body (Head A)} (m : MoveMade A) → g b ≡ some m → Makes g b m.body m.news
    inner : {k n : ℕ} {h : Head A} {b c r : Body (Head A)} {news : List (ℕ × Message)} → head_name view h ≡ Some n → Makes g b c news →
        Makes g (part k h b r) (part k h c r) news
    outer : {k : ℕ} {h : Head A} {b c r : Body (Head A)} {news : List (ℕ × Message)} → Makes g r c news → Makes g (part k h b r) (part k h b c) news

  module _ (g : Body (Head A) → Option (MoveMade A)) where
    pub inside-inv : (b : Body (Head A)) (m : MoveMade A) → inside view g b ≡ some m → Makes g b m.body m.news
    unfolding inside
    inside-inv close m e = none≢some e
    inside-inv (part i h b r) m e = elim (or_else-inv _ _ m e) [
      | inl x ↦
          let y = onward-inv _ _ m x in
          let z = cond-inv (is_named (head_name view h)) _ y.0 y.1 in
          let n = is_named-inv (head_name view h) z.0 in
          subst₂ (λ (c : Body (Head A)) (k : List (ℕ × Message)). Makes g (part i h b r) c k) (sym y.2) (sym y.3)
          (inner n.1 (elim (or_else-inv _ _ y.0 z.1) [ inl u ↦ now y.0 u | inr u ↦ inside-inv b y.0 u ]))
      | inr x ↦
          let y = onward-inv _ _ m x in
          subst₂ (λ (c : Body (Head A)) (k : List (ℕ × Message)). Makes g (part i h b r) c k) (sym y.2) (sym y.3) (outer (inside-inv r y.0 y.1))
    ]

    pub anywhere-inv : (b : Body (Head A)) (m : MoveMade A) → anywhere view g b ≡ some m → Makes g b m.body m.news
    anywhere-inv b m e = elim (or_else-inv _ _ m e) [ inl u ↦ now m u | inr u ↦ inside-inv b m u ]

-- In the plain machine: i is c of the name that x says, if it says one.
abbrev Is : (c : Message → Message) → Named → Message → Type 0
Is c (Some n) i = i ≡ c (name n)
Is c None i = Unit {0}

is_name : (c : Message → Message) (m : Message) → Is c (name_of m) (c m)
unfolding name_of
is_name c (name n) = refl
is_name c (variable v) = tt
is_name c (enter m) = tt
is_name c (exit m) = tt
is_name c (opens m) = tt
is_name c empty_message = tt
is_name c (path m k) = tt

pub name_of-inv : (m : Message) (n : ℕ) → name_of m ≡ Some n → m ≡ name n
name_of-inv m n e = subst (λ (x : Named). Is (λ k. k) x m) e (is_name (λ k. k) m)

pub plain-name : (h : Head (List Message)) (n : ℕ) → head_name plain h ≡ Some n → h ≡ ambient (name n)
plain-name h n e = let x = head_name-inv plain h n e in x.1 ∙ ap ambient (name_of-inv x.0 n x.2)

-- i is an item that asks what x says
abbrev Asks : First → Message → Type 0
Asks Nothing i = Unit {0}
Asks (Enter x) i = Is enter x i
Asks (Exit x) i = Is exit x i
Asks (Open x) i = Is opens x i
Asks Other i = Unit {0}

asks-so : (i : Message) → Asks (asks i) i
unfolding asks
asks-so (name n) = tt
asks-so (variable v) = tt
asks-so (enter m) = is_name enter m
asks-so (exit m) = is_name exit m
asks-so (opens m) = is_name opens m
asks-so empty_message = tt
asks-so (path m k) = tt

-- the item that is first, where there is one
abbrev Begins : First → Head (List Message) → Type 0
Begins x h = (i : Message) × (is : List Message) × (h ≡ action (i ∷ is)) × Asks x i

begins : (h : Head (List Message)) (x : First) → first_of plain h ≡ x → ¬ (Nothing ≡ x) → Begins x h
unfolding first_of first_item
begins (ambient m) x e f = absurd (f e)
begins (action []) x e f = absurd (f e)
begins (action (i ∷ is)) x e f = (i, is, refl, subst (λ (y : First). Asks y i) e (asks-so i))
begins (receipt v) x e f = absurd (f e)
begins (output m) x e f = absurd (f e)

-- an action whose first item is c of the name n
abbrev pub First-is : (c : Message → Message) (n : ℕ) → Head (List Message) → Type 0
First-is c n h = (is : List Message) × (h ≡ action (c (name n) ∷ is))

first-is : (c : Message → Message) (n : ℕ) (h : Head (List Message)) (i : Message) (is : List Message) → h ≡ action (i ∷ is) → i ≡ c (name n) → First-is c n h
first-is c n h i is e f = (is, e ∙ ap (λ (j : Message). action (j ∷ is)) f)

pub plain-enter : (h : Head (List Message)) (n : ℕ) → first_of plain h ≡ Enter (Some n) → First-is enter n h
plain-enter h n e = let (i, is, q, w) = begins h _ e (λ z. let w : ◌≡◌ {A = ℕ} 0 1 = cc in omega arith) in first-is enter n h i is q w

pub plain-exit : (h : Head (List Message)) (n : ℕ) → first_of plain h ≡ Exit (Some n) → First-is exit n h
plain-exit h n e = let (i, is, q, w) = begins h _ e (λ z. let w : ◌≡◌ {A = ℕ} 0 1 = cc in omega arith) in first-is exit n h i is q w

pub plain-open : (h : Head (List Message)) (n : ℕ) → first_of plain h ≡ Open (Some n) → First-is opens n h
plain-open h n e = let (i, is, q, w) = begins h _ e (λ z. let w : ◌≡◌ {A = ℕ} 0 1 = cc in omega arith) in first-is opens n h i is q w

settled-inv : (x : Option (MoveMade (List Message))) (m : MoveMade (List Message)) → settled_by x ≡ some m → (l : MoveMade (List Message)) × (x ≡ some l) × ((m.body ≡ settle l.body) × (m.news ≡ l.news))
unfolding settled_by
settled-inv none m e = none≢some e
settled-inv (some l) m e =
    let f = some_is e in
    (l, refl, (ap (λ (k : MoveMade (List Message)). k.body) (sym f), ap (λ (k : MoveMade (List Message)). k.news) (sym f)))

-- a move of the plain machine that is made: what stands before the tree is settled
pub move-inv : (a t : ℕ) (b : Plain) (m : MoveMade (List Message)) → move a t b ≡ some m → (c : Plain) × Makes plain (move_here plain a t) b c m.news × (m.body ≡ settle c)
unfolding move
move-inv a t b m e =
    let x = settled-inv (anywhere plain (move_here plain a t) b) m e in
    (x.0.body, subst (Makes plain (move_here plain a t) b x.0.body) (sym x.2.1) (anywhere-inv plain (move_here plain a t) b x.0 x.1), x.2.0)

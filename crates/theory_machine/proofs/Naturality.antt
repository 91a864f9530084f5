-- Moves commute with a change of heads: where one view reads the changed messages and actions as another reads the old
-- ones, names being changed by a map that keeps different names different, the same moves can be made, and lead to the
-- changed trees. Renaming names and unfolding closures are two such changes. Assumes nothing.
use Prim.Native.Nat.{ℕ}
use mathlib.Core.Bool.{Bool, not, ◌&&◌}
use mathlib.Core.List.{[], ◌∷◌, map}
use mathlib.Core.Path.{◌≡◌, refl, ap, ap₂, ◌∙◌}
use mathlib.Core.Option
use mathlib.Core.Option.{Option, some, or_else}
use lib.Dec.{eqb, ltb}
use Rattle.read_messages.specs.Message.{Message}
use Rattle.read_messages.specs.Message.{Named}
use Rattle.std.specs.Prelude.{Some, None}
use Rattle.read_scripts.specs.Tree.{Head, ambient, action, receipt, output, is_ambient, Body, close, part, put, merge_parts, map_heads, settle_by}
use Rattle.theory_machine.specs.Bodies.{check, find_part, remove_part, alter, holder}
use Rattle.theory_machine.specs.Moves.{View, is_named, same_name, to_enter, to_exit, to_open, MoveMade, variable_of, message_of, quiet, onward, head_name, first_of, spent_head, spend, enter_move, exit_move, open_move, receive_move, move_here, inside, anywhere}
use Rattle.read_messages.specs.declared.First.{First}
use Rattle.read_messages.specs.declared.First.TheVariants.{Nothing, Enter, Exit, Open, Other}
use Rattle.base_slices.proofs.Tests.{by_test}
use Rattle.read_scripts.proofs.Tabled.{tops-map}
use Rattle.theory_machine.proofs.Options.{bind-map, bind-same, or_else-map, cond-inv, cond_map, onward-map}
use Rattle.theory_machine.proofs.Inversion.{is_named-inv, variable_of-inv, message_of-inv, found, Makes, inside-inv, anywhere-inv}

-- Finding parts and rewriting, with other heads.
module _ {G H : Type 0} (F : G → H) where
  abbrev pub map_part : G × Body G → H × Body H
  map_part p = (F p.0, map_heads F p.1)

  pub find-map : (n : ℕ) (b : Body G) → find_part n (map_heads F b) ≡ Option.map map_part (find_part n b)
  unfolding find_part map_heads
  find-map n close = refl
  find-map n (part i h b r) = by_test (eqb n i) (λ t. rw t) (λ t. rw t (find-map n r))

  pub remove_part-map : (n : ℕ) (b : Body G) → remove_part n (map_heads F b) ≡ map_heads F (remove_part n b)
  unfolding remove_part map_heads
  remove_part-map n close = refl
  remove_part-map n (part i h b r) = by_test (eqb n i) (λ t. rw t (remove_part-map n r)) (λ t. rw t (ap (part i (F h) (map_heads F b)) (remove_part-map n r)))

  pub put_map : (n : ℕ) (g : G) (s b : Body G) → put n (F g) (map_heads F s) (map_heads F b) ≡ map_heads F (put n g s b)
  unfolding put map_heads
  put_map n g s close = refl
  put_map n g s (part i h b r) = by_test (ltb n i) (λ t. rw t)
      (λ t. by_test (eqb n i) (λ u. rw (t, u)) (λ u. rw (t, u) (ap (part i (F h) (map_heads F b)) (put_map n g s r))))

  pub merge-map : (b c : Body G) → merge_parts (map_heads F b) (map_heads F c) ≡ map_heads F (merge_parts b c)
  unfolding merge_parts map_heads
  merge-map close c = refl
  merge-map (part i h b r) c = ap (put i (F h) (map_heads F b)) (merge-map r c) ∙ put_map i h b (merge_parts r c)

  pub alter-map : (n : ℕ) (p : H → H) (q : G → G) (u : Body H → Body H) (v : Body G → Body G) →
      ((h : G) → p (F h) ≡ F (q h)) → ((s : Body G) → u (map_heads F s) ≡ map_heads F (v s)) →
      (b : Body G) → alter n p u (map_heads F b) ≡ map_heads F (alter n q v b)
  unfolding alter map_heads
  alter-map n p q u v e g close = refl
  alter-map n p q u v e g (part i h b r) = by_test (eqb n i)
      (λ t. rw (t, e h, g b))
      (λ t. rw t (ap (part i (F h) (map_heads F b)) (alter-map n p q u v e g r)))

  pub holder-map : (n : ℕ) (b : Body G) → holder n (map_heads F b) ≡ holder n b
  unfolding holder map_heads
  holder-map n close = refl
  holder-map n (part i h b r) = rw (tops-map F b, holder-map n r)

-- heads changed twice, and in two ways that come to the same
pub map_heads-twice : {G H I J : Type 0} (F : H → J) (K : G → H) (L : I → J) (N : G → I) → ((h : G) → F (K h) ≡ L (N h)) →
    (b : Body G) → map_heads F (map_heads K b) ≡ map_heads L (map_heads N b)
unfolding map_heads
map_heads-twice F K L N e close = refl
map_heads-twice F K L N e (part i h b r) = rw (e h, map_heads-twice F K L N e b, map_heads-twice F K L N e r)

pub map_heads-same : {H : Type 0} (F : H → H) → ((h : H) → F h ≡ h) → (b : Body H) → map_heads F b ≡ b
unfolding map_heads
map_heads-same F e close = refl
map_heads-same F e (part i h b r) = rw (e h, map_heads-same F e b, map_heads-same F e r)

-- settling, where the same heads count as actions with no items
pub settle-map : {A B : Type 0} (F : Head A → Head B) (p : Head B → Bool) (q : Head A → Bool) →
    ((h : Head A) → p (F h) ≡ q h) → ((h : Head A) → is_ambient (F h) ≡ is_ambient h) →
    (b : Body (Head A)) → settle_by p (map_heads F b) ≡ map_heads F (settle_by q b)
unfolding settle_by map_heads
settle-map F p q e g close = refl
settle-map F p q e g (part i h b r) = rw (e h, g h, settle-map F p q e g b, settle-map F p q e g r) (by_test (q h)
    (λ t. rw t (merge-map F (settle_by q b) (settle_by q r)))
    (λ t. by_test (is_ambient h) (λ u. rw (t, u) (put_map F i h (settle_by q b) (settle_by q r))) (λ u. rw (t, u) (put_map F i h b (settle_by q r)))))

-- names changed by ρ
abbrev pub renamed : (ℕ → ℕ) → Named → Named
renamed ρ (Some n) = Some (ρ n)
renamed ρ None = None

abbrev pub asked : (ℕ → ℕ) → First → First
asked ρ Nothing = Nothing
asked ρ (Enter x) = Enter (renamed ρ x)
asked ρ (Exit x) = Exit (renamed ρ x)
asked ρ (Open x) = Open (renamed ρ x)
asked ρ Other = Other

is_named-map : (ρ : ℕ → ℕ) (x : Named) → is_named (renamed ρ x) ≡ is_named x
unfolding is_named
is_named-map ρ (Some n) = refl
is_named-map ρ None = refl

to_enter-map : (ρ : ℕ → ℕ) (x : First) → to_enter (asked ρ x) ≡ renamed ρ (to_enter x)
unfolding to_enter
to_enter-map ρ Nothing = refl
to_enter-map ρ (Enter x) = refl
to_enter-map ρ (Exit x) = refl
to_enter-map ρ (Open x) = refl
to_enter-map ρ Other = refl

to_exit-map : (ρ : ℕ → ℕ) (x : First) → to_exit (asked ρ x) ≡ renamed ρ (to_exit x)
unfolding to_exit
to_exit-map ρ Nothing = refl
to_exit-map ρ (Enter x) = refl
to_exit-map ρ (Exit x) = refl
to_exit-map ρ (Open x) = refl
to_exit-map ρ Other = refl

to_open-map : (ρ : ℕ → ℕ) (x : First) → to_open (asked ρ x) ≡ renamed ρ (to_open x)
unfolding to_open
to_open-map ρ Nothing = refl
to_open-map ρ (Enter x) = refl
to_open-map ρ (Exit x) = refl
to_open-map ρ (Open x) = refl
to_open-map ρ Other = refl

-- different names stay different
abbrev pub NamesApart : (ℕ → ℕ) → Type 0
NamesApart ρ = (m n : ℕ) → eqb (ρ m) (ρ n) ≡ eqb m n

same_name-map : (ρ : ℕ → ℕ) → NamesApart ρ → (x y : Named) → same_name (renamed ρ x) (renamed ρ y) ≡ same_name x y
unfolding same_name
same_name-map ρ i (Some n) (Some m) = i m n
same_name-map ρ i (Some n) None = refl
same_name-map ρ i None y = refl

-- the heads with other messages and other actions
module _ {A B : Type 0} (on_action : A → B) (on_message : Message → Message) where
  unfoldable pub map_head : Head A → Head B
  map_head (ambient m) = ambient (on_message m)
  map_head (action a) = action (on_action a)
  map_head (receipt v) = receipt v
  map_head (output m) = output (on_message m)

  pub is_ambient-map : (h : Head A) → is_ambient (map_head h) ≡ is_ambient h
  unfolding is_ambient map_head
  is_ambient-map (ambient m) = refl
  is_ambient-map (action a) = refl
  is_ambient-map (receipt v) = refl
  is_ambient-map (output m) = refl

  variable_of-map : (h : Head A) → variable_of (map_head h) ≡ variable_of h
  unfolding variable_of map_head
  variable_of-map (ambient m) = refl
  variable_of-map (action a) = refl
  variable_of-map (receipt v) = refl
  variable_of-map (output m) = refl

  message_of-map : (h : Head A) → message_of (map_head h) ≡ Option.map on_message (message_of h)
  unfolding message_of map_head
  message_of-map (ambient m) = refl
  message_of-map (action a) = refl
  message_of-map (receipt v) = refl
  message_of-map (output m) = refl

-- The new view reads the changed messages and actions as the old one reads those before, but for the names, which ρ changes.
pub record Translates {A B : Type 0} (old : View A) (new : View B) (on_action : A → B) (on_message : Message → Message) (ρ : ℕ → ℕ) : Type 0 where
  pub injective : NamesApart ρ
  pub named : (m : Message) → new.named (on_message m) ≡ renamed ρ (old.named m)
  pub first : (a : A) → new.first (on_action a) ≡ asked ρ (old.first a)
  pub spent : (a : A) → new.spent (on_action a) ≡ on_action (old.spent a)

pub renamed-same : (x : Named) → x ≡ renamed (λ n. n) x
renamed-same (Some n) = refl
renamed-same None = refl

pub asked-same : (x : First) → x ≡ asked (λ n. n) x
asked-same Nothing = refl
asked-same (Enter x) = ap Enter (renamed-same x)
asked-same (Exit x) = ap Exit (renamed-same x)
asked-same (Open x) = ap Open (renamed-same x)
asked-same Other = refl

module _ {A B : Type 0} (old : View A) (new : View B) (on_action : A → B) (on_message : Message → Message) (ρ : ℕ → ℕ) (T : Translates old new on_action on_message ρ) where
  abbrev on_head : Head A → Head B
  on_head = map_head on_action on_message

  pub head_name-map : (h : Head A) → head_name new (on_head h) ≡ renamed ρ (head_name old h)
  unfolding head_name map_head
  head_name-map (ambient m) = T.named m
  head_name-map (action a) = refl
  head_name-map (receipt v) = refl
  head_name-map (output m) = refl

  pub named-map : (h : Head A) → is_named (head_name new (on_head h)) ≡ is_named (head_name old h)
  named-map h = rw (head_name-map h) (is_named-map ρ (head_name old h))

  first_of-map : (h : Head A) → first_of new (on_head h) ≡ asked ρ (first_of old h)
  unfolding first_of map_head
  first_of-map (ambient m) = refl
  first_of-map (action a) = T.first a
  first_of-map (receipt v) = refl
  first_of-map (output m) = refl

  spent_head-map : (h : Head A) → spent_head new (on_head h) ≡ on_head (spent_head old h)
  unfolding spent_head map_head
  spent_head-map (ambient m) = refl
  spent_head-map (action a) = ap action (T.spent a)
  spent_head-map (receipt v) = refl
  spent_head-map (output m) = refl

  spend-map : (n : ℕ) (b : Body (Head A)) → spend new n (map_heads on_head b) ≡ map_heads on_head (spend old n b)
  spend-map n b = alter-map on_head n (spent_head new) (spent_head old) (λ s. s) (λ s. s) spent_head-map (λ s. refl) b

  -- what an action asks for is the name of the target, or is not
  asked-map : (k : First → Named) → ((x : First) → k (asked ρ x) ≡ renamed ρ (k x)) → (f g : Head A) →
      same_name (k (first_of new (on_head f))) (head_name new (on_head g)) ≡ same_name (k (first_of old f)) (head_name old g)
  asked-map k e f g = rw (first_of-map f, head_name-map g, e (first_of old f)) (same_name-map ρ T.injective (k (first_of old f)) (head_name old g))

  -- K says what becomes of a move's result; a quiet one has the changed tree.
  module _ (K : MoveMade A → MoveMade B) (quietly : (b : Body (Head A)) → quiet (map_heads on_head b) ≡ K (quiet b)) where
    pub open-map : (a t : ℕ) (b : Body (Head A)) → open_move new a t (map_heads on_head b) ≡ Option.map K (open_move old a t b)
    unfolding open_move
    open-map a t b =
        bind-map (map_part on_head) K _ _ _ _ (find-map on_head t b) (λ g _.
        bind-map (map_part on_head) K _ _ _ _ (find-map on_head a b) (λ f _.
        bind-same K _ _ _ _ (ap check (asked-map to_open (to_open-map ρ) f.0 g.0)) (λ u _.
        ap some (ap quiet (simp (remove_part-map on_head, merge-map on_head, spend-map)) ∙ quietly (spend old a (merge_parts g.1 (remove_part t b)))))))

    pub enter-map : (a t : ℕ) (b : Body (Head A)) → enter_move new a t (map_heads on_head b) ≡ Option.map K (enter_move old a t b)
    unfolding enter_move
    enter-map a t b =
        bind-map (map_part on_head) K _ _ _ _ (find-map on_head t b) (λ g _.
        bind-same K _ _ _ _ (holder-map on_head a b) (λ p _.
        bind-map (map_part on_head) K _ _ _ _ (find-map on_head p b) (λ h _.
        bind-map (map_part on_head) K _ _ _ _ (find-map on_head a h.1) (λ f _.
        bind-same K _ _ _ _ (ap check (ap (λ (x : Bool). not (eqb p t) && x) (ap₂ ◌&&◌ (named-map h.0) (asked-map to_enter (to_enter-map ρ) f.0 g.0)))) (λ u _.
        ap some (ap quiet (ap (alter t (λ e. e) _) (remove_part-map on_head p b)
        ∙ alter-map on_head t (λ e. e) (λ e. e) (put p (on_head h.0) (spend new a (map_heads on_head h.1))) (put p h.0 (spend old a h.1)) (λ e. refl) (λ s. rw (spend-map a h.1) (put_map on_head p h.0 (spend old a h.1) s)) (remove_part p b))
        ∙ quietly (alter t (λ e. e) (put p h.0 (spend old a h.1)) (remove_part p b))))))))

    pub exit-map : (a t : ℕ) (b : Body (Head A)) → exit_move new a t (map_heads on_head b) ≡ Option.map K (exit_move old a t b)
    unfolding exit_move
    exit-map a t b =
        bind-map (map_part on_head) K _ _ _ _ (find-map on_head t b) (λ g _.
        bind-same K _ _ _ _ (holder-map on_head a g.1) (λ p _.
        bind-map (map_part on_head) K _ _ _ _ (find-map on_head p g.1) (λ h _.
        bind-map (map_part on_head) K _ _ _ _ (find-map on_head a h.1) (λ f _.
        bind-same K _ _ _ _ (ap check (ap₂ ◌&&◌ (named-map h.0) (asked-map to_exit (to_exit-map ρ) f.0 g.0))) (λ u _.
        ap some (ap quiet (ap₂ (put p (on_head h.0)) (spend-map a h.1) (alter-map on_head t (λ e. e) (λ e. e) (remove_part p) (remove_part p) (λ e. refl) (remove_part-map on_head p) b)
        ∙ put_map on_head p h.0 (spend old a h.1) (alter t (λ e. e) (remove_part p) b))
        ∙ quietly (put p h.0 (spend old a h.1) (alter t (λ e. e) (remove_part p) b))))))))

    -- a receipt, where what is delivered is the same
    pub receive-map : (a t : ℕ) (b : Body (Head A)) →
        ((v : ℕ) (m : Message) (s c : Body (Head A)) → find_part a b ≡ some (receipt v, s) → find_part t b ≡ some (output m, c) →
        record { body = merge_parts (new.delivered v (on_message m) (map_heads on_head s)) (map_heads on_head (remove_part t (remove_part a b))); news = (v, on_message m) ∷ [] }
        ≡ K (record { body = merge_parts (old.delivered v m s) (remove_part t (remove_part a b)); news = (v, m) ∷ [] })) →
        receive_move new a t (map_heads on_head b) ≡ Option.map K (receive_move old a t b)
    unfolding receive_move
    receive-map a t b d =
        bind-map (map_part on_head) K _ _ _ _ (find-map on_head t b) (λ g eg.
        bind-map (map_part on_head) K _ _ _ _ (find-map on_head a b) (λ h eh.
        bind-same K _ _ _ _ (variable_of-map on_action on_message h.0) (λ v ev.
        bind-map on_message K _ _ _ _ (message_of-map on_action on_message g.0) (λ m em.
        ap some (rw (remove_part-map on_head a b, remove_part-map on_head t (remove_part a b)) (d v m h.1 g.1 (found eh (variable_of-inv h.0 v ev)) (found eg (message_of-inv g.0 m em))))))))

    pub here-map : (a t : ℕ) (b : Body (Head A)) → receive_move new a t (map_heads on_head b) ≡ Option.map K (receive_move old a t b) →
        move_here new a t (map_heads on_head b) ≡ Option.map K (move_here old a t b)
    unfolding move_here
    here-map a t b e = simp (open-map a t b, e, enter-map a t b, exit-map a t b, or_else-map)

-- The search for the spot of a rewriting, where the rewriting g of the old trees and k of the changed ones agree by K on
-- trees that are Good: what stands around a spot that was found changes by F alone.
pub record Searches {A B : Type 0} (old : View A) (new : View B) (F : Head A → Head B) (K : MoveMade A → MoveMade B) (Good : Body (Head A) → Type 0)
    (g : Body (Head A) → Option (MoveMade A)) (k : Body (Head B) → Option (MoveMade B)) : Type 0 where
  pub names : (h : Head A) → is_named (head_name new (F h)) ≡ is_named (head_name old h)
  pub agree : (b : Body (Head A)) → Good b → k (map_heads F b) ≡ Option.map K (g b)
  pub good-inside : (i n : ℕ) (h : Head A) (b r : Body (Head A)) → head_name old h ≡ Some n → Good (part i h b r) → Good b
  pub good-rest : (i : ℕ) (h : Head A) (b r : Body (Head A)) → Good (part i h b r) → Good r
  pub around : (i n : ℕ) (h : Head A) (b r : Body (Head A)) (m : MoveMade A) → head_name old h ≡ Some n → Good (part i h b r) → Makes old g b m.body m.news →
      record { body = part i (F h) (K m).body (map_heads F r); news = (K m).news } ≡ K (record { body = part i h m.body r; news = m.news })
  pub beside : (i : ℕ) (h : Head A) (b r : Body (Head A)) (m : MoveMade A) → Good (part i h b r) → Makes old g r m.body m.news →
      record { body = part i (F h) (map_heads F b) (K m).body; news = (K m).news } ≡ K (record { body = part i h b m.body; news = m.news })

module _ {A B : Type 0} (old : View A) (new : View B) (F : Head A → Head B) (K : MoveMade A → MoveMade B) (Good : Body (Head A) → Type 0)
    (g : Body (Head A) → Option (MoveMade A)) (k : Body (Head B) → Option (MoveMade B)) (S : Searches old new F K Good g k) where
  pub inside-map : (b : Body (Head A)) → Good b → inside new k (map_heads F b) ≡ Option.map K (inside old g b)
  unfolding inside map_heads
  inside-map close G = refl
  inside-map (part i h b r) G =
      ap₂ or_else
      (rw (S.names h) (ap (onward (λ c. part i (F h) c (map_heads F r)))
      (cond_map K (is_named (head_name old h)) (anywhere old g b) _ (λ t.
      let G₁ = S.good-inside i _ h b r (is_named-inv (head_name old h) t).1 G in
      ap₂ or_else (S.agree b G₁) (inside-map b G₁) ∙ or_else-map K (g b) (inside old g b)))
      ∙ onward-map K (λ c. part i h c r) (λ c. part i (F h) c (map_heads F r)) _ (λ m e.
      let x = cond-inv (is_named (head_name old h)) (anywhere old g b) m e in
      S.around i _ h b r m (is_named-inv (head_name old h) x.0).1 G (anywhere-inv old g b m x.1))))
      (ap (onward (λ q. part i (F h) (map_heads F b) q)) (inside-map r (S.good-rest i h b r G))
      ∙ onward-map K (λ q. part i h b q) (λ q. part i (F h) (map_heads F b) q) (inside old g r) (λ m e. S.beside i h b r m G (inside-inv old g r m e)))
      ∙ or_else-map K _ _

  pub anywhere-map : (b : Body (Head A)) → Good b → anywhere new k (map_heads F b) ≡ Option.map K (anywhere old g b)
  anywhere-map b G = ap₂ or_else (S.agree b G) (inside-map b G) ∙ or_else-map K (g b) (inside old g b)

-- what a move comes to, with other heads throughout
abbrev pub map_moved : {A B : Type 0} → (Head A → Head B) → (Message → Message) → MoveMade A → MoveMade B
map_moved F on_message m = record { body = map_heads F m.body; news = map (λ p. (p.0, on_message p.1)) m.news }

-- Where delivered messages change alike too, a move of one tree is a move of the other.
pub moved-map : {A B : Type 0} (old : View A) (new : View B) (on_action : A → B) (on_message : Message → Message) (ρ : ℕ → ℕ) → Translates old new on_action on_message ρ →
    ((v : ℕ) (m : Message) (b : Body (Head A)) → new.delivered v (on_message m) (map_heads (map_head on_action on_message) b) ≡ map_heads (map_head on_action on_message) (old.delivered v m b)) →
    (a t : ℕ) (b : Body (Head A)) → anywhere new (move_here new a t) (map_heads (map_head on_action on_message) b) ≡ Option.map (map_moved (map_head on_action on_message) on_message) (anywhere old (move_here old a t) b)
unfolding map_heads
moved-map {A} {B} old new on_action on_message ρ T d a t b =
    anywhere-map old new on_head K (λ c. Unit {0}) (move_here old a t) (move_here new a t) (record {
      names = named-map old new on_action on_message ρ T;
      agree = λ c _. here-map old new on_action on_message ρ T K (λ s. refl) a t c
          (receive-map old new on_action on_message ρ T K (λ s. refl) a t c (λ v m s r _ _. rw (d v m s, merge-map on_head)));
      good-inside = λ i n h c r e _. tt;
      good-rest = λ i h c r _. tt;
      around = λ i n h c r m e _ x. refl;
      beside = λ i h c r m _ x. refl;
    }) b tt
  where
    on_head : Head A → Head B
    on_head = map_head on_action on_message

    K : MoveMade A → MoveMade B
    K = map_moved on_head on_message

-- The numbers and the names of a tree, of a rule and of the names chosen: each number has one property and each name
-- another, whatever these are. Moves, divisions, insides and wrapping keep it. Assumes nothing.
use Prim.Native.Nat.{ℕ}
use mathlib.Core.List.{List, [], ◌∷◌, ◌++◌}
use mathlib.Core.Path.{◌≡◌, refl, ap, ap₂, subst}
use mathlib.Core.Option.{some}
use lib.Dec.{eqb}
use Rattle.read_messages.specs.Message.{Message, name, variable, enter, exit, opens, empty_message, path, items, substitute, substitute_items}
use Rattle.read_scripts.specs.Tree.{ambient, action, receipt, output, PlainHead, Plain}
use Rattle.theory_machine.specs.Moves.{MoveMade, spent_head}
use Rattle.theory_machine.specs.PlainMachine.{rest, substitute_head, substitute_body, plain, move}
use Rattle.base_slices.proofs.Tests.{by_test}
use Rattle.theory_machine.proofs.Naturality.{map_head}
use Rattle.theory_machine.proofs.Everywhere.{Everywhere, map-everywhere, still-everywhere, more-everywhere, Keeps, move-everywhere}
use Rattle.read_rule_words.specs.Rule.{Term, constant, chosen, Rule, truth, negation, either, void, at, beside, some-name, sometime, somewhere, placed, Names, chosen_name, term_name}
use Rattle.theory_calculus.specs.Satisfaction.{Divided, nothing, to_left, to_right, Inside, first, later, Alone, wrapped}
use Rattle.theory_decision.proofs.Renaming.{rename_message, rename_items, rename_head, rename_tree, rename_term, rename_rule, rename_names}

-- every name of a message has P
abbrev pub MessageAll : (ℕ → Type 0) → Message → Type 0
MessageAll P (name n) = P n
MessageAll P (variable v) = Unit {0}
MessageAll P (enter m) = MessageAll P m
MessageAll P (exit m) = MessageAll P m
MessageAll P (opens m) = MessageAll P m
MessageAll P empty_message = Unit {0}
MessageAll P (path m k) = MessageAll P m × MessageAll P k

abbrev pub ItemsAll : (ℕ → Type 0) → List Message → Type 0
ItemsAll P [] = Unit {0}
ItemsAll P (m ∷ l) = MessageAll P m × ItemsAll P l

abbrev pub HeadAll : (ℕ → Type 0) → PlainHead → Type 0
HeadAll P (ambient m) = MessageAll P m
HeadAll P (action is) = ItemsAll P is
HeadAll P (receipt v) = Unit {0}
HeadAll P (output m) = MessageAll P m

-- every part's number has K, and every name P
abbrev pub Fit : (K P : ℕ → Type 0) → ℕ → PlainHead → Type 0
Fit K P k h = K k × HeadAll P h

abbrev pub Fits : (K P : ℕ → Type 0) → Plain → Type 0
Fits K P b = Everywhere (Fit K P) b

abbrev pub TermAll : (ℕ → Type 0) → Term → Type 0
TermAll P (constant n) = P n
TermAll P (chosen i) = Unit {0}

-- every place of a PLACED has J, and every name P
abbrev pub RuleAll : (J P : ℕ → Type 0) → Rule → Type 0
RuleAll J P (truth i) = Unit {0}
RuleAll J P (negation i r) = RuleAll J P r
RuleAll J P (either i r q) = RuleAll J P r × RuleAll J P q
RuleAll J P (void i) = Unit {0}
RuleAll J P (at i t r) = TermAll P t × RuleAll J P r
RuleAll J P (beside i r q) = RuleAll J P r × RuleAll J P q
RuleAll J P (some-name i r) = RuleAll J P r
RuleAll J P (sometime i r) = RuleAll J P r
RuleAll J P (somewhere i r) = RuleAll J P r
RuleAll J P (placed i j t r) = J j × TermAll P t × RuleAll J P r

abbrev pub NamesAll : (ℕ → Type 0) → Names → Type 0
NamesAll P [] = Unit {0}
NamesAll P (p ∷ e) = P p.1 × NamesAll P e

-- What the plain machine does keeps them.
module _ (P : ℕ → Type 0) where
  append-all : (l k : List Message) → ItemsAll P l → ItemsAll P k → ItemsAll P (l ++ k)
  append-all [] k x y = y
  append-all (m ∷ l) k x y = (x.0, append-all l k x.1 y)

  pub items-all : (m : Message) → MessageAll P m → ItemsAll P (items m)
  unfolding items
  items-all (name n) x = (x, tt)
  items-all (variable v) x = (x, tt)
  items-all (enter m) x = (x, tt)
  items-all (exit m) x = (x, tt)
  items-all (opens m) x = (x, tt)
  items-all empty_message x = tt
  items-all (path m k) x = append-all (items m) (items k) (items-all m x.0) (items-all k x.1)

  substitute-all : (v : ℕ) (r m : Message) → MessageAll P r → MessageAll P m → MessageAll P (substitute v r m)
  unfolding substitute
  substitute-all v r (name n) y x = x
  substitute-all v r (variable u) y x = by_test (eqb u v) (λ t. rw t y) (λ t. rw t tt)
  substitute-all v r (enter m) y x = substitute-all v r m y x
  substitute-all v r (exit m) y x = substitute-all v r m y x
  substitute-all v r (opens m) y x = substitute-all v r m y x
  substitute-all v r empty_message y x = tt
  substitute-all v r (path m k) y x = (substitute-all v r m y x.0, substitute-all v r k y x.1)

  substitute_items-all : (v : ℕ) (r : Message) (l : List Message) → MessageAll P r → ItemsAll P l → ItemsAll P (substitute_items v r l)
  unfolding substitute_items
  substitute_items-all v r [] y x = tt
  substitute_items-all v r (m ∷ l) y x =
      append-all (items (substitute v r m)) (substitute_items v r l) (items-all (substitute v r m) (substitute-all v r m y x.0)) (substitute_items-all v r l y x.1)

  substitute_head-all : (v : ℕ) (r : Message) (h : PlainHead) → MessageAll P r → HeadAll P h → HeadAll P (substitute_head v r h)
  unfolding substitute_head
  substitute_head-all v r (ambient m) y x = substitute-all v r m y x
  substitute_head-all v r (action l) y x = substitute_items-all v r l y x
  substitute_head-all v r (receipt u) y x = tt
  substitute_head-all v r (output m) y x = substitute-all v r m y x

  rest_all : (l : List Message) → ItemsAll P l → ItemsAll P (rest l)
  unfolding rest
  rest_all [] x = tt
  rest_all (i ∷ is) x = x.1

  spent_all : (h : PlainHead) → HeadAll P h → HeadAll P (spent_head plain h)
  unfolding spent_head
  spent_all (ambient m) x = x
  spent_all (action l) x = rest_all l x
  spent_all (receipt v) x = x
  spent_all (output m) x = x

module _ (K P : ℕ → Type 0) where
  keeps : Keeps plain (Fit K P)
  unfolding substitute_body
  keeps = record {
    spends = λ k h x. (x.0, spent_all P h x.1);
    delivers = λ k v m b x y. map-everywhere (Fit K P) (Fit K P) (substitute_head v m) (λ i h z. (z.0, substitute_head-all P v m h x.1 z.1)) b y;
  }

  -- the move's numbers are numbers of the tree, and the tree is kept
  pub move-fits : (a t : ℕ) (b : Plain) (m : MoveMade (List Message)) → move a t b ≡ some m → Fits K P b → K a × K t × Fits K P m.body
  move-fits a t b m e x =
      let (y, z, u) = move-everywhere (Fit K P) keeps a t b m e x in
      (y.1.0, z.1.0, u)

  -- what a rule looks at
  pub inside-fits : {b c : Plain} → Inside b c → Fits K P b → Fits K P c
  inside-fits (first e) x = x.1
  inside-fits (later i) x = inside-fits i x.2

  pub divided-fits : {b c d : Plain} → Divided b c d → Fits K P b → Fits K P c × Fits K P d
  divided-fits nothing x = (tt, tt)
  divided-fits (to_left d) x = let y = divided-fits d x.2 in ((x.0, x.1, y.0), y.1)
  divided-fits (to_right d) x = let y = divided-fits d x.2 in (y.0, (x.0, x.1, y.1))

  pub alone-fits : {n : ℕ} {b c : Plain} → Alone n b c → Fits K P b → Fits K P c
  alone-fits a x = (subst (Fits K P) a.only x).1

  pub wrapped-fits : (k n : ℕ) (b : Plain) → K k → P n → Fits K P b → Fits K P (wrapped k n b)
  wrapped-fits k n b x y z = ((x, y), z, tt)

-- the name that a term says, where 0 represents none
pub chosen_name-all : (P : ℕ → Type 0) → P 0 → (e : Names) (i : ℕ) → NamesAll P e → P (chosen_name e i)
unfolding chosen_name
chosen_name-all P z [] i x = z
chosen_name-all P z (p ∷ e) i x = by_test (eqb p.0 i) (λ t. rw t x.0) (λ t. rw t (chosen_name-all P z e i x.1))

pub term-all : (P : ℕ → Type 0) → P 0 → (e : Names) (t : Term) → NamesAll P e → TermAll P t → P (term_name e t)
unfolding term_name
term-all P z e (constant n) x y = y
term-all P z e (chosen i) x y = chosen_name-all P z e i x

-- weaker properties
module _ (P Q : ℕ → Type 0) (f : (n : ℕ) → P n → Q n) where
  pub message-more : (m : Message) → MessageAll P m → MessageAll Q m
  message-more (name n) x = f n x
  message-more (variable v) x = tt
  message-more (enter m) x = message-more m x
  message-more (exit m) x = message-more m x
  message-more (opens m) x = message-more m x
  message-more empty_message x = tt
  message-more (path m k) x = (message-more m x.0, message-more k x.1)

  items_more : (l : List Message) → ItemsAll P l → ItemsAll Q l
  items_more [] x = tt
  items_more (m ∷ l) x = (message-more m x.0, items_more l x.1)

  head_more : (h : PlainHead) → HeadAll P h → HeadAll Q h
  head_more (ambient m) x = message-more m x
  head_more (action l) x = items_more l x
  head_more (receipt v) x = tt
  head_more (output m) x = message-more m x

  pub names_more : (e : Names) → NamesAll P e → NamesAll Q e
  names_more [] x = tt
  names_more (p ∷ e) x = (f p.1 x.0, names_more e x.1)

  pub term-more : (t : Term) → TermAll P t → TermAll Q t
  term-more (constant n) x = f n x
  term-more (chosen i) x = tt

pub fits_more : (K L P Q : ℕ → Type 0) → ((k : ℕ) → K k → L k) → ((n : ℕ) → P n → Q n) → (b : Plain) → Fits K P b → Fits L Q b
fits_more K L P Q g f b x = more-everywhere (Fit K P) (Fit L Q) (λ k h y. (g k y.0, head_more P Q f h y.1)) b x

pub rule-more : (J I P Q : ℕ → Type 0) → ((j : ℕ) → J j → I j) → ((n : ℕ) → P n → Q n) → (r : Rule) → RuleAll J P r → RuleAll I Q r
rule-more J I P Q g f (truth i) x = tt
rule-more J I P Q g f (negation i r) x = rule-more J I P Q g f r x
rule-more J I P Q g f (either i r q) x = (rule-more J I P Q g f r x.0, rule-more J I P Q g f q x.1)
rule-more J I P Q g f (void i) x = tt
rule-more J I P Q g f (at i t r) x = (term-more P Q f t x.0, rule-more J I P Q g f r x.1)
rule-more J I P Q g f (beside i r q) x = (rule-more J I P Q g f r x.0, rule-more J I P Q g f q x.1)
rule-more J I P Q g f (some-name i r) x = rule-more J I P Q g f r x
rule-more J I P Q g f (sometime i r) x = rule-more J I P Q g f r x
rule-more J I P Q g f (somewhere i r) x = rule-more J I P Q g f r x
rule-more J I P Q g f (placed i j t r) x = (g j x.0, term-more P Q f t x.1, rule-more J I P Q g f r x.2)

-- A renaming that leaves each name with P alone leaves alone what has only such names.
module _ (P : ℕ → Type 0) (f : ℕ → ℕ) (s : (n : ℕ) → P n → f n ≡ n) where
  message-still : (m : Message) → MessageAll P m → rename_message f m ≡ m
  unfolding rename_message
  message-still (name n) x = ap name (s n x)
  message-still (variable v) x = refl
  message-still (enter m) x = ap enter (message-still m x)
  message-still (exit m) x = ap exit (message-still m x)
  message-still (opens m) x = ap opens (message-still m x)
  message-still empty_message x = refl
  message-still (path m k) x = ap₂ path (message-still m x.0) (message-still k x.1)

  items-still : (l : List Message) → ItemsAll P l → rename_items f l ≡ l
  items-still [] x = refl
  items-still (m ∷ l) x = ap₂ ◌∷◌ (message-still m x.0) (items-still l x.1)

  head-still : (h : PlainHead) → HeadAll P h → rename_head f h ≡ h
  unfolding map_head
  head-still (ambient m) x = ap ambient (message-still m x)
  head-still (action l) x = ap action (items-still l x)
  head-still (receipt v) x = refl
  head-still (output m) x = ap output (message-still m x)

  pub tree-still : (K : ℕ → Type 0) (b : Plain) → Fits K P b → rename_tree f b ≡ b
  tree-still K b x = still-everywhere (Fit K P) (rename_head f) (λ k h y. head-still h y.1) b x

  term-still : (t : Term) → TermAll P t → rename_term f t ≡ t
  unfolding rename_term
  term-still (constant n) x = ap constant (s n x)
  term-still (chosen i) x = refl

  pub rule-still : (J : ℕ → Type 0) (r : Rule) → RuleAll J P r → rename_rule f r ≡ r
  unfolding rename_rule
  rule-still J (truth i) x = refl
  rule-still J (negation i r) x = rw (rule-still J r x)
  rule-still J (either i r q) x = rw (rule-still J r x.0, rule-still J q x.1)
  rule-still J (void i) x = refl
  rule-still J (at i t r) x = rw (term-still t x.0, rule-still J r x.1)
  rule-still J (beside i r q) x = rw (rule-still J r x.0, rule-still J q x.1)
  rule-still J (some-name i r) x = rw (rule-still J r x)
  rule-still J (sometime i r) x = rw (rule-still J r x)
  rule-still J (somewhere i r) x = rw (rule-still J r x)
  rule-still J (placed i j t r) x = rw (term-still t x.1, rule-still J r x.2)

  pub names-still : (e : Names) → NamesAll P e → rename_names f e ≡ e
  unfolding rename_names
  names-still [] x = refl
  names-still (p ∷ e) x = rw (s p.1 x.0, names-still e x.1)

-- Laws of look-ups that may find nothing, and of tests: what follows where one finds something, and that they commute with
-- maps. Assumes nothing.
use mathlib.Core.Bool.{Bool, true, false, cond}
use mathlib.Core.Path.{◌≡◌, refl, sym, ap}
use mathlib.Core.Logic.{◌⊎◌, inl, inr}
use mathlib.Core.Option.{Option, none, some, map, none-ne-some, some-injective, or_else}
use Rattle.theory_machine.specs.Bodies.{◌>>=◌, check}
use Rattle.theory_machine.specs.Moves.{MoveMade, onward}
use Rattle.read_scripts.specs.Tree.{Head, Body}

pub some_is : {A : Type 0} {x y : A} → some x ≡ some y → x ≡ y
some_is {x = x} {y = y} e = some-injective x y e

-- nothing was found, and something
pub none≢some : {A P : Type 0} {x : A} → none ≡ some x → P
none≢some {x = x} e = absurd (none-ne-some x e)

pub bind_inv : {A B : Type 0} (x : Option A) (k : A → Option B) (c : B) → (x >>= k) ≡ some c → (a : A) × (x ≡ some a) × (k a ≡ some c)
unfolding ◌>>=◌
bind_inv none k c e = none≢some e
bind_inv (some a) k c e = (a, refl, e)

pub bind-some : {A B : Type 0} {x : Option A} {a : A} (k : A → Option B) → x ≡ some a → (x >>= k) ≡ k a
unfolding ◌>>=◌
bind-some k e = rw e

pub bind-none : {A B : Type 0} {x : Option A} (k : A → Option B) → x ≡ none → (x >>= k) ≡ none
unfolding ◌>>=◌
bind-none k e = rw e

pub check_inv : (t : Bool) (u : Unit {0}) → check t ≡ some u → t ≡ true
unfolding check
check_inv true u e = refl
check_inv false u e = none≢some e

pub cond-inv : {A : Type 0} (t : Bool) (x : Option A) (c : A) → cond t x none ≡ some c → (t ≡ true) × (x ≡ some c)
cond-inv true x c e = (refl, e)
cond-inv false x c e = none≢some e

pub or_else-inv : {A : Type 0} (x y : Option A) (c : A) → or_else x y ≡ some c → (x ≡ some c) ⊎ (y ≡ some c)
unfolding or_else
or_else-inv none y c e = inr e
or_else-inv (some a) y c e = inl e

pub onward-inv : {A : Type 0} (w : Body (Head A) → Body (Head A)) (x : Option (MoveMade A)) (m : MoveMade A) → onward w x ≡ some m →
    (l : MoveMade A) × (x ≡ some l) × (m.body ≡ w l.body) × (m.news ≡ l.news)
unfolding onward
onward-inv w none m e = none≢some e
onward-inv w (some l) m e = (l, refl, ap (λ (k : MoveMade _). k.body) (sym (some_is e)), ap (λ (k : MoveMade _). k.news) (sym (some_is e)))

-- a look-up in a mapped thing, where what follows it is mapped too
pub bind-map : {A B C D : Type 0} (f : A → B) (g : C → D) (x : Option A) (y : Option B) (k : B → Option D) (l : A → Option C) →
    y ≡ map f x → ((a : A) → x ≡ some a → k (f a) ≡ map g (l a)) → (y >>= k) ≡ map g (x >>= l)
unfolding ◌>>=◌
bind-map f g none y k l e h = rw e
bind-map f g (some a) y k l e h = rw e (h a refl)

-- the same look-up, where what follows it is mapped
pub bind-same : {A C D : Type 0} (g : C → D) (x y : Option A) (k : A → Option D) (l : A → Option C) →
    y ≡ x → ((a : A) → x ≡ some a → k a ≡ map g (l a)) → (y >>= k) ≡ map g (x >>= l)
unfolding ◌>>=◌
bind-same g none y k l e h = rw e
bind-same g (some a) y k l e h = rw e (h a refl)

pub or_else-map : {A B : Type 0} (f : A → B) (x y : Option A) → or_else (map f x) (map f y) ≡ map f (or_else x y)
unfolding or_else
or_else-map f none y = refl
or_else-map f (some a) y = refl

pub cond_map : {A B : Type 0} (f : A → B) (t : Bool) (x : Option A) (y : Option B) → (t ≡ true → y ≡ map f x) → cond t y none ≡ map f (cond t x none)
cond_map f true x y h = h refl
cond_map f false x y h = refl

pub onward-map : {A B : Type 0} (K : MoveMade A → MoveMade B) (v : Body (Head A) → Body (Head A)) (w : Body (Head B) → Body (Head B)) (x : Option (MoveMade A)) →
    ((m : MoveMade A) → x ≡ some m → record { body = w (K m).body; news = (K m).news } ≡ K (record { body = v m.body; news = m.news })) →
    onward w (map K x) ≡ map K (onward v x)
unfolding onward
onward-map K v w none h = refl
onward-map K v w (some m) h = ap some (h m refl)

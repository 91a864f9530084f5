-- A pass over the words of messages writes each message whole. Assumes nothing.
use Prim.Native.Nat.{ℕ, zero, suc, ◌+◌, ◌-◌, ◌≤◌, ◌<◌}
use mathlib.Core.Bool.{Bool, true, false, cond}
use mathlib.Core.List.{List, [], ◌∷◌, ◌++◌, append_assoc, append-nil}
use mathlib.Core.Path.{◌≡◌, refl, sym, ap, ◌∙◌}
use native.Mathlib.Omega.{arith}
use native.Mathlib.Nat.{add-zero}
use lib.Dec.{eqb, leb}
use lib.ListN.{length, drop, length-append}
use lib.Seq.{drop-drop}
use borrow.Author.Tests.{leb-true}
use Rattle.std.specs.Prelude.{Some}
use Rattle.read_messages.specs.Words.{word, kind, operand, name_fits}
use Rattle.read_messages.specs.Message.{Message, name, variable, enter, exit, opens, empty_message, path}
use Rattle.read_messages.specs.ReadMessage.{message_word}
use Rattle.read_messages.specs.Spelling.{top_message, push, spelled, message_at}
use Rattle.read_messages.specs.declared.MessageWord.{MessageWord}
use Rattle.read_messages.specs.declared.MessageWord.TheVariants.{Name, Variable, Enter, Exit, Open, Empty, Path, Unfit}
use Rattle.theory_closures.specs.Resolve.{resolve}
use Rattle.engine_bindings.specs.Bindings.{bindings_in}
use Rattle.engine_held_bindings.specs.Sizes.{message_size, items_size}
use Rattle.engine_message_words.specs.Words.{binding_at, first_word, shape_of, arity_of, bound_at}
use Rattle.engine_message_words.specs.declared.Binding.{Binding}
use Rattle.engine_bindings.specs.Passes.{firsts}
use Rattle.base_slices.proofs.Tests.{by_test}
use Rattle.theory_closures.proofs.Resolving.{resolve-name, resolve-enter, resolve-exit, resolve-opens, resolve-empty, resolve-path}
use Rattle.engine_message_words.proofs.FirstWords.{bound, bound-variable}
use Rattle.engine_bindings.proofs.Passing.{firsts-first, Free, given-newest}
use Rattle.theory_written_trees.specs.Write.{Indices, write_message, one_message}
use Rattle.write_messages.specs.Passes.{all_written, plain_word}

-- how many words a message is written with, and an action's items

pub message-length : (ix : Indices) (m : Message) → length (write_message ix m) ≡ message_size m
unfolding write_message message_size
message-length ix (name n) = refl
message-length ix (variable v) = refl
message-length ix (enter m) = ap suc (message-length ix m)
message-length ix (exit m) = ap suc (message-length ix m)
message-length ix (opens m) = ap suc (message-length ix m)
message-length ix empty_message = refl
message-length ix (path m k) = omega (arith, length-append (write_message ix m) (write_message ix k), message-length ix m, message-length ix k)

whole-size : (is : List Message) → message_size (one_message is) ≡ items_size is
unfolding one_message message_size items_size
whole-size [] = refl
whole-size (m ∷ []) = refl
whole-size (m ∷ (k ∷ ks)) = omega (arith, whole-size (k ∷ ks))

pub items-length : (ix : Indices) (is : List Message) → length (write_message ix (one_message is)) ≡ items_size is
items-length ix is = message-length ix (one_message is) ∙ whole-size is

some_size : (m : Message) → 0 < message_size m
unfolding message_size
some_size (name n) = omega arith
some_size (variable v) = omega arith
some_size (enter m) = omega arith
some_size (exit m) = omega arith
some_size (opens m) = omega arith
some_size empty_message = omega arith
some_size (path m k) = omega arith

pub some_words : (ix : Indices) (m : Message) → 0 < length (write_message ix m)
some_words ix m = omega (arith, message-length ix m, some_size m)

-- the operand of a NAME is small

operand_of : MessageWord → ℕ
operand_of (Name n) = n
operand_of (Variable v) = 0
operand_of Enter = 0
operand_of Exit = 0
operand_of Open = 0
operand_of Empty = 0
operand_of Path = 0
operand_of Unfit = 0

either : (b : Bool) (x y : MessageWord) → operand_of x ≤ 255 → operand_of y ≤ 255 → operand_of (cond b x y) ≤ 255
either true x y f g = f
either false x y f g = g

name-small : (o : ℕ) → operand_of (cond (name_fits o) (Name o) Unfit) ≤ 255
unfolding name_fits operand_of
name-small o = by_test (leb o 255) (λ t. either (name_fits o) (Name o) Unfit (leb-true o 255 t) (omega arith))
    (λ t. by_test (leb 1 o) (λ u. rw (u, t) (omega arith)) (λ u. rw u (omega arith)))

operand_small : (l : List ℕ) → operand_of (first_word l) ≤ 255
unfolding first_word message_word operand_of
operand_small [] = omega arith
operand_small (w ∷ l) =
    let leaf : (b : Bool) (x : MessageWord) → operand_of x ≡ 0 → operand_of (cond b x Unfit) ≤ 255 = λ b x e. either b x Unfit (omega arith) (omega arith) in
    let o = operand w in
    either (eqb (kind w) 8) _ _ (name-small o)
    (either (eqb (kind w) 9) _ _ (omega arith)
    (either (eqb (kind w) 10) _ _ (leaf (eqb o 0) Enter refl)
    (either (eqb (kind w) 11) _ _ (leaf (eqb o 0) Exit refl)
    (either (eqb (kind w) 12) _ _ (leaf (eqb o 0) Open refl)
    (either (eqb (kind w) 13) _ _ (leaf (eqb o 0) Empty refl)
    (either (eqb (kind w) 14) _ _ (leaf (eqb o 0) Path refl) (omega arith)))))))

pub first-name : (l : List ℕ) (n : ℕ) → first_word l ≡ Name n → n ≤ 255
unfolding operand_of
first-name l n e = omega (arith, operand_small l, ap operand_of e)

-- the messages' words, by the first word

pub none_written : (ix : Indices) (σ : List (ℕ × Message)) (p : ℕ) (s : List Message) → p ≡ 0 → all_written ix σ (firsts p s) ≡ []
unfolding all_written firsts
none_written ix σ p s e = rw e

pub one_written : (ix : Indices) (σ : List (ℕ × Message)) {l ws : List ℕ} → l ≡ ws → all_written ix σ (firsts 1 (spelled l)) ≡ write_message ix (resolve σ (message_at ws))
unfolding all_written firsts message_at
one_written ix σ {l} {ws} e = rw e (append-nil (write_message ix (resolve σ (top_message (spelled ws)))))

-- a word that is no variable with a binding represents itself, and what stands in it comes behind
written-word : (ix : Indices) (σ : List (ℕ × Message)) (m : MessageWord) (p : ℕ) (s : List Message) → Free σ m
    → all_written ix σ (firsts (suc p) (push m s)) ≡ (plain_word ix m ∷ []) ++ all_written ix σ (firsts (p + arity_of m) s)
unfolding all_written firsts push top_message plain_word shape_of write_message
written-word ix σ (Name n) p s f = rw (resolve-name, add-zero p)
written-word ix σ (Variable v) p s f = rw (f v refl, add-zero p)
written-word ix σ Enter p s f = let e : p + 1 ≡ suc p = omega arith in rw (resolve-enter, e)
written-word ix σ Exit p s f = let e : p + 1 ≡ suc p = omega arith in rw (resolve-exit, e)
written-word ix σ Open p s f = let e : p + 1 ≡ suc p = omega arith in rw (resolve-opens, e)
written-word ix σ Empty p s f = rw (resolve-empty, add-zero p)
written-word ix σ Path p s f =
    let e : p + 2 ≡ suc (suc p) = omega arith in
    rw (resolve-path, e, drop-drop 1 1 s) (ap (λ (r : List ℕ). word 14 0 ∷ r) (append_assoc (write_message ix (resolve σ (top_message s))) (write_message ix (resolve σ (top_message (drop 1 s)))) (all_written ix σ (firsts p (drop 2 s)))))
written-word ix σ Unfit p s f = rw (resolve-empty, add-zero p)

pub written-first : (ix : Indices) (σ : List (ℕ × Message)) (l : List ℕ) (p : ℕ) → 0 < p → Free σ (first_word l) → {w a : ℕ} {r : List ℕ} → w ≡ plain_word ix (first_word l) → a ≡ arity_of (first_word l) → r ≡ drop 1 l
    → (w ∷ []) ++ all_written ix σ (firsts (p - 1 + a) (spelled r)) ≡ all_written ix σ (firsts p (spelled l))
written-first ix σ l zero h f e₁ e₂ e₃ = absurd (omega arith)
written-first ix σ l (suc p) h f e₁ e₂ e₃ =
    let q : suc p - 1 ≡ p = omega arith in
    rw (q, e₁, e₂, e₃, firsts-first (suc p) l) (sym (written-word ix σ (first_word l) p (spelled (drop 1 l)) f))

-- a variable with a binding represents the message of that binding, after the older ones
written-variable : (ix : Indices) (σ : List (ℕ × Message)) (m : MessageWord) (v p : ℕ) (s : List Message) → m ≡ Variable v
    → all_written ix σ (firsts (suc p) (push m s)) ≡ write_message ix (resolve σ (variable v)) ++ all_written ix σ (firsts p s)
unfolding all_written firsts push top_message
written-variable ix σ m v p s e = rw e

pub written-bound : (ix : Indices) (script : List ℕ) (bs : List Binding) (l : List ℕ) (p k : ℕ) → 0 < p → Some k ≡ bound_at (first_word l) bs → {us : List Binding} {g r : List ℕ} → us ≡ drop (k + 1) bs → g ≡ drop (binding_at bs k).source script → r ≡ drop 1 l
    → all_written ix (bindings_in script us) (firsts 1 (spelled g)) ++ all_written ix (bindings_in script bs) (firsts (p - 1) (spelled r)) ≡ all_written ix (bindings_in script bs) (firsts p (spelled l))
written-bound ix script bs l zero k z b e₁ e₂ e₃ = absurd (omega arith)
written-bound ix script bs l (suc p) k z b {us} e₁ e₂ e₃ =
    let q : suc p - 1 ≡ p = omega arith in
    elim (bound-variable bs (first_word l) k b)
    [ bound v e g ↦ rw (q, firsts-first (suc p) l, one_written ix (bindings_in script us) e₂, e₁, e₃, given-newest script bs k v g) (sym (written-variable ix (bindings_in script bs) (first_word l) v p (spelled (drop 1 l)) e)) ]

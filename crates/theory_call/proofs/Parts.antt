-- How the words of a part that was written lie before the parts beside it, and what an ambient and an action have in common:
-- for the proofs that read the words again. Assumes nothing.
use Prim.Native.Nat.{ℕ, suc, ◌+◌, ◌≤◌, max}
use mathlib.Core.Bool.{true}
use mathlib.Core.List.{List, [], ◌∷◌, ◌++◌, append_assoc}
use mathlib.Core.Path.{◌≡◌, refl, sym, ap, ap₂, ◌∙◌}
use native.Mathlib.Omega.{arith}
use lib.ListN.{length, length-append}
use Rattle.read_messages.specs.Words.{kind, operand, word}
use Rattle.read_messages.specs.Reading.{Cursor, Reading}
use Rattle.read_messages.specs.Message.{Message, name, variable, enter, exit, opens, empty_message, path, items, mentions}
use Rattle.read_scripts.specs.Tree.{Head, part, PlainHead, Plain}
use Rattle.read_scripts.specs.Script.{Script, guarded_from, part_from}
use Rattle.read_script_words.specs.ScriptWords.{part_word, part_fits}
use Rattle.std.specs.Prelude.{Option, Some, None}
use Rattle.read_script_words.specs.declared.PartWord.{PartWord}
use Rattle.read_script_words.specs.declared.PartWord.TheVariants.{Close, Ambient, Action, Receipt, Output}
use Rattle.theory_written_trees.specs.Write.{Indices, write_message, one_message, write_head, within, write_inside, write, write_part}
use Rattle.theory_written_trees.proofs.Trees.{write-part}
use Rattle.theory_calculus.specs.Calculus.{Process}
use Rattle.theory_calculus.specs.TreeProcess.{prefix, piece}
use Rattle.theory_calculus.specs.Written.{written_part}
use Rattle.theory_calculus.proofs.Variables.{free}
use Rattle.theory_calculus.proofs.Shapes.{Shape, no_cells, cell, amb, chain, chain-append}
use Rattle.theory_calculus.proofs.Congruences.{renamed, process_shape}
use Rattle.theory_decision.proofs.Fits.{MessageAll, ItemsAll}
use Rattle.theory_call.specs.Nesting.{message_nesting, part_nesting}
use Rattle.base_slices.proofs.Tests.{eqb_same}

-- ---- words

-- where the words of the parts beside a part begin that is written from the index i on
abbrev pub behind : Indices → (i : ℕ) → PlainHead → Plain → ℕ
behind ix i h b = i + length (write_part ix i h b)

-- The words `ws` are those of a part, `front` and then those of its body, `inner`, of the parts beside it, and the rest; and they
-- end where an operand can say it, behind the front as behind the part.
pub record Laid (ix : Indices) (i k : ℕ) (h : PlainHead) (b r : Plain) (front inner rest ws : List ℕ) : Type 0 where
  pub spelled : ws ≡ front ++ (inner ++ (write ix (behind ix i h b) r ++ rest))
  pub long : length (write_part ix i h b) ≡ length front + length inner
  pub longer : length (write ix i (part k h b r)) ≡ length (write_part ix i h b) + length (write ix (behind ix i h b) r)
  pub inside : i + length front + length (inner ++ (write ix (behind ix i h b) r ++ rest)) ≤ 268435456
  pub beside : behind ix i h b + length (write ix (behind ix i h b) r ++ rest) ≤ 268435456

pub laid : (ix : Indices) (i k : ℕ) (h : PlainHead) (b r : Plain) (front inner rest ws : List ℕ) → write_part ix i h b ≡ front ++ inner → ws ≡ write ix i (part k h b r) ++ rest
    → i + length ws ≤ 268435456 → Laid ix i k h b r front inner rest ws
laid ix i k h b r front inner rest ws writes e l = record {
  spelled = spelled;
  long = long;
  longer = sym (ap length (write-part ix i k h b r)) ∙ length-append (write_part ix i h b) outer;
  inside = omega (arith, all);
  beside = omega (arith, all, long, length-append inner (outer ++ rest));
}
  where
    outer : List ℕ
    outer = write ix (behind ix i h b) r

    spelled : ws ≡ front ++ (inner ++ (outer ++ rest))
    spelled =
        e ∙ ap (λ (v : List ℕ). v ++ rest) (sym (write-part ix i k h b r)) ∙ append_assoc (write_part ix i h b) outer rest
        ∙ ap (λ (v : List ℕ). v ++ (outer ++ rest)) writes ∙ append_assoc front inner (outer ++ rest)

    long : length (write_part ix i h b) ≡ length front + length inner
    long = ap length writes ∙ length-append front inner

    all : length ws ≡ length front + length (inner ++ (outer ++ rest))
    all = ap length spelled ∙ length-append front (inner ++ (outer ++ rest))

-- ---- messages

-- a message renamed twice, by namings that come to the third where its variables stand
pub renamed-twice : (τ ρ σ : ℕ → ℕ) (m : Message) → ((v : ℕ) → ¬ (mentions v m ≡ 0) → ρ (τ v) ≡ σ v) → renamed ρ (renamed τ m) ≡ renamed σ m
unfolding renamed mentions
renamed-twice τ ρ σ (name n) h = refl
renamed-twice τ ρ σ (variable v) h = ap variable (h v (λ z. let x : ◌≡◌ {A = ℕ} 1 0 = rw (eqb_same v) at z in absurd (let w : ⊥ = omega arith in w)))
renamed-twice τ ρ σ (enter m) h = ap enter (renamed-twice τ ρ σ m h)
renamed-twice τ ρ σ (exit m) h = ap exit (renamed-twice τ ρ σ m h)
renamed-twice τ ρ σ (opens m) h = ap opens (renamed-twice τ ρ σ m h)
renamed-twice τ ρ σ empty_message h = refl
renamed-twice τ ρ σ (path m k) h = ap₂ path (renamed-twice τ ρ σ m (λ v d. h v (λ z. d (omega arith)))) (renamed-twice τ ρ σ k (λ v d. h v (λ z. d (omega arith))))

-- "several as PATH item rest; none as one EMPTY": the items one after the other, or the one message
whole-shape : (n : ℕ) (σ : ℕ → ℕ) (is : List Message) (p : Process) → chain (items (renamed σ (one_message is))) (process_shape n σ p) ≡ process_shape n σ (prefix is p)
unfolding one_message prefix process_shape renamed items chain
whole-shape n σ [] p = refl
whole-shape n σ (i ∷ []) p = refl
whole-shape n σ (i ∷ (j ∷ is)) p =
    chain-append (items (renamed σ i)) (items (renamed σ (one_message (j ∷ is)))) (process_shape n σ p) ∙ ap (chain (items (renamed σ i))) (whole-shape n σ (j ∷ is) p)

pub whole-free : (v : ℕ) (is : List Message) (p : Process) → free v (prefix is p) ≡ mentions v (one_message is) + free v p
unfolding one_message prefix free mentions
whole-free v [] p = omega arith
whole-free v (i ∷ []) p = refl
whole-free v (i ∷ (j ∷ is)) p = omega (arith, whole-free v (j ∷ is) p)

pub whole-all : (P : ℕ → Type 0) (is : List Message) → ItemsAll P is → MessageAll P (one_message is)
unfolding one_message
whole-all P [] x = tt
whole-all P (i ∷ []) x = x.0
whole-all P (i ∷ (j ∷ is)) x = (x.0, whole-all P (j ∷ is) x.1)

-- ---- parts

-- the word of a part
abbrev pub IsPart : Option PartWord → Type 0
IsPart (Some Close) = ⊥
IsPart (Some Ambient) = Unit {0}
IsPart (Some Action) = Unit {0}
IsPart (Some Receipt) = Unit {0}
IsPart (Some Output) = Unit {0}
IsPart None = Unit {0}

-- a part that has the message m and a body: how its words are read and written, the shape and the free variables of its
-- process, its nesting
pub record Guarded (h : PlainHead) (m : Message) : Type 0 where
  pub own : ℕ
  pub says : Option PartWord
  pub worded : part_word own ≡ says
  pub parted : IsPart says
  pub fitted : part_fits says ≡ true
  pub makes : Message → Head Message
  pub reads : (read : Cursor → Reading (Message × Cursor)) (inside : List ℕ → Cursor → Reading (Script × Cursor)) (around : List ℕ) (i : ℕ) (c : Cursor)
      → part_from read inside around says i c ≡ guarded_from makes read inside around i c
  pub writes : (ix : Indices) (i : ℕ) (b : Plain) → write_part ix i h b ≡ (own ∷ write_message ix m) ++ write ix (i + length (own ∷ write_message ix m)) b
  pub shaped : (n : ℕ) (ρ σ τ : ℕ → ℕ) (p q : Process) → ((v : ℕ) → ¬ (mentions v m ≡ 0) → ρ (τ v) ≡ σ v) → process_shape n ρ p ≡ process_shape n σ q
      → process_shape n ρ (written_part (makes (renamed τ m)) p) ≡ process_shape n σ (piece h q)
  pub frees : (v : ℕ) (p : Process) → free v (piece h p) ≡ mentions v m + free v p
  pub nests : (n : ℕ) → part_nesting h n ≡ max (message_nesting m) (suc n)

pub ambient-guarded : (m : Message) → Guarded (Head.ambient m) m
unfolding part_word kind operand word part_fits part_from write_part write_head write_inside within process_shape written_part piece free part_nesting
ambient-guarded m = record {
  own = word 1 0;
  says = Some Ambient;
  worded = refl;
  parted = tt;
  fitted = refl;
  makes = Head.ambient;
  reads = λ read inside around i c. refl;
  writes = λ ix i b. refl;
  shaped = λ n ρ σ τ p q a e. ap₂ (λ (z : Message) (t : Shape). cell (amb z) t no_cells) (renamed-twice τ ρ σ m a) e;
  frees = λ v p. refl;
  nests = λ n. refl;
}

pub action-guarded : (is : List Message) → Guarded (Head.action is) (one_message is)
unfolding part_word kind operand word part_fits part_from write_part write_head write_inside within process_shape written_part piece part_nesting
action-guarded is = record {
  own = word 2 0;
  says = Some Action;
  worded = refl;
  parted = tt;
  fitted = refl;
  makes = Head.action;
  reads = λ read inside around i c. refl;
  writes = λ ix i b. refl;
  shaped = λ n ρ σ τ p q a e. ap₂ (λ (z : Message) (t : Shape). chain (items z) t) (renamed-twice τ ρ σ (one_message is) a) e ∙ whole-shape n σ is q;
  frees = λ v p. whole-free v is p;
  nests = λ n. refl;
}

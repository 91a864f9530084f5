-- What is read of the words of a tree that was written: a script whose process has the shape of the tree's. So the round trip:
-- a tree that is written and read again represents the same process. Assumes nothing.
use Prim.Native.Nat.{ℕ, zero, suc, ◌+◌, ◌≤◌, ◌<◌}
use mathlib.Core.Bool.{true, false, ◌&&◌}
use mathlib.Core.List.{List, [], ◌∷◌, ◌++◌, append-nil}
use mathlib.Core.Path.{◌≡◌, refl, sym, ap, ap₂, ◌∙◌, subst}
use native.Mathlib.Omega.{arith}
use lib.Dec.{leb, eqb}
use lib.ListN.{length, take}
use borrow.Author.Tests.{eqb-true, eq-eqb, ne_eqb}
use Rattle.read_messages.specs.Words.{kind, operand, word}
use Rattle.read_messages.specs.Reading.{Cursor, cursor, Reading, got, ask, next_word, next_part, is_empty}
use Rattle.read_messages.specs.Message.{Message}
use Rattle.read_messages.specs.ReadMessage.{read_message}
use Rattle.read_messages.proofs.Readings.{refuse≢got, bind_all, got-all, next}
use Rattle.read_scripts.specs.Tree.{Head, close, part, total_over, parts, PlainHead, Plain}
use Rattle.read_scripts.specs.Script.{Written, Script, part_from, or_close, read_body, read_script}
use Rattle.read_script_words.specs.ScriptWords.{part_word, part_fits}
use Rattle.std.specs.Prelude.{Option, Some, None}
use Rattle.read_script_words.specs.declared.PartWord.{PartWord}
use Rattle.read_script_words.specs.declared.PartWord.TheVariants.{Close, Ambient, Action, Receipt, Output}
use Rattle.read_script_words.specs.ScriptWords.{greatest_name}
use Rattle.read_scripts.proofs.Laws.{short}
use Rattle.base_slices.proofs.Tests.{by_test, eqb_same}
use Rattle.theory_written_trees.specs.Write.{Indices, new_index, write_message, write}
use Rattle.theory_written_trees.proofs.Trees.{receipt-written, output-written, new-hit, new-miss}
use Rattle.theory_calculus.specs.Calculus.{Process, 𝟎, ◌‖◌, input, ◌≅◌}
use Rattle.theory_calculus.specs.TreeProcess.{piece, process}
use Rattle.theory_calculus.specs.Written.{written_part, written}
use Rattle.theory_calculus.proofs.Variables.{eqb-flip, free, free_other}
use Rattle.theory_calculus.proofs.Shapes.{Shape, no_cells, cell, hear, say, ◌⧺◌, same-eq}
use Rattle.theory_calculus.proofs.Substitutions.{Closed}
use Rattle.theory_calculus.proofs.Congruences.{renamed, bound, bound-same, bound-other, own, process_shape, complete, highest, top_below}
use Rattle.theory_calculus.proofs.Kept.{Good, good-move}
use Rattle.theory_decision.proofs.Fits.{MessageAll, Fits, fits_more, move-fits}
use Rattle.theory_call.specs.Call.{Call, begun}
use Rattle.theory_call.specs.Standing.{Returns}
use Rattle.theory_call.proofs.Runs.{run-keeps}
use Rattle.theory_call.proofs.Door.{script-fits}
use Rattle.theory_call.proofs.Begun.{script-good}
use Rattle.theory_call.proofs.Parts.{behind, Laid, laid, whole-all, renamed-twice, IsPart, Guarded, ambient-guarded, action-guarded}
use Rattle.theory_call.proofs.Rereading.{same_head, same_rest, Fitting, Back, Small, message-back}

-- ---- bodies

pub close-word : part_word (word 0 0) ≡ Some Close
unfolding part_word kind operand word
close-word = refl

close-all : (P : Script × Cursor → Type 0) (w : Option PartWord) (c : Cursor) (k : Reading (Script × Cursor)) → w ≡ Some Close → P (close, c) → (b : Script × Cursor) → or_close w c k ≡ got b → P b
unfolding or_close
close-all P w c k e h b x = got-all P (close, c) h b (rw e at x)

pub part-all : (w : Option PartWord) (c : Cursor) (k : Reading (Script × Cursor)) → IsPart w → or_close w c k ≡ k
unfolding or_close
part-all (Some Close) c k h = absurd h
part-all (Some Ambient) c k h = refl
part-all (Some Action) c k h = refl
part-all (Some Receipt) c k h = refl
part-all (Some Output) c k h = refl
part-all None c k h = refl

-- a body whose first word is known: CLOSE, or the word of a part
close-first : (P : Script × Cursor → Type 0) (f nest : ℕ) (around : List ℕ) (c : Cursor) (ws : List ℕ) → c.left ≡ word 0 0 ∷ ws
    → ((d : Cursor) → d.left ≡ ws → d.index ≡ suc c.index → P (close, d)) → (p : Script × Cursor) → read_body f nest around c ≡ got p → P p
unfolding read_body
close-first P zero nest around c ws e h = λ p x. refuse≢got x
close-first P (suc f) nest around c ws e h =
    bind_all P (next_word 5 c) _
    (λ q x. bind_all P (ask 2 c.index (part_fits (part_word q.0))) _
    (λ _ _. bind_all P (ask 4 c.index (leb nest 64)) _
    (λ _ _.
    let n = next 5 c q x in
    let z : word 0 0 ∷ ws ≡ q.0 ∷ q.1.left = sym e ∙ n.words in
    close-all P (part_word q.0) q.1 _ (ap part_word (sym (same_head z)) ∙ close-word) (h q.1 (sym (same_rest z)) n.index))))

part-first : (P : Script × Cursor → Type 0) (f nest : ℕ) (around : List ℕ) (c : Cursor) (w : ℕ) (ws : List ℕ) → c.left ≡ w ∷ ws → (W : Option PartWord) → part_word w ≡ W → IsPart W
    → ((g : ℕ) (d : Cursor) → d.left ≡ ws → d.index ≡ suc c.index → (x : (Written × Script) × Cursor) → part_from (read_message g nest around) (read_body g (suc nest)) around W c.index d ≡ got x
    → (r : Script × Cursor) → read_body g nest around x.1 ≡ got r → P (part c.number x.0.0 x.0.1 r.0, r.1))
    → (p : Script × Cursor) → read_body f nest around c ≡ got p → P p
unfolding read_body
part-first P zero nest around c w ws e W t k h = λ p x. refuse≢got x
part-first P (suc f) nest around c w ws e W t k h =
    bind_all P (next_word 5 c) _
    (λ q x. bind_all P (ask 2 c.index (part_fits (part_word q.0))) _
    (λ _ _. bind_all P (ask 4 c.index (leb nest 64)) _
    (λ _ _ p y.
    let n = next 5 c q x in
    let z : w ∷ ws ≡ q.0 ∷ q.1.left = sym e ∙ n.words in
    let u : part_word q.0 ≡ W = ap part_word (sym (same_head z)) ∙ t in
    bind_all P (part_from (read_message f nest around) (read_body f (suc nest)) around (part_word q.0) c.index (next_part q.1)) _
    (λ v e₁. bind_all P (read_body f nest around v.1) _
    (λ r e₂. got-all P _
    (h f (next_part q.1) (sym (same_rest z)) n.index v
    (subst (λ (o : Option PartWord). part_from (read_message f nest around) (read_body f (suc nest)) around o c.index (next_part q.1) ≡ got v) u e₁) r e₂))) p
    (sym (part-all (part_word q.0) q.1 _ (subst IsPart (sym u) k)) ∙ y))))

-- the new indices of the variables free in a process stand before i, and have the names that the variables have
abbrev Alike : (i : ℕ) → Indices → (ρ σ : ℕ → ℕ) → Process → Type 0
Alike i ix ρ σ p = (v : ℕ) → ¬ (free v p ≡ 0) → (new_index ix v < i) × (ρ (new_index ix v) ≡ σ v)

alike-less : (i j : ℕ) (ix : Indices) (ρ σ : ℕ → ℕ) (p q : Process) → i ≤ j → ((v : ℕ) → free v q ≡ 0 → free v p ≡ 0) → Alike i ix ρ σ q → Alike j ix ρ σ p
alike-less i j ix ρ σ p q l f a v d = let x = a v (λ z. d (f v z)) in let y : new_index ix v < i = x.0 in (omega arith, x.1)

-- what is read of a body that was written from the index i on: the words behind it are left, there are no more parts, and the
-- process of what is written has the shape of the tree's
pub record Reread (ix : Indices) (i : ℕ) (b : Plain) (rest : List ℕ) (p : Script × Cursor) : Type 0 where
  pub behind : Back i (length (write ix i b)) rest p.1
  pub few : parts p.0 ≤ parts b
  pub says : (n : ℕ) (ρ σ : ℕ → ℕ) → Alike i ix ρ σ (process b) → process_shape n ρ (written p.0) ≡ process_shape n σ (process b)

abbrev pub BodyBack : Indices → Plain → Type 0
BodyBack ix b = (f nest : ℕ) (around : List ℕ) (c : Cursor) (i : ℕ) (rest : List ℕ) → c.index ≡ i → c.left ≡ write ix i b ++ rest → i + length c.left ≤ 268435456
    → (p : Script × Cursor) → read_body f nest around c ≡ got p → Reread ix i b rest p

-- so wherever the receipts around stand
abbrev pub AnyBack : Plain → Type 0
AnyBack b = (ix : Indices) → Small ix → BodyBack ix b

close-back : AnyBack close
unfolding write process process_shape written total_over
close-back ix s f nest around c i rest ei e l =
    close-first (Reread ix i close rest) f nest around c rest e
    (λ d x y. record { behind = record { left = x; index = omega (arith, y, ei) }; few = omega arith; says = λ n ρ σ a. refl })

-- the shape of a part and of the parts beside it
beside-says : (k : ℕ) (h : PlainHead) (b r : Plain) (ix : Indices) (i o : ℕ) → i ≤ o → (p q : Process)
    → ((n : ℕ) (ρ σ : ℕ → ℕ) → Alike i ix ρ σ (piece h (process b)) → process_shape n ρ p ≡ process_shape n σ (piece h (process b)))
    → ((n : ℕ) (ρ σ : ℕ → ℕ) → Alike o ix ρ σ (process r) → process_shape n ρ q ≡ process_shape n σ (process r))
    → (n : ℕ) (ρ σ : ℕ → ℕ) → Alike i ix ρ σ (process (part k h b r)) → process_shape n ρ (p ‖ q) ≡ process_shape n σ (process (part k h b r))
unfolding process process_shape free
beside-says k h b r ix i o l p q x y n ρ σ a =
    ap₂ ◌⧺◌ (x n ρ σ (alike-less i i ix ρ σ (piece h (process b)) (piece h (process b) ‖ process r) (omega arith) (λ v z. omega arith) a))
    (y n ρ σ (alike-less i o ix ρ σ (process r) (piece h (process b) ‖ process r) l (λ v z. omega arith) a))

-- a part that has a message and a body: an ambient, an action
module _ {h : PlainHead} {m : Message} (G : Guarded h m) where
  guarded-says : (b : Plain) (ix : Indices) (i j : ℕ) → i ≤ j → (x : Message) → x ≡ renamed (new_index ix) m → (p : Process)
      → ((n : ℕ) (ρ σ : ℕ → ℕ) → Alike j ix ρ σ (process b) → process_shape n ρ p ≡ process_shape n σ (process b))
      → (n : ℕ) (ρ σ : ℕ → ℕ) → Alike i ix ρ σ (piece h (process b)) → process_shape n ρ (written_part (G.makes x) p) ≡ process_shape n σ (piece h (process b))
  guarded-says b ix i j l x e p f n ρ σ a =
      ap (λ (z : Message). process_shape n ρ (written_part (G.makes z) p)) e
      ∙ G.shaped n ρ σ (new_index ix) p (process b) (λ v d. (a v (λ z. d (omega (arith, G.frees v (process b))))).1)
      (f n ρ σ (alike-less i j ix ρ σ (process b) (piece h (process b)) l (λ v z. omega (arith, G.frees v (process b))) a))

  guarded-back : MessageAll Fitting m → (k : ℕ) (b r : Plain) → AnyBack b → AnyBack r → AnyBack (part k h b r)
  unfolding written total_over
  guarded-back names k b r B R ix s f nest around c i rest ei e l =
      part-first (Reread ix i (part k h b r) rest) f nest around c G.own (write_message ix m ++ (inner ++ (outer ++ rest))) L.spelled G.says G.worded G.parted
      (λ g d dl di x xe.
      bind_all (Q g) (read_message g nest around d) _
      (λ q y. bind_all (Q g) (read_body g (suc nest) around q.1) _
      (λ t z. got-all (Q g) _ (λ rr w.
      let u = message-back ix s m names g nest around d (inner ++ (outer ++ rest)) dl q y in
      let qi : q.1.index ≡ j = omega (arith, u.1.index) in
      let ql : j + length q.1.left ≤ 268435456 = subst (λ (v : List ℕ). j + length v ≤ 268435456) (sym u.1.left) L.inside in
      let b₁ = B ix s g (suc nest) around q.1 j (outer ++ rest) qi u.1.left ql t z in
      let ti : t.1.index ≡ o = omega (arith, b₁.behind.index, L.long) in
      let tl : o + length t.1.left ≤ 268435456 = subst (λ (v : List ℕ). o + length v ≤ 268435456) (sym b₁.behind.left) L.beside in
      let r₁ = R ix s g nest around t.1 o rest ti b₁.behind.left tl rr w in
      record {
        behind = record { left = r₁.behind.left; index = omega (arith, r₁.behind.index, L.longer) };
        few = omega (arith, b₁.few, r₁.few);
        says = beside-says k h b r ix i o (omega arith) (written_part (G.makes q.0) (written t.0)) (written rr.0) (guarded-says b ix i j (omega arith) q.0 u.0 (written t.0) b₁.says) r₁.says;
      }))) x (sym (G.reads (read_message g nest around) (read_body g (suc nest)) around c.index d) ∙ xe))
    where
      j : ℕ
      j = i + length (G.own ∷ write_message ix m)

      inner : List ℕ
      inner = write ix j b

      o : ℕ
      o = behind ix i h b

      outer : List ℕ
      outer = write ix o r

      Q : ℕ → (Written × Script) × Cursor → Type 0
      Q g x = (rr : Script × Cursor) → read_body g nest around x.1 ≡ got rr → Reread ix i (part k h b r) rest (part c.number x.0.0 x.0.1 rr.0, rr.1)

      L : Laid ix i k h b r (G.own ∷ write_message ix m) inner rest c.left
      L = laid ix i k h b r (G.own ∷ write_message ix m) inner rest c.left (G.writes ix i b) e l

-- a receipt
pub small-more : (v i : ℕ) (ix : Indices) → Fitting i → Small ix → Small ((v, i) ∷ ix)
small-more v i ix l s u = by_test (eqb v u)
    (λ t. subst Fitting (sym (new-hit v u i ix t)) l)
    (λ t. subst Fitting (sym (new-miss v u i ix t)) (s u))

-- inside a receipt of v whose word has the index i, v is i
receipt-alike : (v i j n : ℕ) (ix : Indices) (ρ σ : ℕ → ℕ) (p : Process) → i < j → Alike i ix ρ σ (input v p) → Alike j ((v, i) ∷ ix) (bound ρ i n) (bound σ v n) p
receipt-alike v i j n ix ρ σ p l a u d = by_test (eqb v u)
    (λ t.
    let e : new_index ((v, i) ∷ ix) u ≡ i = new-hit v u i ix t in
    let w : eqb u v ≡ true = eq-eqb u v (sym (eqb-true v u t)) in
    (omega (arith, e), ap (bound ρ i n) e ∙ bound-same ρ i n i (eqb_same i) ∙ sym (bound-same σ v n u w)))
    (λ t.
    let e : new_index ((v, i) ∷ ix) u ≡ new_index ix u = new-miss v u i ix t in
    let x = a u (λ z. d (sym (free_other v u p t) ∙ z)) in
    let y : new_index ix u < i = x.0 in
    let w : eqb (new_index ix u) i ≡ false = ne_eqb (new_index ix u) i (λ z. omega arith) in
    (omega (arith, e), ap (bound ρ i n) e ∙ bound-other ρ i n (new_index ix u) w ∙ x.1 ∙ sym (bound-other σ v n u (eqb-flip v u t))))

receipt-says : (v : ℕ) (b : Plain) (ix : Indices) (i j : ℕ) → i < j → (x : ℕ) → x ≡ i → (p : Process)
    → ((n : ℕ) (ρ σ : ℕ → ℕ) → Alike j ((v, i) ∷ ix) ρ σ (process b) → process_shape n ρ p ≡ process_shape n σ (process b))
    → (n : ℕ) (ρ σ : ℕ → ℕ) → Alike i ix ρ σ (piece (Head.receipt v) (process b)) → process_shape n ρ (written_part (Head.receipt x) p) ≡ process_shape n σ (piece (Head.receipt v) (process b))
unfolding piece written_part process_shape
receipt-says v b ix i j l x e p f n ρ σ a =
    ap (λ (z : ℕ). cell (hear n) (process_shape (suc n) (bound ρ z n) p) no_cells) e
    ∙ ap (λ (z : Shape). cell (hear n) z no_cells) (f (suc n) (bound ρ i n) (bound σ v n) (receipt-alike v i j n ix ρ σ (process b) l a))

receipt-back : (v k : ℕ) (b r : Plain) → AnyBack b → AnyBack r → AnyBack (part k (Head.receipt v) b r)
unfolding written part_from total_over part_word kind operand word
receipt-back v k b r B R ix s f nest around c i rest ei e l =
    part-first (Reread ix i (part k h b r) rest) f nest around c (word 3 0) (inner ++ (outer ++ rest)) L.spelled (Some Receipt) refl tt
    (λ g d dl di x xe.
    bind_all (Q g) (read_body g (suc nest) (c.index ∷ around) d) _
    (λ t z. got-all (Q g) _ (λ rr w.
    let dj : d.index ≡ j = omega (arith, di, ei) in
    let room : j + length d.left ≤ 268435456 = subst (λ (v : List ℕ). j + length v ≤ 268435456) (sym dl) L.inside in
    let b₁ = B ((v, i) ∷ ix) (small-more v i ix fitting s) g (suc nest) (c.index ∷ around) d j (outer ++ rest) dj dl room t z in
    let ti : t.1.index ≡ o = omega (arith, b₁.behind.index, L.long) in
    let tl : o + length t.1.left ≤ 268435456 = subst (λ (v : List ℕ). o + length v ≤ 268435456) (sym b₁.behind.left) L.beside in
    let r₁ = R ix s g nest around t.1 o rest ti b₁.behind.left tl rr w in
    record {
      behind = record { left = r₁.behind.left; index = omega (arith, r₁.behind.index, L.longer) };
      few = omega (arith, b₁.few, r₁.few);
      says = beside-says k h b r ix i o (omega arith) (written_part (Head.receipt c.index) (written t.0)) (written rr.0)
          (receipt-says v b ix i j (omega arith) c.index ei (written t.0) b₁.says) r₁.says;
    })) x xe)
  where
    h : PlainHead
    h = Head.receipt v

    j : ℕ
    j = i + 1

    inner : List ℕ
    inner = write ((v, i) ∷ ix) j b

    o : ℕ
    o = behind ix i h b

    outer : List ℕ
    outer = write ix o r

    Q : ℕ → (Written × Script) × Cursor → Type 0
    Q g x = (rr : Script × Cursor) → read_body g nest around x.1 ≡ got rr → Reread ix i (part k h b r) rest (part c.number x.0.0 x.0.1 rr.0, rr.1)

    L : Laid ix i k h b r (word 3 0 ∷ []) inner rest c.left
    L = laid ix i k h b r (word 3 0 ∷ []) inner rest c.left (receipt-written ix i v b) e l

    fitting : Fitting i
    fitting = omega (arith, ap length L.spelled)

-- an output
output-says : (m : Message) (b : Plain) (ix : Indices) (i : ℕ) (x : Message) → x ≡ renamed (new_index ix) m → (p : Process)
    → (n : ℕ) (ρ σ : ℕ → ℕ) → Alike i ix ρ σ (piece (Head.output m) (process b)) → process_shape n ρ (written_part (Head.output x) p) ≡ process_shape n σ (piece (Head.output m) (process b))
unfolding piece written_part process_shape free
output-says m b ix i x e p n ρ σ a =
    ap (λ (z : Message). cell (say (renamed ρ z)) no_cells no_cells) e ∙ ap (λ (z : Message). cell (say z) no_cells no_cells) (renamed-twice (new_index ix) ρ σ m (λ v d. (a v d).1))

output-back : (m : Message) → MessageAll Fitting m → (k : ℕ) (b r : Plain) → AnyBack r → AnyBack (part k (Head.output m) b r)
unfolding written part_from total_over part_word kind operand word
output-back m names k b r R ix s f nest around c i rest ei e l =
    part-first (Reread ix i (part k h b r) rest) f nest around c (word 4 0) (write_message ix m ++ (outer ++ rest)) L.spelled (Some Output) refl tt
    (λ g d dl di x xe.
    bind_all (Q g) (read_message g nest around d) _
    (λ q y. got-all (Q g) _ (λ rr w.
    let u = message-back ix s m names g nest around d (outer ++ rest) dl q y in
    let qi : q.1.index ≡ o = omega (arith, u.1.index, L.long) in
    let ql : o + length q.1.left ≤ 268435456 = subst (λ (v : List ℕ). o + length v ≤ 268435456) (sym u.1.left) L.beside in
    let r₁ = R ix s g nest around q.1 o rest qi u.1.left ql rr w in
    record {
      behind = record { left = r₁.behind.left; index = omega (arith, r₁.behind.index, L.longer) };
      few = omega (arith, r₁.few);
      says = beside-says k h b r ix i o (omega arith) (written_part (Head.output q.0) 𝟎) (written rr.0) (output-says m b ix i q.0 u.0 𝟎) r₁.says;
    })) x xe)
  where
    h : PlainHead
    h = Head.output m

    o : ℕ
    o = behind ix i h b

    outer : List ℕ
    outer = write ix o r

    Q : ℕ → (Written × Script) × Cursor → Type 0
    Q g x = (rr : Script × Cursor) → read_body g nest around x.1 ≡ got rr → Reread ix i (part k h b r) rest (part c.number x.0.0 x.0.1 rr.0, rr.1)

    L : Laid ix i k h b r (word 4 0 ∷ write_message ix m) [] rest c.left
    L = laid ix i k h b r (word 4 0 ∷ write_message ix m) [] rest c.left (output-written ix i m b) e l

-- THEOREM: what is read of a body that was written, whatever stands behind it and whatever receipts around it.
pub body_back : (K : ℕ → Type 0) (b : Plain) → Fits K Fitting b → AnyBack b
body_back K close x = close-back
body_back K (part k (Head.ambient m) b r) x = guarded-back (ambient-guarded m) x.0.1 k b r (body_back K b x.1) (body_back K r x.2)
body_back K (part k (Head.action is) b r) x = guarded-back (action-guarded is) (whole-all Fitting is x.0.1) k b r (body_back K b x.1) (body_back K r x.2)
body_back K (part k (Head.receipt v) b r) x = receipt-back v k b r (body_back K b x.1) (body_back K r x.2)
body_back K (part k (Head.output m) b r) x = output-back m x.0.1 k b r (body_back K r x.2)

-- THEOREM (the round trip): a tree without free variables that is written, and whose words are read again as a script, is the
-- process that this script says as it is written, up to structural congruence.
pub read_back : (K : ℕ → Type 0) (b : Plain) → Fits K Fitting b → Closed (process b) → (p : Script × Cursor) → read_script (write [] 0 b) ≡ got p → written p.0 ≅ process b
unfolding read_script new_index
read_back K b x o =
    bind_all Says (ask 1 0 (leb 1 (length ws) && leb (length ws) 1024)) _
    (λ u e₁. bind_all Says (read_body (length ws) 0 [] (cursor 0 0 ws)) _
    (λ q e₂. bind_all Says (ask 5 q.1.index (is_empty q.1.left)) _
    (λ _ _. bind_all Says (ask 6 0 (leb q.1.number 64)) _
    (λ _ _. got-all Says q
    (let few : 0 + length ws ≤ 268435456 = omega (arith, short ws u e₁) in
    let y = body_back K b x [] (λ v. let z : 0 < 268435456 = omega arith in z) (length ws) 0 [] (cursor 0 0 ws) 0 [] refl (sym (append-nil ws)) few q e₂ in
    let n : ℕ = highest (written q.0) + highest (process b) in
    complete n (top_below (written q.0) n (omega arith)) (top_below (process b) n (omega arith)) (same-eq (y.says n own own (λ v d. absurd (d (o v))))))))))
  where
    ws : List ℕ
    ws = write [] 0 b

    Says : Script × Cursor → Type 0
    Says p = written p.0 ≅ process b

-- ---- the call

operand-fits : (w : ℕ) → Fitting (operand w)
unfolding operand
operand-fits w = omega arith

greatest-fits : (ws : List ℕ) → Fitting (greatest_name ws)
unfolding greatest_name
greatest-fits [] = omega arith
greatest-fits (w ∷ ws) = by_test (eqb (kind w) 8) (λ t. rw t (omega (arith, operand-fits w, greatest-fits ws))) (λ t. rw t (greatest-fits ws))

-- THEOREM: so of every tree that stands in a call, before the first move and after each.
pub returns : (c : Call) → Returns c
unfolding Returns
returns c p e k m a =
    let K : ℕ → Type 0 = λ n. n < p.1.number in
    let N : ℕ → Type 0 = λ n. n ≤ greatest_name c.script in
    let good = run-keeps (λ l. Good p.1.number l.tree) (λ x y l s g d. good-move p.1.number l.tree x y s g d) p.1.number 0 (take k c.moves) (begun p.0) m (script-good c.script p e) a in
    let named = run-keeps (λ l. Fits K N l.tree) (λ x y l s g d. (move-fits K N x y l.tree s d g).2) p.1.number 0 (take k c.moves) (begun p.0) m (script-fits c.script p e) a in
    read_back K m.tree (fits_more K K N Fitting (λ n h. h) (λ n h. omega (arith, greatest-fits c.script)) m.tree named) good.unbound

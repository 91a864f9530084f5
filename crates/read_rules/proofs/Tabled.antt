-- The rule table and the words hold the rule that is read: what is written at a rule's own words stays, whatever is read
-- behind them. Assumes nothing.
use Prim.Native.Nat.{ℕ, suc, ◌+◌, ◌≤◌, ◌<◌}
use mathlib.Core.Bool.{◌&&◌, and-eq-true_iff}
use mathlib.Core.List.{List, [], ◌∷◌}
use mathlib.Core.Path.{◌≡◌, refl, sym, ap, ◌∙◌}
use native.Mathlib.Omega.{arith}
use native.Mathlib.Numerals.{add-one}
use lib.Dec.{leb}
use lib.ListN.{length, get_or, drop, length-set, length-drop, length-replicate}
use lib.Seq.{get_or-set_same, get_or-set_other, get_or-drop}
use borrow.Author.Tests.{leb-true}
use Rattle.read_messages.specs.Words.{kind, operand}
use Rattle.std.specs.Prelude.{Result, Ok, Err}
use Rattle.read_messages.specs.declared.Refusal.{Refusal}
use Rattle.read_messages.specs.Reading.{Cursor, cursor, Reading, refuse, got, ask, next_part, is_empty}
use Rattle.read_messages.proofs.Readings.{bind_all, got-all, ask-inv, CursorAt, stands_on, Next, next-advances}
use Rattle.read_rule_words.specs.Rule.{Rule, truth, negation, either, void, at, beside, some-name, sometime, somewhere, placed, rule_index}
use Rattle.read_rule_words.specs.ReadRule.{term_of, read_rule, read_whole_rule}
use Rattle.read_rules.specs.RuleTable.{vacant, turned, entered, tabulate, table_of}
use Rattle.read_rules.specs.Ruled.{Worded, Said, Ruled, Tabled, Answers}
use Rattle.read_rules.specs.declared.RuleTable.{RuleTable}
use Rattle.read_rule_words.proofs.Cases.{Cases, Operand, rule-case}
use Rattle.read_rules.proofs.Laws.{RuleRead, read-cases}

-- what the table has at an index
abbrev entry : RuleTable → ℕ → ℕ × ℕ
entry t j = (get_or t.rights j 0, get_or t.placings j 0)

-- the arrays have their lengths
record Room (t : RuleTable) : Type 0 where
  rights : length t.rights ≡ 256
  placings : length t.placings ≡ 256

turned-room : (i k : ℕ) (t : RuleTable) → Room t → Room (turned i k t)
turned-room i k t r = record { rights = length-set t.rights i k ∙ r.rights; placings = r.placings }

entered-room : (i j : ℕ) (t : RuleTable) → Room t → Room (entered i j t)
entered-room i j t r = record { rights = r.rights; placings = length-set t.placings i j ∙ r.placings }

turned-other : (i k : ℕ) (t : RuleTable) (j : ℕ) → (j ≡ i → ⊥) → entry (turned i k t) j ≡ entry t j
turned-other i k t j n = ap (λ (x : ℕ). (x, get_or t.placings j 0)) (get_or-set_other t.rights i j k 0 n)

entered-other : (i m : ℕ) (t : RuleTable) (j : ℕ) → (j ≡ i → ⊥) → entry (entered i m t) j ≡ entry t j
entered-other i m t j n = ap (λ (x : ℕ). (get_or t.rights j 0, x)) (get_or-set_other t.placings i j m 0 n)

module _ (words : List ℕ) (few : length words ≤ 256) where
  -- the word at the cursor
  module _ (c : Cursor) (q : ℕ × Cursor) (n : Next c q) (s : CursorAt words c) where
    front : drop c.index words ≡ q.0 ∷ q.1.left
    front = sym s ∙ n.words

    here : get_or words c.index 0 ≡ q.0
    here =
        let e : c.index + 0 ≡ c.index = omega arith in
        rw (← e) (sym (get_or-drop c.index words 0 0) ∙ ap (λ (l : List ℕ). get_or l 0 0) front)

    inside : c.index < length words
    inside = omega (arith, length-drop c.index words, ap length front)

    worded : (k : ℕ) → kind q.0 ≡ k → Worded words k c.index
    worded k e = record { inside = inside; kind = ap kind here ∙ e }

    said : (somes : List ℕ) → Operand somes q.0 → Said words somes c.index (term_of (operand q.0))
    said somes o = record { term = ap (λ (w : ℕ). term_of (operand w)) (sym here); fits = rw here o.fits; bound = o.bound }

    stands : CursorAt words q.1
    stands = stands_on words c q.1 (next-advances c q n) s

  -- The rule p .0 was read from c on with the table t: `kept` is what stood before, and `ruled` says that any table which has what
  -- was written at the rule's words holds the rule.
  record Filled (somes : List ℕ) (c : Cursor) (p : Rule × Cursor) (t : RuleTable) : Type 0 where
    room : Room (tabulate p.0 t)
    kept : (j : ℕ) → j < c.index → entry (tabulate p.0 t) j ≡ entry t j
    ruled : (u : RuleTable) → ((j : ℕ) → c.index ≤ j → j < p.1.index → entry u j ≡ entry (tabulate p.0 t) j) → p.1.number ≤ u.count → Ruled words u somes p.0

  record Fills (somes : List ℕ) (c : Cursor) (p : Rule × Cursor) : Type 0 where
    read : RuleRead somes c p
    filled : CursorAt words c → (t : RuleTable) → Room t → Filled somes c p t

  module _ (somes : List ℕ) (c : Cursor) (q : ℕ × Cursor) (n : Next c q) where
    leaf-filled : (r : Rule) → ((t : RuleTable) → tabulate r t ≡ t) → RuleRead somes c (r, q.1) → (CursorAt words c → (u : RuleTable) → Ruled words u somes r) → Fills somes c (r, q.1)
    leaf-filled r e x rl = record {
      read = x;
      filled = λ s t m. record { room = rw (e t) m; kept = λ j a. ap (λ (y : RuleTable). entry y j) (e t); ruled = λ u a b. rl s u };
    }

    -- One rule inside, from d on: g is what is written at the rule's own word.
    module _ (s : List ℕ) (d : Cursor) (ed : d.index ≡ suc c.index) (ld : d.left ≡ q.1.left) (p : Rule × Cursor) (h : Fills s d p) (g : RuleTable → RuleTable)
        (gr : (t : RuleTable) → Room t → Room (g t)) (go : (t : RuleTable) (j : ℕ) → (j ≡ c.index → ⊥) → entry (g t) j ≡ entry t j) where
      one-filled : (r : Rule) → ((t : RuleTable) → tabulate r t ≡ tabulate p.0 (g t)) → RuleRead somes c (r, p.1)
          → (CursorAt words c → (u t : RuleTable) → Room t → rule_index p.0 ≡ c.index + 1 → Ruled words u s p.0 → p.1.number ≤ u.count → entry u c.index ≡ entry (g t) c.index → Ruled words u somes r)
          → Fills somes c (r, p.1)
      one-filled r e x rl = record {
        read = x;
        filled = λ st t m.
            let sd : CursorAt words d = ld ∙ stands c q n st ∙ ap (λ (i : ℕ). drop i words) (n.index ∙ sym ed) in
            let F : Filled s d p (g t) = h.filled sd (g t) (gr t m) in
            record {
              room = rw (e t) F.room;
              kept = λ j a. ap (λ (y : RuleTable). entry y j) (e t) ∙ F.kept j (omega (arith, a, ed)) ∙ go t j (λ z. omega (arith, z, a));
              ruled = λ u a b.
                  rl st u t m (h.read.index ∙ ed ∙ sym (add-one c.index))
                  (F.ruled u (λ j y z. a j (omega (arith, y, ed)) z ∙ ap (λ (y : RuleTable). entry y j) (e t)) b) b
                  (a c.index (omega arith) (omega (arith, h.read.ahead, ed)) ∙ ap (λ (y : RuleTable). entry y c.index) (e t) ∙ F.kept c.index (omega (arith, ed)));
            };
      }

    -- two rules inside
    module _ (p z : Rule × Cursor) (h : Fills somes q.1 p) (k : Fills somes p.1 z) where
      two-filled : (r : Rule) → ((t : RuleTable) → tabulate r t ≡ tabulate z.0 (turned c.index (rule_index z.0) (tabulate p.0 t))) → RuleRead somes c (r, z.1)
          → (CursorAt words c → (u : RuleTable) → rule_index p.0 ≡ c.index + 1 → Ruled words u somes p.0 → rule_index z.0 ≡ get_or u.rights c.index 0 → Ruled words u somes z.0 → Ruled words u somes r)
          → Fills somes c (r, z.1)
      two-filled r e x rl = record {
        read = x;
        filled = λ st t m.
            let sq : CursorAt words q.1 = stands c q n st in
            let F : Filled somes q.1 p t = h.filled sq t m in
            let v : RuleTable = turned c.index (rule_index z.0) (tabulate p.0 t) in
            let G : Filled somes p.1 z v = k.filled (stands_on words q.1 p.1 h.read.advances sq) v (turned-room c.index (rule_index z.0) (tabulate p.0 t) F.room) in
            let i₀ : c.index < q.1.index = omega (arith, n.index) in
            let i₁ : q.1.index < p.1.index = h.read.ahead in
            let i₂ : p.1.index < z.1.index = k.read.ahead in
            let last : (u : RuleTable) → ((j : ℕ) → c.index ≤ j → j < z.1.index → entry u j ≡ entry (tabulate r t) j) → (j : ℕ) → c.index ≤ j → j < p.1.index → entry u j ≡ entry v j
            = λ u a j y w. a j y (omega arith) ∙ ap (λ (y : RuleTable). entry y j) (e t) ∙ G.kept j w in
            record {
              room = rw (e t) G.room;
              kept = λ j a. ap (λ (y : RuleTable). entry y j) (e t) ∙ G.kept j (omega arith) ∙ turned-other c.index (rule_index z.0) (tabulate p.0 t) j (λ w. omega (arith, w, a)) ∙ F.kept j (omega arith);
              ruled = λ u a b.
                  rl st u (h.read.index ∙ n.index ∙ sym (add-one c.index))
                  (F.ruled u (λ j y w. last u a j (omega arith) w ∙ turned-other c.index (rule_index z.0) (tabulate p.0 t) j (λ w. omega (arith, w, y))) (omega (arith, k.read.rises, b)))
                  (sym (ap (λ (y : ℕ × ℕ). y.0) (last u a c.index (omega arith) (omega arith)) ∙ get_or-set_same (tabulate p.0 t).rights c.index (rule_index z.0) 0 (omega (arith, F.room.rights, inside c q n st, few))))
                  (G.ruled u (λ j y w. a j (omega arith) w ∙ ap (λ (y : RuleTable). entry y j) (e t)) b);
            };
      }

  -- nothing is written at the rule's own word
  module _ (somes : List ℕ) (c : Cursor) (q : ℕ × Cursor) (n : Next c q) (s : List ℕ) (p : Rule × Cursor) (h : Fills s q.1 p) where
    plain-filled : (r : Rule) → ((t : RuleTable) → tabulate r t ≡ tabulate p.0 t) → RuleRead somes c (r, p.1)
        → (CursorAt words c → (u : RuleTable) → rule_index p.0 ≡ c.index + 1 → Ruled words u s p.0 → Ruled words u somes r) → Fills somes c (r, p.1)
    plain-filled r e x rl =
        one-filled somes c q n s q.1 n.index refl p h (λ t. t) (λ t m. m) (λ t j w. refl) r e x (λ st u t m i y b w. rl st u i y)

  fill-cases : Cases Fills
  unfolding tabulate
  fill-cases = record {
    leaves = λ s c q n. (
      (λ k. leaf-filled s c q n (truth c.index) (λ t. refl) ((read-cases.leaves s c q n).0 k) (λ st u. worded c q n st 0 k)),
      (λ k. leaf-filled s c q n (void c.index) (λ t. refl) ((read-cases.leaves s c q n).1 k) (λ st u. worded c q n st 3 k)),
    );
    ones = λ s c q p n h. (
      (λ k. plain-filled s c q n s p h (negation c.index p.0) (λ t. refl) ((read-cases.ones s c q p n h.read).0 k) (λ st u i y. (worded c q n st 1 k, i, y))),
      (λ k. plain-filled s c q n s p h (sometime c.index p.0) (λ t. refl) ((read-cases.ones s c q p n h.read).1 k) (λ st u i y. (worded c q n st 7 k, i, y))),
      (λ k. plain-filled s c q n s p h (somewhere c.index p.0) (λ t. refl) ((read-cases.ones s c q p n h.read).2 k) (λ st u i y. (worded c q n st 8 k, i, y))),
    );
    twos = λ s c q p z n h g. (
      (λ k. two-filled s c q n p z h g (either c.index p.0 z.0) (λ t. refl) ((read-cases.twos s c q p z n h.read g.read).0 k) (λ st u i y e w. (worded c q n st 2 k, i, y, e, w))),
      (λ k. two-filled s c q n p z h g (beside c.index p.0 z.0) (λ t. refl) ((read-cases.twos s c q p z n h.read g.read).1 k) (λ st u i y e w. (worded c q n st 5 k, i, y, e, w))),
    );
    ats = λ s c q p n k o h. plain-filled s c q n s p h (at c.index (term_of (operand q.0)) p.0) (λ t. refl) (read-cases.ats s c q p n k o h.read) (λ st u i y. (worded c q n st 4 k, i, y, said c q n st s o));
    chooses = λ s c q p n k l h. plain-filled s c q n (c.index ∷ s) p h (some-name c.index p.0) (λ t. refl) (read-cases.chooses s c q p n k l h.read) (λ st u i y. (worded c q n st 6 k, i, y, l));
    placings = λ s c q p n k o h.
        one-filled s c q n s (next_part q.1) n.index refl p h (entered c.index q.1.number) (entered-room c.index q.1.number) (entered-other c.index q.1.number)
        (placed c.index q.1.number (term_of (operand q.0)) p.0) (λ t. refl) (read-cases.placings s c q p n k o h.read)
        (λ st u t m i y b e. (
          worded c q n st 9 k,
          i,
          y,
          said c q n st s o,
          sym (ap (λ (x : ℕ × ℕ). x.1) e ∙ get_or-set_same t.placings c.index q.1.number 0 (omega (arith, m.placings, inside c q n st, few))),
          omega (arith, h.read.rises, b),
        ));
  }

  -- the table of a whole rule
  whole-tabled : (n : ℕ) (p : Rule × Cursor) → read_rule (length words) 0 [] (cursor 0 0 words) ≡ got p → n + p.1.number ≤ 64 → Tabled n words (tabulate p.0 vacant) p
  whole-tabled n p e l =
      let F : Fills [] (cursor 0 0 words) p = rule-case Fills fill-cases (length words) 0 [] (cursor 0 0 words) p e in
      let counted : (tabulate p.0 vacant).count ≡ p.1.number = F.read.counted vacant refl in
      let room : Room vacant = record { rights = length-replicate {A = ℕ} 256 0; placings = length-replicate {A = ℕ} 256 0 } in
      record {
        few = few;
        room = omega (arith, counted, l);
        counted = counted;
        first = F.read.index;
        ruled = (F.filled refl vacant room).ruled (tabulate p.0 vacant) (λ j a b. refl) (omega (arith, counted));
      }

-- what is claimed of a rule that is read
abbrev Holds : ℕ → List ℕ → Rule × Cursor → Type 0
Holds n ws p = Tabled n ws (tabulate p.0 vacant) p

-- THEOREM: the table of a rule that is accepted, and its words, hold the rule that they are read as.
pub rule-tabled : (n : ℕ) (ws : List ℕ) (p : Rule × Cursor) → read_whole_rule n ws ≡ got p → Tabled n ws (tabulate p.0 vacant) p
unfolding read_whole_rule
rule-tabled n ws =
    bind_all (Holds n ws) (ask 7 0 (leb 1 (length ws) && leb (length ws) 256)) _
    (λ u e₇. bind_all (Holds n ws) (read_rule (length ws) 0 [] (cursor 0 0 ws)) _
    (λ q e. bind_all (Holds n ws) (ask 11 q.1.index (is_empty q.1.left)) _
    (λ _ _. bind_all (Holds n ws) (ask 12 0 (leb (n + q.1.number) 64)) _
    (λ v e₁₂. got-all (Holds n ws) q
    (whole-tabled ws (leb-true (length ws) 256 ((and-eq-true_iff (leb 1 (length ws)) (leb (length ws) 256)).0 (ask-inv 7 0 _ u e₇)).1) n q e (leb-true (n + q.1.number) 64 (ask-inv 12 0 _ v e₁₂)))))))

-- an answer that is a refusal, and one that is a table
no_table : (q i : ℕ) (t : RuleTable) {B : Type 0} → Ok t ≡ table_of (refuse q i) → B
unfolding table_of
no_table q i t e = cc

refused : (x : Reading (Rule × Cursor)) (q : Refusal) → Err q ≡ table_of x → x ≡ refuse q.question q.place
unfolding table_of
refused (refuse q' i') q e = let r : q ≡ record { question = q'; place = i' } = cc in rw r
refused (got p) q e = cc

-- what the reader answers, and so what its table holds
pub answers : (n : ℕ) (ws : List ℕ) (r : Result RuleTable Refusal) → r ≡ table_of (read_whole_rule n ws) → Answers n ws r
unfolding table_of
answers n ws r e = record {
  answer = e;
  table = λ p t d k.
      let h : Ok t ≡ Ok (tabulate p.0 vacant) = sym k ∙ e ∙ ap table_of d in
      let g : t ≡ tabulate p.0 vacant = cc in
      rw g (rule-tabled n ws p d);
}

-- a table that is answered is that of a rule, which it holds with the words
pub rule-accepted : (n : ℕ) (ws : List ℕ) (r : Result RuleTable Refusal) (t : RuleTable) → Answers n ws r → r ≡ Ok t → (p : Rule × Cursor) × (read_whole_rule n ws ≡ got p) × Tabled n ws t p
rule-accepted n ws r t a k = told (read_whole_rule n ws) refl (sym k ∙ a.answer)
  where
    told : (x : Reading (Rule × Cursor)) → read_whole_rule n ws ≡ x → Ok t ≡ table_of (read_whole_rule n ws) → (p : Rule × Cursor) × (read_whole_rule n ws ≡ got p) × Tabled n ws t p
    told (refuse q i) d e = no_table q i t (e ∙ ap table_of d)
    told (got p) d e = (p, d, a.table p t d k)

-- a refusal that is answered is the reading's
pub rule-refuses : (n : ℕ) (ws : List ℕ) (r : Result RuleTable Refusal) (q : Refusal) → Answers n ws r → r ≡ Err q → read_whole_rule n ws ≡ refuse q.question q.place
rule-refuses n ws r q a k = refused (read_whole_rule n ws) q (sym k ∙ a.answer)

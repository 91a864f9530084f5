-- Laws of the reader of rules: where it stands when it has read one, that more fuel than words changes nothing, and the
-- recurrence that the code meets. Assumes nothing.
use Prim.Native.Nat.{ℕ, zero, suc, ◌+◌, ◌≤◌, ◌<◌}
use mathlib.Core.Bool.{Bool, true, false, ◌&&◌, cond, false≢true}
use mathlib.Core.List.{List, ◌∷◌}
use mathlib.Core.Path.{◌≡◌, refl, sym, ap, ◌∙◌}
use native.Mathlib.Omega.{arith}
use native.Mathlib.Numerals.{add-one}
use lib.Dec.{leb}
use lib.ListN.{length}
use Rattle.read_messages.specs.Words.{operand}
use Rattle.read_messages.specs.Reading.{Cursor, cursor, Reading, refuse, got, ◌>>=◌, ask, take_word, next_word, next_part, refusal_at}
use Rattle.std.specs.Prelude.{Result, Ok, Err}
use Rattle.read_messages.specs.declared.Refusal.{Refusal}
use Rattle.read_messages.proofs.Readings.{bind-cong, bind-got, bind-refuse, Advances, advances-on, Next, next, next-advances, next-shorter, advances-shorter, next-end}
use Rattle.read_rule_words.specs.Rule.{Term, Rule, truth, negation, either, void, at, beside, some-name, sometime, somewhere, rule_index}
use Rattle.read_rule_words.specs.ReadRule.{RuleKind, TRUE, NOT, OR, VOID, AT, BESIDE, SOME, SOMETIME, SOMEWHERE, PLACED, OTHER, rule_kind, term_of, operand_fits, bound, somes_with, Reader, one_rule, two_rules, rule_from, read_rule}
use Rattle.read_rule_words.specs.RuleWords.{follow, levelled, asked}
use Rattle.read_rules.specs.RuleTable.{turned, entered, tabulate, scanned}
use Rattle.read_rules.specs.declared.RuleTable.{RuleTable}
use Rattle.read_rules.specs.declared.RuleScan.{RuleScan}
use Rattle.read_rule_words.specs.declared.RuleShape.{RuleShape}
use Rattle.read_rule_words.specs.declared.RuleShape.TheVariants.{Leaf, One, Two, Choice, Place}
use Rattle.read_rule_words.proofs.Cases.{Cases, rule-case}

-- What holds where a rule was read from c on, p being the rule and the cursor behind it: `index` says where the rule stands,
-- `rises` and `fewer` that there are no more PLACED words than words, and `counted` that the table counts them.
pub record RuleRead (somes : List ℕ) (c : Cursor) (p : Rule × Cursor) : Type 0 where
  pub index : rule_index p.0 ≡ c.index
  pub ahead : c.index < p.1.index
  pub advances : Advances c p.1
  pub rises : c.number ≤ p.1.number
  pub fewer : p.1.number + c.index ≤ c.number + p.1.index
  pub counted : (t : RuleTable) → t.count ≡ c.number → (tabulate p.0 t).count ≡ p.1.number

-- the rule's own word, and what stands inside it from the cursor d on, which may have a PLACED word more than c
module _ (somes : List ℕ) (c : Cursor) (q : ℕ × Cursor) (n : Next c q) where
  leaf-read : (r : Rule) → rule_index r ≡ c.index → ((t : RuleTable) → tabulate r t ≡ t) → RuleRead somes c (r, q.1)
  leaf-read r e k = record {
    index = e;
    ahead = omega (arith, n.index);
    advances = next-advances c q n;
    rises = omega (arith, n.number);
    fewer = omega (arith, n.index, n.number);
    counted = λ t h. ap (λ (x : RuleTable). x.count) (k t) ∙ h ∙ sym n.number;
  }

  module _ (s : List ℕ) (p : Rule × Cursor) (x : RuleRead s q.1 p) where
    one-read : (r : Rule) → rule_index r ≡ c.index → ((t : RuleTable) → tabulate r t ≡ tabulate p.0 t) → RuleRead somes c (r, p.1)
    one-read r e k = record {
      index = e;
      ahead = omega (arith, n.index, x.ahead);
      advances = advances-on c q.1 p.1 (next-advances c q n) x.advances;
      rises = omega (arith, n.number, x.rises);
      fewer = omega (arith, n.index, n.number, x.fewer);
      counted = λ t h. ap (λ (x : RuleTable). x.count) (k t) ∙ x.counted t (h ∙ sym n.number);
    }

    two-read : (z : Rule × Cursor) → RuleRead s p.1 z → (r : Rule) → rule_index r ≡ c.index
        → ((t : RuleTable) → tabulate r t ≡ tabulate z.0 (turned c.index (rule_index z.0) (tabulate p.0 t))) → RuleRead somes c (r, z.1)
    two-read z y r e k = record {
      index = e;
      ahead = omega (arith, n.index, x.ahead, y.ahead);
      advances = advances-on c p.1 z.1 (advances-on c q.1 p.1 (next-advances c q n) x.advances) y.advances;
      rises = omega (arith, n.number, x.rises, y.rises);
      fewer = omega (arith, n.index, n.number, x.fewer, y.fewer);
      counted = λ t h.
          ap (λ (x : RuleTable). x.count) (k t) ∙ y.counted (turned c.index (rule_index z.0) (tabulate p.0 t)) (x.counted t (h ∙ sym n.number));
    }

  place_read : (p : Rule × Cursor) → RuleRead somes (next_part q.1) p → (m : Term) → RuleRead somes c (Rule.placed c.index q.1.number m p.0, p.1)
  unfolding rule_index tabulate
  place_read p x m = record {
    index = refl;
    ahead = omega (arith, n.index, x.ahead);
    advances = advances-on c q.1 p.1 (next-advances c q n) (record { ahead = x.advances.ahead; within = x.advances.within; tail = x.advances.tail });
    rises = omega (arith, n.number, x.rises);
    fewer = omega (arith, n.index, n.number, x.fewer);
    counted = λ t h. x.counted (entered c.index q.1.number t) (add-one t.count ∙ ap suc (h ∙ sym n.number));
  }

pub read-cases : Cases RuleRead
unfolding rule_index tabulate
read-cases = record {
  leaves = λ s c q n. ((λ k. leaf-read s c q n (truth c.index) refl (λ t. refl)), (λ k. leaf-read s c q n (void c.index) refl (λ t. refl)));
  ones = λ s c q p n x. (
    (λ k. one-read s c q n s p x (negation c.index p.0) refl (λ t. refl)),
    (λ k. one-read s c q n s p x (sometime c.index p.0) refl (λ t. refl)),
    (λ k. one-read s c q n s p x (somewhere c.index p.0) refl (λ t. refl)),
  );
  twos = λ s c q p z n x y. (
    (λ k. two-read s c q n s p x z y (either c.index p.0 z.0) refl (λ t. refl)),
    (λ k. two-read s c q n s p x z y (beside c.index p.0 z.0) refl (λ t. refl)),
  );
  ats = λ s c q p n _ _ x. one-read s c q n s p x (at c.index (term_of (operand q.0)) p.0) refl (λ t. refl);
  chooses = λ s c q p n _ _ x. one-read s c q n (c.index ∷ s) p x (some-name c.index p.0) refl (λ t. refl);
  placings = λ s c q p n _ _ x. place_read s c q n p x (term_of (operand q.0));
}

pub rule-read : (f around : ℕ) (somes : List ℕ) (c : Cursor) (p : Rule × Cursor) → read_rule f around somes c ≡ got p → RuleRead somes c p
rule-read f around somes c p e = rule-case RuleRead read-cases f around somes c p e

-- readers that agree where at most n words are left
module _ (n : ℕ) (r s : Reader) (h : (a : List ℕ) (c : Cursor) (p : Rule × Cursor) → r a c ≡ got p → RuleRead a c p)
    (agree : (a : List ℕ) (c : Cursor) → length c.left ≤ n → r a c ≡ s a c) where
  one-agree : (g : Rule → Rule) (a : List ℕ) (c : Cursor) → length c.left ≤ n → one_rule g (r a) c ≡ one_rule g (s a) c
  unfolding one_rule
  one-agree g a c l = rw (agree a c l)

  two-agree : (g : Rule → Rule → Rule) (a : List ℕ) (c : Cursor) → length c.left ≤ n → two_rules g (r a) c ≡ two_rules g (s a) c
  unfolding two_rules
  two-agree g a c l = rw (← agree a c l) (bind-cong (r a c) _ _ (λ q e. rw (agree a q.1 (omega (arith, advances-shorter c q.1 (h a c q e).advances)))))

  from-agree : (k : RuleKind) (t : Term) (i : ℕ) (a : List ℕ) (c : Cursor) → length c.left ≤ n → rule_from r k t i a c ≡ rule_from s k t i a c
  unfolding rule_from
  from-agree TRUE t i a c l = refl
  from-agree NOT t i a c l = one-agree (negation i) a c l
  from-agree OR t i a c l = two-agree (either i) a c l
  from-agree VOID t i a c l = refl
  from-agree AT t i a c l = one-agree (at i t) a c l
  from-agree BESIDE t i a c l = two-agree (beside i) a c l
  from-agree SOME t i a c l = one-agree (some-name i) (i ∷ a) c l
  from-agree SOMETIME t i a c l = one-agree (sometime i) a c l
  from-agree SOMEWHERE t i a c l = one-agree (somewhere i) a c l
  from-agree PLACED t i a c l = one-agree (Rule.placed i c.number t) a (next_part c) l
  from-agree OTHER t i a c l = refl

-- As much fuel as there are words is enough, and more changes nothing.
pub rule-fuel : (f g around : ℕ) (somes : List ℕ) (c : Cursor) → length c.left ≤ f → length c.left ≤ g → read_rule f around somes c ≡ read_rule g around somes c
unfolding read_rule
rule-fuel zero zero around somes c hf hg = refl
rule-fuel zero (suc g) around somes c hf hg = sym (bind-refuse _ _ 11 c.index (next-end 11 c (omega arith)))
rule-fuel (suc f) zero around somes c hf hg = bind-refuse _ _ 11 c.index (next-end 11 c (omega arith))
rule-fuel (suc f) (suc g) around somes c hf hg =
    bind-cong (next_word 11 c) _ _ (λ w e. bind-cong _ _ _ (λ _ _. bind-cong _ _ _ (λ _ _. bind-cong _ _ _ (λ _ _.
    from-agree (length w.1.left) (read_rule f (suc around)) (read_rule g (suc around)) (rule-read f (suc around))
    (λ a d l. rule-fuel f g (suc around) a d (omega (arith, next-shorter c w (next 11 c w e))) (omega (arith, next-shorter c w (next 11 c w e))))
    (rule_kind w.0) (term_of (operand w.0)) c.index somes w.1 (omega arith)))))

-- What the code answers by what the questions 8, 9 and 10 say of the first word: `i` is that word's index, the cursor stands
-- behind it, and `read` reads the rules inside. `onward` is the second of two rules.
abbrev pub onward : (i : ℕ) → Reader → (somes : List ℕ) → RuleTable → Reading (Rule × Cursor) → Result RuleScan Refusal
onward i read somes t (refuse q j) = refusal_at q j
onward i read somes t (got p) = scanned (turned i p.1.index (tabulate p.0 t)) (read somes p.1)

abbrev pub stepped : Result RuleShape Refusal → (i : ℕ) → Reader → (somes : List ℕ) → Cursor → RuleTable → Result RuleScan Refusal
stepped (Err q) i read somes c t = Err q
stepped (Ok Leaf) i read somes c t = Ok (record { next = c.index; table = t })
stepped (Ok One) i read somes c t = scanned t (read somes c)
stepped (Ok Two) i read somes c t = onward i read somes t (read somes c)
stepped (Ok Choice) i read somes c t = scanned t (read (i ∷ somes) c)
stepped (Ok Place) i read somes c t = scanned (entered i c.number t) (read somes (next_part c))

-- the table forgets the rule's own word
scanned-one : (g : Rule → Rule) (t u : RuleTable) → ((r : Rule) → tabulate (g r) t ≡ tabulate r u) → (x : Reading (Rule × Cursor))
    → scanned t (x >>= λ p. got (g p.0, p.1)) ≡ scanned u x
unfolding ◌>>=◌ scanned
scanned-one g t u k (refuse q i) = refl
scanned-one g t u k (got p) = ap (λ (y : RuleTable). Ok (record { next = p.1.index; table = y })) (k p.0)

module _ (f around i : ℕ) (somes : List ℕ) (t : RuleTable) where
  abbrev read : Reader
  read = read_rule f (suc around)

  two-on : (g : Rule → Rule → Rule) → ((r q : Rule) → tabulate (g r q) t ≡ tabulate q (turned i (rule_index q) (tabulate r t))) → (p : Rule × Cursor) (x : Reading (Rule × Cursor)) → read somes p.1 ≡ x
      → scanned t (x >>= λ q. got (g p.0 q.0, q.1)) ≡ scanned (turned i p.1.index (tabulate p.0 t)) x
  unfolding ◌>>=◌ scanned
  two-on g k p (refuse q j) e = refl
  two-on g k p (got q) e =
      ap (λ (y : RuleTable). Ok (record { next = q.1.index; table = y }))
      (k p.0 q.0 ∙ ap (λ (m : ℕ). tabulate q.0 (turned i m (tabulate p.0 t))) (rule-read f (suc around) somes p.1 q e).index)

  scanned-two : (g : Rule → Rule → Rule) → ((r q : Rule) → tabulate (g r q) t ≡ tabulate q (turned i (rule_index q) (tabulate r t))) → (x : Reading (Rule × Cursor))
      → scanned t (x >>= λ p. read somes p.1 >>= λ q. got (g p.0 q.0, q.1)) ≡ onward i read somes t x
  unfolding ◌>>=◌ scanned
  scanned-two g k (refuse q j) = refl
  scanned-two g k (got p) = two-on g k p (read somes p.1) refl

  from-stepped : (k : RuleKind) (m : ℕ) (n : Term) (c : Cursor) → operand_fits k m ≡ true → scanned t (rule_from read k n i somes c) ≡ stepped (Ok (follow k)) i read somes c t
  unfolding rule_from follow one_rule two_rules tabulate scanned operand_fits
  from-stepped TRUE m n c e = refl
  from-stepped NOT m n c e = scanned-one (negation i) t t (λ r. refl) (read somes c)
  from-stepped OR m n c e = scanned-two (either i) (λ r q. refl) (read somes c)
  from-stepped VOID m n c e = refl
  from-stepped AT m n c e = scanned-one (at i n) t t (λ r. refl) (read somes c)
  from-stepped BESIDE m n c e = scanned-two (beside i) (λ r q. refl) (read somes c)
  from-stepped SOME m n c e = scanned-one (some-name i) t t (λ r. refl) (read (i ∷ somes) c)
  from-stepped SOMETIME m n c e = scanned-one (sometime i) t t (λ r. refl) (read somes c)
  from-stepped SOMEWHERE m n c e = scanned-one (somewhere i) t t (λ r. refl) (read somes c)
  from-stepped PLACED m n c e = scanned-one (Rule.placed i c.number n) t (entered i c.number t) (λ r. refl) (read somes (next_part c))
  from-stepped OTHER m n c e = absurd (false≢true e)

  questions : (x y z : Bool) (a : RuleShape) (c : Cursor) (w : Reading (Rule × Cursor)) → (x ≡ true → scanned t w ≡ stepped (Ok a) i read somes c t)
      → scanned t (ask 8 i x >>= λ _. ask 9 i y >>= λ _. ask 10 i z >>= λ _. w) ≡ stepped (cond x (cond y (cond z (Ok a) (refusal_at 10 i)) (refusal_at 9 i)) (refusal_at 8 i)) i read somes c t
  unfolding ◌>>=◌ ask scanned
  questions false y z a c w h = refl
  questions true false z a c w h = refl
  questions true true false a c w h = refl
  questions true true true a c w h = h refl

  pub step : (n w : ℕ) (ws : List ℕ) → scanned t (read_rule (suc f) around somes (cursor i n (w ∷ ws))) ≡ stepped (asked i around somes (rule_kind w) (operand w)) i read somes (cursor (suc i) n ws) t
  unfolding read_rule take_word asked levelled
  step n w ws =
      ap (scanned t) (bind-got (take_word 11 i n (w ∷ ws)) _ (w, cursor (suc i) n ws) refl)
      ∙ questions (operand_fits (rule_kind w) (operand w)) (bound somes (rule_kind w) (operand w)) (leb around 64 && leb (somes_with (rule_kind w) (length somes)) 8) (follow (rule_kind w)) (cursor (suc i) n ws) _
      (from-stepped (rule_kind w) (operand w) (term_of (operand w)) (cursor (suc i) n ws))

-- A rewriting that needs the part t in its body is made in the one body in which t stands, and what it does to that body
-- it does to the whole. Assumes nothing.
use Prim.Native.Nat.{ℕ, ◌+◌, ◌≤◌, ◌<◌}
use mathlib.Core.Bool.{Bool, true, false, cond}
use mathlib.Core.List.{List, ◌∷◌}
use mathlib.Core.Logic.{◌⊎◌, inl, inr}
use mathlib.Core.Option.{Option, none, some, or_else}
use mathlib.Core.Path.{◌≡◌, refl, sym, ap, ◌∙◌, subst}
use native.Mathlib.Omega.{arith}
use lib.Dec.{eqb, ltb}
use borrow.Author.Tests.{ltb-true, ltb-false, lt-ltb, le-ltb}
use Rattle.base_sets.specs.Sets.{elem}
use Rattle.read_scripts.specs.Tree.{close, part, one_if, tops, total_over, times_in}
use Rattle.read_scripts.specs.Represents.{Held}
use Rattle.theory_machine.specs.Moves.{MoveMade, is_named, head_name, onward, inside, anywhere}
use Rattle.base_slices.proofs.Tests.{by_test}
use Rattle.read_scripts.proofs.Numbers.{own-times}
use Rattle.theory_closures.specs.Closure.{Action, ClosureHead, Closure, Bindings, view_under}
use Rattle.engine_states.specs.Searches.{first_home, home_below, home}
use Rattle.engine_states.proofs.Holding.{numbers_total, in-times, not_in, numbers-differ, frame}

-- the search in one part of a body and in those beside it: u says whether the part has a name
abbrev around : ℕ → ClosureHead → (b r : Closure) → (u : Bool) → (x z : Option (MoveMade Action)) → Option (MoveMade Action)
around i h b r u x z = or_else (onward (λ c. part i h c r) (cond u x none)) (onward (λ q. part i h b q) z)

module _ (i : ℕ) (h : ClosureHead) (b r : Closure) where
  around-none : (u : Bool) (x z : Option (MoveMade Action)) → x ≡ none → z ≡ none → around i h b r u x z ≡ none
  unfolding or_else onward
  around-none true x z d e = rw (d, e)
  around-none false x z d e = rw e

  around-in : (m : MoveMade Action) (x z : Option (MoveMade Action)) → x ≡ some m → around i h b r true x z ≡ some (record { body = part i h m.body r; news = m.news })
  unfolding or_else onward
  around-in m x z e = rw e

  around-beside : (m : MoveMade Action) (u : Bool) (x z : Option (MoveMade Action)) → x ≡ none → z ≡ some m → around i h b r u x z ≡ some (record { body = part i h b m.body; news = m.news })
  unfolding or_else onward
  around-beside m true x z d e = rw (d, e)
  around-beside m false x z d e = rw e

module _ (σ : Bindings) (k : ℕ → List ℕ) (w : ℕ → ClosureHead) (t : ℕ) (g : Closure → Option (MoveMade Action))
    (needs : (s : Closure) → elem t (tops s) ≡ false → g s ≡ none) where
  -- ---- where t does not stand, and where it stands at the top, nothing is made inside

  at_top : (s : Closure) → inside (view_under σ) g s ≡ none → or_else (g s) (inside (view_under σ) g s) ≡ g s
  unfolding or_else
  at_top s e = ap (or_else (g s)) e ∙ or-none (g s)
    where
      or-none : (x : Option (MoveMade Action)) → or_else x none ≡ x
      or-none none = refl
      or-none (some m) = refl

  not_top : (s : Closure) → elem t (tops s) ≡ false → or_else (g s) (inside (view_under σ) g s) ≡ inside (view_under σ) g s
  unfolding or_else
  not_top s e = rw (needs s e)

  inside-out : (f : Closure) → times_in t f ≡ 0 → inside (view_under σ) g f ≡ none
  unfolding inside total_over
  inside-out close e = refl
  inside-out (part i h b r) e =
      around-none i h b r (is_named (head_name (view_under σ) h)) _ _ (not_top b (not_in t b (omega arith)) ∙ inside-out b (omega arith)) (inside-out r (omega arith))

  inside-top : (f : Closure) → times_in t f ≤ 1 → elem t (tops f) ≡ true → inside (view_under σ) g f ≡ none
  unfolding inside total_over tops elem
  inside-top close n e = refl
  inside-top (part i h b r) n e = by_test (eqb t i)
      (λ u.
      let m : 1 + (times_in t b + times_in t r) ≤ 1 = rw u at n in
      only (omega arith) (inside-out r (omega arith)))
      (λ u.
      let q : elem t (tops r) ≡ true = rw u at e in
      only (omega (arith, in-times t r q)) (inside-top r (omega arith) q))
    where
      only : times_in t b ≡ 0 → inside (view_under σ) g r ≡ none → inside (view_under σ) g (part i h b r) ≡ none
      only x y = around-none i h b r (is_named (head_name (view_under σ) h)) _ _ (not_top b (not_in t b x) ∙ inside-out b x) y

  -- ---- the body in which t stands

  -- the bodies and heads after the body `here` of the part b has become n's: nothing else has changed
  pub record Change (b : ℕ) (here : Closure) (k' : ℕ → List ℕ) (w' : ℕ → ClosureHead) (n : MoveMade Action) : Type 0 where
    pub own : k' b ≡ tops n.body
    pub held : Held k' w' n.body
    pub head : w b ≡ w' b
    pub rest : (i : ℕ) → (i ≡ b → ⊥) → times_in i here ≡ 0 → (k i ≡ k' i) × (w i ≡ w' i)

  -- what then becomes of f, whose search came to look
  pub record Made (f here : Closure) (k' : ℕ → List ℕ) (w' : ℕ → ClosureHead) (n : MoveMade Action) (look : Option (MoveMade Action)) : Type 0 where
    pub moved : MoveMade Action
    pub is : look ≡ some moved
    pub held : Held k' w' moved.body
    pub totals : (v : ℕ → ℕ) → numbers_total v moved.body + numbers_total v here ≡ numbers_total v f + numbers_total v n.body
    pub news : moved.news ≡ n.news

  -- b is the part inside f in whose body, `here`, t stands
  pub record Focus (f : Closure) (b : ℕ) (look : Option (MoveMade Action)) : Type 0 where
    pub here : Closure
    pub stands : elem t (tops here) ≡ true
    pub body : k b ≡ tops here
    pub held : Held k w here
    pub less : (v : ℕ → ℕ) → numbers_total v here ≤ numbers_total v f
    pub apart : times_in b here ≡ 0
    pub within : 1 ≤ times_in b f
    pub fails : g here ≡ none → look ≡ none
    pub works : (n : MoveMade Action) → g here ≡ some n → (m : MoveMade Action) × (look ≡ some m)
    pub makes : (n : MoveMade Action) (k' : ℕ → List ℕ) (w' : ℕ → ClosureHead) → g here ≡ some n → Change b here k' w' n
        → (M : Made f here k' w' n look) × (tops M.moved.body ≡ tops f)

  -- what does not stand in f has not changed
  outside : (f : Closure) (b : ℕ) (look : Option (MoveMade Action)) (F : Focus f b look) (k' : ℕ → List ℕ) (w' : ℕ → ClosureHead) (n : MoveMade Action)
      → Change b F.here k' w' n → (j : ℕ) → times_in j f ≡ 0 → (k j ≡ k' j) × (w j ≡ w' j)
  outside f b look F k' w' n C j z =
      C.rest j (λ e. numbers-differ b j f F.within z (sym e)) (omega (arith, F.less (λ i. one_if (eqb j i))))

  module _ (i : ℕ) (h : ClosureHead) (s r : Closure) (once : (j : ℕ) → times_in j (part i h s r) ≤ 1) (p : Held k w (part i h s r)) where
    beside : (b : ℕ) (u : Bool) (x z : Option (MoveMade Action)) → x ≡ none → Focus r b z → Focus (part i h s r) b (around i h s r u x z)
    unfolding total_over tops
    beside b u x z d F = record {
      here = F.here;
      stands = F.stands;
      body = F.body;
      held = F.held;
      less = λ v. omega (arith, F.less v);
      apart = F.apart;
      within = omega (arith, F.within);
      fails = λ e. around-none i h s r u x z d (F.fails e);
      works = λ n e. let (m, q) = F.works n e in (record { body = part i h s m.body; news = m.news }, around-beside i h s r m u x z d q);
      makes =
          λ n k' w' e C.
          let (M, o) = F.makes n k' w' e C in
          let a = outside r b z F k' w' n C in
          let ai = a i (omega (arith, once i, own-times i)) in (
            record {
              moved = record { body = part i h s M.moved.body; news = M.moved.news };
              is = around-beside i h s r M.moved u x z d M.is;
              held = (
                sym ai.0 ∙ p.0,
                sym ai.1 ∙ p.1,
                frame k k' w w' s p.2 (λ j l. a j (omega (arith, once j))),
                M.held,
              );
              totals = λ v. omega (arith, M.totals v);
              news = M.news;
            },
            ap (λ (l : List ℕ). i ∷ l) o,
          );
    }

    into : (b : ℕ) (x : Option (MoveMade Action)) → Focus s b x → Focus (part i h s r) b (around i h s r true x (inside (view_under σ) g r))
    unfolding total_over tops
    into b x F = record {
      here = F.here;
      stands = F.stands;
      body = F.body;
      held = F.held;
      less = λ v. omega (arith, F.less v);
      apart = F.apart;
      within = omega (arith, F.within);
      works = λ n e. let (m, q) = F.works n e in (record { body = part i h m.body r; news = m.news }, around-in i h s r m x _ q);
      fails = λ e. around-none i h s r true x _ (F.fails e) (inside-out r (omega (arith, once t, F.less (λ i. one_if (eqb t i)), in-times t F.here F.stands)));
      makes =
          λ n k' w' e C.
          let (M, o) = F.makes n k' w' e C in
          let a = outside s b x F k' w' n C in
          let ai = a i (omega (arith, once i, own-times i)) in (
            record {
              moved = record { body = part i h M.moved.body r; news = M.moved.news };
              is = around-in i h s r M.moved x _ M.is;
              held = (
                sym ai.0 ∙ p.0 ∙ sym o,
                sym ai.1 ∙ p.1,
                M.held,
                frame k k' w w' r p.3 (λ j l. a j (omega (arith, once j))),
              );
              totals = λ v. omega (arith, M.totals v);
              news = M.news;
            },
            refl,
          );
    }

    right-here : (x : Option (MoveMade Action)) → x ≡ g s → elem t (tops s) ≡ true → Focus (part i h s r) i (around i h s r true x (inside (view_under σ) g r))
    unfolding total_over tops
    right-here x q e = record {
      here = s;
      stands = e;
      body = p.0;
      held = p.2;
      less = λ v. omega arith;
      apart = omega (arith, once i, own-times i);
      within = omega (arith, own-times i);
      works = λ n z. (record { body = part i h n.body r; news = n.news }, around-in i h s r n x _ (q ∙ z));
      fails = λ z. around-none i h s r true x _ (q ∙ z) (inside-out r (omega (arith, once t, in-times t s e)));
      makes =
          λ n k' w' z C. (
            record {
              moved = record { body = part i h n.body r; news = n.news };
              is = around-in i h s r n x _ (q ∙ z);
              held = (
                C.own,
                sym C.head ∙ p.1,
                C.held,
                frame k k' w w' r p.3 (λ j l. C.rest j (λ v. numbers-differ j i r l (omega (arith, once i, own-times i)) v) (omega (arith, once j))),
              );
              totals = λ v. omega arith;
              news = refl;
            },
            refl,
          );
    }

  abbrev Seen : Closure → ℕ → Option (MoveMade Action) → Type 0
  Seen f p look = ((p ≡ 65) × (look ≡ none)) ⊎ ((p < 64) × Focus f p look)

  past : (p q : ℕ) → p ≡ 65 → first_home p q ≡ q
  past p q e = ap (λ (u : Bool). cond u p q) (le-ltb p 65 (omega arith))

  first : (p q : ℕ) → p < 64 → first_home p q ≡ p
  first p q l = ap (λ (u : Bool). cond u p q) (lt-ltb p 65 (omega arith))

  -- the search finds the body, or there is nothing to change
  focus : (f : Closure) → ((j : ℕ) → times_in j f ≤ 1) → ((j : ℕ) → 64 ≤ j → times_in j f ≡ 0) → Held k w f → Seen f (home_below σ t f) (inside (view_under σ) g f)
  unfolding total_over inside home_below
  focus close once low held = inl (refl, refl)
  focus (part i h s r) once low held =
      go (is_named (head_name (view_under σ) h)) (elem t (tops s)) refl
      (focus s (λ j. omega (arith, once j)) (λ j l. omega (arith, low j l)) held.2)
      (focus r (λ j. omega (arith, once j)) (λ j l. omega (arith, low j l)) held.3)
    where
      small : i < 64
      small = by_test (ltb i 64) (λ u. ltb-true i 64 u) (λ u. absurd (let z : ⊥ = omega (arith, low i (ltb-false i 64 u), own-times i) in z))

      look : Bool → Option (MoveMade Action) → Option (MoveMade Action)
      look u x = around i h s r u x (inside (view_under σ) g r)

      next : (p : ℕ) (u : Bool) (x : Option (MoveMade Action)) → p ≡ 65 → x ≡ none → Seen r (home_below σ t r) (inside (view_under σ) g r)
          → Seen (part i h s r) (first_home p (home_below σ t r)) (look u x)
      next p u x e d (inl z) = inl (past p (home_below σ t r) e ∙ z.0, around-none i h s r u x _ d z.1)
      next p u x e d (inr z) =
          subst (λ (n : ℕ). Seen (part i h s r) n (look u x)) (sym (past p (home_below σ t r) e))
          (inr (z.0, beside i h s r once held (home_below σ t r) u x _ d z.1))

      go : (u e : Bool) → elem t (tops s) ≡ e → Seen s (home_below σ t s) (inside (view_under σ) g s) → Seen r (home_below σ t r) (inside (view_under σ) g r)
          → Seen (part i h s r) (first_home (cond u (cond e i (home_below σ t s)) 65) (home_below σ t r)) (look u (or_else (g s) (inside (view_under σ) g s)))
      go true true e a b =
          subst (λ (n : ℕ). Seen (part i h s r) n (look true (or_else (g s) (inside (view_under σ) g s)))) (sym (first i (home_below σ t r) small))
          (inr (small, right-here i h s r once held _ (at_top s (inside-top s (omega (arith, once t)) e)) e))
      go true false e (inl a) b = next (home_below σ t s) true _ a.0 (not_top s e ∙ a.1) b
      go true false e (inr a) b =
          subst (λ (n : ℕ). Seen (part i h s r) n (look true (or_else (g s) (inside (view_under σ) g s)))) (sym (first (home_below σ t s) (home_below σ t r) a.0))
          (inr (a.0, into i h s r once held (home_below σ t s) _ (subst (Focus s (home_below σ t s)) (sym (not_top s e)) a.1)))
      go false e q a b = next 65 false none refl refl b

  -- the same from the top: b is the part in whose body, `here`, t stands, 64 for the top
  pub record Site (f : Closure) (b : ℕ) : Type 0 where
    pub here : Closure
    pub stands : elem t (tops here) ≡ true
    pub body : k b ≡ tops here
    pub held : Held k w here
    pub less : (v : ℕ → ℕ) → numbers_total v here ≤ numbers_total v f
    pub apart : times_in b here ≡ 0
    pub fails : g here ≡ none → anywhere (view_under σ) g f ≡ none
    pub works : (n : MoveMade Action) → g here ≡ some n → (m : MoveMade Action) × (anywhere (view_under σ) g f ≡ some m)
    pub makes : (n : MoveMade Action) (k' : ℕ → List ℕ) (w' : ℕ → ClosureHead) → g here ≡ some n → Change b here k' w' n
        → (M : Made f here k' w' n (anywhere (view_under σ) g f)) × (k' 64 ≡ tops M.moved.body)

  -- THEOREM: a rewriting that needs t is made nowhere but in the body in which t stands.
  pub site : (f : Closure) → k 64 ≡ tops f → ((j : ℕ) → times_in j f ≤ 1) → ((j : ℕ) → 64 ≤ j → times_in j f ≡ 0) → Held k w f
      → ((home σ t f ≡ 65) × (anywhere (view_under σ) g f ≡ none)) ⊎ ((home σ t f < 65) × Site f (home σ t f))
  unfolding home
  site f top once low held = by_test (elem t (tops f))
      (λ e.
      let same = at_top f (inside-top f (once t) e) in
      rw e (inr (
        omega arith,
        record {
          here = f;
          stands = e;
          body = top;
          held = held;
          less = λ v. omega arith;
          apart = low 64 (omega arith);
          fails = λ z. same ∙ z;
          works = λ n z. (n, same ∙ z);
          makes = λ n k' w' z C. (record { moved = n; is = same ∙ z; held = C.held; totals = λ v. omega arith; news = refl }, C.own);
        },
      )))
      (λ e. rw e (deep (not_top f e) (focus f once low held)))
    where
      deep : anywhere (view_under σ) g f ≡ inside (view_under σ) g f → Seen f (home_below σ t f) (inside (view_under σ) g f)
          → ((home_below σ t f ≡ 65) × (anywhere (view_under σ) g f ≡ none)) ⊎ ((home_below σ t f < 65) × Site f (home_below σ t f))
      deep same (inl z) = inl (z.0, same ∙ z.1)
      deep same (inr z) =
          let F = z.1 in
          inr (
            omega (arith, z.0),
            record {
              here = F.here;
              stands = F.stands;
              body = F.body;
              held = F.held;
              less = F.less;
              apart = F.apart;
              fails = λ e. same ∙ F.fails e;
              works = λ n e. let (m, q) = F.works n e in (m, same ∙ q);
              makes =
                  λ n k' w' e C.
                  let (M, o) = F.makes n k' w' e C in (
                    record { moved = M.moved; is = same ∙ M.is; held = M.held; totals = M.totals; news = M.news },
                    sym (outside f _ _ F k' w' n C 64 (low 64 (omega arith))).0 ∙ top ∙ sym o,
                  );
            },
          )

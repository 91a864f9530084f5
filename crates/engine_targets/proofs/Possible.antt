-- A closure allows the moves that the tests of its parts name, and no others. Assumes nothing.
use Prim.Native.Nat.{ℕ, ◌<◌}
use mathlib.Core.Bool.{Bool, true, false, not, ◌||◌, true≢false}
use mathlib.Core.List.{List}
use mathlib.Core.Logic.{◌⊎◌, inl, inr}
use mathlib.Core.Option.{Option, none, some}
use mathlib.Core.Path.{◌≡◌, refl, sym, ap, ◌∙◌}
use native.Mathlib.Omega.{arith}
use borrow.Author.Tests.{eqb-false, eq-eqb, ne_eqb, lt-ltb}
use Rattle.read_messages.specs.Message.{Message}
use Rattle.read_messages.specs.Message.{Named}
use Rattle.std.specs.Prelude.{Some}
use Rattle.base_sets.specs.Sets.{elem}
use Rattle.read_scripts.specs.Tree.{receipt, output, tops}
use Rattle.theory_machine.specs.Moves.{MoveMade, is_named, same_name, to_enter, to_exit, to_open, variable_of, message_of, head_name, first_of, move_here, anywhere}
use Rattle.theory_machine.proofs.Inversion.{Here, by-open, by-receive, by-enter, by-exit, here-inv}
use Rattle.base_slices.proofs.Tests.{by_test}
use Rattle.theory_closures.specs.Closure.{Action, ClosureHead, Closure, Bindings, view_under, settled_under, closure_move}
use Rattle.engine_states.specs.Searches.{home, HeldOnce}
use Rattle.engine_states.proofs.Holding.{found-inv}
use Rattle.engine_states.proofs.Focus.{site}
use Rattle.engine_states.proofs.Homes.{home-low, home_of}
use Rattle.engine_targets.specs.Targets.{is_some, can_open, can_receive, can_enter, can_exit, can_move_from, can_move}
use Rattle.engine_targets.proofs.Actors.{receive-what}
use Rattle.engine_targets.proofs.Acting.{both, here-needs, Spot, stands, active, open_at, receive-at, enter-at, exit-at}

either : (x : Bool) {y : Bool} → (x ≡ false → y ≡ true) → (x || y) ≡ true
either true f = refl
either false f = f refl

same-name : {x y : Named} (n : ℕ) → x ≡ Some n → y ≡ Some n → same_name x y ≡ true
unfolding same_name
same-name n d e = rw (d, e) (eq-eqb n n refl)

module _ (σ : Bindings) (k : ℕ → List ℕ) (w : ℕ → ClosureHead) (f : Closure) (Q : HeldOnce k w f) (a t : ℕ) where
  abbrev at : ℕ → ℕ
  at i = home σ i f

  abbrev In : ℕ → Type 0
  In b = Spot σ k w f a t b

  by_name : (h : ClosureHead) (n : ℕ) → head_name (view_under σ) h ≡ Some n → is_named (head_name (view_under σ) h) ≡ true
  unfolding is_named
  by_name h n e = ap is_named e

  -- a part in the body of a named ambient that has a home
  within : (x p : ℕ) (h : ClosureHead) (n : ℕ) → at p < 65 → w p ≡ h → head_name (view_under σ) h ≡ Some n → elem x (k p) ≡ true → at x ≡ p
  within x p h n l e named m =
      home_of σ k w f Q p x (inr (home-low σ k w f Q p l, l, by_name (w p) n (ap (head_name (view_under σ)) e ∙ named))) m

  module _ (S : In (at t)) (placed : at t < 65) where
    in_body : (x : ℕ) → elem x (tops S.here) ≡ true → at x ≡ at t
    in_body x e = home_of σ k w f Q (at t) x (active σ k w f Q t placed) (ap (elem x) S.body ∙ e)

    could : (c : Closure) (news : List (ℕ × Message)) → Here (view_under σ) a t S.here c news → can_move σ k w at a t ≡ true
    unfolding can_move can_move_from can_open can_receive can_enter can_exit is_some variable_of message_of to_open to_enter to_exit
    could c news (by-open x e) =
        let A = found-inv k w a S.here x.after x.doer S.held x.actor in
        let T = found-inv k w t S.here x.room x.goal S.held x.target in
        let p : at a ≡ at t = in_body a A.0 in
        ap (λ (u : Bool). u || (can_receive σ k w (at a) a t || (can_enter σ k w (at a) (at (at a)) a t || can_exit σ k w (at a) (at (at a)) a t)))
        (both (lt-ltb (at a) 65 (omega arith))
        (both (ap (λ (b : ℕ). elem t (k b)) p ∙ stands σ k w f Q t placed)
        (same-name x.sought (ap (λ (h : ClosureHead). to_open (first_of (view_under σ) h)) A.1 ∙ ap to_open x.asked) (ap (head_name (view_under σ)) T.1 ∙ x.named))))
    could c news (by-receive x) =
        let A = found-inv k w a S.here x.after (receipt x.bound) S.held x.actor in
        let T = found-inv k w t S.here x.idle (output x.sent) S.held x.target in
        let p : at a ≡ at t = in_body a A.0 in
        either (can_open σ k w (at a) a t) (λ z. ap (λ (u : Bool). u || (can_enter σ k w (at a) (at (at a)) a t || can_exit σ k w (at a) (at (at a)) a t))
        (both (lt-ltb (at a) 65 (omega arith))
        (both (ap (λ (b : ℕ). elem t (k b)) p ∙ stands σ k w f Q t placed)
        (both (ap (λ (h : ClosureHead). is_some (variable_of h)) A.1) (ap (λ (h : ClosureHead). is_some (message_of h)) T.1)))))
    could c news (by-enter x e) =
        let T = found-inv k w t S.here x.room x.goal S.held x.target in
        let P = found-inv k w x.mover S.here x.inside x.shell S.held x.around in
        let A = found-inv k w a x.inside x.after x.doer P.3 x.actor in
        let q : at x.mover ≡ at t = in_body x.mover P.0 in
        let p : at a ≡ x.mover = within a x.mover x.shell x.own (omega arith) P.1 x.shell-named (ap (elem a) P.2 ∙ A.0) in
        let r : at (at a) ≡ at t = ap at p ∙ q in
        let small : x.mover < 64 = home-low σ k w f Q x.mover (omega arith) in
        let two : t ≡ at a → ⊥ = λ z. eqb-false x.mover t x.another (sym (z ∙ p)) in
        either (can_open σ k w (at a) a t) (λ y. either (can_receive σ k w (at a) a t) (λ z. ap (λ (u : Bool). u || can_exit σ k w (at a) (at (at a)) a t)
        (both (lt-ltb (at a) 64 (omega arith))
        (both (lt-ltb (at (at a)) 65 (omega arith))
        (both (ap (λ (b : ℕ). elem t (k b)) r ∙ stands σ k w f Q t placed)
        (both (ap not (ne_eqb t (at a) two))
        (same-name x.sought (ap (λ (h : ClosureHead). to_enter (first_of (view_under σ) h)) A.1 ∙ ap to_enter x.asked) (ap (head_name (view_under σ)) T.1 ∙ x.named))))))))
    could c news (by-exit x e) =
        let T = found-inv k w t S.here x.room x.goal S.held x.target in
        let P = found-inv k w x.mover x.room x.inside x.shell T.3 x.around in
        let A = found-inv k w a x.inside x.after x.doer P.3 x.actor in
        let small : t < 64 = home-low σ k w f Q t placed in
        let q : at x.mover ≡ t = within x.mover t x.goal x.sought placed T.1 x.named (ap (elem x.mover) T.2 ∙ P.0) in
        let p : at a ≡ x.mover = within a x.mover x.shell x.own (omega arith) P.1 x.shell-named (ap (elem a) P.2 ∙ A.0) in
        let r : at (at a) ≡ t = ap at p ∙ q in
        let less : x.mover < 64 = home-low σ k w f Q x.mover (omega arith) in
        either (can_open σ k w (at a) a t) (λ y. either (can_receive σ k w (at a) a t) (λ z. either (can_enter σ k w (at a) (at (at a)) a t) (λ v.
        both (lt-ltb (at a) 64 (omega arith))
        (both (lt-ltb (at (at a)) 64 (omega arith))
        (both (eq-eqb t (at (at a)) (sym r))
        (same-name x.sought (ap (λ (h : ClosureHead). to_exit (first_of (view_under σ) h)) A.1 ∙ ap to_exit x.asked) (ap (λ (b : ℕ). head_name (view_under σ) (w b)) r ∙ ap (head_name (view_under σ)) T.1 ∙ x.named)))))))

  made : (b : ℕ) (S : In b) (n : MoveMade Action) → move_here (view_under σ) a t S.here ≡ some n → is_some (closure_move σ a t f) ≡ true
  unfolding closure_move settled_under is_some
  made b S n e = ap (λ (o : Option (MoveMade Action)). is_some (settled_under σ o)) (S.works n e).1

  not_made : anywhere (view_under σ) (move_here (view_under σ) a t) f ≡ none → is_some (closure_move σ a t f) ≡ false
  unfolding closure_move settled_under is_some
  not_made e = ap (λ (o : Option (MoveMade Action)). is_some (settled_under σ o)) e

  can : can_move σ k w at a t ≡ true → is_some (closure_move σ a t f) ≡ true
  unfolding can_move can_move_from
  can e = by_test (can_open σ k w (at a) a t)
      (λ u. let x = open_at σ k w f Q a t u in made (at a) x.0 _ x.3)
      (λ u. by_test (can_receive σ k w (at a) a t)
      (λ v.
      let y = receive-what σ k w (at a) (at (at a)) a t v in
      let x = receive-at σ k w f Q a t v y.0 y.1 y.2 y.3 in
      made (at a) x.0 _ x.2)
      (λ v. by_test (can_enter σ k w (at a) (at (at a)) a t)
      (λ z. let x = enter-at σ k w f Q a t z in made (at (at a)) x.0 _ x.4)
      (λ z. let x = exit-at σ k w f Q a t (rw (u, v, z) at e) in made (at t) x.0 _ x.3)))

  cannot : can_move σ k w at a t ≡ false → is_some (closure_move σ a t f) ≡ false
  cannot e = not_made (pick (site σ k w t (move_here (view_under σ) a t) (here-needs σ a t) f Q.top Q.once Q.low Q.held))
    where
      none_here : (S : In (at t)) → at t < 65 → (o : Option (MoveMade Action)) → move_here (view_under σ) a t S.here ≡ o → anywhere (view_under σ) (move_here (view_under σ) a t) f ≡ none
      none_here S l none q = S.fails q
      none_here S l (some n) q = absurd (true≢false (sym (could S l n.body n.news (here-inv (view_under σ) a t S.here n q)) ∙ e))

      pick : ((at t ≡ 65) × (anywhere (view_under σ) (move_here (view_under σ) a t) f ≡ none)) ⊎ ((at t < 65) × In (at t)) → anywhere (view_under σ) (move_here (view_under σ) a t) f ≡ none
      pick (inl z) = z.1
      pick (inr z) = none_here z.1 z.0 (move_here (view_under σ) a t z.1.here) refl

  -- THEOREM: the closure allows the moves that the tests name, and no others.
  pub possible : is_some (closure_move σ a t f) ≡ can_move σ k w (λ i. home σ i f) a t
  possible = by_test (can_move σ k w at a t) (λ e. can e ∙ sym e) (λ e. cannot e ∙ sym e)

-- THE SIMULATION: the plain machine can make a move on the tree that a closure unfolds to exactly if the closure machine can
-- make it on the closure, and what it leaves is the tree that the new closure unfolds to. Assumes nothing.
use Prim.Native.Nat.compare
use Prim.Native.Nat.{ℕ, zero, suc, ◌+◌, ◌≤◌}
use mathlib.Core.Bool.{false}
use mathlib.Core.List.{List, [], ◌∷◌, ◌++◌}
use mathlib.Core.Path.{◌≡◌, refl, sym, ap, ap₂, ◌∙◌}
use mathlib.Core.Option.{Option, none, some, map}
use native.Mathlib.Omega.{arith}
use lib.Dec.{eqb, leb}
use lib.ListN.{length, drop}
use borrow.Author.Tests.{le-leb, lt-leb}
use Rattle.read_messages.specs.Message.{Message, items, name_of, first_item, substitute, mentions}
use Rattle.std.specs.Prelude.{Some}
use Rattle.read_scripts.specs.Tree.{ambient, action, receipt, output, close, part, one_if, total_over, merge_parts, map_heads, no_items, bare, settle, PlainHead, Plain}
use Rattle.theory_closures.specs.Resolve.{resolve}
use Rattle.base_slices.proofs.Tests.{eqb_same}
use Rattle.read_scripts.proofs.Numbers.{one_none}
use Rattle.read_scripts.proofs.Scopes.{receives}
use Rattle.theory_closures.proofs.Substitution.{New, substitute-fresh, resolve-substitute, items-substitute}
use Rattle.theory_machine.specs.Bodies.{find_part, remove_part}
use Rattle.theory_machine.specs.Moves.{MoveMade, head_name, move_here, anywhere}
use Rattle.theory_machine.specs.PlainMachine.{rest, substitute_head, substitute_body, plain, settled_by, move}
use Rattle.theory_machine.proofs.Naturality.{renamed-same, asked-same, map_head, is_ambient-map, Translates, named-map, merge-map, settle-map, receive-map, here-map, anywhere-map}
use Rattle.theory_closures.specs.Closure.{Action, ClosureHead, Closure, Bindings, items_left, view_under, all_spent, settle_under, settled_under, closure_move, unfold_head, unfolded, plain_news, unfolded_move}
use Rattle.theory_closures.proofs.Tallies.{tally_of, of-remove_part, of-find, of_part, named-open, TallyStep, spends, takes, makes-step}
use Rattle.theory_closures.proofs.Invariant.{mentions-fresh, mentions_in, spent_in, receipts, loose, Good, good-inside, good-rest, bound-received}

-- Unfolding is a change of heads as Naturality has them.
abbrev U : Bindings → ClosureHead → PlainHead
U σ = map_head (items_left σ) (resolve σ)

unfold-head : (σ : Bindings) (h : ClosureHead) → unfold_head σ h ≡ U σ h
unfolding unfold_head map_head
unfold-head σ (ambient m) = refl
unfold-head σ (action a) = refl
unfold-head σ (receipt v) = refl
unfold-head σ (output m) = refl

unfolded-map : (σ : Bindings) (b : Closure) → unfolded σ b ≡ map_heads (U σ) b
unfolding unfolded map_heads
unfolded-map σ close = refl
unfolded-map σ (part i h b r) = rw (unfold-head σ h, unfolded-map σ b, unfolded-map σ r)

rest-drop : (o : ℕ) (l : List Message) → rest (drop o l) ≡ drop (suc o) l
unfolding rest
rest-drop zero [] = refl
rest-drop (suc o) [] = refl
rest-drop zero (m ∷ l) = refl
rest-drop (suc o) (m ∷ l) = rest-drop o l

pub none_left_lem : (o : ℕ) (l : List Message) → no_items (drop o l) ≡ leb (length l) o
none_left_lem zero [] = refl
none_left_lem (suc o) [] = sym (le-leb 0 (suc o) (omega arith))
none_left_lem zero (m ∷ l) = sym (lt-leb (length (m ∷ l)) 0 (omega arith))
none_left_lem (suc o) (m ∷ l) = rw (compare.suc-suc (length l) o) (none_left_lem o l)

-- the plain machine reads what is unfolded as the closure machine reads the closure
translates : (σ : Bindings) → Translates (view_under σ) plain (items_left σ) (resolve σ) (λ n. n)
unfolding items_left
translates σ = record {
  injective = λ m n. refl;
  named = λ m. renamed-same (name_of (resolve σ m));
  first = λ a. asked-same (first_item (items_left σ a));
  spent = λ a. rest-drop a.offset (items (resolve σ a.message));
}

-- WHAT A NEW BINDING DOES.
module _ (v : ℕ) (r : Message) (σ : Bindings) where
  -- where its variable is not used: nothing
  still : (m : Message) → mentions v m ≡ 0 → resolve ((v, r) ∷ σ) m ≡ resolve σ m
  unfolding resolve
  still m z = ap (resolve σ) (substitute-fresh v r m (mentions-fresh v m z))

  still-head : (h : ClosureHead) → mentions_in v h ≡ 0 → U ((v, r) ∷ σ) h ≡ U σ h
  unfolding map_head items_left
  still-head (ambient m) z = ap ambient (still m z)
  still-head (action a) z = ap (λ (m : Message). action (drop a.offset (items m))) (still a.message z)
  still-head (receipt u) z = refl
  still-head (output m) z = ap output (still m z)

  still-body : (b : Closure) → tally_of (receipts v) b ≡ 0 → tally_of (loose v) b ≡ 0 → map_heads (U ((v, r) ∷ σ)) b ≡ map_heads (U σ) b
  unfolding map_heads tally_of
  still-body close c z = refl
  still-body (part i h b s) c z =
      let o : receives v h ≡ false = one_none (receives v h) (omega arith) in
      let w : mentions_in v h + (tally_of (loose v) b + tally_of (loose v) s) ≡ 0 = rw o at z in
      rw (still-head h (omega arith), still-body b (omega arith) (omega arith), still-body s (omega arith) (omega arith))

  -- inside its receipt: it substitutes
  module _ (fresh : New v σ) where
    filled : (m : Message) → resolve ((v, r) ∷ σ) m ≡ substitute v (resolve σ r) (resolve σ m)
    unfolding resolve
    filled m = resolve-substitute σ v r m fresh

    filled-head : (h : ClosureHead) → spent_in h ≡ 0 → U ((v, r) ∷ σ) h ≡ substitute_head v (resolve σ r) (U σ h)
    unfolding map_head items_left substitute_head
    filled-head (ambient m) z = ap ambient (filled m)
    filled-head (action a) z = rw (z, filled a.message) (ap action (items-substitute v (resolve σ r) (resolve σ a.message)))
    filled-head (receipt u) z = refl
    filled-head (output m) z = ap output (filled m)

    filled-body : (b : Closure) → total_over (λ k h. spent_in h) b ≡ 0 → map_heads (U ((v, r) ∷ σ)) b ≡ substitute_body v (resolve σ r) (map_heads (U σ) b)
    unfolding map_heads total_over substitute_body
    filled-body close z = refl
    filled-body (part i h b s) z = rw (filled-head h (omega arith), filled-body b (omega arith), filled-body s (omega arith))

-- what a move comes to, unfolded
abbrev K : Bindings → MoveMade Action → MoveMade (List Message)
K σ m = record { body = map_heads (U (m.news ++ σ)) m.body; news = plain_news σ m.news }

module _ (σ : Bindings) where
  -- a receipt that is made
  received : (a v : ℕ) (m : Message) (b s : Closure) → Good σ b → find_part a b ≡ some (receipt v, s) → (t : ℕ) →
      merge_parts (substitute_body v (resolve σ m) (map_heads (U σ) s)) (map_heads (U σ) (remove_part t (remove_part a b))) ≡ map_heads (U ((v, m) ∷ σ)) (merge_parts s (remove_part t (remove_part a b)))
  received a v m b s G e t =
      let f = of-find (receipts v) a b (receipt v, s) e in
      let k : one_if (eqb v v) ≡ 1 = ap one_if (eqb_same v) in
      let n : 1 ≤ tally_of (receipts v) b = omega arith in
      let c : tally_of (receipts v) (remove_part t (remove_part a b)) ≡ 0 = omega (arith, G.once v, of-remove_part (receipts v) t (remove_part a b)) in
      let l : total_over (λ i h. spent_in h) s + tally_of (loose v) (remove_part a b) ≤ tally_of (loose v) b = omega (arith, rw (eqb_same v) at (of-find (loose v) a b (receipt v, s) e)) in
      let z : tally_of (loose v) (remove_part t (remove_part a b)) ≡ 0 = omega (arith, G.apart v n, of-remove_part (loose v) t (remove_part a b)) in
      let o : total_over (λ i h. spent_in h) s ≡ 0 = omega (arith, G.apart v n) in
      ap₂ merge_parts (sym (filled-body v m σ (G.new v n) s o)) (sym (still-body v m σ (remove_part t (remove_part a b)) c z)) ∙ merge-map (U ((v, m) ∷ σ)) s (remove_part t (remove_part a b))

  here : (a t : ℕ) (b : Closure) → Good σ b → move_here plain a t (map_heads (U σ) b) ≡ map (K σ) (move_here (view_under σ) a t b)
  here a t b G =
      here-map (view_under σ) plain (items_left σ) (resolve σ) (λ n. n) (translates σ) (K σ) (λ s. refl) a t b
      (receive-map (view_under σ) plain (items_left σ) (resolve σ) (λ n. n) (translates σ) (K σ) (λ s. refl) a t b
      (λ v m s c e _. ap (λ (d : Plain). record { body = d; news = (v, resolve σ m) ∷ [] }) (received a v m b s G e t)))

  -- what stands around or beside a move unfolds as before
  around : (i n : ℕ) (h : ClosureHead) (b c r : Closure) (news : Bindings) → head_name (view_under σ) h ≡ Some n → Good σ (part i h b r) → TallyStep b c news →
      (U σ h ≡ U (news ++ σ) h) × (map_heads (U σ) r ≡ map_heads (U (news ++ σ)) r)
  around i n h b c r news e G (spends q l) = rw q (refl, refl)
  around i n h b c r news e G (takes x) =
      let v = x.bound in
      let p = of_part (receipts v) i h b r (named-open (receipts v) σ h n e) in
      let q = of_part (loose v) i h b r (named-open (loose v) σ h n e) in
      let y = bound-received b c news x in
      let z = G.once v in
      let w = G.apart v (omega arith) in
      rw x.told (sym (still-head v x.sent σ h (omega arith)), sym (still-body v x.sent σ r (omega arith) (omega arith)))

  beside : (i : ℕ) (h : ClosureHead) (b r c : Closure) (news : Bindings) → Good σ (part i h b r) → TallyStep r c news →
      (U σ h ≡ U (news ++ σ) h) × (map_heads (U σ) b ≡ map_heads (U (news ++ σ)) b)
  unfolding tally_of
  beside i h b r c news G (spends q l) = rw q (refl, refl)
  beside i h b r c news G (takes x) =
      let v = x.bound in
      let y = bound-received r c news x in
      let z = G.once v in
      let w = G.apart v (omega arith) in
      let o : receives v h ≡ false = one_none (receives v h) (omega arith) in
      let u : mentions_in v h + (tally_of (loose v) b + tally_of (loose v) r) ≡ 0 = rw o at w in
      rw x.told (sym (still-head v x.sent σ h (omega arith)), sym (still-body v x.sent σ b (omega arith) (omega arith)))

  unfold-anywhere : (a t : ℕ) (b : Closure) → Good σ b → anywhere plain (move_here plain a t) (map_heads (U σ) b) ≡ map (K σ) (anywhere (view_under σ) (move_here (view_under σ) a t) b)
  unfolding map_heads
  unfold-anywhere a t b G = anywhere-map (view_under σ) plain (U σ) (K σ) (Good σ) (move_here (view_under σ) a t) (move_here plain a t) (record {
    names = named-map (view_under σ) plain (items_left σ) (resolve σ) (λ n. n) (translates σ);
    agree = here a t;
    good-inside = good-inside σ;
    good-rest = good-rest σ;
    around = λ i n h c r m e g x.
        let (p, q) = around i n h c m.body r m.news e g (makes-step σ a t x) in
        ap₂ (λ (k : PlainHead) (d : Plain). record { body = part i k (K σ m).body d; news = plain_news σ m.news }) p q;
    beside = λ i h c r m g x.
        let (p, q) = beside i h c r m.body m.news g (makes-step σ a t x) in
        ap₂ (λ (k : PlainHead) (d : Plain). record { body = part i k d (K σ m).body; news = plain_news σ m.news }) p q;
  }) b G

-- settling
bare-spent : (σ : Bindings) (h : ClosureHead) → bare (U σ h) ≡ all_spent σ h
unfolding bare map_head all_spent items_left
bare-spent σ (ambient m) = refl
bare-spent σ (action a) = none_left_lem a.offset (items (resolve σ a.message))
bare-spent σ (receipt v) = refl
bare-spent σ (output m) = refl

pub settle-unfolded : (σ : Bindings) (b : Closure) → settle (unfolded σ b) ≡ unfolded σ (settle_under σ b)
unfolding settle
settle-unfolded σ b =
    ap settle (unfolded-map σ b) ∙ settle-map (U σ) bare (all_spent σ) (bare-spent σ) (is_ambient-map (items_left σ) (resolve σ)) b ∙ sym (unfolded-map σ (settle_under σ b))

settled-move : (σ : Bindings) (x : Option (MoveMade Action)) → settled_by (map (K σ) x) ≡ map (unfolded_move σ) (settled_under σ x)
unfolding settled_by settled_under unfolded_move
settled-move σ none = refl
settled-move σ (some m) = ap (λ (d : Plain). some (record { body = d; news = plain_news σ m.news }))
    (ap settle (sym (unfolded-map (m.news ++ σ) m.body)) ∙ settle-unfolded (m.news ++ σ) m.body)

-- THEOREM (simulation).
pub unfold-move : (σ : Bindings) (a t : ℕ) (b : Closure) → Good σ b → move a t (unfolded σ b) ≡ map (unfolded_move σ) (closure_move σ a t b)
unfolding move closure_move
unfold-move σ a t b G =
    ap (λ (d : Plain). settled_by (anywhere plain (move_here plain a t) d)) (unfolded-map σ b)
    ∙ ap settled_by (unfold-anywhere σ a t b G) ∙ settled-move σ (anywhere (view_under σ) (move_here (view_under σ) a t) b)

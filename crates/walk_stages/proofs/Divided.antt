-- BESIDE: the divisions of a closure, share by share, as a loop over the shares of its top parts meets them. The laws for
-- shares of lists (sets/proofs) serve, a closure being the list of its top parts with what they hold. Assumes nothing.
use Prim.Native.Nat.{ℕ, suc, ◌+◌, ◌/◌, ◌^◌, ◌≤◌, ◌<◌}
use mathlib.Core.Bool.{Bool, true, false, not}
use mathlib.Core.List.{List, [], ◌∷◌, map}
use mathlib.Core.Path.{◌≡◌, refl, sym, ap, ◌∙◌, subst}
use native.Mathlib.Omega.{arith}
use lib.ListN.{length, length-map}
use Rattle.base_sets.specs.Sets.{is_odd, members, but}
use Rattle.base_shares.specs.Shares.{put_if, picked, unpicked, spread, shares}
use Rattle.base_shares.proofs.Shares.{share-more, share-last, share-rises}
use Rattle.base_shares.proofs.Divisions.{picked-map, unpicked-map, from, from_zero, from_one, from_end, but-picked}
use Rattle.base_sets.proofs.Members.{members-rising}
use Rattle.read_scripts.specs.Tree.{close, part, tops, total_over}
use Rattle.read_scripts.specs.Represents.{Held}
use Rattle.theory_closures.specs.Closure.{ClosureHead, Closure}
use Rattle.theory_decision.specs.Divisions.{with_either, divisions}
use Rattle.walk_stages.specs.Pieces.{Divides}

-- a top part: its number, its head and its inside
abbrev Cell : Type 0
Cell = ℕ × ClosureHead × Closure

unfoldable cells : Closure → List Cell
cells close = []
cells (part i h b r) = (i, h, b) ∷ cells r

unfoldable body_of : List Cell → Closure
body_of [] = close
body_of (x ∷ l) = part x.0 x.1 x.2 (body_of l)

number : Cell → ℕ
number x = x.0

numbers : (b : Closure) → map number (cells b) ≡ tops b
unfolding cells tops number
numbers close = refl
numbers (part i h b r) = ap (λ (l : List ℕ). i ∷ l) (numbers r)

tops-of : (l : List Cell) → tops (body_of l) ≡ map number l
unfolding body_of tops number
tops-of [] = refl
tops-of (x ∷ l) = ap (λ (k : List ℕ). x.0 ∷ k) (tops-of l)

-- the divisions are those of the list
halves : List Cell × List Cell → Closure × Closure
halves p = (body_of p.0, body_of p.1)

either-spread : (i : ℕ) (h : ClosureHead) (b : Closure) (l : List (List Cell × List Cell)) → with_either i h b (map halves l) ≡ map halves (spread (i, h, b) l)
unfolding with_either spread halves body_of
either-spread i h b [] = refl
either-spread i h b (p ∷ l) = ap (λ (t : List (Closure × Closure)). (body_of p.0, part i h b (body_of p.1)) ∷ (part i h b (body_of p.0), body_of p.1) ∷ t) (either-spread i h b l)

divisions-cells : (b : Closure) → divisions b ≡ map halves (shares (cells b))
unfolding divisions shares cells halves body_of
divisions-cells close = refl
divisions-cells (part i h b r) = ap (with_either i h b) (divisions-cells r) ∙ either-spread i h b (shares (cells r))

-- a share and the rest are pieces
module _ (k : ℕ → List ℕ) (w : ℕ → ClosureHead) where
  abbrev Halved : (b taken rest : Closure) → Type 0
  Halved b taken rest = Held k w taken × Held k w rest × ((f : ℕ → ClosureHead → ℕ) → total_over f taken + total_over f rest ≡ total_over f b)

  halved : (b : Closure) (n : ℕ) → Held k w b → Halved b (body_of (picked (cells b) n)) (body_of (unpicked (cells b) n))
  unfolding cells picked unpicked body_of total_over
  halved close n h = (tt, tt, λ f. refl)
  halved (part i g b r) n h = go (is_odd n) (halved r (n / 2) h.3)
    where
      taken-cells : List Cell
      taken-cells = picked (cells r) (n / 2)

      other-cells : List Cell
      other-cells = unpicked (cells r) (n / 2)

      go : (t : Bool) → Halved r (body_of taken-cells) (body_of other-cells) → Halved (part i g b r) (body_of (put_if t (i, g, b) taken-cells)) (body_of (put_if (not t) (i, g, b) other-cells))
      go true (p, q, e) = ((h.0, h.1, h.2, p), q, λ f. omega (arith, e f))
      go false (p, q, e) = (p, (h.0, h.1, h.2, q), λ f. omega (arith, e f))

-- a share of a set, by its rank among the shares
pub record Shared (top share : ℕ) : Type 0 where
  pub rank : ℕ
  pub below : rank < 2 ^ length (members top)
  pub is : members share ≡ picked (members top) rank

pub shared_last : (top share : ℕ) → top < 2 ^ 64 → share < 2 ^ 64 → (S : Shared top share) → share ≡ top → 2 ^ length (members top) ≤ suc S.rank
shared_last top share h g S e = share-last top share S.rank h g S.is e

-- the next, as `next_share` promises it
pub shared-next : (top share next : ℕ) → top < 2 ^ 64 → share < 2 ^ 64 → next < 2 ^ 64
    → ((j : ℕ) → suc j < 2 ^ length (members top) → members share ≡ picked (members top) j → members next ≡ picked (members top) (suc j))
    → (S : Shared top share) → (share ≡ top → ⊥) → (T : Shared top next) × (T.rank ≡ suc S.rank) × (share < next)
shared-next top share next h g l promise S n =
    let more : suc S.rank < 2 ^ length (members top) = share-more top share S.rank h g S.below S.is n in
    let e = promise S.rank more S.is in
    (record { rank = suc S.rank; below = more; is = e }, refl, share-rises top share next S.rank h g l more S.is e)

-- the divisions from that rank on
pub remaining : Closure → ℕ → List (Closure × Closure)
remaining b n = map halves (from (cells b) n)

pub remaining-all : (b : Closure) → remaining b 0 ≡ divisions b
unfolding remaining
remaining-all b = ap (map halves) (from_zero (cells b)) ∙ sym (divisions-cells b)

module _ (b : Closure) (top share : ℕ) (S : Shared top share) (e : members top ≡ tops b) where
  as_many : length (cells b) ≡ length (members top)
  as_many = sym (length-map (cells b) number) ∙ ap length (numbers b ∙ sym e)

  -- THEOREM: the first of them is the division by the share.
  pub remaining-first : (k : ℕ → List ℕ) (w : ℕ → ClosureHead) → Held k w b → (d : Closure × Closure) × (remaining b S.rank ≡ d ∷ remaining b (suc S.rank)) × Divides k w b top share d
  unfolding remaining halves
  remaining-first k w h =
      let n : ℕ = S.rank in
      let q = halved k w b n h in
      let l : n < 2 ^ length (cells b) = subst (λ (x : ℕ). n < 2 ^ x) (sym as_many) S.below in
      let whole : map number (cells b) ≡ members top = numbers b ∙ sym e in (
        (body_of (picked (cells b) n), body_of (unpicked (cells b) n)),
        ap (map halves) (from_one (cells b) n l),
        record {
          taken = sym (tops-of (picked (cells b) n) ∙ sym (picked-map number (cells b) n) ∙ ap (λ (l : List ℕ). picked l n) whole ∙ sym S.is);
          others = but-told ∙ sym (tops-of (unpicked (cells b) n) ∙ sym (unpicked-map number (cells b) n) ∙ ap (λ (l : List ℕ). unpicked l n) whole);
          piece = record { held = q.0; less = λ f. omega (arith, q.2 f) };
          rest = record { held = q.1; less = λ f. omega (arith, q.2 f) };
        },
      )
    where
      but-told : but (members top) (members share) ≡ unpicked (members top) S.rank
      but-told = ap (but (members top)) S.is ∙ but-picked 0 (members top) S.rank (members-rising top)

  pub remaining-none : 2 ^ length (members top) ≤ suc S.rank → remaining b (suc S.rank) ≡ []
  unfolding remaining
  remaining-none l = ap (map halves) (from_end (cells b) (suc S.rank) (subst (λ (x : ℕ). 2 ^ x ≤ suc S.rank) (sym as_many) l))

-- `around_body` meets its contract: a receipt is put in front, with the index of its word. Assumes nothing.
use Prim.Native.Nat.{ℕ, ◌+◌, ◌-◌, ◌<◌}
use mathlib.Core.List.{◌∷◌}
use mathlib.Core.Path.{◌≡◌, ◌∙◌, ap}
use native.Mathlib.Omega.{arith}
use lib.ListN.{length, drop, set}
use Rattle.std.proofs.lemmas.List.{drop-set}
use Rattle.std.proofs.lemmas.List.Elements.{All-cons}
use Rattle.write_messages.specs.declared.Receipt.{Receipt}
use Rattle.write_messages.specs.Indices.{indices_in}
use Rattle.write_heads.specs.Around.{receipts_in, indices_of, BodyAround}
use Rattle.write_heads.specs.Asked.{AroundAsked}
use Rattle.write_heads.specs.declared.Around.{Around}
use Rattle.write_heads.proofs.Heads.{within-other, within-receipt}
use Rattle.write_heads.proofs.around_body.Goals as goal

-- a receipt more, where the rows have room for it
around-more : (x : Around) (kind start index : ℕ) → AroundAsked x start index → length x.rows ≡ 64 → kind ≡ 3
    → BodyAround x kind start index (record { rows = set x.rows (x.first - 1) (record { variable = start; index = index }); first = x.first - 1 })
unfolding indices_of
around-more x kind start index a l e =
    let r : Receipt = record { variable = start; index = index } in
    let e' : x.first - 1 + 1 ≡ x.first = omega (arith, a.room) in
    let front : drop (x.first - 1) (set x.rows (x.first - 1) r) ≡ r ∷ receipts_in x =
    drop-set x.rows (x.first - 1) r (omega (arith, a.room, a.right.within)) ∙ ap (λ (k : ℕ). r ∷ drop k x.rows) e' in
    record {
      right = record { within = omega (arith, a.right.within); indexed = record { small = rw front (All-cons (λ (x : Receipt). x.index < 268435456) r _ a.small a.right.indexed.small) } };
      room = omega (arith, a.room);
      indices = λ w σ o. ap indices_in front ∙ within-receipt w kind start o (indices_of x) σ index e;
    }

around-same : (x : Around) (kind start index : ℕ) → AroundAsked x start index → (kind ≡ 3 → ⊥) → BodyAround x kind start index x
around-same x kind start index a n = record { right = a.right; room = omega arith; indices = λ w σ o. within-other w kind start o (indices_of x) σ index n }

pub returns-then-kind-eq-RECEIPT : goal.returns-then-kind-eq-RECEIPT
returns-then-kind-eq-RECEIPT c = around-more _ _ _ _ c.requires (omega arith) c.if-kind-eq-RECEIPT.true

pub returns-else-kind-eq-RECEIPT : goal.returns-else-kind-eq-RECEIPT
returns-else-kind-eq-RECEIPT c = around-same _ _ _ _ c.requires c.if-kind-eq-RECEIPT.false

-- What an accepted call leaves at the buffer's start: the words of the tree that stands, and so what is read of them again.
-- Assumes nothing.
use Prim.Native.Nat.{ℕ}
use mathlib.Core.Bool.{Bool}
use mathlib.Core.List.{List}
use mathlib.Core.Path.{◌≡◌, refl, sym, ◌∙◌, subst}
use lib.ListN.{length, drop}
use lib.Seq.{take_at}
use Rattle.theory_call.specs.Call.{Call, Verdict, accepted, refused, refusal, left_by, standing_words, answer}
use Rattle.theory_call.specs.Standing.{Standing, ReadAs, LetIn, Returns, Readmits, Returned, Readmitted}
use Rattle.theory_call.proofs.Entering.{start-reads}
use Rattle.theory_call.proofs.Answers.{answer-ends, refused≢accepted}
use Rattle.theory_call.proofs.Reducing.{standing-reduced}
use Rattle.theory_call.proofs.Returning.{returns}
use Rattle.theory_call.proofs.Readmitting.{readmits}

module _ (c : Call) where
  -- THEOREM: they are those of the tree that stands.
  pub leaves : (a : Bool) → (answer c).verdict ≡ accepted a → (s : Standing c) × (left_by (answer c) ≡ standing_words s.machine)
  unfolding refusal
  leaves a = answer-ends c (λ r. r.verdict ≡ accepted a → (s : Standing c) × (left_by r ≡ standing_words s.machine)) (record {
    unread = λ q i e x. refused≢accepted x;
    shut = λ s e q i d x. refused≢accepted x;
    stuck = λ s e r d q i h x. refused≢accepted x;
    tired = λ s q i v e x. refused≢accepted x;
    unfit = λ s b n e l x. refused≢accepted x;
    done = λ s b n e l x. (s, take_at (standing_words s.machine) (drop (length (standing_words s.machine)) c.buffer) (length (standing_words s.machine)) refl);
  })

  -- the words of the tree that stands
  standing-returns : (s : Standing c) → ReadAs (standing_words s.machine) s.machine
  unfolding Returns
  standing-returns s = returns c s.start.read (start-reads c s.start s.starts).0 (length c.moves) s.machine (standing-reduced c s (length c.moves) refl).made

  standing-readmits : (s : Standing c) → LetIn (standing_words s.machine)
  unfolding Readmits
  standing-readmits s = readmits c s.start.read (start-reads c s.start s.starts).0 (length c.moves) s.machine (standing-reduced c s (length c.moves) refl).made

  -- THEOREM: what an accepted call leaves, read again, says the process that stands; only questions 1 and 4 can refuse it.
  pub returned : (v : Verdict) (ws : List ℕ) → (answer c).verdict ≡ v → left_by (answer c) ≡ ws → Returned c v ws
  unfolding Returned
  returned (accepted a) ws e d = let (s, x) = leaves a e in (s, subst (λ (l : List ℕ). ReadAs l s.machine) (sym x ∙ d) (standing-returns s))
  returned (refused q i) ws e d = tt

  pub readmitted : (v : Verdict) (ws : List ℕ) → (answer c).verdict ≡ v → left_by (answer c) ≡ ws → Readmitted v ws
  unfolding Readmitted
  readmitted (accepted a) ws e d = let (s, x) = leaves a e in subst (λ (l : List ℕ). LetIn l) (sym x ∙ d) (standing-readmits s)
  readmitted (refused q i) ws e d = tt

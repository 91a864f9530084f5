-- What is replied to the whole input, by its length. Assumes nothing.
use Prim.Native.Nat.{ℕ, ◌/◌, ◌%◌, ◌≤◌, ◌<◌}
use mathlib.Core.List.{List}
use mathlib.Core.Path.{◌≡◌, ap, ◌∙◌}
use borrow.Author.Tests.{le-leb, lt-leb, eq-eqb, ne_eqb}
use lib.ListN.{length}
use Rattle.program_digits.specs.Digits.{Puts}
use Rattle.program_digits.proofs.Putting.{puts-as}
use Rattle.program_text.specs.Text.{unfit_text}
use Rattle.program_replies.specs.Reply.{words_reply}
use Rattle.program_words.specs.Words.{words_of}
use Rattle.skycorbel.specs.Input.{reply}

module _ {old new : List ℕ} {at next : ℕ} where
  pub puts-long : (s : List ℕ) → 24576 < length s → Puts old new at next unfit_text → Puts old new at next (reply s)
  unfolding reply
  puts-long s l p = rw (lt-leb (length s) 24576 l) p

  pub puts-odd : (s : List ℕ) → length s ≤ 24576 → (length s % 4 ≡ 0 → ⊥) → Puts old new at next unfit_text → Puts old new at next (reply s)
  unfolding reply
  puts-odd s l n p = rw (le-leb (length s) 24576 l, ne_eqb (length s % 4) 0 n) p

  pub puts_whole : (s : List ℕ) → length s ≤ 24576 → length s % 4 ≡ 0 → Puts old new at next (words_reply (words_of (length s / 4) s)) → Puts old new at next (reply s)
  unfolding reply
  puts_whole s l e p = rw (le-leb (length s) 24576 l, eq-eqb (length s % 4) 0 e) p

  -- the reply to words that were read in two steps
  pub puts-reply : (a b c : List ℕ) → a ≡ b → b ≡ c → Puts old new at next (words_reply a) → Puts old new at next (words_reply c)
  puts-reply a b c e f p = puts-as (ap (λ (s : List ℕ). words_reply s) (e ∙ f)) p

-- What the program writes is right, by the paper's own relation: a text that begins with `yes` or `no` is a call's, and the
-- call's answer is right. Assumes nothing.
use Prim.Native.Nat.{ℕ, ◌/◌, ◌%◌, ◌≤◌}
use mathlib.Core.Bool.{Bool, true, false, ◌&&◌, and-eq-true_iff}
use mathlib.Core.List.{List, [], ◌∷◌, ◌++◌, append_assoc}
use Rattle.std.specs.Prelude.{Option, None, Some}
use mathlib.Core.Path.{◌≡◌, refl, sym, ap, ◌∙◌, subst}
use native.Mathlib.Omega.{arith}
use lib.Dec.{leb, eqb}
use lib.ListN.{length, drop, take, get_or, replicate, length-take, take-append-drop}
use borrow.Author.Tests.{leb-true, eqb-true}
use Rattle.base_slices.proofs.Tests.{by_test}
use Rattle.std.proofs.lemmas.Option.{none-some, same_Some}
use Rattle.theory_call.specs.Call.{Call, Verdict, accepted, refused, Answer, answer}
use Rattle.theory_call.specs.Standing.{Decides}
use Rattle.theory_call.proofs.Answers.{refused≢accepted}
use Rattle.call_answers.specs.Answering.{call_of}
use Rattle.theory_call.proofs.Verdicts.{decides}
use Rattle.program_text.specs.Text.{refusal_text, unfit_text, said_text, verdict_text}
use Rattle.program_replies.specs.Reply.{counted, replied, call_reply, rule_reply, moves_reply, script_reply, words_reply}
use Rattle.program_words.specs.Words.{words_of}
use Rattle.skycorbel.specs.Input.{reply}
use Rattle.skycorbel.specs.Right.{counting, input_words, Asks, Begins, Right}
use Rattle.program_words.proofs.Reading.{length-words}

-- ---- the first byte of a text

first_of : Verdict → ℕ
first_of (accepted true) = 121
first_of (accepted false) = 110
first_of (refused q i) = 114

text-first : (v : Verdict) (r : Answer) → get_or (verdict_text v r) 0 0 ≡ first_of v
unfolding first_of verdict_text said_text refusal_text
text-first (accepted true) r = refl
text-first (accepted false) r = refl
text-first (refused q i) r = refl

begins-first : (a : Bool) (t : List ℕ) → Begins (said_text a) t → get_or t 0 0 ≡ first_of (accepted a)
unfolding said_text first_of
begins-first true [] e = ap (λ (l : List ℕ). get_or l 0 0) e
begins-first true (x ∷ t) e = ap (λ (l : List ℕ). get_or l 0 0) e
begins-first false [] e = ap (λ (l : List ℕ). get_or l 0 0) e
begins-first false (x ∷ t) e = ap (λ (l : List ℕ). get_or l 0 0) e

first_said : (a : Bool) (v : Verdict) → first_of v ≡ first_of (accepted a) → v ≡ accepted a
unfolding first_of
first_said true (accepted true) e = refl
first_said true (accepted false) e = absurd (let z : ⊥ = omega arith in z)
first_said false (accepted true) e = absurd (let z : ⊥ = omega arith in z)
first_said false (accepted false) e = refl
first_said true (refused q i) e = absurd (let z : ⊥ = omega arith in z)
first_said false (refused q i) e = absurd (let z : ⊥ = omega arith in z)

-- a text that begins with what an answer says is an answer that says so
text-said : (a : Bool) (v : Verdict) (r : Answer) → Begins (said_text a) (verdict_text v r) → v ≡ accepted a
text-said a v r b = first_said a v (sym (text-first v r) ∙ begins-first a (verdict_text v r) b)

-- a refusal says neither
unfit-silent : {B : Type 0} (a : Bool) → Begins (said_text a) unfit_text → B
unfolding refusal_text first_of
unfit-silent a b = refused≢accepted (first_said a (refused 20 0) (begins-first a unfit_text b))

-- ---- the words of an input

-- the words ask a call
abbrev Asked : List ℕ → Call → Type 0
Asked ws c = (ws ≡ input_words c) × (c.buffer ≡ replicate 4096 0)

-- what the text t says is right about the call that the words ask
abbrev Tells : (ws t : List ℕ) → Type 0
Tells ws t = (a : Bool) → Begins (said_text a) t → (c : Call) × Asked ws c × Decides c (accepted a)

call-tells : (script moves rule : List ℕ) (p : ℕ) → Tells (counting script ++ counting moves ++ counting rule ++ (p ∷ [])) (call_reply script moves rule p)
call-tells script moves rule p a b =
    let c = call_of script moves rule p (replicate 4096 0) (replicate 256 0) in
    (c, (refl, refl), decides c (accepted a) (text-said a (answer c).verdict (answer c) b))

rule-tells : (script moves rule s : List ℕ) → Tells (counting script ++ counting moves ++ counting rule ++ s) (rule_reply script moves rule s)
unfolding rule_reply
rule-tells script moves rule [] = λ a b. unfit-silent a b
rule-tells script moves rule (p ∷ []) = call-tells script moves rule p
rule-tells script moves rule (p ∷ q ∷ s) = λ a b. unfit-silent a b

-- a list that is counted stands behind its count
counted_is : (s : List ℕ) (p : List ℕ × List ℕ) → counted s ≡ Some p → s ≡ counting p.0 ++ p.1
unfolding counted
counted_is [] p e = absurd (none-some p e)
counted_is (n ∷ s) p e = by_test (leb n (length s))
    (λ t. let k : length (take n s) ≡ n = omega (arith, length-take n s, leb-true n (length s) t) in
    subst (λ (x : List ℕ × List ℕ). n ∷ s ≡ counting x.0 ++ x.1) (same_Some (take n s, drop n s) p (rw t at e)) (rw (k, take-append-drop n s)))
    (λ t. absurd (none-some p (rw t at e)))

replied-tells : (before s : List ℕ) (k : List ℕ → List ℕ → List ℕ) → ((a b : List ℕ) → Tells (before ++ counting a ++ b) (k a b)) → Tells (before ++ s) (replied (counted s) k)
unfolding replied
replied-tells before s k f = by (counted s) refl
  where
    by : (o : Option (List ℕ × List ℕ)) → counted s ≡ o → Tells (before ++ s) (replied o k)
    by None e = λ a b. unfit-silent a b
    by (Some p) e = subst (λ (l : List ℕ). Tells l (k p.0 p.1)) (append_assoc before (counting p.0) p.1 ∙ ap (λ (l : List ℕ). before ++ l) (sym (counted_is s p e))) (f p.0 p.1)

words-tell : (s : List ℕ) → Tells s (words_reply s)
words-tell s =
    replied-tells [] s (λ script rest. script_reply script rest) λ script rest. replied-tells (counting script) rest (λ moves more. moves_reply script moves more) λ moves more. replied-tells (counting script ++ counting moves) more (λ rule last. rule_reply script moves rule last) λ rule last. rule-tells script moves rule last

-- ---- the bytes of an input

-- bytes that are whole words, and not too many, ask what their words ask
asks : (s : List ℕ) → length s ≤ 24576 → length s % 4 ≡ 0 → (c : Call) → Asked (words_of (length s / 4) s) c → Asks s c
asks s l m c (e, b) =
    let n : length s / 4 ≡ length (input_words c) = sym (length-words (length s / 4) s) ∙ ap (length {A = ℕ}) e in
    record { short = l; fills = omega arith; spells = ap (λ (k : ℕ). words_of k s) (sym n) ∙ e; lent = b }

-- what the text t says is right about the call that the bytes s ask
abbrev Says : (s t : List ℕ) → Type 0
Says s t = (a : Bool) → Begins (said_text a) t → (c : Call) × Asks s c × Decides c (accepted a)

reply-says : (s : List ℕ) → Says s (reply s)
unfolding reply
reply-says s = by_test (leb (length s) 24576 && eqb (length s % 4) 0)
    (λ t. let (l, m) = (and-eq-true_iff (leb (length s) 24576) (eqb (length s % 4) 0)).0 t in
    rw t (λ a b. let (c, x, d) = words-tell (words_of (length s / 4) s) a b in (c, asks s (leb-true (length s) 24576 l) (eqb-true (length s % 4) 0 m) c x, d)))
    (λ t. rw t (λ a b. unfit-silent a b))

-- THEOREM: what the program writes is right about what it reads.
pub reply-right : (s : List ℕ) → Right s (reply s)
unfolding said_text Decides
reply-right s = record {
  yes = λ b. let (c, x, d) = reply-says s true b in (c, x, d.0, d.1);
  no = λ b. let (c, x, d) = reply-says s false b in (c, x, d.0, d.1);
}

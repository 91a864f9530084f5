-- The program's text is never longer than the buffer in which it is put. Assumes nothing.
use Prim.Native.Nat.{ℕ, zero, suc, ◌+◌, ◌*◌, ◌-◌, ◌/◌, ◌%◌, ◌≤◌, min}
use mathlib.Core.Bool.{Bool, true, false, cond, ◌&&◌}
use mathlib.Core.List.{List, [], ◌∷◌, ◌++◌}
use Rattle.std.specs.Prelude.{Option, None, Some}
use mathlib.Core.Path.{◌≡◌, refl, sym, ap, ◌∙◌, subst}
use native.Mathlib.Omega.{arith}
use borrow.Author.Tests.{leb-true}
use lib.Dec.{leb, ltb, eqb, lit≤}
use lib.ListN.{length, take, drop, replicate, length-append, length-take, length-drop, length-replicate}
use Rattle.base_slices.proofs.Tests.{by_test}
use Rattle.theory_call.specs.Call.{Call, Verdict, accepted, refused, Answer, answer, refusal, standing_words}
use Rattle.theory_call.proofs.Answers.{answer-ends}
use Rattle.call_answers.specs.Answering.{call_of}
use Rattle.program_digits.specs.Digits.{digit, hexadecimal, line, lines, decimal_by, decimal, Puts}
use Rattle.program_text.specs.Text.{refused_text, at_text, moves_text, visits_text, deepest_text, weight_text, words_text, refusal_text, unfit_text, counts_text, said_text, verdict_text}
use Rattle.program_replies.specs.Reply.{counted, replied, call_reply, rule_reply, moves_reply, script_reply, words_reply}
use Rattle.program_words.specs.Words.{words_of}
use Rattle.skycorbel.specs.Input.{IsPrefixLen, reply}
use Rattle.skycorbel.specs.Right.{Right}
use Rattle.skycorbel.proofs.Deciding.{reply-right}

-- ---- an answer's buffer is as long as the lent one

abbrev Long : Call → Answer → Type 0
Long c a = length a.buffer ≡ length c.buffer

over-long : (ws b : List ℕ) → length ws ≤ length b → length (ws ++ drop (length ws) b) ≡ length b
over-long ws b l = let e : length ws + (length b - length ws) ≡ length b = omega arith in length-append ws (drop (length ws) b) ∙ ap (λ (k : ℕ). length ws + k) (length-drop (length ws) b) ∙ e

answer-long : (c : Call) → length (answer c).buffer ≡ length c.buffer
unfolding refusal
answer-long c = answer-ends c (Long c) (record {
  unread = λ q i e. refl;
  shut = λ s e q i d. refl;
  stuck = λ s e r d q i h. refl;
  tired = λ s q i v e. refl;
  unfit = λ s a n e l. refl;
  done = λ s a n e l. over-long (standing_words s.machine) c.buffer (omega (arith, leb-true (length (standing_words s.machine)) (min (length c.buffer) 268435456) l));
})

-- ---- pieces

decimal-short : (k n : ℕ) → length (decimal_by k n) ≤ k
unfolding decimal_by
decimal-short zero n = omega arith
decimal-short (suc k) n = digits (ltb n 10) (decimal-short k (n / 10))
  where
    digits : (b : Bool) → length (decimal_by k (n / 10)) ≤ k → length (cond b ((48 + n) ∷ []) (decimal_by k (n / 10) ++ ((48 + n % 10) ∷ []))) ≤ suc k
    digits true h = omega arith
    digits false h = omega (arith, length-append (decimal_by k (n / 10)) ((48 + n % 10) ∷ []), h)

hex-long : (k w : ℕ) → length (hexadecimal k w) ≡ k
unfolding hexadecimal
hex-long zero w = refl
hex-long (suc k) w = omega (arith, length-append (hexadecimal k (w / 16)) (digit (w % 16) ∷ []), hex-long k (w / 16))

line-long : (w : ℕ) → length (line w) ≡ 9
unfolding line
line-long w = omega (arith, length-append (hexadecimal 8 w) (10 ∷ []), hex-long 8 w)

lines_long : (ws : List ℕ) → length (lines ws) ≡ 9 * length ws
unfolding lines
lines_long [] = refl
lines_long (w ∷ ws) = omega (arith, length-append (line w) (lines ws), line-long w, lines_long ws)

-- two pieces
both : (p q : List ℕ) (a b : ℕ) → length p ≤ a → length q ≤ b → length (p ++ q) ≤ a + b
both p q a b x y = omega (arith, length-append p q)

refusal-short : (q i : ℕ) → length (refusal_text q i) ≤ 53
unfolding refusal_text
refusal-short q i =
    both (refused_text ++ decimal q ++ at_text ++ decimal i) (10 ∷ []) 52 1
    (both (refused_text ++ decimal q ++ at_text) (decimal i) 32 20
    (both (refused_text ++ decimal q) at_text 28 4 (both refused_text (decimal q) 8 20 (lit≤ tt) (decimal-short 20 q)) (lit≤ tt))
    (decimal-short 20 i))
    (lit≤ tt)

-- a count behind its name, which has at most ten letters
count-short : (name : List ℕ) (n : ℕ) → length name ≤ 10 → length (name ++ decimal n) ≤ 30
count-short name n l = both name (decimal n) 10 20 l (decimal-short 20 n)

counts-short : (m v d w n : ℕ) → length (counts_text m v d w n) ≤ 151
unfolding counts_text
counts-short m v d w n =
    let a = moves_text ++ decimal m in
    let b = visits_text ++ decimal v in
    let e = deepest_text ++ decimal d in
    let f = weight_text ++ decimal w in
    let g = words_text ++ decimal n in
    both (a ++ b ++ e ++ f ++ g) (10 ∷ []) 150 1
    (both (a ++ b ++ e ++ f) g 120 30
    (both (a ++ b ++ e) f 90 30
    (both (a ++ b) e 60 30
    (both a b 30 30 (count-short moves_text m (lit≤ tt)) (count-short visits_text v (lit≤ tt)))
    (count-short deepest_text d (lit≤ tt)))
    (count-short weight_text w (lit≤ tt)))
    (count-short words_text n (lit≤ tt)))
    (lit≤ tt)

said-short : (a : Bool) → length (said_text a) ≤ 3
unfolding said_text
said-short true = lit≤ tt
said-short false = lit≤ tt

tree-short : (n : ℕ) (b : List ℕ) → length b ≤ 4096 → length (lines (take n b)) ≤ 36864
tree-short n b l = omega (arith, lines_long (take n b), length-take n b)

verdict-short : (v : Verdict) (r : Answer) → length r.buffer ≤ 4096 → length (verdict_text v r) ≤ 40960
unfolding verdict_text
verdict-short (accepted a) r l =
    let c = counts_text r.moves r.visits r.deepest r.weight r.words in
    let h : length (said_text a ++ c ++ lines (take r.words r.buffer)) ≤ 154 + 36864
    = both (said_text a ++ c) (lines (take r.words r.buffer)) 154 36864 (both (said_text a) c 3 151 (said-short a) (counts-short r.moves r.visits r.deepest r.weight r.words)) (tree-short r.words r.buffer l) in
    omega (arith, h)
verdict-short (refused q i) r l = omega (arith, refusal-short q i)

-- ---- replies

abbrev Short : List ℕ → Type 0
Short t = length t ≤ 40960

unfit-short : Short unfit_text
unfit-short = omega (arith, refusal-short 20 0)

call-short : (script moves rule : List ℕ) (p : ℕ) → Short (call_reply script moves rule p)
call-short script moves rule p =
    let c = call_of script moves rule p (replicate 4096 0) (replicate 256 0) in
    let e : length (replicate {A = ℕ} 4096 0) ≡ 4096 = length-replicate {A = ℕ} 4096 0 in
    verdict-short (answer c).verdict (answer c) (omega (arith, answer-long c, e))

rule-short : (script moves rule s : List ℕ) → Short (rule_reply script moves rule s)
unfolding rule_reply
rule-short script moves rule [] = unfit-short
rule-short script moves rule (p ∷ []) = call-short script moves rule p
rule-short script moves rule (p ∷ q ∷ s) = unfit-short

replied-short : (o : Option (List ℕ × List ℕ)) (k : List ℕ → List ℕ → List ℕ) → ((a b : List ℕ) → Short (k a b)) → Short (replied o k)
unfolding replied
replied-short None k h = unfit-short
replied-short (Some p) k h = h p.0 p.1

words-short : (s : List ℕ) → Short (words_reply s)
words-short s =
    replied-short (counted s) (λ script rest. script_reply script rest) λ script rest. replied-short (counted rest) (λ moves more. moves_reply script moves more) λ moves more. replied-short (counted more) (λ rule last. rule_reply script moves rule last) λ rule last. rule-short script moves rule last

reply-short : (s : List ℕ) → Short (reply s)
unfolding reply
reply-short s = by_test (leb (length s) 24576 && eqb (length s % 4) 0) (λ t. rw t (words-short (words_of (length s / 4) s))) (λ t. rw t unfit-short)

-- the whole reply stands in a buffer that is long enough, and is right
pub puts-all : (old : List ℕ) {new : List ℕ} (input : List ℕ) {r : ℕ} → 40960 ≤ length old → Puts old new 0 r (reply input) → IsPrefixLen r new × ((take r new ≡ reply input) × Right input (take r new))
puts-all old {new} input {r} e x =
    let u = x.put (omega (arith, e, reply-short input)) in
    let h : r ≤ length new = omega (arith, u.0, x.kept, e, reply-short input) in
    let k : r ≡ length (take r new) = omega (arith, length-take r new, h) in
    ((h, k), (u.1, subst (Right input) (sym u.1) (reply-right input)))

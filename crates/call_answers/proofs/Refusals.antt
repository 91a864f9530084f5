-- A refusal as the call's answer. Assumes nothing.
use Prim.Native.Nat.{ℕ}
use mathlib.Core.Bool.{true}
use mathlib.Core.Path.{◌≡◌, sym, ap, ◌∙◌}
use native.Mathlib.Omega.{arith}
use Rattle.std.specs.Prelude.{Result, Ok, Err}
use Rattle.read_messages.specs.declared.Refusal.{Refusal}
use Rattle.theory_call.specs.Call.{Call, Verdict, accepted, refused, refusal, answer}
use Rattle.theory_call.specs.Call as plain
use Rattle.call_answers.specs.Answering.{verdict_of, answer_of, refused_by, Refusing, CallGives}
use Rattle.call_answers.specs.declared.Answer.{Answer}

-- what is answered of an outcome that is known to be read, or refused
pub by-none : (r : Answer) (x : Result ℕ Refusal) (n : ℕ) → Refusing r (refusal 0 0 0 0) → x ≡ Ok n → Refusing r (refused_by x)
unfolding refused_by
by-none r x n f e = record { answered = λ b. f.answered b ∙ ap (λ (y : Result ℕ Refusal). refused_by y b) (sym e); uncounted = f.uncounted }

pub by-refusal : (r : Answer) (x : Result ℕ Refusal) (q : Refusal) → Refusing r (refusal q.question q.place 0 0) → x ≡ Err q → Refusing r (refused_by x)
unfolding refused_by
by-refusal r x q f e = record { answered = λ b. f.answered b ∙ ap (λ (y : Result ℕ Refusal). refused_by y b) (sym e); uncounted = f.uncounted }

refused≢accepted : {B : Type 0} {q i : ℕ} {v : Verdict} → v ≡ refused q i → v ≡ accepted true → B
refused≢accepted e d = let z : ◌≡◌ {A = ℕ} 0 1 = cc in absurd (let w : ⊥ = omega arith in w)

-- THEOREM: a refusal is what a call gives, where the plain machine refuses it so and both buffers are as they were.
pub gives-refusal : (c : Call) (r : Answer) (q i m v : ℕ) → Refusing r (refusal q i m v) → answer c ≡ refusal q i m v c.buffer → CallGives c r c.buffer c.list
unfolding refusal answer_of
gives-refusal c r q i m v f d =
    let e : verdict_of r.verdict ≡ refused q i = ap (λ (a : plain.Answer). a.verdict) (f.answered c.buffer) in
    record {
      answered = f.answered c.buffer ∙ sym d;
      listed = record {
        shown = λ y. refused≢accepted e y;
        others = λ n. record { none = f.uncounted; unwritten = λ k. c.list };
      };
    }

-- a refusal that is handed up is what the call gives
pub handed : (c : Call) (r : Answer) (q : Refusal) → Refusing r (refused_by (Err q)) → answer c ≡ refusal q.question q.place 0 0 c.buffer → CallGives c r c.buffer c.list
unfolding refused_by
handed c r q f d = gives-refusal c r q.question q.place 0 0 f d

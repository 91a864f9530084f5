-- `refused` meets its contract. Assumes nothing.
use mathlib.Core.Path.{refl}
use Rattle.theory_call.specs.Call.{refusal}
use Rattle.call_answers.specs.Answering.{verdict_of, answer_of}
use Rattle.call_answers.proofs.refused.Goals as goal

pub returns : goal.returns
unfolding refusal verdict_of answer_of
returns c = record { answered = λ b. refl; uncounted = refl }

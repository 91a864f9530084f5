-- The engine's answers by document 01's numbers, the call as a definition is fed it, and G. Assumes nothing: these are
-- definitions.
use Rattle.std.specs.Prelude.{ℕ, ◌<◌, max, true, false, List, ◌≡◌, Result, Ok, Err}
use Rattle.read_messages.specs.Reading.{Reading, refuse, got}
use Rattle.read_messages.specs.declared.Refusal.{Refusal}
use Rattle.read_script_words.specs.ScriptWords.{greatest_name}
use Rattle.read_rule_words.specs.Rule.{greatest_rule_name}
use Rattle.theory_call.specs.Call.{Call}
use Rattle.theory_call.specs.Call as plain
use Rattle.theory_call.specs.Itinerary.{Listed}
use Rattle.call_answers.specs.declared.Verdict.{Verdict}
use Rattle.call_answers.specs.declared.Verdict.TheVariants.{Yes, No, Refused}
use Rattle.call_answers.specs.declared.Answer.{Answer}

unfoldable pub verdict_of : Verdict → plain.Verdict
verdict_of Yes = plain.accepted true
verdict_of No = plain.accepted false
verdict_of (Refused r) = plain.refused r.question r.place

-- the answer, with the buffer as it is at exit; the itinerary's count is left out, since document 02 leaves it free
unfoldable pub answer_of : Answer → (buffer : List ℕ) → plain.Answer
answer_of a b = record {
  verdict = verdict_of a.verdict;
  moves = a.moves;
  visits = a.visits;
  deepest = a.deepest;
  weight = a.weight;
  words = a.words;
  buffer = b;
}

-- what is answered to questions that hand nothing on
unfoldable pub asked_of : Reading (Unit {0}) → Result (Unit {0}) Refusal
asked_of (refuse q i) = Err (record { question = q; place = i })
asked_of (got u) = Ok u

-- "The first no ends the call with its number and place": a reader's refusal as the call's answer, before any move; what is
-- read to its end is refused by no question, 0
unfoldable pub refused_by : Result ℕ Refusal → (buffer : List ℕ) → plain.Answer
refused_by (Err r) b = plain.refusal r.question r.place 0 0 b
refused_by (Ok n) b = plain.refusal 0 0 0 0 b

-- an answer that is a refusal, whatever the buffer, and counts no move of an itinerary
pub record Refusing (a : Answer) (refused : (buffer : List ℕ) → plain.Answer) : Type 0 where
  pub answered : (buffer : List ℕ) → answer_of a buffer ≡ refused buffer
  pub uncounted : a.count ≡ 0

-- what a call is lent
abbrev pub call_of : (script moves rule : List ℕ) (patience : ℕ) (buffer list : List ℕ) → Call
call_of script moves rule patience buffer list = record { script = script; moves = moves; rule = rule; patience = patience; buffer = buffer; list = list }

-- what a call gives, `out` and `list` being the buffers as they are at exit
pub record CallGives (c : Call) (a : Answer) (out list : List ℕ) : Type 0 where
  -- its answer is the plain machine's
  pub answered : answer_of a out ≡ plain.answer c
  -- with a yes of SOMETIME an itinerary, else none
  pub listed : Listed c (verdict_of a.verdict ≡ plain.accepted true) a.count list

-- "G the greatest name in script and rule (0 if none)"
pub record Greatest (script words : List ℕ) (g : ℕ) : Type 0 where
  -- it is the greater of both
  pub most : g ≡ max (greatest_name script) (greatest_rule_name words)
  -- names have 28 bits
  pub small : g < 268435456

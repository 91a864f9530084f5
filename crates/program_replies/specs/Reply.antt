-- What is replied to the words of an input: the lists that it counts, and the text of their call's answer. Assumes nothing:
-- these are definitions.
use Rattle.std.specs.Prelude.{ℕ, cond, Option, None, Some, List, [], ◌∷◌, leb, length, take, drop, replicate}
use Rattle.theory_call.specs.Call.{answer}
use Rattle.call_answers.specs.Answering.{call_of}
use Rattle.program_text.specs.Text.{unfit_text, answer_text}

-- a count and so many words: those words, and the words behind them
unfoldable pub counted : List ℕ → Option (List ℕ × List ℕ)
counted [] = None
counted (n ∷ s) = cond (leb n (length s)) (Some (take n s, drop n s)) None

-- what is replied to a list with a count, or without
unfoldable pub replied : Option (List ℕ × List ℕ) → (List ℕ → List ℕ → List ℕ) → List ℕ
replied None k = unfit_text
replied (Some p) k = k p.0 p.1

-- "It lends 4,096 words." And, as document 02 has it, 256 for an itinerary, which is not printed.
abbrev pub call_reply : (script moves rule : List ℕ) (patience : ℕ) → List ℕ
call_reply script moves rule patience = answer_text (answer (call_of script moves rule patience (replicate 4096 0) (replicate 256 0)))

-- behind the rule: "patience, filling the input exactly"
unfoldable pub rule_reply : (script moves rule : List ℕ) → List ℕ → List ℕ
rule_reply script moves rule [] = unfit_text
rule_reply script moves rule (p ∷ []) = call_reply script moves rule p
rule_reply script moves rule (p ∷ q ∷ s) = unfit_text

-- "rule count, rule"
abbrev pub moves_reply : (script moves : List ℕ) → List ℕ → List ℕ
moves_reply script moves s = replied (counted s) (λ rule rest. rule_reply script moves rule rest)

-- "move count, moves"
abbrev pub script_reply : (script : List ℕ) → List ℕ → List ℕ
script_reply script s = replied (counted s) (λ moves rest. moves_reply script moves rest)

-- "script count, script"
abbrev pub words_reply : List ℕ → List ℕ
words_reply s = replied (counted s) (λ script rest. script_reply script rest)

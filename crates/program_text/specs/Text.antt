-- The program's text, as bytes in ASCII: a refusal, an answer. Assumes nothing: these are definitions.
use Rattle.std.specs.Prelude.{ℕ, Bool, true, false, List, [], ◌∷◌, ◌++◌, take}
use Rattle.theory_call.specs.Call.{Verdict, accepted, refused, Answer}
use Rattle.program_digits.specs.Digits.{lines, decimal}

-- "yes"
abbrev pub yes_text : List ℕ
yes_text = 121 ∷ 101 ∷ 115 ∷ []

-- "no"
abbrev pub no_text : List ℕ
no_text = 110 ∷ 111 ∷ []

-- "refused "
abbrev pub refused_text : List ℕ
refused_text = 114 ∷ 101 ∷ 102 ∷ 117 ∷ 115 ∷ 101 ∷ 100 ∷ 32 ∷ []

-- " at "
abbrev pub at_text : List ℕ
at_text = 32 ∷ 97 ∷ 116 ∷ 32 ∷ []

-- " moves "
abbrev pub moves_text : List ℕ
moves_text = 32 ∷ 109 ∷ 111 ∷ 118 ∷ 101 ∷ 115 ∷ 32 ∷ []

-- " visits "
abbrev pub visits_text : List ℕ
visits_text = 32 ∷ 118 ∷ 105 ∷ 115 ∷ 105 ∷ 116 ∷ 115 ∷ 32 ∷ []

-- " deepest "
abbrev pub deepest_text : List ℕ
deepest_text = 32 ∷ 100 ∷ 101 ∷ 101 ∷ 112 ∷ 101 ∷ 115 ∷ 116 ∷ 32 ∷ []

-- " weight "
abbrev pub weight_text : List ℕ
weight_text = 32 ∷ 119 ∷ 101 ∷ 105 ∷ 103 ∷ 104 ∷ 116 ∷ 32 ∷ []

-- " words "
abbrev pub words_text : List ℕ
words_text = 32 ∷ 119 ∷ 111 ∷ 114 ∷ 100 ∷ 115 ∷ 32 ∷ []

-- "a refusal as the one line `refused`, number, `at`, place"
unfoldable pub refusal_text : (question place : ℕ) → List ℕ
refusal_text q i = refused_text ++ decimal q ++ at_text ++ decimal i ++ (10 ∷ [])

-- "else, or above 24,576 bytes, it prints `refused 20 at 0`"
abbrev pub unfit_text : List ℕ
unfit_text = refusal_text 20 0

-- the counts behind a yes or no
unfoldable pub counts_text : (moves visits deepest weight words : ℕ) → List ℕ
counts_text m v d w n =
    (moves_text ++ decimal m) ++ (visits_text ++ decimal v) ++ (deepest_text ++ decimal d) ++ (weight_text ++ decimal w) ++ (words_text ++ decimal n) ++ (10 ∷ [])

unfoldable pub said_text : Bool → List ℕ
said_text true = yes_text
said_text false = no_text

-- "verdict, counts, then the tree's words one a line", or the refusal
unfoldable pub verdict_text : Verdict → Answer → List ℕ
verdict_text (accepted a) r =
    said_text a ++ counts_text r.moves r.visits r.deepest r.weight r.words ++ lines (take r.words r.buffer)
verdict_text (refused q i) r = refusal_text q i

abbrev pub answer_text : Answer → List ℕ
answer_text r = verdict_text r.verdict r

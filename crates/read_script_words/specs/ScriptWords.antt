-- What a word of a script is where a part is expected, the questions that it is asked there (2 and 4), and the greatest name
-- among a script's words (document 01). Assumes nothing: these are definitions.
use Rattle.std.specs.Prelude.{ℕ, max, Bool, true, false, cond, List, [], ◌∷◌, leb, eqb, Option, Some, None, Result, Ok}
use Rattle.read_messages.specs.Words.{kind, operand}
use Rattle.read_messages.specs.Reading.{refusal_at}
use Rattle.read_messages.specs.declared.Refusal.{Refusal}
use Rattle.read_script_words.specs.declared.PartWord.{PartWord}
use Rattle.read_script_words.specs.declared.PartWord.TheVariants.{Close, Ambient, Action, Receipt, Output}

-- "0 CLOSE. 1 AMB .. 2 ACT .. 3 REC .. 4 OUT"
abbrev pub part_kind : ℕ → Option PartWord
part_kind k =
    cond (eqb k 0) (Some Close)
    (cond (eqb k 1) (Some Ambient)
    (cond (eqb k 2) (Some Action)
    (cond (eqb k 3) (Some Receipt)
    (cond (eqb k 4) (Some Output) None))))

-- the word where a part or a CLOSE is expected; its operand is zero
unfoldable pub part_word : ℕ → Option PartWord
part_word w = cond (eqb (operand w) 0) (part_kind (kind w)) None

-- question 2: "Does this word's kind and operand fit (VAR: any operand)?"
unfoldable pub part_fits : Option PartWord → Bool
part_fits (Some p) = true
part_fits None = false

-- What `ask_part` of the code answers of a word at that place: questions 2 and 4.
unfoldable pub asked_part : (place nest : ℕ) → Option PartWord → Result PartWord Refusal
asked_part i nest (Some p) = cond (leb nest 64) (Ok p) (refusal_at 4 i)
asked_part i nest None = refusal_at 2 i

-- the operand of a NAME word, 0 for any other
unfoldable pub script_name : ℕ → ℕ
script_name w = cond (eqb (kind w) 8) (operand w) 0

-- "the greatest name in script .. (0 if none)": over the script's NAME words
unfoldable pub greatest_name : List ℕ → ℕ
greatest_name [] = 0
greatest_name (w ∷ ws) = cond (eqb (kind w) 8) (max (operand w) (greatest_name ws)) (greatest_name ws)

-- To unfold this is to unfold every definition of this module: for a proof by computation.
unfoldable pub computing : Unit {0}
unfolding part_word part_fits asked_part script_name greatest_name
computing = tt

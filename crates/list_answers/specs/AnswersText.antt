-- The text of an answers list: which questions are vouched for.
use Rattle.std.specs.Prelude.{ℕ, List, [], ◌∷◌, ◌++◌, length, ◌==◌, codes, Option, Some, None, Result, Ok, Err}
use Rattle.std.specs.Prelude.{if◌then◌else◌}
use Rattle.std.specs.Result.{result_ok}
use Rattle.hex.specs.Hex.{decode_of}
use Rattle.der_core.specs.Lists.{is_same}
use Rattle.list_answers.specs.declared.answers_fault.AnswersFault.{AnswersFault}
use Rattle.list_answers.specs.declared.answers_fault.AnswersRule.TheVariants as rule
use Rattle.list_answers.specs.Asking.{Asked}
use Rattle.list_answers.specs.Texts.{NumberedLine, lines_of, words_of, under, told}

-- the octets of a field: none for -, and otherwise those of one or more pairs of hexadecimal digits, in either case
abbrev pub field_of : List ℕ → Option (List ℕ)
field_of word = if is_same word (codes "-") then Some [] else if length word == 0 then None
    else result_ok (decode_of word)

abbrev pub asked_of_fields : (key digest_alg signature_alg tail signature : Option (List ℕ)) → Option Asked
asked_of_fields (Some key) (Some digest_alg) (Some signature_alg) (Some tail) (Some signature) = Some
    (record { key = key; digest_alg = digest_alg; signature_alg = signature_alg; tail = tail; signature = signature })
asked_of_fields _ _ _ _ _ = None

-- a line has five fields, in the order of a question
abbrev pub asked_of_words : List (List ℕ) → Option Asked
asked_of_words (key ∷ digest_alg ∷ signature_alg ∷ tail ∷ signature ∷ []) = asked_of_fields (field_of key)
    (field_of digest_alg) (field_of signature_alg) (field_of tail) (field_of signature)
asked_of_words _ = None

-- the question of a line, with one space between the fields
abbrev pub asked_of : List ℕ → Option Asked
asked_of line = asked_of_words (words_of line)

-- these questions and then those of the lines that follow, or the fault there
abbrev pub behind : List Asked → Result (List Asked) AnswersFault → Result (List Asked) AnswersFault
behind qs (Ok others) = Ok (qs ++ others)
behind qs (Err f) = Err f

abbrev pub asked_first : (number : ℕ) → Option Asked → Result (List Asked) AnswersFault
    → Result (List Asked) AnswersFault
asked_first number None others = Err (record { rule = rule.Line; line = number })
asked_first number (Some q) others = behind (q ∷ []) others

-- the questions of lines, or the first line that isn't one
abbrev pub asked_of_lines : List NumberedLine → Result (List Asked) AnswersFault
asked_of_lines [] = Ok []
asked_of_lines (l ∷ ls) = asked_first l.number (asked_of l.octets) (asked_of_lines ls)

abbrev pub asked_under : Option (List NumberedLine) → Result (List Asked) AnswersFault
asked_under None = Err (record { rule = rule.Version; line = 1 })
asked_under (Some ls) = asked_of_lines ls

-- the questions of an answers list, in its order, or the first fault
abbrev pub answers_of : List ℕ → Result (List Asked) AnswersFault
answers_of text = asked_under (under (codes "cmsproof answers 1") (lines_of text))

-- the lines that should be questions
abbrev pub question_lines : List ℕ → List NumberedLine
question_lines text = told (codes "cmsproof answers 1") text

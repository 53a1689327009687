-- What the fields of a line state, if each is pairs of digits.
use Rattle.std.specs.Prelude.{◌≡◌, Bool, true, false, List, [], ◌∷◌, ◌++◌, Option, Some, None}
use Rattle.std.specs.Result.{result_ok}
use Rattle.hex.specs.Hex.{decode_of}
use Rattle.list_answers.specs.declared.answer_lines.Fields.{Fields}
use Rattle.list_answers.specs.Asking.{Asked}
use Rattle.list_answers.specs.AnswersText.{asked_of_fields}

-- the question of five fields
abbrev pub fields_asked : Fields → Option Asked
fields_asked f = asked_of_fields (result_ok (decode_of f.key.now)) (result_ok (decode_of f.digest_alg.now))
    (result_ok (decode_of f.signature_alg.now)) (result_ok (decode_of f.tail.now))
    (result_ok (decode_of f.signature.now))

-- the question of a line, if it has five
abbrev pub line_asked : Option Fields → Option Asked
line_asked None = None
line_asked (Some f) = fields_asked f

-- a question, if there is one, was added to others, and it is said whether there is
abbrev pub Adds : Option Asked → Bool → (before after : List Asked) → Type 0
Adds asked true before after = (q : Asked) × (asked ≡ Some q) × (after ≡ before ++ q ∷ [])
Adds asked false before after = asked ≡ None

-- Worked rows: what texts of answers lists state, by the definitions.
use Rattle.std.specs.Prelude.{◌≡◌, ℕ, true, false, List, [], ◌∷◌, codes, Ok, Err}
use Rattle.std.specs.List.{join_with_byte}
use Rattle.list_answers.specs.declared.answers_fault.AnswersRule.TheVariants as answers
use Rattle.list_answers.specs.Asking.{Asked, is_among}
use Rattle.list_answers.specs.AnswersText.{answers_of}

-- lines with a line feed between
abbrev pub text_of : List (List ℕ) → List ℕ
text_of ls = join_with_byte 10 ls

abbrev pub one_question : Asked
one_question = record { key = 0 ∷ []; digest_alg = []; signature_alg = 10 ∷ 11 ∷ []; tail = []; signature = 255 ∷ [] }

abbrev pub unsigned_question : Asked
unsigned_question = record { key = 0 ∷ []; digest_alg = []; signature_alg = 10 ∷ 11 ∷ []; tail = []; signature = [] }

pub record AnswersRows : Type 0 where
  -- the first line alone
  pub none : answers_of (codes "cmsproof answers 1") ≡ Ok []
  -- digits in either case
  pub one : answers_of (text_of (codes "cmsproof answers 1" ∷ codes "00 - 0a0B - fF" ∷ [])) ≡ Ok (one_question ∷ [])
  -- a line feed at the end starts no further line with a meaning
  pub ended : answers_of (text_of (codes "cmsproof answers 1" ∷ codes "00 - 0a0B - ff" ∷ [] ∷ []))
      ≡ Ok (one_question ∷ [])
  -- no text has no lines
  pub empty : answers_of [] ≡ Err (record { rule = answers.Version; line = 1 })
  -- the text of questions
  pub questions : answers_of (text_of (codes "cmsproof questions 1" ∷ codes "00 - 0a0B - ff" ∷ [])) ≡ Err
      (record { rule = answers.Version; line = 1 })
  -- four fields, after an empty line and one that begins with #
  pub four : answers_of (text_of (codes "cmsproof answers 1" ∷ [] ∷ codes "# four" ∷ codes "00 - 0a0B ff" ∷ [])) ≡ Err
      (record { rule = answers.Line; line = 4 })
  -- an odd number of digits
  pub odd : answers_of (text_of (codes "cmsproof answers 1" ∷ codes "00 - 0a0 - ff" ∷ [])) ≡ Err
      (record { rule = answers.Line; line = 2 })
  -- two spaces
  pub spaces : answers_of (text_of (codes "cmsproof answers 1" ∷ codes "00  0a0B - ff" ∷ [])) ≡ Err
      (record { rule = answers.Line; line = 2 })
  -- the first faulty line of two
  pub first : answers_of (text_of (codes "cmsproof answers 1" ∷ codes "00" ∷ codes "00" ∷ [])) ≡ Err
      (record { rule = answers.Line; line = 2 })
  -- the question is vouched for, and the one without a signature isn't
  pub vouched : is_among (one_question ∷ []) one_question ≡ true
  pub another : is_among (one_question ∷ []) unsigned_question ≡ false

-- What the calls say that read lists.
use Rattle.std.specs.Prelude.{◌≡◌, ◌⊎◌, ℕ, List, Option, Some, None, Ok, Err}
use Rattle.trust_lists.specs.declared.trust_fault.TrustFault.{TrustFault}
use Rattle.trust_lists.specs.declared.trust_fault.TrustRule.{TrustRule}
use Rattle.trust_lists.specs.declared.trust_fault.TrustRule.TheVariants as rule
use Rattle.trust_lists.specs.Entries.{EntryValue}
use Rattle.trust_lists.specs.TrustText.{IsTrust}
use Rattle.list_answers.specs.declared.answers_fault.AnswersFault.{AnswersFault}
use Rattle.list_answers.specs.declared.answers_fault.AnswersRule.{AnswersRule}
use Rattle.list_answers.specs.declared.answers_fault.AnswersRule.TheVariants as answers
use Rattle.trust_lists.specs.Asking.{Asked, is_among}
use Rattle.list_answers.specs.AnswersText.{answers_of}
use Rattle.library_answers.specs.declared.answer.Answer.{Answer}
use Rattle.library_answers.specs.Numbers.{nothing, ruled}

-- L1 to L5 and the line: 76 is the letter L. A lack of memory, L4, is no verdict
abbrev pub trust_rule_numbers : TrustRule → (line : ℕ) → Answer
trust_rule_numbers rule.Version line = record (ruled 3 76 1) { line = line }
trust_rule_numbers rule.Line line = record (ruled 3 76 2) { line = line }
trust_rule_numbers rule.Certificate line = record (ruled 3 76 3) { line = line }
trust_rule_numbers rule.OutOfMemory line = nothing
trust_rule_numbers rule.Period line = record (ruled 3 76 5) { line = line }

abbrev pub trust_numbers : TrustFault → Answer
trust_numbers f = trust_rule_numbers f.rule f.line

-- the text's list is there, with status 1; or none is: with 3 the text has a fault, which is said; with 7 memory was
-- refused
abbrev pub ReadsTrust : (text : List ℕ) → (read : Option (List EntryValue)) → (said : Answer) → (status : ℕ) → Type 0
ReadsTrust text (Some list) said status = IsTrust text (Ok list) × (said ≡ ruled 10 0 0) × (status ≡ 1)
ReadsTrust text None said status = ((f : TrustFault) × IsTrust text (Err f) × (said ≡ trust_numbers f) × (status ≡ 3))
    ⊎ ((said ≡ nothing) × (status ≡ 7))

-- B1 and B2 and the line: 66 is the letter B. A lack of memory, B3, is no verdict
abbrev pub answers_rule_numbers : AnswersRule → (line : ℕ) → Answer
answers_rule_numbers answers.Version line = record (ruled 3 66 1) { line = line }
answers_rule_numbers answers.Line line = record (ruled 3 66 2) { line = line }
answers_rule_numbers answers.OutOfMemory line = nothing

abbrev pub answers_numbers : AnswersFault → Answer
answers_numbers f = answers_rule_numbers f.rule f.line

-- a list is there that vouches for the text's questions, with status 1; or none is: with 3 the text has a fault, which
-- is said; with 7 memory was refused
abbrev pub ReadsAnswers : (text : List ℕ) → (read : Option (List Asked)) → (said : Answer) → (status : ℕ) → Type 0
ReadsAnswers text (Some list) said status = (asked : List Asked) × (answers_of text ≡ Ok asked)
    × ((q : Asked) → is_among list q ≡ is_among asked q) × (said ≡ ruled 10 0 0) × (status ≡ 1)
ReadsAnswers text None said status = ((f : AnswersFault) × (answers_of text ≡ Err f) × (said ≡ answers_numbers f)
    × (status ≡ 3)) ⊎ ((said ≡ nothing) × (status ≡ 7))

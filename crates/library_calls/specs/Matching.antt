-- What the calls say that hold a response against a request.
use Rattle.std.specs.Prelude.{◌≡◌, ◌⊎◌, ℕ, List, [], ◌∷◌, ◌++◌, codes}
use Rattle.cli_failures.specs.declared.failure.Failure.{Failure}
use Rattle.cli_failures.specs.Failures.{failure_text}
use Rattle.cli_failures.specs.Tokens.{Answers, AnswersNot}
use Rattle.library_answers.specs.declared.answer.Answer.{Answer}
use Rattle.library_answers.specs.Numbers.{ruled}
use Rattle.library_answers.specs.Failures.{failure_numbers, failure_status, IsLine, IsMade, IsUnmade}

-- whether it answers, in numbers and as the line
abbrev pub IsMatch : (request response : List ℕ) (said : Answer)
    (status : ℕ) (before : List ℕ) (size : ℕ) (after : List ℕ) → Type 0
IsMatch request response said status before size after = (((token : List ℕ) × Answers request response token)
    × (said ≡ ruled 6 0 0) × IsLine (codes "answers" ++ (10 ∷ [])) 1 status before size after)
    ⊎ ((why : Failure) × AnswersNot request response why × (said ≡ failure_numbers why)
    × IsLine (failure_text why) (failure_status why) status before size after)

-- the token of a response that answers, or why it doesn't
abbrev pub IsTokenOf : (request response : List ℕ) (said : Answer)
    (status : ℕ) (before : List ℕ) (size : ℕ) (after : List ℕ) → Type 0
IsTokenOf request response said status before size after =
    ((token : List ℕ) × Answers request response token × IsMade token said status before size after)
    ⊎ ((why : Failure) × AnswersNot request response why × IsUnmade why said status before size after)

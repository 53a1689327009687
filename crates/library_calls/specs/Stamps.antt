-- What the calls say of a stamp: a time-stamp token by itself, or a response with one (RFC 3161, 2.4.2).
use Rattle.std.specs.Prelude.{◌≡◌, ◌↔◌, ◌⊎◌, ⊤, ℕ, List, Result, Ok, Err}
use Rattle.check_fit.specs.declared.rules.Refused.{Refused}
use Rattle.check_fit.specs.declared.rules.TokenRefused.{TokenRefused}
use Rattle.check_fit.specs.declared.rules.TokenRefused.TheVariants as token_refused
use Rattle.trust_lists.specs.Asking.{Asked}
use Rattle.trust_lists.specs.Entries.{EntryValue}
use Rattle.check_questions.specs.FileQuestions.{AreQuestionsOfToken}
use Rattle.check_questions.specs.QuestionsText.{questions_text}
use Rattle.check_verdict.specs.Passing.{Terms, Passes}
use Rattle.cli_failures.specs.declared.failure.Failure.{Failure}
use Rattle.cli_failures.specs.declared.failure.Failure.TheVariants as failure
use Rattle.cli_failures.specs.Failures.{failure_text}
use Rattle.cli_failures.specs.Stamps.{HoldsNoStamp, IsStampIn}
use Rattle.library_answers.specs.declared.answer.Answer.{Answer}
use Rattle.library_answers.specs.Failures.{failure_numbers, failure_status, IsLine, IsMade}
use Rattle.library_answers.specs.Numbers.{accepted_numbers}
use Rattle.library_answers.specs.Verdicts.{Tells}
use Rattle.library_calls.specs.CheckedTokens.{IsTokenJudged}
use Rattle.library_calls.specs.Questions.{SaysUnasked}

-- the verdict of a file that is accepted
abbrev pub accepting : ℕ → Result ℕ Refused
accepting m = Ok m

-- a failure, in numbers and as its line
abbrev pub SaysFailure : Failure → (said : Answer) (status : ℕ) (before : List ℕ) (size : ℕ) (after : List ℕ) → Type 0
SaysFailure why said status before size after = (said ≡ failure_numbers why)
    × IsLine (failure_text why) (failure_status why) status before size after

-- no device failed
abbrev pub IsOfRules : Result ℕ TokenRefused → Type 0
IsOfRules (Err (token_refused.Device fault)) = ⊥
IsOfRules _ = ⊤

-- a verdict about a token, in numbers and as its line
abbrev pub SaysStamp : Result ℕ TokenRefused → (said : Answer)
    (status : ℕ) (before : List ℕ) (size : ℕ) (after : List ℕ) → Type 0
SaysStamp (Ok m) said status before size after = (said ≡ accepted_numbers m)
    × Tells (accepting m) status before size after
SaysStamp (Err (token_refused.Rule rule)) said status before size after =
    SaysFailure (failure.Unstamped rule) said status before size after
SaysStamp (Err (token_refused.Device fault)) said status before size after = ⊥

-- the verdict about the token of a stamp, or why it holds none
abbrev pub IsStampChecked : Terms → (stamp stamped : List ℕ) → (said : Answer)
    (status : ℕ) (before : List ℕ) (size : ℕ) (after : List ℕ) → Type 0
IsStampChecked t stamp stamped said status before size after =
    ((token : List ℕ) × IsStampIn stamp token × ((answer : Result ℕ TokenRefused)
    × IsTokenJudged t token stamped answer × SaysStamp answer said status before size after))
    ⊎ ((why : Failure) × HoldsNoStamp stamp why × SaysFailure why said status before size after)

-- the numbers say that the stamp's token passes with this moment exactly if it does
abbrev pub SaysStamped : Terms → (stamp stamped : List ℕ) → (said : Answer) → ℕ → Type 0
SaysStamped t stamp stamped said m = (said ≡ accepted_numbers m)
    ↔ ((token : List ℕ) × IsStampIn stamp token × Passes t token stamped m)

-- the questions of the stamp's token, as their text; or why there are none, in numbers and by the status alone
abbrev pub IsStampQuestioned : (list : List EntryValue) (stamp : List ℕ) (said : Answer) (status : ℕ)
    (before : List ℕ) (size : ℕ) (after : List ℕ) → Type 0
IsStampQuestioned list stamp said status before size after =
    ((token : List ℕ) × IsStampIn stamp token × (((qs : List Asked) × AreQuestionsOfToken list token qs
    × IsMade (questions_text qs) said status before size after) ⊎ SaysUnasked token said status before size after))
    ⊎ ((why : Failure) × HoldsNoStamp stamp why × (said ≡ failure_numbers why) × (status ≡ failure_status why)
    × (size ≡ 0) × (after ≡ before))

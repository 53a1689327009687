-- What the call says that checks one token.
use Rattle.std.specs.Prelude.{◌≡◌, ◌↔◌, ℕ, List, Result, Ok, Err}
use Rattle.check_fit.specs.declared.rules.TokenRefused.{TokenRefused}
use Rattle.check_fit.specs.declared.rules.TokenRefused.TheVariants as refused
use Rattle.check_verdict.specs.Passing.{Terms, Passes}
use Rattle.check_verdict.specs.TokenRules.{TokenFails}
use Rattle.library_answers.specs.declared.answer.Answer.{Answer}
use Rattle.library_answers.specs.Numbers.{accepted_numbers, token_numbers, device_numbers}

-- the token passes with this moment, or this is the first rule that it fails; an answers list never fails
abbrev pub IsKnownTokenVerdict : Terms → (token stamped : List ℕ) → Result ℕ TokenRefused → Type 0
IsKnownTokenVerdict t token stamped (Ok m) = Passes t token stamped m
IsKnownTokenVerdict t token stamped (Err (refused.Rule failed)) = TokenFails t token stamped failed
IsKnownTokenVerdict t token stamped (Err (refused.Device fault)) = ⊥

-- and if it passes with a moment, this is the verdict
pub record IsTokenJudged (t : Terms) (token stamped : List ℕ) (answer : Result ℕ TokenRefused) : Type 0 where
  pub verdict : IsKnownTokenVerdict t token stamped answer
  pub complete : (m : ℕ) → Passes t token stamped m → answer ≡ Ok m

abbrev pub token_answer_numbers : Result ℕ TokenRefused → Answer
token_answer_numbers (Ok m) = accepted_numbers m
token_answer_numbers (Err (refused.Rule rule)) = token_numbers rule
token_answer_numbers (Err (refused.Device fault)) = device_numbers fault

-- 1 exactly for an acceptance; 2 refused, 5 a device
abbrev pub token_status : Result ℕ TokenRefused → ℕ
token_status (Ok m) = 1
token_status (Err (refused.Rule rule)) = 2
token_status (Err (refused.Device fault)) = 5

-- that verdict, in numbers
abbrev pub IsTokenChecked : Terms → (token stamped : List ℕ) → (said : Answer) → (status : ℕ) → Type 0
IsTokenChecked t token stamped said status = (answer : Result ℕ TokenRefused) × IsTokenJudged t token stamped answer
    × (said ≡ token_answer_numbers answer) × (status ≡ token_status answer)

-- the numbers say that the token passes with this moment exactly if it does
abbrev pub SaysPasses : Terms → (token stamped : List ℕ) → (said : Answer) → ℕ → Type 0
SaysPasses t token stamped said m = (said ≡ accepted_numbers m) ↔ Passes t token stamped m

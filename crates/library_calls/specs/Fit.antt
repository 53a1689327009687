-- What the call says whether content and signed attributes belong together.
use Rattle.std.specs.Prelude.{◌≡◌, ℕ, Bool, List, [], ◌∷◌, ◌++◌, Option, Result, Ok, Err, codes}
use Rattle.std.specs.Fmt.{decimal}
use Rattle.check_fit.specs.declared.policy.Policy.{Policy}
use Rattle.check_fit.specs.declared.rules.Refused.{Refused}
use Rattle.check_fit.specs.FileFitting.{FitsSigned}
use Rattle.check_fit.specs.Fitting.{with_sha1}
use Rattle.cli_failures.specs.declared.failure.Failure.TheVariants as failure
use Rattle.cli_failures.specs.Failures.{failure_text}
use Rattle.library_answers.specs.declared.answer.Answer.{Answer}
use Rattle.library_answers.specs.Numbers.{ruled, refused_numbers}
use Rattle.library_answers.specs.Failures.{failure_status, IsLine}
use Rattle.library_calls.specs.Known.{JudgesHanded}

-- how many signers there are, if each fits the content, or the first rule that fails
abbrev pub FitsHanded : Policy → (octets : List ℕ) → (handed : Option (List ℕ)) → Result ℕ Refused → Type 0
FitsHanded policy octets handed verdict = JudgesHanded (FitsSigned policy) octets handed verdict

abbrev pub fit_numbers : Result ℕ Refused → Answer
fit_numbers (Ok count) = record (ruled 5 0 0) { signer = count }
fit_numbers (Err why) = refused_numbers why

abbrev pub fit_line : Result ℕ Refused → List ℕ
fit_line (Ok count) = codes "fits " ++ decimal count ++ (10 ∷ [])
fit_line (Err why) = failure_text (failure.Refused why)

abbrev pub fit_status : Result ℕ Refused → ℕ
fit_status (Ok count) = 1
fit_status (Err why) = failure_status (failure.Refused why)

-- that verdict, in numbers and as the line
abbrev pub IsFit : (octets : List ℕ) → (handed : Option (List ℕ)) → (sha1 : Bool) → (said : Answer)
    (status : ℕ) (before : List ℕ) (size : ℕ) (after : List ℕ) → Type 0
IsFit octets handed sha1 said status before size after = (verdict : Result ℕ Refused)
    × FitsHanded (with_sha1 sha1) octets handed verdict × (said ≡ fit_numbers verdict)
    × IsLine (fit_line verdict) (fit_status verdict) status before size after

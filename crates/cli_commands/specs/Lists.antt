-- The lists that a command reads, and how that fails. `holds` is what an open file holds, if that is known.
use Rattle.std.specs.Prelude.{◌≡◌, ◌⊎◌, ℕ, Bool, List, Option, Ok, Err}
use Rattle.std.specs.Borrow.{Bor}
use Rattle.trust_lists.specs.Asking.{Asked, is_among}
use Rattle.list_answers.specs.AnswersText.{answers_of}
use Rattle.trust_lists.specs.Entries.{EntryValue}
use Rattle.list_answers.specs.declared.answers_fault.AnswersFault.{AnswersFault}
use Rattle.trust_lists.specs.TrustText.{IsTrust}
use Rattle.trust_lists.specs.declared.trust_fault.TrustFault.{TrustFault}
use Rattle.check_verdict.specs.Checkers.{CheckerValue}
use Rattle.cli_failures.specs.declared.failure.Failure.{Failure}
use Rattle.cli_failures.specs.declared.failure.Failure.TheVariants as failure
use Rattle.cli_failures.specs.Files.{IsFailureToRead, IsHeld}
use Rattle.check_fit.specs.Fitting.{with_sha1}

-- these are the entries of a file whose text is a trust list
abbrev pub IsTrustOf : {F : Type 0} → (holds : F → Option (List ℕ)) → List EntryValue → Type 0
IsTrustOf holds entries = (text : List ℕ) × IsHeld holds text × IsTrust text (Ok entries)

-- a check goes by these entries, and SHA-1 is allowed if the words say so
abbrev pub IsCheckerOf : {F : Type 0} → (holds : F → Option (List ℕ)) → (sha1 : Bool) → CheckerValue → Type 0
IsCheckerOf holds sha1 checker = IsTrustOf holds checker.trust × (checker.policy ≡ with_sha1 sha1)

-- the file can't be read, memory runs out, or its text isn't a trust list and has this fault
abbrev pub IsFailureOfTrust : {F : Type 0} → (holds : F → Option (List ℕ)) → (path : Bor (List ℕ)) → Failure → Type 0
IsFailureOfTrust holds path f = IsFailureToRead path f ⊎ ((text : List ℕ) × (fault : TrustFault) × IsHeld holds text
    × IsTrust text (Err fault) × (f ≡ failure.Trust fault))

-- these questions are vouched for, exactly like those of a file whose text is an answers list
abbrev pub IsAnswersOf : {F : Type 0} → (holds : F → Option (List ℕ)) → List Asked → Type 0
IsAnswersOf holds vouched = (text : List ℕ) × (asked : List Asked) × IsHeld holds text × (answers_of text ≡ Ok asked)
    × ((q : Asked) → is_among vouched q ≡ is_among asked q)

-- the file can't be read, memory runs out, or its text isn't an answers list and has this fault
abbrev pub IsFailureOfAnswers : {F : Type 0} → (holds : F → Option (List ℕ)) → (path : Bor (List ℕ)) → Failure → Type 0
IsFailureOfAnswers holds path f = IsFailureToRead path f ⊎ ((text : List ℕ) × (fault : AnswersFault)
    × IsHeld holds text × (answers_of text ≡ Err fault) × (f ≡ failure.Answers fault))

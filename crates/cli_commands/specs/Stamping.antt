-- What `stamp` prints for a token by itself, or a response with one, and the file that it should stamp. `holds` is what
-- an open file holds, if that is known.
use Rattle.std.specs.Prelude.{◌≡◌, ◌⊎◌, ◌<◌, ◌^◌, ℕ, List, Option, Result, Ok, Err, length}
use Rattle.std.specs.Borrow.{Bor}
use Rattle.der_core.specs.declared.fault.Fault.{Fault}
use Rattle.der_core.specs.Faults.{Faults}
use Rattle.der_core.specs.Grammar.{file}
use Rattle.der_grammar.specs.Table.{content_info}
use Rattle.cms_types.specs.SignedDataValue.{EncodesAnotherType}
use Rattle.check_fit.specs.declared.rules.DeviceFault.{DeviceFault}
use Rattle.check_fit.specs.declared.rules.DeviceFault.TheVariants as device
use Rattle.check_fit.specs.declared.rules.Refused.{Refused}
use Rattle.check_fit.specs.declared.rules.Refused.TheVariants as refused
use Rattle.check_fit.specs.declared.rules.TokenRefused.{TokenRefused}
use Rattle.check_fit.specs.declared.rules.TokenRefused.TheVariants as token_refused
use Rattle.check_fit.specs.declared.rules.TokenRule.{TokenRule}
use Rattle.check_questions.specs.FileQuestions.{AreQuestionsOfToken}
use Rattle.check_questions.specs.QuestionsText.{questions_text}
use Rattle.check_questions.specs.declared.fault.QuestionsFault.TheVariants as questions
use Rattle.check_verdict.specs.Passing.{Passes, Terms, of_octets}
use Rattle.check_verdict.specs.TokenRules.{TokenFailsFor}
use Rattle.cli_failures.specs.declared.failure.Failure.{Failure}
use Rattle.cli_failures.specs.declared.failure.Failure.TheVariants as failure
use Rattle.cli_failures.specs.Files.{IsFailureToOpen, IsFailureToRead, IsHeld}
use Rattle.cli_failures.specs.Stamps.{HoldsNoStamp, IsStampIn}
use Rattle.cli_tasks.specs.declared.task.StampWords.{StampWords}
use Rattle.cli_tasks.specs.declared.task.StampQuestionsWords.{StampQuestionsWords}
use Rattle.cli_commands.specs.Checking.{IfKnown, IsTerms}
use Rattle.cli_commands.specs.Judging.{IsContentHeld}
use Rattle.cli_commands.specs.Lists.{IsTrustOf, IsFailureOfTrust, IsFailureOfAnswers}
use Rattle.lines_report.specs.VerdictLine.{IsVerdictLine}
use Rattle.trust_lists.specs.Asking.{Asked}
use Rattle.trust_lists.specs.Entries.{EntryValue}

-- these are the octets of the token in the stamp's file
abbrev pub IsTokenHeld : {F : Type 0} → (holds : F → Option (List ℕ)) → (token : List ℕ) → Type 0
IsTokenHeld holds token = (octets : List ℕ) × IsHeld holds octets × IsStampIn octets token

-- the token passes with this moment for the octets of a file, by the lists and the words
abbrev pub PassesFile : {F : Type 0} → (holds : F → Option (List ℕ)) → StampWords → (moment : ℕ) → Type 0
PassesFile holds words moment = (t : Terms) × IsTerms holds words.sha1 t × ((token stamped : List ℕ)
    × IsTokenHeld holds token × IsContentHeld holds stamped × Passes t token stamped moment)

-- the text says so
abbrev pub ShowsStamped : {F : Type 0} → (holds : F → Option (List ℕ)) → StampWords → (text : List ℕ) → Type 0
ShowsStamped holds words text = (moment : ℕ) × PassesFile holds words moment × IsVerdictLine (Ok moment) text

-- the token fails this rule first, for the octets of a file, or whatever is stamped
abbrev pub FailsFile : {F : Type 0} → (holds : F → Option (List ℕ)) → StampWords → TokenRule → Type 0
FailsFile holds words rule = (t : Terms) × IsTerms holds words.sha1 t × ((token : List ℕ) × IsTokenHeld holds token
    × (((stamped : List ℕ) × IsContentHeld holds stamped × TokenFailsFor t token (of_octets stamped) rule)
    ⊎ ((stamped : List ℕ) → TokenFailsFor t token (of_octets stamped) rule)))

-- the file that should be stamped isn't read to its end: it fails, or it holds more than 2^40 octets
abbrev pub IsUnread : {F : Type 0} → (holds : F → Option (List ℕ)) → DeviceFault → Type 0
IsUnread holds device.ReadFailed = Unit {0}
IsUnread {F} holds device.ContentTooLong = (file : F) × IfKnown (holds file) (λ octets. 2 ^ 40 < length octets)
IsUnread holds _ = ⊥

-- a rule or a device refuses: the token fails, or what it should stamp can't be read
abbrev pub IsRefusalOf : {F : Type 0} → (holds : F → Option (List ℕ)) → StampWords → Failure → Type 0
IsRefusalOf holds words f = ((rule : TokenRule) × FailsFile holds words rule × (f ≡ failure.Unstamped rule))
    ⊎ ((fault : DeviceFault) × IsUnread holds fault × (f ≡ failure.Refused (refused.Device fault)))

-- a list's file fails or isn't a list, a file can't be opened or read, memory runs out, the stamp's file holds no
-- token, or the token is refused
abbrev pub ShowsUnstamped : {F : Type 0} → (holds : F → Option (List ℕ)) → StampWords → Failure → Type 0
ShowsUnstamped holds words f = IsFailureOfTrust holds words.trust f ⊎ (IsFailureOfAnswers holds words.answers f
    ⊎ (IsFailureToRead words.stamp f ⊎ (((octets : List ℕ) × IsHeld holds octets × HoldsNoStamp octets f)
    ⊎ (IsFailureToOpen words.data f ⊎ IsRefusalOf holds words f))))

-- the verdict about a token as that of a file, or the failure that says which rule the token fails
abbrev pub IsVerdictOf : Result ℕ TokenRefused → Result (Result ℕ Refused) Failure → Type 0
IsVerdictOf (Ok moment) result = result ≡ Ok (Ok moment)
IsVerdictOf (Err (token_refused.Rule rule)) result = result ≡ Err (failure.Unstamped rule)
IsVerdictOf (Err (token_refused.Device fault)) result = result ≡ Ok (Err (refused.Device fault))

-- ---- questions

-- the text of the questions of the token in a stamp's file, under the list of a file
abbrev pub ShowsStampQuestions : {F : Type 0} → (holds : F → Option (List ℕ)) → (text : List ℕ) → Type 0
ShowsStampQuestions holds text = (trust : List EntryValue) × (token : List ℕ) × (qs : List Asked)
    × IsTrustOf holds trust × IsTokenHeld holds token × AreQuestionsOfToken trust token qs × (text ≡ questions_text qs)

-- the token doesn't encode a SignedData
abbrev pub IsNoSignedData : (token : List ℕ) → Failure → Type 0
IsNoSignedData token f = ((fault : Fault) × Faults (file content_info) token fault
    × (f ≡ failure.Unasked (questions.Malformed fault)))
    ⊎ (EncodesAnotherType token × (f ≡ failure.Unasked questions.NotSignedData))

-- the file can't be read, memory runs out, it holds no token, or that is no SignedData
abbrev pub HasNoStampQuestions : {F : Type 0} → (holds : F → Option (List ℕ)) → (path : Bor (List ℕ)) → Failure
    → Type 0
HasNoStampQuestions holds path f = IsFailureToRead path f
    ⊎ (((octets : List ℕ) × IsHeld holds octets × HoldsNoStamp octets f)
    ⊎ ((token : List ℕ) × IsTokenHeld holds token × IsNoSignedData token f))

-- or the list's file fails or isn't a list
abbrev pub ShowsNoStampQuestions : {F : Type 0} → (holds : F → Option (List ℕ)) → StampQuestionsWords → Failure
    → Type 0
ShowsNoStampQuestions holds words f = IsFailureOfTrust holds words.trust f ⊎ HasNoStampQuestions holds words.stamp f

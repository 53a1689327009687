-- What `questions` prints for a file. `holds` is what an open file holds, if that is known, and `says` what it may say
-- of itself.
use Rattle.std.specs.Prelude.{◌≡◌, ◌≢◌, ◌⊎◌, ℕ, List, Option, Result, Ok, Err, IfErr}
use Rattle.std.specs.Borrow.{Bor}
use Rattle.std.specs.Io.KnownBytes.{Appends, Keeps}
use Rattle.der_core.specs.OpenFaults.{FaultsOpenly}
use Rattle.der_core.specs.Grammar.{file}
use Rattle.der_grammar.specs.Table.{content_info}
use Rattle.der_grammar.specs.TooLarge.{IsTooLarge}
use Rattle.cms_types.specs.SignerValue.{SignerValue}
use Rattle.cms_types.specs.SignedDataValue.{EncodesAnotherType}
use Rattle.check_fit.specs.declared.rules.DeviceFault.TheVariants as device
use Rattle.check_fit.specs.declared.rules.Refused.TheVariants as refused
use Rattle.trust_lists.specs.Asking.{Asked}
use Rattle.trust_lists.specs.Entries.{EntryValue}
use Rattle.check_questions.specs.FileQuestions.{AreQuestions, AreQuestionsOf}
use Rattle.check_questions.specs.QuestionsText.{questions_text}
use Rattle.check_questions.specs.Written.{EncodesNothing}
use Rattle.check_questions.specs.declared.fault.QuestionsFault.TheVariants as fault
use Rattle.check_stream.specs.declared.fault.StreamQuestionsFault.{StreamQuestionsFault}
use Rattle.check_stream.specs.declared.fault.StreamQuestionsFault.TheVariants as stream
use Rattle.cli_failures.specs.declared.failure.Failure.{Failure}
use Rattle.cli_failures.specs.declared.failure.Failure.TheVariants as failure
use Rattle.cli_tasks.specs.declared.task.QuestionsWords.{QuestionsWords}
use Rattle.cli_failures.specs.Files.{IsFailureToOpen}
use Rattle.cli_failures.specs.Output.{Begins}
use Rattle.cli_commands.specs.Checking.{IfKnown}
use Rattle.cli_commands.specs.Lists.{IsTrustOf, IsFailureOfTrust}
use Rattle.cli_commands.specs.Rereading.{IsLimitFor, IsUnread, Sayings}

-- the text of a file's questions
abbrev pub IsTextOf : List EntryValue → (octets text : List ℕ) → Type 0
IsTextOf trust octets text = (qs : List Asked) × AreQuestionsOf trust octets qs × (text ≡ questions_text qs)

-- the text of questions about some signers
abbrev pub IsTextOfSome : List EntryValue → (text : List ℕ) → Type 0
IsTextOfSome trust text = (signers : List SignerValue) × (qs : List Asked) × AreQuestions trust signers qs
    × (text ≡ questions_text qs)

-- the text for a file that holds this: of questions about some signers, and of the file's, if it is known what it holds
abbrev pub IsTextFor : List EntryValue → (held : Option (List ℕ)) → (text : List ℕ) → Type 0
IsTextFor trust held text = IsTextOfSome trust text × IfKnown held (λ octets. IsTextOf trust octets text)

-- how an attempt to print the questions of a file ends
abbrev pub Attempt : Type 0
Attempt = Result (Unit {0}) StreamQuestionsFault

-- what a writer took, if that is known: such a text; a beginning of one, if a write failed; and otherwise nothing
abbrev pub Takes : (IsText : List ℕ → Type 0) → Attempt → (before after : Option (List ℕ)) → Type 0
Takes IsText (Ok u) before after = (text : List ℕ) × IsText text × Appends before after text
Takes IsText (Err (stream.Questions fault.WriteFailed)) before after = (text : List ℕ) × IsText text
    × Begins before after text
Takes IsText (Err _) before after = Keeps before after

-- why the questions of a file of these octets were not printed: they don't encode a SignedData, more must be kept of
-- them than may be, the output failed, or the file
abbrev pub IsUnasked : List EntryValue → (IsTooLong : List ℕ → Type 0) → (octets : List ℕ) → StreamQuestionsFault
    → Type 0
IsUnasked trust IsTooLong octets (stream.Questions (fault.Malformed f)) = FaultsOpenly (file content_info) octets f
    × EncodesNothing octets
IsUnasked trust IsTooLong octets (stream.Questions fault.NotSignedData) = EncodesAnotherType octets
IsUnasked trust IsTooLong octets (stream.Questions fault.WriteFailed) = (text : List ℕ) × IsTextOf trust octets text
IsUnasked trust IsTooLong octets stream.ReadFailed = Unit {0}
IsUnasked trust IsTooLong octets stream.TooLong = IsTooLong octets

-- a pass with this room, over an open file that has this left
abbrev pub AsksPass : List EntryValue → (held : Option (List ℕ)) → (room : ℕ) → Attempt
    → (before after : Option (List ℕ)) → Type 0
AsksPass trust held room result before after = Takes (IsTextFor trust held) result before after
    × IfErr result (λ why. IfKnown held (λ octets. IsUnasked trust (λ o. IsTooLarge o room) octets why))

-- a pass over the file that was opened, from its position or from its front
abbrev pub AsksReading : {F : Type 0} → (position : F → Option ℕ) → (remaining : F → Option (List ℕ))
    → List EntryValue → (opened : F) → (room : ℕ) → Attempt → (before after : Option (List ℕ)) → Type 0
AsksReading {F} position remaining trust opened room result before after = (last : F)
    × IsUnread position opened last × AsksPass trust (remaining last) room result before after

-- the text of the questions of a file that was opened, under the list of a file
abbrev pub ShowsQuestions : {F : Type 0} → (holds : F → Option (List ℕ)) → (text : List ℕ) → Type 0
ShowsQuestions {F} holds text = (trust : List EntryValue) × (file : F) × IsTrustOf holds trust
    × IsTextFor trust (holds file) text

-- X3: for a file of these octets, more must be kept than may be; what the file that was opened says decides, unless the
-- words do
abbrev pub IsTooLong : {F : Type 0} → (says : Sayings F) → QuestionsWords → (opened : F) → (octets : List ℕ) → Type 0
IsTooLong says words opened octets = (limit : ℕ) × IsLimitFor says opened words.buffer limit × IsTooLarge octets limit

-- the failure for each reason
abbrev pub failure_of : (path : Bor (List ℕ)) → StreamQuestionsFault → Failure
failure_of path (stream.Questions why) = failure.Unasked why
failure_of path stream.ReadFailed = failure.Read path
failure_of path stream.TooLong = failure.Refused (refused.Device device.TooLong)

-- the questions of a file that was opened were not printed, for this reason
abbrev pub AsksNone : {F : Type 0} → (holds : F → Option (List ℕ)) → (says : Sayings F) → QuestionsWords → Failure
    → Type 0
AsksNone {F} holds says words f = (trust : List EntryValue) × (opened file : F) × (why : StreamQuestionsFault)
    × IsTrustOf holds trust
    × IfKnown (holds file) (λ octets. IsUnasked trust (IsTooLong says words opened) octets why)
    × (f ≡ failure_of words.file why)

-- the trust list's file fails or isn't a list, the file can't be opened, memory runs out, or its questions are not
-- printed
abbrev pub AsksNot : {F : Type 0} → (holds : F → Option (List ℕ)) → (says : Sayings F) → QuestionsWords → Failure
    → Type 0
AsksNot holds says words f = IsFailureOfTrust holds words.trust f
    ⊎ (IsFailureToOpen words.file f ⊎ AsksNone holds says words f)

-- what was printed so far is unchanged, unless the output failed
abbrev pub KeepsUnlessFailed : (before after : Option (List ℕ)) → Failure → Type 0
KeepsUnlessFailed before after f = (f ≢ failure.Unasked fault.WriteFailed) → Keeps before after

-- how much was printed of questions that were not all printed: nothing, or a beginning of them if the output failed
abbrev pub ShowsPart : {F : Type 0} → (holds : F → Option (List ℕ)) → (before after : Option (List ℕ)) → Failure
    → Type 0
ShowsPart holds before after f = Keeps before after ⊎ ((f ≡ failure.Unasked fault.WriteFailed)
    × ((text : List ℕ) × ShowsQuestions holds text × Begins before after text))

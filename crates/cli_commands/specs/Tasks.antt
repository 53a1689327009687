-- What a task prints once it is done, and how it fails. `holds` is what an open file holds, if that is known, and
-- `says` what it may say of itself.
use Rattle.std.specs.Prelude.{◌≡◌, ◌≢◌, ◌⊎◌, ℕ, List, [], Option}
use Rattle.lines_shown.specs.RequestLines.{ShowsRequest}
use Rattle.lines_shown.specs.ResponseLines.{ShowsResponse}
use Rattle.lines_shown.specs.TstLines.{ShowsTst}
use Rattle.lines_shown.specs.CertificateLines.{ShowsCertificate}
use Rattle.lines_shown.specs.SignedLines.{ShowsSigned}
use Rattle.lines_shown.specs.EvidenceLines.{ShowsEvidence}
use Rattle.cli_failures.specs.declared.failure.Failure.{Failure}
use Rattle.cli_failures.specs.Failures.{printed_text}
use Rattle.cli_failures.specs.Output.{Begins}
use Rattle.cli_tasks.specs.declared.task.Task.{Task}
use Rattle.cli_tasks.specs.declared.task.Task.TheVariants.{Questions, Text}
use Rattle.cli_tasks.specs.declared.task.TextTask.{TextTask}
use Rattle.cli_tasks.specs.declared.task.TextTask.TheVariants.{Request, ShowRequest, ShowResponse, ShowTst, ShowSigned}
use Rattle.cli_tasks.specs.declared.task.TextTask.TheVariants.{ShowCertificate, Fit, Match, Migrate, Check, Compare}
use Rattle.cli_tasks.specs.declared.task.TextTask.TheVariants.{Attach, AskStamp, CheckStamp, ShowEvidence}
use Rattle.cli_commands.specs.Asking.{ShowsQuestions, AsksNot}
use Rattle.cli_commands.specs.Attaching.{AttachesNot}
use Rattle.cli_commands.specs.Checking.{ShowsAccepted, ShowsRefused}
use Rattle.cli_commands.specs.Comparing.{ShowsSame, ShowsUnlike}
use Rattle.cli_failures.specs.Files.{IsFailureToRead, IsHeld}
use Rattle.cli_commands.specs.Fit.{ShowsFit, ShowsUnfit}
use Rattle.cli_commands.specs.Matching.{IsTokenApart, ShowsAnswer, ShowsNoAnswer}
use Rattle.cli_commands.specs.Migrating.{MigratesNot}
use Rattle.cli_commands.specs.Refusals.{MakesNone}
use Rattle.cli_commands.specs.Rereading.{Sayings}
use Rattle.cli_commands.specs.Requests.{IsOutApart}
use Rattle.cli_commands.specs.Stamping.{ShowsNoStampQuestions, ShowsStampQuestions, ShowsStamped, ShowsUnstamped}
use Rattle.cli_commands.specs.Showing.{ShowsNone, ShowsNoResponse, ShowsNoTst, ShowsNoCertificate, ShowsNoSignedData}
use Rattle.cli_commands.specs.Showing.{ShowsNoEvidence}

-- the text of a task, if it is made before it is printed: nothing for a request that was made and for a list and a file
-- that were written, and otherwise the lines of what the files hold
abbrev pub MakesText : {F : Type 0} → (holds : F → Option (List ℕ)) → TextTask → (text : List ℕ) → Type 0
MakesText holds (Request words) text = text ≡ []
MakesText holds (ShowRequest path) text = (octets : List ℕ) × IsHeld holds octets × ShowsRequest octets text
MakesText holds (ShowResponse path) text = (octets : List ℕ) × IsHeld holds octets × ShowsResponse octets text
MakesText holds (ShowTst path) text = (octets : List ℕ) × IsHeld holds octets × ShowsTst octets text
MakesText holds (ShowSigned path) text = (octets : List ℕ) × IsHeld holds octets × ShowsSigned octets text
MakesText holds (ShowEvidence path) text = (octets : List ℕ) × IsHeld holds octets × ShowsEvidence octets text
MakesText holds (ShowCertificate path) text = (octets : List ℕ) × IsHeld holds octets × ShowsCertificate octets text
MakesText holds (Fit words) text = ShowsFit holds words text
MakesText holds (Match words) text = ShowsAnswer holds text
MakesText holds (Migrate words) text = text ≡ []
MakesText {F} holds (Check words) text = (file : F) × ShowsAccepted holds words (holds file) text
MakesText holds (Compare words) text = ShowsSame holds words text
MakesText holds (Attach words) text = text ≡ []
MakesText holds (CheckStamp words) text = ShowsStamped holds words text
MakesText holds (AskStamp words) text = ShowsStampQuestions holds text

-- how such a task fails: a value isn't as it must be, a file named by the task fails, or what a file holds isn't as it
-- must be
abbrev pub MakesNoText : {F : Type 0} → (holds : F → Option (List ℕ)) → (says : Sayings F) → TextTask → Failure
    → Type 0
MakesNoText holds says (Request words) f = MakesNone holds words f
MakesNoText holds says (ShowRequest path) f = IsFailureToRead path f
    ⊎ ((octets : List ℕ) × IsHeld holds octets × ShowsNone octets f)
MakesNoText holds says (ShowResponse path) f = IsFailureToRead path f
    ⊎ ((octets : List ℕ) × IsHeld holds octets × ShowsNoResponse octets f)
MakesNoText holds says (ShowTst path) f = IsFailureToRead path f
    ⊎ ((octets : List ℕ) × IsHeld holds octets × ShowsNoTst octets f)
MakesNoText holds says (ShowSigned path) f = IsFailureToRead path f
    ⊎ ((octets : List ℕ) × IsHeld holds octets × ShowsNoSignedData octets f)
MakesNoText holds says (ShowEvidence path) f = IsFailureToRead path f
    ⊎ ((octets : List ℕ) × IsHeld holds octets × ShowsNoEvidence octets f)
MakesNoText holds says (ShowCertificate path) f = IsFailureToRead path f
    ⊎ ((octets : List ℕ) × IsHeld holds octets × ShowsNoCertificate octets f)
MakesNoText holds says (Fit words) f = ShowsUnfit holds words f
MakesNoText holds says (Match words) f = ShowsNoAnswer holds words f
MakesNoText holds says (Migrate words) f = MigratesNot holds words f
MakesNoText holds says (Check words) f = ShowsRefused holds says words f
MakesNoText holds says (Compare words) f = ShowsUnlike holds words f
MakesNoText holds says (Attach words) f = AttachesNot holds words f
MakesNoText holds says (CheckStamp words) f = ShowsUnstamped holds words f
MakesNoText holds says (AskStamp words) f = ShowsNoStampQuestions holds words f

-- the path of the file that such a task writes is none of those that it reads, but that `attach` may replace its file
abbrev pub WritesApart : TextTask → Type 0
WritesApart (Request words) = IsOutApart words.stamped words.out.now
WritesApart (Match words) = IsTokenApart words
WritesApart (Migrate words) = words.out.now ≢ words.list.now
WritesApart (Attach words) = words.out.now ≢ words.token.now
WritesApart _ = Unit {0}

-- what is printed for a task that is done
abbrev pub IsDoneBy : {F : Type 0} → (holds : F → Option (List ℕ)) → Task → (text : List ℕ) → Type 0
IsDoneBy holds (Questions words) text = ShowsQuestions holds text
IsDoneBy holds (Text task) text = MakesText holds task text

-- how a task fails
abbrev pub FailsBy : {F : Type 0} → (holds : F → Option (List ℕ)) → (says : Sayings F) → Task → Failure → Type 0
FailsBy holds says (Questions words) f = AsksNot holds says words f
FailsBy holds says (Text task) f = MakesNoText holds says task f

-- a task stopped: a writer took a beginning of what it prints, or of what is printed of its failure, if what the writer
-- takes is known
abbrev pub StopsBy : {F : Type 0} → (holds : F → Option (List ℕ)) → (says : Sayings F) → Task
    → (before after : Option (List ℕ)) → Type 0
StopsBy holds says task before after = ((text : List ℕ) × IsDoneBy holds task text × Begins before after text)
    ⊎ ((f : Failure) × FailsBy holds says task f × Begins before after (printed_text f))

-- the path of the file that a task writes is none of those that it reads, but that `attach` may replace its file
abbrev pub IsApart : Task → Type 0
IsApart (Questions words) = Unit {0}
IsApart (Text task) = WritesApart task

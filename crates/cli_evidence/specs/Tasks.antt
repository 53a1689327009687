-- What a task about evidence records prints once it is done, and how it fails. `holds` is what an open file holds, and
-- `contents` what it has taken, if that is known.
use Rattle.std.specs.Prelude.{◌≡◌, ◌⊎◌, ℕ, List, [], Option}
use Rattle.cli_tasks.specs.declared.task.EvidenceTask.{EvidenceTask}
use Rattle.cli_tasks.specs.declared.task.EvidenceTask.TheVariants.{Check, CheckUnder, Questions, Request, Make}
use Rattle.cli_tasks.specs.declared.task.EvidenceTask.TheVariants.{Rehash, Renew, RequestRehash, RequestRenewal}
use Rattle.cli_failures.specs.declared.failure.Failure.{Failure}
use Rattle.cli_failures.specs.Failures.{printed_text}
use Rattle.cli_failures.specs.Output.{Begins}
use Rattle.cli_making.specs.Requesting.{MakesNoRootRequest}
use Rattle.cli_making.specs.Unmade.{MakesNoRecords}
use Rattle.cli_renewing.specs.Unrenewed.{MakesNoRenewalRequest, RenewsNot}
use Rattle.cli_rehashing.specs.Unrehashed.{MakesNoRehashRequest, RehashesNot}
use Rattle.cli_evidence.specs.Checking.{AcceptsData, RefusesData}
use Rattle.cli_evidence.specs.Questions.{ShowsNoRecordQuestions, ShowsRecordQuestions}
use Rattle.cli_evidence.specs.Under.{AcceptsUnder, RefusesUnder}

-- what is printed for a task that is done: nothing for requests and for records, which were written
abbrev pub IsDoneBy : {F : Type 0} → (holds : F → Option (List ℕ)) → EvidenceTask → (text : List ℕ) → Type 0
IsDoneBy holds (Check words) text = AcceptsData holds words text
IsDoneBy holds (CheckUnder words) text = AcceptsUnder holds words text
IsDoneBy holds (Questions words) text = ShowsRecordQuestions holds text
IsDoneBy holds (Request words) text = text ≡ []
IsDoneBy holds (Make words) text = text ≡ []
IsDoneBy holds (RequestRenewal words) text = text ≡ []
IsDoneBy holds (Renew words) text = text ≡ []
IsDoneBy holds (RequestRehash words) text = text ≡ []
IsDoneBy holds (Rehash words) text = text ≡ []

-- how a task fails
abbrev pub FailsBy : {F : Type 0} → (holds contents : F → Option (List ℕ)) → EvidenceTask → Failure → Type 0
FailsBy holds contents (Check words) f = RefusesData holds words f
FailsBy holds contents (CheckUnder words) f = RefusesUnder holds words f
FailsBy holds contents (Questions words) f = ShowsNoRecordQuestions holds words f
FailsBy holds contents (Request words) f = MakesNoRootRequest holds words f
FailsBy holds contents (Make words) f = MakesNoRecords holds words f
FailsBy holds contents (RequestRenewal words) f = MakesNoRenewalRequest holds contents words f
FailsBy holds contents (Renew words) f = RenewsNot holds contents words f
FailsBy holds contents (RequestRehash words) f = MakesNoRehashRequest holds contents words f
FailsBy holds contents (Rehash words) f = RehashesNot holds contents words f

-- a task stopped: a writer took a beginning of what it prints, or of what is printed of its failure, if what the writer
-- takes is known
abbrev pub StopsBy : {F : Type 0} → (holds contents : F → Option (List ℕ)) → EvidenceTask
    → (before after : Option (List ℕ)) → Type 0
StopsBy holds contents task before after = ((text : List ℕ) × IsDoneBy holds task text × Begins before after text)
    ⊎ ((f : Failure) × FailsBy holds contents task f × Begins before after (printed_text f))

-- What `check` prints for a file, its content, a trust list and an answers list. `holds` is what an open file holds, if
-- that is known, and `says` what it may say of itself.
use Rattle.std.specs.Prelude.{◌≡◌, ◌⊎◌, ℕ, Bool, List, Option, Result, Ok, Err, IfSome, IsSomeAnd, is_some}
use Rattle.devices.specs.Device.{AreOctets}
use Rattle.der_core.specs.OpenFaults.{FaultsOpenly}
use Rattle.der_core.specs.Grammar.{file}
use Rattle.der_grammar.specs.Table.{content_info}
use Rattle.der_grammar.specs.TooLarge.{IsTooLarge}
use Rattle.check_fit.specs.declared.rules.DeviceFault.TheVariants as device
use Rattle.check_fit.specs.declared.rules.Refused.{Refused}
use Rattle.check_fit.specs.declared.rules.Refused.TheVariants as refused
use Rattle.check_fit.specs.Fitting.{with_sha1}
use Rattle.trust_lists.specs.Asking.{Asked, is_among}
use Rattle.list_answers.specs.AnswersText.{answers_of}
use Rattle.check_verdict.specs.Passing.{Terms}
use Rattle.check_verdict.specs.Verdicts.{Judges}
use Rattle.lines_report.specs.VerdictLine.{IsVerdictLine}
use Rattle.cli_tasks.specs.declared.task.CheckWords.{CheckWords}
use Rattle.cli_failures.specs.declared.failure.Failure.{Failure}
use Rattle.cli_failures.specs.declared.failure.Failure.TheVariants as failure
use Rattle.cli_failures.specs.Files.{IsFailureToOpen, IsHeld}
use Rattle.cli_commands.specs.Judging.{JudgesFile, IsContentHeld}
use Rattle.cli_commands.specs.Lists.{IsTrustOf, IsFailureOfTrust, IsFailureOfAnswers}
use Rattle.cli_commands.specs.Rereading.{IsLimitFor, Sayings}

-- a file is accepted, and the text is the line that says so
abbrev pub TellsAccepted : Result ℕ Refused → (text : List ℕ) → Type 0
TellsAccepted (Ok m) text = IsVerdictLine (Ok m) text
TellsAccepted (Err why) text = ⊥

-- the terms of a check: SHA-1 is allowed if the words say so, the text of a file is the trust list, and that of another
-- file is an answers list; its questions are vouched for, and no others
pub record IsTerms {F : Type 0} (holds : F → Option (List ℕ)) (sha1 : Bool) (t : Terms) : Type 0 where
  pub policy : t.policy ≡ with_sha1 sha1
  pub trust : IsTrustOf holds t.trust
  pub text : List ℕ
  pub read : IsHeld holds text
  pub asked : List Asked
  pub says : answers_of text ≡ Ok asked
  pub vouches : (q : Asked) → t.vouches q ≡ is_among asked q

-- the verdict about a file of these octets, under such terms. The file is read from its front, so a fault is one that
-- the octets up to it show
abbrev pub JudgesCheck : {F : Type 0} → (holds : F → Option (List ℕ)) → CheckWords → (octets : List ℕ)
    → Result ℕ Refused → Type 0
JudgesCheck holds words octets verdict = (t : Terms) × IsTerms holds words.sha1 t × JudgesFile
    (FaultsOpenly (file content_info)) (Judges t) (IsContentHeld holds) (is_some words.content) octets verdict

-- X1 of the file: it failed while it was read
abbrev pub IsUnreadable : Result ℕ Refused → Type 0
IsUnreadable verdict = verdict ≡ Err (refused.Device device.ReadFailed)

-- X3: for a file of these octets, more must be kept than may be; what the file that was opened says decides, unless the
-- words do
abbrev pub IsTooLong : {F : Type 0} → (says : Sayings F) → CheckWords → (opened : F) → (octets : List ℕ)
    → Result ℕ Refused → Type 0
IsTooLong says words opened octets verdict = (verdict ≡ Err (refused.Device device.TooLong))
    × ((limit : ℕ) × IsLimitFor says opened words.buffer limit × IsTooLarge octets limit)

-- the verdict of a pass over a file of these octets
abbrev pub JudgesStream : {F : Type 0} → (holds : F → Option (List ℕ)) → (says : Sayings F) → CheckWords → (opened : F)
    → (octets : List ℕ) → Result ℕ Refused → Type 0
JudgesStream holds says words opened octets verdict = IsUnreadable verdict
    ⊎ (IsTooLong says words opened octets verdict ⊎ JudgesCheck holds words octets verdict)

-- this holds of the octets that a file holds, if it is known what it holds
abbrev pub IfKnown : (held : Option (List ℕ)) → (List ℕ → Type 0) → Type 0
IfKnown held IsSo = IfSome held (λ octets. AreOctets octets → IsSo octets)

-- the text says that a file with these octets is accepted
abbrev pub ShowsAccepted : {F : Type 0} → (holds : F → Option (List ℕ)) → CheckWords → (held : Option (List ℕ))
    → (text : List ℕ) → Type 0
ShowsAccepted holds words held text = (m : ℕ) × IsVerdictLine (Ok m) text
    × IfKnown held (λ octets. JudgesCheck holds words octets (Ok m))

-- the failure says that a file with these octets is refused
abbrev pub ShowsRefusal : {F : Type 0} → (holds : F → Option (List ℕ)) → (says : Sayings F) → CheckWords → (opened : F)
    → (held : Option (List ℕ)) → Failure → Type 0
ShowsRefusal holds says words opened held f = (why : Refused) × (f ≡ failure.Refused why)
    × IfKnown held (λ octets. JudgesStream holds says words opened octets (Err why))

-- a list's file fails or isn't a list, a file can't be opened, memory runs out, or the file that was opened is refused
abbrev pub ShowsRefused : {F : Type 0} → (holds : F → Option (List ℕ)) → (says : Sayings F) → CheckWords → Failure
    → Type 0
ShowsRefused {F} holds says words f = IsFailureOfTrust holds words.trust f ⊎ (IsFailureOfAnswers holds words.answers f
    ⊎ (IsSomeAnd words.content (λ path. IsFailureToOpen path f) ⊎ (IsFailureToOpen words.file f
    ⊎ ((opened file : F) × ShowsRefusal holds says words opened (holds file) f))))

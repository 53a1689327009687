-- The verdict of a check under an evidence record, of a file that comes from a source.
use Rattle.std.specs.Prelude.{◌≡◌, ◌⊎◌, ℕ, List, Option, Some, None, Result, Ok, Err}
use Rattle.devices.specs.declared.source.Source.{Ghosts}
use Rattle.check_fit.specs.declared.rules.Refused.{Refused}
use Rattle.trust_lists.specs.Asking.{Asked}
use Rattle.check_verdict.specs.Passing.{Terms}
use Rattle.check_verdict.specs.Headline.{IsDevice}
use Rattle.check_verdict.specs.Questions.{IsQuestion}
use Rattle.check_verdict.specs.Checking.{CountsAsks}
use Rattle.check_stream.specs.StreamVerdicts.{Given, StreamChecks, IsTooLong, StreamVerdictOrDevice}
use Rattle.check_evidence.specs.Grounds.{Grounds}
use Rattle.judge_evidence.specs.Asking.{IsAskedOfRecord}
use Rattle.judge_evidence.specs.RecordVerdicts.{IsVerdict as IsVerdictOfRecord, IsDevice as IsDeviceOfRecord}
use Rattle.judge_evidence.specs.Walking.{CountsRefused}
use Rattle.check_under.specs.Under.{data_of, AreTermsUnder, YesUnder}
use Rattle.check_under.specs.declared.refused.UnderRefused.{UnderRefused}
use Rattle.check_under.specs.declared.refused.UnderRefused.TheVariants as refused

-- what is said of a file under a record that shows it
abbrev pub said_under : Result ℕ Refused → Result ℕ UnderRefused
said_under (Ok m) = Ok m
said_under (Err r) = Err (refused.Signed r)

-- what the check of the file said, if it was checked
abbrev pub said_of_file : Result ℕ UnderRefused → Option (Result ℕ Refused)
said_of_file (Ok m) = Some (Ok m)
said_of_file (Err (refused.Signed r)) = Some (Err r)
said_of_file (Err (refused.Evidence r)) = None

-- a device failed, the content is too long, or there was too little room
abbrev pub IsDeviceUnder : Result ℕ UnderRefused → Type 0
IsDeviceUnder (Ok m) = ⊥
IsDeviceUnder (Err (refused.Signed r)) = IsTooLong (Err r) ⊎ IsDevice (Err r)
IsDeviceUnder (Err (refused.Evidence r)) = IsDeviceOfRecord (Err r)

-- yes with this moment exactly when it is a yes, unless a device failed, the content is too long or there was too
-- little room
pub record GivesYesUnder (g : Grounds) (octets file : List ℕ) (handed : Option (List ℕ))
    (result : Result ℕ UnderRefused) (m : ℕ) : Type 0 where
  pub sound : result ≡ Ok m → YesUnder g octets file handed m
  pub complete : YesUnder g octets file handed m → (result ≡ Ok m) ⊎ IsDeviceUnder result

-- the verdict about the record, or about the file if the record shows its data; of a malformed file it names a fault
-- that holds openly
abbrev pub IsVerdictUnder : Grounds → (octets file : List ℕ) → (handed : Option (List ℕ)) → Result ℕ UnderRefused
    → Type 0
IsVerdictUnder g octets file handed (Ok m) = YesUnder g octets file handed m
IsVerdictUnder g octets file handed (Err (refused.Signed r)) = (t : Terms)
    × AreTermsUnder g octets (data_of file handed) t × StreamVerdictOrDevice t file handed (Err r)
IsVerdictUnder g octets file handed (Err (refused.Evidence r)) =
    IsVerdictOfRecord g octets (data_of file handed) (Err r)

-- the same of each file, also one that isn't known: the record is refused for data objects, or a device failed; or it
-- shows them, and the verdict about the file is that of a check of a stream by the terms under it
abbrev pub JudgesUnder : {S : Type 0} → Grounds → (octets : List ℕ) → (data_objects : List (List ℕ)) → Given
    → Ghosts S → (before after : Option S) → Result ℕ UnderRefused → Type 0
JudgesUnder g octets data_objects given content before after (Ok m) = (t : Terms)
    × AreTermsUnder g octets data_objects t × StreamChecks t given content before after (Ok m)
JudgesUnder g octets data_objects given content before after (Err (refused.Signed r)) = (t : Terms)
    × AreTermsUnder g octets data_objects t × StreamChecks t given content before after (Err r)
JudgesUnder g octets data_objects given content before after (Err (refused.Evidence r)) =
    IsVerdictOfRecord g octets data_objects (Err r)

-- what the verifier is asked: questions about the record, and questions of the file
abbrev pub IsAskedUnder : Grounds → (octets : List ℕ) → (data_objects : List (List ℕ)) → (file : List ℕ) → Asked
    → Type 0
IsAskedUnder g octets data_objects file q = IsAskedOfRecord g octets data_objects q ⊎ IsQuestion g.trust file q

-- the verifier failed exactly if the verdict says so
abbrev pub CountsUnder : Result ℕ UnderRefused → (count count' : ℕ) → Type 0
CountsUnder (Ok m) count count' = count' ≡ count
CountsUnder (Err (refused.Signed r)) count count' = CountsAsks (Err r) count count'
CountsUnder (Err (refused.Evidence r)) count count' = CountsRefused {A = ℕ} (Err r) count count'

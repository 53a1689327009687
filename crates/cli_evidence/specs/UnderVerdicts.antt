-- What a verdict about a signed file under an evidence record says, and how it is come by.
use Rattle.std.specs.Prelude.{◌≡◌, ◌≤◌, ◌^◌, ℕ, List, length, Option, Result, Ok, Err, IfErr, IfSome}
use Rattle.check_evidence.specs.Grounds.{Grounds}
use Rattle.check_evidence.specs.declared.rules.RecordRule.{RecordRule}
use Rattle.check_evidence.specs.declared.rules.EvidenceRefused.TheVariants as evidence
use Rattle.check_fit.specs.declared.rules.DeviceFault.TheVariants as device
use Rattle.check_fit.specs.declared.rules.Refused.TheVariants as signed
use Rattle.check_under.specs.UnderVerdicts.{IsVerdictUnder}
use Rattle.check_under.specs.declared.refused.UnderRefused.{UnderRefused}
use Rattle.check_under.specs.declared.refused.UnderRefused.TheVariants as refused
use Rattle.judge_evidence.specs.RecordVerdicts.{IsWanted}
use Rattle.lines_report.specs.VerdictLine.{IsVerdictLine}
use Rattle.cli_failures.specs.declared.failure.Failure.{Failure}
use Rattle.cli_failures.specs.declared.failure.Failure.TheVariants as failure
use Rattle.cli_evidence.specs.Under.{IsFaultWithin, failure_under}

-- V1 or V2, by which no algorithm is wanted
abbrev pub TellsUnwantedUnder : (octets : List ℕ) → Failure → Type 0
TellsUnwantedUnder octets f = (failed : RecordRule) × IsWanted octets (Err failed)
    × (f ≡ failure.Unevidenced (record { refused = evidence.Record failed }))

-- there was too little room for the file
abbrev pub IsTooLong : Result ℕ UnderRefused → Type 0
IsTooLong verdict = verdict ≡ Err (refused.Signed (signed.Device device.TooLong))

-- a content that is handed in has no more octets than are judged: X5 isn't said of it
abbrev pub IsShort : (handed : Option (List ℕ)) → Type 0
IsShort handed = IfSome handed (λ octets. length octets ≤ 2 ^ 40)

-- the verdict about the record, or about the file if the record shows its data; no device failed, but there may be too
-- little room for the file, if more must be kept of it than this limit, or for a list of the record
pub record IsVerdictWithin (g : Grounds) (octets file : List ℕ) (handed : Option (List ℕ)) (limit : ℕ)
    (verdict : Result ℕ UnderRefused) : Type 0 where
  pub is : IsVerdictUnder g octets file handed verdict
  pub fault : IfErr verdict (IsFaultWithin octets file limit)

-- the file is accepted, and the text is the line that says so
abbrev pub TellsUnder : Result ℕ UnderRefused → (text : List ℕ) → Type 0
TellsUnder (Ok m) text = IsVerdictLine (Ok m) text
TellsUnder (Err why) text = ⊥

-- the failure is that of a verdict: it was a refusal, or memory ran out for the line
abbrev pub TellsNotUnder : Result ℕ UnderRefused → Failure → Type 0
TellsNotUnder (Ok m) f = f ≡ failure.Memory
TellsNotUnder (Err why) f = f ≡ failure_under why

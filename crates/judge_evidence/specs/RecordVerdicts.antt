-- The verdict of a check of an evidence record (RFC 4998, 5.3).
use Rattle.std.specs.Prelude.{◌≡◌, ◌≢◌, ◌⊎◌, ⊤, ℕ, List, [], None, Result, Ok, Err}
use Rattle.der_core.specs.Faults.{Faults}
use Rattle.der_core.specs.Grammar.{file}
use Rattle.digests.specs.declared.selection.WantedDigests.{WantedDigests}
use Rattle.digests.specs.declared.set.Algs.{Algs}
use Rattle.evidence_types.specs.EvidenceTable.{evidence_record}
use Rattle.evidence_types.specs.EvidenceValue.{EvidenceValue, EncodesEvidence}
use Rattle.check_evidence.specs.Grounds.{Grounds}
use Rattle.check_evidence.specs.Showing.{Shows}
use Rattle.check_evidence.specs.Refusing.{IsEncrypted, Refuses}
use Rattle.check_evidence.specs.declared.rules.RecordRule.{RecordRule}
use Rattle.check_evidence.specs.declared.rules.RecordRule.TheVariants as rule
use Rattle.check_evidence.specs.declared.rules.EvidenceRefused.{EvidenceRefused}
use Rattle.check_evidence.specs.declared.rules.EvidenceRefused.TheVariants as refused
use Rattle.judge_evidence.specs.Data.{AreFirstAlgs}
use Rattle.judge_evidence.specs.Walking.{IsFault}

-- V1 and V2: the octets encode no record whose data are open
abbrev pub FailsToOpen : (octets : List ℕ) → RecordRule → Type 0
FailsToOpen octets (rule.Malformed fault) = Faults (file evidence_record) octets fault
FailsToOpen octets rule.Encrypted = IsEncrypted octets
FailsToOpen octets rule.NoData = ⊥

-- the octets encode a record whose data are open; or it fails this rule
abbrev pub IsOpened : (octets : List ℕ) → Result EvidenceValue RecordRule → Type 0
IsOpened octets (Ok v) = EncodesEvidence octets v × (v.encryption ≡ None)
IsOpened octets (Err failed) = FailsToOpen octets failed

-- the octets encode a record whose data are open and must be digested by these algorithms; or it fails this rule
abbrev pub IsWanted : (octets : List ℕ) → Result Algs RecordRule → Type 0
IsWanted octets (Ok wanted) = (v : EvidenceValue) × EncodesEvidence octets v × (v.encryption ≡ None)
    × AreFirstAlgs v.chains wanted
IsWanted octets (Err failed) = FailsToOpen octets failed

-- the record shows this moment, or is refused for this reason; or the verifier failed, or memory was refused
abbrev pub IsVerdict : Grounds → (octets : List ℕ) → (data_objects : List (List ℕ)) → Result ℕ EvidenceRefused
    → Type 0
IsVerdict g octets data_objects (Ok m) = Shows g octets data_objects m
IsVerdict g octets data_objects (Err (refused.Device fault)) = IsFault fault
IsVerdict g octets data_objects (Err r) = Refuses g octets data_objects r

-- a device failed
abbrev pub IsDevice : Result ℕ EvidenceRefused → Type 0
IsDevice (Err (refused.Device fault)) = ⊤
IsDevice _ = ⊥

-- V1 to V3 hold: the octets encode a record whose data are open, and there are digests of data
pub record IsOpenWithData (octets : List ℕ) (digests : List WantedDigests) : Type 0 where
  pub record_value : EvidenceValue
  pub encodes : EncodesEvidence octets record_value
  pub open_data : record_value.encryption ≡ None
  pub some : digests ≢ []

-- the verdict is this moment, or a device failed
abbrev pub ShowsOrDevice : ℕ → Result ℕ EvidenceRefused → Type 0
ShowsOrDevice m result = (result ≡ Ok m) ⊎ IsDevice result

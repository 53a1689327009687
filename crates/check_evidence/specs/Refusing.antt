-- How an evidence record is refused: by which rule first.
use Rattle.std.specs.Prelude.{◌≡◌, ◌≢◌, ℕ, true, List, [], None, IsSome}
use Rattle.der_core.specs.Faults.{Faults}
use Rattle.der_core.specs.Grammar.{file}
use Rattle.evidence_types.specs.StampValue.{StampValue}
use Rattle.evidence_types.specs.EvidenceTable.{evidence_record}
use Rattle.evidence_types.specs.EvidenceValue.{EvidenceValue, EncodesEvidence}
use Rattle.digests.specs.declared.algorithm.Alg.{Alg}
use Rattle.check_evidence.specs.Grounds.{Grounds}
use Rattle.check_evidence.specs.Places.{Place, IsIn, IsBefore, chain_number, stamp_number}
use Rattle.check_evidence.specs.Standing.{FitsIn, Stands}
use Rattle.check_evidence.specs.Showing.{IsWhole}
use Rattle.check_evidence.specs.Failing.{FailsToFit, FailsToLast}
use Rattle.check_evidence.specs.declared.rules.RecordRule.{RecordRule}
use Rattle.check_evidence.specs.declared.rules.RecordRule.TheVariants as record_rule
use Rattle.check_evidence.specs.declared.rules.StampRule.{StampRule}
use Rattle.check_evidence.specs.declared.rules.StampRule.TheVariants as rule
use Rattle.check_evidence.specs.declared.rules.EvidenceRefused.{EvidenceRefused}
use Rattle.check_evidence.specs.declared.rules.EvidenceRefused.TheVariants as refused

-- the record is encrypted
pub record IsEncrypted (octets : List ℕ) : Type 0 where
  pub record_value : EvidenceValue
  pub encodes : EncodesEvidence octets record_value
  pub encrypted : IsSome record_value.encryption

-- no data object was handed in
pub record HasNoData (octets : List ℕ) (data_objects : List (List ℕ)) : Type 0 where
  pub record_value : EvidenceValue
  pub encodes : EncodesEvidence octets record_value
  pub open_data : record_value.encryption ≡ None
  pub no_data : data_objects ≡ []

-- V1 to V3
abbrev pub RecordFails : (octets : List ℕ) → (data_objects : List (List ℕ)) → RecordRule → Type 0
RecordFails octets data_objects (record_rule.Malformed fault) = Faults (file evidence_record) octets fault
RecordFails octets data_objects record_rule.Encrypted = IsEncrypted octets
RecordFails octets data_objects record_rule.NoData = HasNoData octets data_objects

-- the stamp at a place fits
abbrev pub Fits : Grounds → (data_objects : List (List ℕ)) → Place → Type 0
Fits g data_objects p = (alg : Alg) × (m : ℕ) × FitsIn g data_objects p alg m

-- W1 to W5: the first stamp that fails to fit
pub record FirstUnfit (g : Grounds) (data_objects : List (List ℕ)) (chains : List (List StampValue)) (p : Place)
    (failed : StampRule) : Type 0 where
  pub is_in : IsIn chains p
  pub before : (q : Place) → IsIn chains q → IsBefore q p → Fits g data_objects q
  pub fails : FailsToFit g data_objects p failed

-- W6 and W7: all fit, and this is the first that fails to last
pub record FirstLapsed (g : Grounds) (data_objects : List (List ℕ)) (chains : List (List StampValue)) (p : Place)
    (failed : StampRule) : Type 0 where
  pub is_in : IsIn chains p
  pub all_fit : (q : Place) → IsIn chains q → Fits g data_objects q
  pub before : (q : Place) → IsIn chains q → IsBefore q p → Stands g data_objects q
  pub fails : FailsToLast g data_objects p failed

-- W8: all stand, and the first list of the first has other hash values, where none may be
pub record HasOthers (g : Grounds) (data_objects : List (List ℕ)) (chains : List (List StampValue)) (p : Place)
    (failed : StampRule) : Type 0 where
  pub is_in : IsIn chains p
  pub first_chain : p.earlier ≡ []
  pub first_stamp : p.before ≡ []
  pub all_stand : (q : Place) → IsIn chains q → Stands g data_objects q
  pub whole : g.whole ≡ true
  pub others : IsWhole data_objects p.stamp → ⊥
  pub is : failed ≡ rule.Others

abbrev pub StampFails : Grounds → (data_objects : List (List ℕ)) → (chains : List (List StampValue)) → Place
    → StampRule → Type 0
StampFails g data_objects chains p rule.Weak = FirstLapsed g data_objects chains p rule.Weak
StampFails g data_objects chains p rule.Lapsed = FirstLapsed g data_objects chains p rule.Lapsed
StampFails g data_objects chains p rule.Others = HasOthers g data_objects chains p rule.Others
StampFails g data_objects chains p failed = FirstUnfit g data_objects chains p failed

-- a stamp of the record, by its numbers, is the reason
pub record RefusedAt (g : Grounds) (octets : List ℕ) (data_objects : List (List ℕ)) (chain stamp : ℕ)
    (failed : StampRule) : Type 0 where
  pub some_data : data_objects ≢ []
  pub record_value : EvidenceValue
  pub encodes : EncodesEvidence octets record_value
  pub open_data : record_value.encryption ≡ None
  pub place : Place
  pub is_chain : chain ≡ chain_number place
  pub is_stamp : stamp ≡ stamp_number place
  pub fails : StampFails g data_objects record_value.chains place failed

-- The record is refused for this reason. A device that fails is none.
abbrev pub Refuses : Grounds → (octets : List ℕ) → (data_objects : List (List ℕ)) → EvidenceRefused → Type 0
Refuses g octets data_objects (refused.Record failed) = RecordFails octets data_objects failed
Refuses g octets data_objects (refused.Stamp chain stamp failed) = RefusedAt g octets data_objects chain stamp failed
Refuses g octets data_objects (refused.Device fault) = ⊥

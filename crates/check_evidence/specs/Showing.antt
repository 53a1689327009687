-- What an evidence record shows (RFC 4998, 3.3 and 5.3). Begin here.
--
-- A record shows a moment for data objects: they existed by then. Its words, and where they are defined:
--   the octets are a record                EncodesEvidence in evidence_types/specs/EvidenceValue.antt (3.1)
--   each of its time-stamps stands         Stands in Standing (4.3, 5.3)
--   what each must cover                   covered_at in Covering (4.3, 5.2)
--   its token passes, on the root          PassesFor in check_verdict/specs/Passing.antt (RFC 3161, 2.4.2); Roots (4.3)
--   to the moment of the following one     IsUntil in StampStates (5.3)
--   which algorithms hold                  AlgHolds in Ends
use Rattle.std.specs.Prelude.{◌≡◌, ◌≢◌, ℕ, true, List, [], map, Some, None}
use Rattle.evidence_types.specs.StampValue.{StampValue}
use Rattle.evidence_types.specs.EvidenceValue.{EvidenceValue, EncodesEvidence}
use Rattle.digests.specs.declared.algorithm.Alg.{Alg}
use Rattle.check_evidence.specs.Grounds.{Grounds}
use Rattle.check_evidence.specs.Roots.{HasNoOthers}
use Rattle.check_evidence.specs.Places.{Place, IsIn, first_of, stamps_of}
use Rattle.check_evidence.specs.StampStates.{HasTime, HasAlg}
use Rattle.check_evidence.specs.Covering.{covered_of}
use Rattle.check_evidence.specs.Standing.{Stands}

-- a stamp is the first of all
abbrev pub IsFirst : List (List StampValue) → StampValue → Type 0
IsFirst chains s = first_of (stamps_of chains) ≡ Some s

-- its first list has no hash value but those of the data objects
pub record IsWhole (data_objects : List (List ℕ)) (s : StampValue) : Type 0 where
  pub alg : Alg
  pub its : HasAlg s alg
  pub no_others : HasNoOthers s.lists (map (covered_of alg []) data_objects)

-- The record shows this moment for the data objects.
pub record Shows (g : Grounds) (octets : List ℕ) (data_objects : List (List ℕ)) (m : ℕ) : Type 0 where
  pub some_data : data_objects ≢ []
  pub record_value : EvidenceValue
  pub encodes : EncodesEvidence octets record_value
  pub open_data : record_value.encryption ≡ None
  pub stands : (p : Place) → IsIn record_value.chains p → Stands g data_objects p
  pub first : StampValue
  pub is_first : IsFirst record_value.chains first
  pub moment : HasTime first m
  pub whole : g.whole ≡ true → IsWhole data_objects first

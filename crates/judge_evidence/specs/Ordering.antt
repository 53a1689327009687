-- Lists of hash values that are out of order (RFC 4998, 4.2): of a record without one the check asks for no memory.
use Rattle.std.specs.Prelude.{List, [], ℕ, All, unwrap_or}
use Rattle.evidence_types.specs.StampValue.{StampValue}
use Rattle.evidence_types.specs.EvidenceValue.{EvidenceValue, EncodesEvidence}
use Rattle.check_evidence.specs.Places.{Place, IsIn}
use Rattle.check_evidence.specs.Roots.{IsAscending}

-- not each of its lists stands in "binary ascending order"
abbrev pub IsOutOfOrder : StampValue → Type 0
IsOutOfOrder s = All IsAscending (unwrap_or s.lists []) → ⊥

-- one of the chains' time-stamps has such a list
pub record HasOutOfOrder (chains : List (List StampValue)) : Type 0 where
  pub place : Place
  pub there : IsIn chains place
  pub its : IsOutOfOrder place.stamp

-- and the octets are a record with these chains
pub record IsRecordOutOfOrder (octets : List ℕ) : Type 0 where
  pub record_value : EvidenceValue
  pub encodes : EncodesEvidence octets record_value
  pub a_list : HasOutOfOrder record_value.chains

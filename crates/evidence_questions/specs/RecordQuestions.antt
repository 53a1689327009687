-- The questions of an evidence record in their order (RFC 4998, 5.3).
use Rattle.std.specs.Prelude.{◌≡◌, ℕ, List, Contains, None}
use Rattle.trust_lists.specs.Entries.{EntryValue}
use Rattle.trust_lists.specs.Asking.{Asked}
use Rattle.evidence_types.specs.StampValue.{StampValue}
use Rattle.evidence_types.specs.EvidenceValue.{EvidenceValue, EncodesEvidence}
use Rattle.check_verdict.specs.Questions.{IsAboutToken}
use Rattle.check_questions.specs.FileQuestions.{InOrder, OfToken}
use Rattle.check_evidence.specs.Places.{stamps_of}

-- the questions about the time-stamp of an archive time-stamp, those that it has as a token by itself; what is no token
-- has none
abbrev pub OfStamp : (trust : List EntryValue) → StampValue → List Asked → Type 0
OfStamp trust s qs = OfToken trust s.stamp qs

-- those of archive time-stamps, in their order
abbrev pub OfStamps : (trust : List EntryValue) → List StampValue → List Asked → Type 0
OfStamps trust stamps qs = InOrder (OfStamp trust) stamps qs

-- those of a record, whose data are not encrypted
pub record AreQuestionsOfRecord (trust : List EntryValue) (octets : List ℕ) (qs : List Asked) : Type 0 where
  pub record_value : EvidenceValue
  pub encodes : EncodesEvidence octets record_value
  pub open_data : record_value.encryption ≡ None
  pub are : OfStamps trust (stamps_of record_value.chains) qs

-- a member of the questions of a record
pub record IsRecordQuestion (trust : List EntryValue) (octets : List ℕ) (q : Asked) : Type 0 where
  pub record_value : EvidenceValue
  pub encodes : EncodesEvidence octets record_value
  pub open_data : record_value.encryption ≡ None
  pub stamp : StampValue
  pub among : Contains (stamps_of record_value.chains) stamp
  pub about : IsAboutToken trust stamp.stamp q

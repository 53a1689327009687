-- What holds of the questions of evidence records.
use Rattle.std.specs.Prelude.{◌≡◌, ◌↔◌, ℕ, Bool, List, Contains, Some, None}
use Rattle.der_core.specs.Element.{IsBytes}
use Rattle.cms_types.specs.AttributeValue.{AttributeValue}
use Rattle.cms_types.specs.SignerValue.{SignerValue}
use Rattle.check_fit.specs.declared.policy.Policy.{Policy}
use Rattle.check_fit.specs.declared.rules.TokenRule.{TokenRule}
use Rattle.trust_lists.specs.Entries.{EntryValue}
use Rattle.trust_lists.specs.Asking.{Asked}
use Rattle.evidence_types.specs.StampValue.{StampValue}
use Rattle.evidence_types.specs.EvidenceValue.{EvidenceValue, EncodesEvidence}
use Rattle.check_verdict.specs.Passing.{Due, PassesFor}
use Rattle.check_verdict.specs.TokenRules.{TokenFailsFor}
use Rattle.check_verdict.specs.Asks.{IsAskedFor}
use Rattle.check_questions.specs.FileQuestions.{IsSigned}
use Rattle.check_evidence.specs.Grounds.{Grounds, terms_of}
use Rattle.check_evidence.specs.Places.{stamps_of}
use Rattle.check_evidence.specs.Standing.{Lasts}
use Rattle.check_evidence.specs.Showing.{Shows}
use Rattle.check_evidence.specs.Refusing.{Refuses}
use Rattle.check_evidence.specs.declared.rules.EvidenceRefused.{EvidenceRefused}
use Rattle.judge_evidence.specs.Asking.{IsAskedOfRecord}
use Rattle.evidence_questions.specs.RecordQuestions.{AreQuestionsOfRecord, IsRecordQuestion}

-- the members of the list are the questions about the tokens of the record
abbrev pub RecordsListTheQuestions : Type 0
RecordsListTheQuestions = (trust : List EntryValue) (octets : List ℕ) (qs : List Asked)
    → AreQuestionsOfRecord trust octets qs → (q : Asked) → Contains qs q ↔ IsRecordQuestion trust octets q

-- each record, of octets, whose data are not encrypted, has such a list
abbrev pub RecordsHaveQuestions : Type 0
RecordsHaveQuestions = (trust : List EntryValue) (octets : List ℕ) (v : EvidenceValue) → IsBytes octets
    → EncodesEvidence octets v → v.encryption ≡ None → (qs : List Asked) × AreQuestionsOfRecord trust octets qs

-- and only one
abbrev pub RecordsHaveOneList : Type 0
RecordsHaveOneList = (trust : List EntryValue) (octets : List ℕ) (qs ps : List Asked)
    → AreQuestionsOfRecord trust octets qs → AreQuestionsOfRecord trust octets ps → qs ≡ ps

-- an archive time-stamp of an open record
pub record IsStampOf (octets : List ℕ) (s : StampValue) : Type 0 where
  pub record_value : EvidenceValue
  pub encodes : EncodesEvidence octets record_value
  pub open_data : record_value.encryption ≡ None
  pub among : Contains (stamps_of record_value.chains) s

-- a question that a check of a stamp's token asks, whatever is due as its imprint, is in the list
abbrev pub StampsAskTheListed : Type 0
StampsAskTheListed = (policy : Policy) (trust : List EntryValue) (octets : List ℕ) (qs : List Asked)
    → AreQuestionsOfRecord trust octets qs → (s : StampValue) → IsStampOf octets s → (due : Due) (q : Asked)
    → IsAskedFor policy trust due s.stamp q → Contains qs q

-- and so is each that a check of the record asks
abbrev pub ChecksAskTheListed : Type 0
ChecksAskTheListed = (g : Grounds) (octets : List ℕ) (qs : List Asked) → AreQuestionsOfRecord g.trust octets qs
    → (data_objects : List (List ℕ)) (q : Asked) → IsAskedOfRecord g octets data_objects q → Contains qs q

-- these answers to the questions of the record are those of the verifier
abbrev pub RecordAnswers : Grounds → (octets : List ℕ) → (Asked → Bool) → Type 0
RecordAnswers g octets answers = (q : Asked) → IsRecordQuestion g.trust octets q → answers q ≡ g.vouches q

abbrev pub by_answers : Grounds → (Asked → Bool) → Grounds
by_answers g answers = record {
  trust = g.trust;
  vouches = answers;
  ends = g.ends;
  at = g.at;
  whole = g.whole;
}

-- a stamp's token passes with such answers exactly if it does with the verifier's, and so it fails
abbrev pub StampsPassAlike : Type 0
StampsPassAlike = (g : Grounds) (octets : List ℕ) (answers : Asked → Bool) → RecordAnswers g octets answers
    → (s : StampValue) → IsStampOf octets s → (due : Due) (m : ℕ)
    → PassesFor (terms_of g) s.stamp due m ↔ PassesFor (terms_of (by_answers g answers)) s.stamp due m

abbrev pub StampsFailAlike : Type 0
StampsFailAlike = (g : Grounds) (octets : List ℕ) (answers : Asked → Bool) → RecordAnswers g octets answers
    → (s : StampValue) → IsStampOf octets s → (due : Due) (failed : TokenRule)
    → TokenFailsFor (terms_of g) s.stamp due failed ↔ TokenFailsFor (terms_of (by_answers g answers)) s.stamp due failed

-- and so its signer lasts
abbrev pub StampsLastAlike : Type 0
StampsLastAlike = (g : Grounds) (octets : List ℕ) (answers : Asked → Bool) → RecordAnswers g octets answers
    → (s : StampValue) → IsStampOf octets s → (signer : SignerValue) → IsSigned s.stamp signer
    → (attributes : List AttributeValue) → signer.signed_attributes ≡ Some attributes → (m until : ℕ)
    → Lasts g signer attributes m until ↔ Lasts (by_answers g answers) signer attributes m until

-- and so the record shows a moment for data objects, and is refused for a reason
abbrev pub RecordsShowAlike : Type 0
RecordsShowAlike = (g : Grounds) (octets : List ℕ) (answers : Asked → Bool) → RecordAnswers g octets answers
    → (data_objects : List (List ℕ)) (m : ℕ)
    → Shows g octets data_objects m ↔ Shows (by_answers g answers) octets data_objects m

abbrev pub RecordsRefusedAlike : Type 0
RecordsRefusedAlike = (g : Grounds) (octets : List ℕ) (answers : Asked → Bool) → RecordAnswers g octets answers
    → (data_objects : List (List ℕ)) (r : EvidenceRefused)
    → Refuses g octets data_objects r ↔ Refuses (by_answers g answers) octets data_objects r

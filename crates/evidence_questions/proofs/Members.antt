-- The members of the list of a record are its questions, and each record has one list.
use Rattle.std.proofs.Common.{ℕ, List, inl, inr, subst}
use Rattle.std.specs.Prelude.{Contains}
use Rattle.der_core.specs.Element.{IsBytes}
use Rattle.trust_lists.specs.Entries.{EntryValue}
use Rattle.trust_lists.specs.Asking.{Asked}
use Rattle.evidence_types.specs.StampValue.{StampValue}
use Rattle.evidence_types.specs.EvidenceValue.{EvidenceValue, EncodesEvidence}
use Rattle.evidence_types.proofs.EvidenceReaders.{evidence_unique}
use Rattle.check_verdict.specs.Questions.{IsAboutToken}
use Rattle.check_verdict.proofs.Asks.{about_token}
use Rattle.check_evidence.specs.Places.{stamps_of}
use Rattle.check_questions.proofs.Lists.{in_none, Found, find, find_back, one_list, some_list}
use Rattle.check_questions.proofs.Members.{members_of_token}
use Rattle.check_questions.proofs.Files.{one_of_token, some_of_token}
use Rattle.evidence_questions.specs.RecordQuestions.{OfStamp, OfStamps, AreQuestionsOfRecord, IsRecordQuestion}
use Rattle.evidence_questions.specs.Laws.{RecordsListTheQuestions, RecordsHaveQuestions, RecordsHaveOneList, IsStampOf}
use Rattle.evidence_questions.specs.Laws.{StampsAskTheListed}
use Rattle.evidence_questions.proofs.Octets.{record_octets}

-- ---- a stamp

stamp_about : (trust : List EntryValue) (s : StampValue) (qs : List Asked) (q : Asked) → OfStamp trust s qs
    → Contains qs q → IsAboutToken trust s.stamp q
stamp_about trust s qs q (inl h) c =
    (members_of_token trust s.stamp qs (record { signed = h.1.signed; encodes = h.1.encodes; are = inl h }) q).0 c
stamp_about trust s qs q (inr h) c = absurd (in_none q (subst (λ (l : List Asked). Contains l q) h.1 c))

about_stamp : (trust : List EntryValue) (s : StampValue) (q : Asked) → IsAboutToken trust s.stamp q
    → (qs : List Asked) → OfStamp trust s qs → Contains qs q
about_stamp trust s q a qs of =
    (members_of_token trust s.stamp qs (record { signed = a.signed; encodes = a.encodes; are = of }) q).1 a

-- ---- a record

is_question : (trust : List EntryValue) (octets : List ℕ) (qs : List Asked) (q : Asked)
    → AreQuestionsOfRecord trust octets qs → Contains qs q → IsRecordQuestion trust octets q
is_question trust octets qs q h c =
    let f : Found (OfStamp trust) (stamps_of h.record_value.chains) q =
    find (OfStamp trust) (stamps_of h.record_value.chains) qs q h.are c in
    record {
      record_value = h.record_value;
      encodes = h.encodes;
      open_data = h.open_data;
      stamp = f.item;
      among = f.among;
      about = stamp_about trust f.item f.part q f.has f.contains;
    }

contains : (trust : List EntryValue) (octets : List ℕ) (qs : List Asked) (q : Asked)
    → AreQuestionsOfRecord trust octets qs → IsRecordQuestion trust octets q → Contains qs q
contains trust octets qs q h k =
    let among : Contains (stamps_of h.record_value.chains) k.stamp =
    subst (λ (v : EvidenceValue). Contains (stamps_of v.chains) k.stamp)
    (evidence_unique octets k.record_value h.record_value k.encodes h.encodes) k.among in
    find_back (OfStamp trust) (stamps_of h.record_value.chains) qs k.stamp q
    (about_stamp trust k.stamp q k.about) among h.are

pub members : RecordsListTheQuestions
members trust octets qs h q = (is_question trust octets qs q h, contains trust octets qs q h)

-- a question about the token of a stamp is one of the record's
pub of_stamp : (trust : List EntryValue) (octets : List ℕ) (s : StampValue) (q : Asked) → IsStampOf octets s
    → IsAboutToken trust s.stamp q → IsRecordQuestion trust octets q
of_stamp trust octets s q of a = record {
  record_value = of.record_value;
  encodes = of.encodes;
  open_data = of.open_data;
  stamp = s;
  among = of.among;
  about = a;
}

pub asked_listed : StampsAskTheListed
asked_listed policy trust octets qs h s of due q a =
    contains trust octets qs q h (of_stamp trust octets s q of (about_token policy trust due s.stamp q a))

-- ---- one list

-- a list of the questions of a record is one of those of its chains
pub chains_of : (trust : List EntryValue) (octets : List ℕ) (v : EvidenceValue) (qs : List Asked)
    → EncodesEvidence octets v → AreQuestionsOfRecord trust octets qs → OfStamps trust (stamps_of v.chains) qs
chains_of trust octets v qs encodes h = subst (λ (w : EvidenceValue). OfStamps trust (stamps_of w.chains) qs)
    (evidence_unique octets h.record_value v h.encodes encodes) h.are

pub one_of_record : RecordsHaveOneList
one_of_record trust octets qs ps h g = one_list (OfStamp trust) (λ s a b x y. one_of_token trust s.stamp a b x y)
    (stamps_of g.record_value.chains) qs ps (chains_of trust octets g.record_value qs g.encodes h) g.are

pub some_of_record : RecordsHaveQuestions
some_of_record trust octets v bytes encodes is_open =
    let l = some_list (λ (s : StampValue). IsBytes s.stamp) (OfStamp trust) (λ s h. some_of_token trust s.stamp h)
    (stamps_of v.chains) (record_octets octets v bytes encodes) in
    (l.0, record { record_value = v; encodes = encodes; open_data = is_open; are = l.1 })

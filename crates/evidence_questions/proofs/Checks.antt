-- What a check of a record asks is in its list.
use Rattle.std.proofs.Common.{ℕ, List, inl, inr}
use Rattle.trust_lists.specs.Asking.{Asked}
use Rattle.evidence_types.specs.StampValue.{StampValue}
use Rattle.check_verdict.specs.Questions.{IsAboutToken}
use Rattle.check_verdict.proofs.Asks.{about_token}
use Rattle.check_evidence.specs.Grounds.{Grounds, terms_of, of_root}
use Rattle.check_evidence.specs.Places.{Place}
use Rattle.judge_evidence.specs.Asking.{IsAskedAt, IsAskedOfRecord}
use Rattle.evidence_questions.specs.RecordQuestions.{IsRecordQuestion}
use Rattle.evidence_questions.specs.Laws.{ChecksAskTheListed}
use Rattle.evidence_questions.proofs.Members.{members, of_stamp}
use Rattle.evidence_questions.proofs.Verdicts.{at_place}

-- what is asked at a place is about the token there
about_place : (g : Grounds) (ds : List (List ℕ)) (chains : List (List StampValue)) (p : Place) (q : Asked)
    → IsAskedAt g ds chains p q → IsAboutToken g.trust p.stamp.stamp q
about_place g ds chains p q (inl h) =
    about_token (terms_of g).policy g.trust (of_root h.1.alg h.1.root) p.stamp.stamp q h.1.about
about_place g ds chains p q (inr h) =
    let a = h.1 in
    let passes = a.fits.imprints.passes in
    record {
      signed = passes.signed;
      encodes = passes.encodes;
      signer = passes.signer;
      one_signer = passes.one_signer;
      about = record {
        attributes = passes.attributes;
        has = passes.has;
        entry = a.entry;
        trusted = a.trusted;
        has_role = a.may.role;
        matches = a.may.matches;
        is = a.is;
      };
    }

of_record : (g : Grounds) (octets : List ℕ) (ds : List (List ℕ)) (q : Asked) → IsAskedOfRecord g octets ds q
    → IsRecordQuestion g.trust octets q
of_record g octets ds q h =
    let chains = h.record_value.chains in
    of_stamp g.trust octets h.about.place.stamp q (record {
      record_value = h.record_value;
      encodes = h.encodes;
      open_data = h.open_data;
      among = at_place chains h.about.place h.about.there;
    }) (about_place g ds chains h.about.place q h.about.about)

pub checks_listed : ChecksAskTheListed
checks_listed g octets qs are ds q h = (members g.trust octets qs are q).1 (of_record g octets ds q h)

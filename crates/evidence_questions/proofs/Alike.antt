-- What the time-stamps of a record show rests on the questions of the record alone.
use Rattle.std.proofs.Common.{◌≡◌, ℕ, Bool, List, Some, refl, sym, ◌∙◌}
use Rattle.std.specs.Prelude.{Any, Contains}
use Rattle.cms_types.specs.AttributeValue.{AttributeValue}
use Rattle.cms_types.specs.SignerValue.{SignerValue}
use Rattle.trust_lists.specs.Entries.{EntryValue}
use Rattle.trust_lists.specs.Asking.{Asked}
use Rattle.evidence_types.specs.StampValue.{StampValue}
use Rattle.check_verdict.specs.Trusted.{asked}
use Rattle.check_verdict.specs.Passing.{Due, StampedUnder, PassesFor}
use Rattle.check_verdict.specs.Questions.{AnswersOfToken}
use Rattle.check_verdict.proofs.Lists.{along}
use Rattle.check_verdict.proofs.PassesBy.{stamped_by, passes_by}
use Rattle.check_verdict.proofs.Sufficiency.{failures_suffice}
use Rattle.check_questions.specs.FileQuestions.{IsSigned}
use Rattle.check_evidence.specs.Grounds.{Grounds, terms_of}
use Rattle.check_evidence.specs.Standing.{Lasts, LastsUnder}
use Rattle.evidence_questions.specs.Laws.{IsStampOf, RecordAnswers, by_answers}
use Rattle.evidence_questions.specs.Laws.{StampsPassAlike, StampsFailAlike, StampsLastAlike}
use Rattle.evidence_questions.proofs.Members.{of_stamp}

pub back_again : (g : Grounds) (octets : List ℕ) (w : Asked → Bool) → RecordAnswers g octets w
    → RecordAnswers (by_answers g w) octets g.vouches
back_again g octets w agree q k = sym (agree q k)

-- one signer of the token of a stamp
pub record SignedStamp (octets : List ℕ) (s : StampValue) (signer : SignerValue)
    (attributes : List AttributeValue) : Type 0 where
  pub of : IsStampOf octets s
  pub signed : IsSigned s.stamp signer
  pub has : signer.signed_attributes ≡ Some attributes

module _ (g : Grounds) (octets : List ℕ) (w : Asked → Bool) (agree : RecordAnswers g octets w) (s : StampValue)
    (signer : SignerValue) (attributes : List AttributeValue) (by : SignedStamp octets s signer attributes) where
  -- a verifier vouches alike under an entry
  pub under_along : (m : ℕ) (e : EntryValue) → Contains g.trust e → StampedUnder (terms_of g) signer attributes m e
      → StampedUnder (terms_of (by_answers g w)) signer attributes m e
  under_along m e c u = stamped_by (terms_of g) g.trust w signer attributes m e u
      (agree (asked e.certificate signer attributes)
      (of_stamp g.trust octets s (asked e.certificate signer attributes) by.of (record {
        signed = by.signed.signed;
        encodes = by.signed.encodes;
        signer = signer;
        one_signer = by.signed.one_signer;
        about = record {
          attributes = attributes;
          has = by.has;
          entry = e;
          trusted = c;
          has_role = u.role;
          matches = u.matches;
          is = refl;
        };
      })) ∙ u.vouched)

  pub any_along : (m : ℕ) → Any (StampedUnder (terms_of g) signer attributes m) g.trust
      → Any (StampedUnder (terms_of (by_answers g w)) signer attributes m) g.trust
  any_along m any = along (StampedUnder (terms_of g) signer attributes m)
      (StampedUnder (terms_of (by_answers g w)) signer attributes m) g.trust (under_along m) any

  pub lasts_along : (m until : ℕ) → Lasts g signer attributes m until
      → Lasts (by_answers g w) signer attributes m until
  lasts_along m until any = along (LastsUnder g signer attributes m until)
      (LastsUnder (by_answers g w) signer attributes m until) g.trust
      (λ e c u. (under_along m e c u.0, u.1)) any

-- a token passes alike, with the same parts
abbrev pub passes_along : (g : Grounds) (octets : List ℕ) (w : Asked → Bool) → RecordAnswers g octets w
    → (s : StampValue) → IsStampOf octets s → (due : Due) (m : ℕ)
    → PassesFor (terms_of g) s.stamp due m → PassesFor (terms_of (by_answers g w)) s.stamp due m
passes_along g octets w agree s of due m p = passes_by (terms_of g) g.trust w s.stamp due m p
    (any_along g octets w agree s p.signer p.attributes (record {
      of = of;
      signed = record { signed = p.signed; encodes = p.encodes; one_signer = p.one_signer };
      has = p.has;
    }) m p.entry)

pub pass_alike : StampsPassAlike
pass_alike g octets w agree s of due m = (
  passes_along g octets w agree s of due m,
  passes_along (by_answers g w) octets g.vouches (back_again g octets w agree) s of due m,
)

answers_of : (g : Grounds) (octets : List ℕ) (w : Asked → Bool) → RecordAnswers g octets w → (s : StampValue)
    → IsStampOf octets s → AnswersOfToken (terms_of g) s.stamp w
answers_of g octets w agree s of q a = agree q (of_stamp g.trust octets s q of a)

pub fail_alike : StampsFailAlike
fail_alike g octets w agree s of due failed =
    failures_suffice (terms_of g) s.stamp due w (answers_of g octets w agree s of) failed

pub last_alike : StampsLastAlike
last_alike g octets w agree s of signer signed attributes has m until =
    let by : SignedStamp octets s signer attributes = record { of = of; signed = signed; has = has } in (
      lasts_along g octets w agree s signer attributes by m until,
      lasts_along (by_answers g w) octets g.vouches (back_again g octets w agree) s signer attributes by m until,
    )

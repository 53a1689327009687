-- What is said of a signed file under an evidence record rests on the answers to the questions of both alone.
use Rattle.std.proofs.Common.{ℕ, List, Option, Result, Ok, Err, inl, inr, refl, sym}
use Rattle.trust_lists.specs.Asking.{Asked, is_among}
use Rattle.trust_lists.specs.Entries.{EntryValue}
use Rattle.check_fit.specs.declared.rules.Refused.{Refused}
use Rattle.check_verdict.specs.Passing.{Terms}
use Rattle.check_verdict.specs.Questions.{with_answers}
use Rattle.check_evidence.specs.Grounds.{AlgEnd}
use Rattle.evidence_questions.proofs.Verdicts.{show_alike}
use Rattle.check_under.specs.Under.{data_of, AreTermsUnder, YesUnder}
use Rattle.check_under.specs.Laws.{RefusalsUnderSuffice, YesUnderSuffices}
use Rattle.check_under.specs.declared.refused.UnderRefused.{UnderRefused}
use Rattle.check_under.specs.declared.refused.UnderRefused.TheVariants as refused
use Rattle.library_answers.specs.declared.answer.Answer.{Answer}
use Rattle.library_records.specs.Under.{AnswersUnderAlike, grounds_by, IsKnownVerdictUnder, IsUnderChecked}
use Rattle.library_records.specs.Under.{IsUnderJudged, UnderCheck}
use Rattle.library_records.proofs.EvidenceAlike.{known_alike}

module _ (suffices : YesUnderSuffices) (refusals : RefusalsUnderSuffice) (list : List EntryValue)
    (octets file : List ℕ) (handed : Option (List ℕ)) (ends : List AlgEnd) (at : Option ℕ) where
  module _ (asked others : List Asked) (alike : AnswersUnderAlike list octets file asked others) where
    terms_along : (t : Terms) → AreTermsUnder (grounds_by list asked ends at) octets (data_of file handed) t
        → AreTermsUnder (grounds_by list others ends at) octets (data_of file handed)
        (with_answers t (is_among others))
    terms_along t u = record {
      shown = u.shown;
      shows = (show_alike (grounds_by list asked ends at) octets (is_among others) alike.0 (data_of file handed)
          u.shown).0 u.shows;
      allows = u.allows;
      trust = u.trust;
      vouches = refl;
    }

    yes_along : (m : ℕ) → YesUnder (grounds_by list asked ends at) octets file handed m
        → YesUnder (grounds_by list others ends at) octets file handed m
    yes_along m y = (suffices (grounds_by list asked ends at) octets file handed (is_among others) alike m).0 y

    signed_along : (why : Refused) → IsKnownVerdictUnder (grounds_by list asked ends at) octets file handed
        (Err (refused.Signed why))
        → IsKnownVerdictUnder (grounds_by list others ends at) octets file handed (Err (refused.Signed why))
    signed_along why (t, u, inl long) = (with_answers t (is_among others), terms_along t u, inl long)
    signed_along why (t, u, inr refuses) =
        let r = (refusals (grounds_by list asked ends at) octets file handed (is_among others) alike
        (refused.Signed why)).0 (t, u, refuses) in (r.0, r.1, inr r.2)

    known_along : (answer : Result ℕ UnderRefused)
        → IsKnownVerdictUnder (grounds_by list asked ends at) octets file handed answer
        → IsKnownVerdictUnder (grounds_by list others ends at) octets file handed answer
    known_along (Ok m) h = yes_along m h
    known_along (Err (refused.Signed why)) h = signed_along why h
    known_along (Err (refused.Evidence why)) h =
        known_alike (grounds_by list asked ends at) octets (is_among others) alike.0 (data_of file handed) (Err why) h

  -- answers of the list are those of the other too
  back : (asked others : List Asked) → AnswersUnderAlike list octets file asked others
      → AnswersUnderAlike list octets file others asked
  back asked others alike = (λ q about. sym (alike.0 q about), λ q about. sym (alike.1 q about))

  judged_along : (asked others : List Asked) → AnswersUnderAlike list octets file asked others
      → (answer : Result ℕ UnderRefused)
      → IsUnderJudged (grounds_by list asked ends at) octets file handed answer
      → IsUnderJudged (grounds_by list others ends at) octets file handed answer
  judged_along asked others alike answer h = record {
    verdict = known_along asked others alike answer h.verdict;
    complete = λ m y. h.complete m (yes_along others asked (back asked others alike) m y);
  }

pub under_alike : YesUnderSuffices → RefusalsUnderSuffice → (list : List EntryValue) (asked others : List Asked)
    (i : UnderCheck) → AnswersUnderAlike list i.evidence i.file asked others
    → (said : Answer) (status : ℕ) (before : List ℕ) (size : ℕ) (after : List ℕ)
    → IsUnderChecked list asked i said status before size after
    → IsUnderChecked list others i said status before size after
under_alike suffices refusals list asked others i alike said status before size after
    (inl (ends, at, stated, (answer, judged, told))) = inl (
      ends,
      at,
      stated,
      (
        answer,
        judged_along suffices refusals list i.evidence i.file i.content ends at asked others alike answer judged,
        told,
      ),
    )
under_alike suffices refusals list asked others i alike said status before size after (inr h) = inr h

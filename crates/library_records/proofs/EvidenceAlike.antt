-- What is said of an evidence record rests on the answers to its questions alone.
use Rattle.std.proofs.Common.{ℕ, Bool, List, Result, Ok, Err, inl, inr}
use Rattle.trust_lists.specs.Asking.{Asked, is_among}
use Rattle.trust_lists.specs.Entries.{EntryValue}
use Rattle.check_evidence.specs.Grounds.{Grounds}
use Rattle.check_evidence.specs.declared.rules.EvidenceRefused.{EvidenceRefused}
use Rattle.check_evidence.specs.declared.rules.EvidenceRefused.TheVariants as refused
use Rattle.evidence_questions.specs.Laws.{RecordAnswers, by_answers}
use Rattle.evidence_questions.proofs.Verdicts.{show_alike, refused_alike}
use Rattle.library_answers.specs.declared.answer.Answer.{Answer}
use Rattle.library_records.specs.Evidence.{AnswersAlike, IsKnownEvidenceVerdict, IsEvidenceJudged, IsEvidenceChecked}
use Rattle.library_records.specs.Evidence.{grounds_under}
use Rattle.library_records.specs.Stated.{EvidenceCheck, data_of}

module _ (g : Grounds) (octets : List ℕ) (answers : Asked → Bool) (agree : RecordAnswers g octets answers)
    (data_objects : List (List ℕ)) where
  pub known_alike : (answer : Result ℕ EvidenceRefused) → IsKnownEvidenceVerdict g octets data_objects answer
      → IsKnownEvidenceVerdict (by_answers g answers) octets data_objects answer
  known_alike (Ok m) h = (show_alike g octets answers agree data_objects m).0 h
  known_alike (Err (refused.Record failed)) h =
      (refused_alike g octets answers agree data_objects (refused.Record failed)).0 h
  known_alike (Err (refused.Stamp chain stamp failed)) h =
      (refused_alike g octets answers agree data_objects (refused.Stamp chain stamp failed)).0 h
  known_alike (Err (refused.Device fault)) h = h

  judged_alike : (answer : Result ℕ EvidenceRefused) → IsEvidenceJudged g octets data_objects answer
      → IsEvidenceJudged (by_answers g answers) octets data_objects answer
  judged_alike answer h = record {
    verdict = known_alike answer h.verdict;
    complete = λ m shows. h.complete m ((show_alike g octets answers agree data_objects m).1 shows);
  }

pub checked_alike : (list : List EntryValue) (asked others : List Asked) (i : EvidenceCheck)
    → AnswersAlike list i.evidence asked others → (said : Answer) (status : ℕ) (before : List ℕ) (size : ℕ)
    (after : List ℕ) → IsEvidenceChecked list asked i said status before size after
    → IsEvidenceChecked list others i said status before size after
checked_alike list asked others i alike said status before size after (inl (ends, at, stated, (answer, judged, told))) =
    inl (
      ends,
      at,
      stated,
      (
        answer,
        judged_alike (grounds_under list asked i ends at) i.evidence (is_among others) alike (data_of i) answer judged,
        told,
      ),
    )
checked_alike list asked others i alike said status before size after (inr h) = inr h

-- What follows from what the call says of a signed file under an evidence record.
use Rattle.std.proofs.Common.{◌≡◌, ◌⊎◌, ◌∙◌, ℕ, List, map, Option, Result, Ok, Err, inl, inr, refl, sym, ap}
use Rattle.std.proofs.Common.{subst}
use Rattle.trust_lists.specs.Asking.{Asked}
use Rattle.trust_lists.specs.Entries.{EntryValue}
use Rattle.check_fit.specs.declared.policy.Policy.{Policy}
use Rattle.check_fit.specs.declared.rules.Refused.{Refused}
use Rattle.check_verdict.specs.Beside.{beside}
use Rattle.check_verdict.specs.Passing.{Terms}
use Rattle.check_verdict.specs.TokenVerdicts.{terms_of}
use Rattle.check_evidence.specs.Grounds.{AlgEnd, Grounds}
use Rattle.check_evidence.specs.Showing.{Shows}
use Rattle.check_evidence.specs.declared.rules.EvidenceRefused.{EvidenceRefused}
use Rattle.check_evidence.specs.declared.rules.EvidenceRefused.TheVariants as evidence
use Rattle.check_under.specs.Under.{data_of, AllowsAt, AreTermsUnder, YesUnder}
use Rattle.check_under.specs.Laws.{UnderNeverBoth, UnderOneMoment}
use Rattle.check_under.specs.UnderVerdicts.{said_under}
use Rattle.check_under.specs.declared.refused.UnderRefused.{UnderRefused}
use Rattle.check_under.specs.declared.refused.UnderRefused.TheVariants as refused
use Rattle.cli_failures.specs.declared.failure.Failure.{Failure}
use Rattle.cli_failures.specs.Causes.{Names}
use Rattle.library_answers.specs.declared.answer.Answer.{Answer}
use Rattle.library_answers.specs.Numbers.{accepted_numbers, nothing}
use Rattle.library_calls.specs.Checked.{IsKnownVerdict, SaysTooLong}
use Rattle.library_records.specs.Evidence.{IsEvidenceJudged}
use Rattle.library_records.specs.Under.{grounds_by, IsDeviceUnder, IsKnownVerdictUnder, IsUnderChecked, IsUnderJudged}
use Rattle.library_records.specs.Under.{RefusesStatedUnder, SaysUnder, SaysYesUnder, UnderCheck, YesStated}
use Rattle.library_calls.proofs.Checking.{long_is_no, too_long}
use Rattle.library_calls.proofs.Moments.{one_moment_in, refused_is_no}
use Rattle.library_records.proofs.EvidenceSaid.{record_rule_is_no, stamp_rule_is_no}
use Rattle.library_records.proofs.Stated.{at_refused, ends_refused, one_at, one_list}
use Rattle.library_records.proofs.Unstated.{ends_name, no_verdict, says_none}

-- ---- the verdict

-- the record doesn't show the file
pub judged_unshown : (g : Grounds) (octets file : List ℕ) (handed : Option (List ℕ)) (failed : EvidenceRefused)
    → IsEvidenceJudged g octets (data_of file handed) (Err failed)
    → IsUnderJudged g octets file handed (Err (refused.Evidence failed))
judged_unshown g octets file handed failed judged = record {
  verdict = judged.verdict;
  complete = λ m accepts. elim (judged.complete accepts.under.shown accepts.under.shows) [
    | inl e ↦ absurd cc
    | inr device ↦ inr device
  ];
}

module _ (g : Grounds) (octets file : List ℕ) (handed : Option (List ℕ)) (t : Terms)
    (under : AreTermsUnder g octets (data_of file handed) t) where
  known : (said : Result ℕ Refused) → IsKnownVerdict t file handed said
      → IsKnownVerdictUnder g octets file handed (said_under said)
  known (Ok n) (inl long) = absurd (long_is_no handed n long)
  known (Ok n) (inr is) = record { terms = t; under = under; yes = is }
  known (Err why) verdict = (t, under, verdict)

  told : UnderOneMoment → UnderNeverBoth → (m : ℕ) → YesUnder g octets file handed m → (said : Result ℕ Refused)
      → IsKnownVerdict t file handed said → (said_under said ≡ Ok m) ⊎ IsDeviceUnder handed (said_under said)
  told one never m accepts (Ok n) (inl long) = absurd (long_is_no handed n long)
  told one never m accepts (Ok n) (inr is) = inl (ap (λ (k : ℕ). accepting_under k)
      (one g octets file handed n m (record { terms = t; under = under; yes = is }) accepts))
    where
      accepting_under : ℕ → Result ℕ UnderRefused
      accepting_under k = Ok k
  told one never m accepts (Err why) (inl long) = inr long
  told one never m accepts (Err why) (inr refuses) =
      absurd (never g octets file handed m (refused.Signed why) accepts (t, under, refuses))

-- the record shows the file, by this moment
pub judged_shown : UnderOneMoment → UnderNeverBoth → (g : Grounds) (octets file : List ℕ) (handed : Option (List ℕ))
    (k : ℕ) (policy : Policy) → Shows g octets (data_of file handed) k → AllowsAt g.ends k policy
    → (said : Result ℕ Refused) → IsKnownVerdict (terms_of policy (map (beside k) g.trust) g.vouches) file handed said
    → IsUnderJudged g octets file handed (said_under said)
judged_shown one never g octets file handed k policy shows allows said verdict =
    let t : Terms = terms_of policy (map (beside k) g.trust) g.vouches in
    let under : AreTermsUnder g octets (data_of file handed) t =
    record { shown = k; shows = shows; allows = allows; trust = refl; vouches = refl } in
    record {
      verdict = known g octets file handed t under said verdict;
      complete = λ m accepts. told g octets file handed t under one never m accepts said verdict;
    }

-- ---- what is said

-- what is not as it must be is named
pub stated_under_names : (i : UnderCheck) (f : Failure) → RefusesStatedUnder i f → (value : List ℕ) × Names value f
stated_under_names i f (inl ends) = ends_name i.ends f ends
stated_under_names i f (inr (ends, (names, some, none))) = (_, names)

module _ (said : Answer) (status : ℕ) (before : List ℕ) (size : ℕ) (after : List ℕ) where
  -- an acceptance is one under the record
  yes_is : (g : Grounds) (octets file : List ℕ) (handed : Option (List ℕ)) (answer : Result ℕ UnderRefused) (m : ℕ)
      → IsKnownVerdictUnder g octets file handed answer → SaysUnder answer said status before size after
      → said ≡ accepted_numbers m → YesUnder g octets file handed m
  yes_is g octets file handed (Ok n) m verdict says one =
      subst (λ (k : ℕ). YesUnder g octets file handed k) (one_moment_in n m (sym says.0 ∙ one)) verdict
  yes_is g octets file handed (Err (refused.Signed why)) m verdict says one =
      absurd (refused_is_no why (ap (λ (a : Answer). a.verdict) (sym says.0 ∙ one)))
  yes_is g octets file handed (Err (refused.Evidence (evidence.Record failed))) m verdict says one =
      absurd (record_rule_is_no failed (ap (λ (a : Answer). a.verdict) (sym says.0 ∙ one)))
  yes_is g octets file handed (Err (refused.Evidence (evidence.Stamp i j failed))) m verdict says one =
      absurd (stamp_rule_is_no failed (ap (λ (a : Answer). a.verdict) (sym says.0 ∙ one)))
  yes_is g octets file handed (Err (refused.Evidence (evidence.Device fault))) m verdict says one =
      absurd (no_verdict said m says.1 one)

  -- and what is accepted under it is said
  is_yes : (handed : Option (List ℕ)) (answer : Result ℕ UnderRefused) (m : ℕ)
      → (answer ≡ Ok m) ⊎ IsDeviceUnder handed answer → SaysUnder answer said status before size after
      → (said ≡ accepted_numbers m) ⊎ (((said ≡ nothing) × (status ≡ 7)) ⊎ SaysTooLong handed said)
  is_yes handed answer m (inl is) says =
      inl (subst (λ (r : Result ℕ UnderRefused). SaysUnder r said status before size after) is says).0
  is_yes handed (Ok n) m (inr failed) says = absurd failed
  is_yes handed (Err (refused.Signed why)) m (inr long) says = inr (inr (too_long handed (Err why) said says.0 long))
  is_yes handed (Err (refused.Evidence (evidence.Record rule))) m (inr failed) says = absurd failed
  is_yes handed (Err (refused.Evidence (evidence.Stamp i j rule))) m (inr failed) says = absurd failed
  is_yes handed (Err (refused.Evidence (evidence.Device fault))) m (inr failed) says = inr (inl (says.1, says.0))

  module _ (list : List EntryValue) (asked : List Asked) (i : UnderCheck) (m : ℕ) where
    sound : IsUnderChecked list asked i said status before size after → said ≡ accepted_numbers m
        → YesStated list asked i m
    sound (inl (ends, at, stated, (answer, judged, says))) one = record {
      ends = ends;
      at = at;
      stated = stated;
      yes = yes_is (grounds_by list asked ends at) i.evidence i.file i.content answer m judged.verdict says one;
    }
    sound (inr h) one =
        absurd (says_none (RefusesStatedUnder i) (stated_under_names i) said status before size after m h one)

    complete : IsUnderChecked list asked i said status before size after → YesStated list asked i m
        → (said ≡ accepted_numbers m) ⊎ (((said ≡ nothing) × (status ≡ 7)) ⊎ SaysTooLong i.content said)
    complete (inl (ends, at, stated, (answer, judged, says))) s =
        let same_ends : s.ends ≡ ends = one_list i.ends s.ends ends s.stated.of_ends stated.of_ends in
        let same_at : s.at ≡ at = one_at i.at s.at at s.stated.of_at stated.of_at in
        is_yes i.content answer m (judged.complete m (subst (λ (a : Option ℕ).
        YesUnder (grounds_by list asked ends a) i.evidence i.file i.content m) same_at (subst (λ (es : List AlgEnd).
        YesUnder (grounds_by list asked es s.at) i.evidence i.file i.content m) same_ends s.yes))) says
    complete (inr (inl (why, inl refuses, says))) s = absurd (ends_refused i.ends why s.ends refuses s.stated.of_ends)
    complete (inr (inl (why, inr (ends, refuses), says))) s =
        absurd (at_refused i.at why s.at refuses s.stated.of_at)
    complete (inr (inr (seven, none, empty, same))) s = inr (inl (none, seven))

    pub says_yes_under : IsUnderChecked list asked i said status before size after
        → SaysYesUnder list asked i said status m
    says_yes_under checked = record { sound = sound checked; complete = complete checked }

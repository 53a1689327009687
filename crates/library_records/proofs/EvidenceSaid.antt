-- What follows from what the call says of an evidence record, by an answers list, which never fails.
use Rattle.std.proofs.Common.{◌≡◌, ◌⊎◌, ℕ, true, List, [], ◌∷◌, Option, Result, Ok, Err, inl, inr, refl, sym, ap, subst}
use Rattle.std.proofs.Common.{◌∙◌}
use Rattle.std.specs.List.{AllByRecursion}
use Rattle.digests.specs.Selection.{set_given}
use Rattle.digests.specs.Sets.{is_in}
use Rattle.digests.specs.declared.algorithm.Alg.{Alg}
use Rattle.digests.specs.declared.set.Algs.{Algs}
use Rattle.digests.specs.declared.selection.WantedDigests.{WantedDigests}
use Rattle.check_fit.specs.declared.rules.DeviceFault.TheVariants as device
use Rattle.trust_lists.specs.Asking.{Asked}
use Rattle.trust_lists.specs.Entries.{EntryValue}
use Rattle.evidence_types.specs.EvidenceValue.{EvidenceValue, EncodesEvidence}
use Rattle.evidence_types.proofs.EvidenceReaders.{evidence_unique}
use Rattle.check_evidence.specs.Grounds.{AlgEnd, Grounds}
use Rattle.check_evidence.specs.Showing.{Shows}
use Rattle.check_evidence.specs.Refusing.{RecordFails}
use Rattle.check_evidence.specs.Laws.{RecordsNeverBoth}
use Rattle.check_evidence.specs.declared.rules.EvidenceRefused.{EvidenceRefused}
use Rattle.check_evidence.specs.declared.rules.EvidenceRefused.TheVariants as refused
use Rattle.check_evidence.specs.declared.rules.RecordRule.{RecordRule}
use Rattle.check_evidence.specs.declared.rules.RecordRule.TheVariants as record_rule
use Rattle.check_evidence.specs.declared.rules.StampRule.{StampRule}
use Rattle.check_evidence.specs.declared.rules.StampRule.TheVariants as stamp
use Rattle.judge_evidence.specs.Data.{HaveAlg, HaveWanted, IsFirstAlg}
use Rattle.judge_evidence.specs.RecordVerdicts.{FailsToOpen, IsVerdict, IsWanted, ShowsOrDevice}
use Rattle.judge_evidence.specs.Walking.{CountsRefused}
use Rattle.cli_failures.specs.declared.failure.Failure.{Failure}
use Rattle.cli_failures.specs.Causes.{Names}
use Rattle.library_answers.specs.declared.answer.Answer.{Answer}
use Rattle.library_answers.specs.Numbers.{accepted_numbers, nothing, record_rule_numbers, stamp_rule_numbers}
use Rattle.library_records.specs.Evidence.{IsKnownEvidenceVerdict, IsEvidenceJudged, IsDevice, SaysEvidence}
use Rattle.library_records.specs.Evidence.{IsEvidenceChecked, SaysShown, ShowsStated, grounds_under}
use Rattle.library_records.specs.Stated.{EvidenceCheck, RefusesStated, data_of}
use Rattle.library_calls.proofs.InMemory.{never_raised}
use Rattle.library_calls.proofs.Moments.{one_moment_in, token_is_no}
use Rattle.library_records.proofs.Stated.{states_one, states_or_refuses}
use Rattle.library_records.proofs.Unstated.{ends_name, no_verdict, says_none}

-- ---- what must be digested

have_alg : (alg : Alg) (wanted : Algs) (digests : List WantedDigests) → is_in alg wanted ≡ true
    → AllByRecursion (λ d. set_given d ≡ wanted) digests → HaveAlg alg digests
have_alg alg wanted [] in_it h = tt
have_alg alg wanted (d ∷ digests) in_it h =
    (ap (λ (a : Algs). is_in alg a) h.0 ∙ in_it, have_alg alg wanted digests in_it h.1)

-- digests by these algorithms are all that the record wants
pub have_wanted : (octets : List ℕ) (wanted : Algs) (digests : List WantedDigests) → IsWanted octets (Ok wanted)
    → AllByRecursion (λ d. set_given d ≡ wanted) digests → (v : EvidenceValue) → EncodesEvidence octets v
    → HaveWanted v.chains digests
have_wanted octets wanted digests (w, encodes, open_data, first) h v its alg is =
    let same : v ≡ w = evidence_unique octets v w its encodes in
    have_alg alg wanted digests ((first alg).1 (subst (λ (x : EvidenceValue). IsFirstAlg x.chains alg) same is)) h

-- ---- the verdict

unopened : (octets : List ℕ) (ds : List (List ℕ)) (failed : RecordRule) → FailsToOpen octets failed
    → RecordFails octets ds failed
unopened octets ds (record_rule.Malformed fault) h = h
unopened octets ds record_rule.Encrypted h = h
unopened octets ds record_rule.NoData h = absurd h

-- the record can't be opened
pub judged_unopened : (g : Grounds) (octets : List ℕ) (ds : List (List ℕ)) (failed : RecordRule) → RecordsNeverBoth
    → IsWanted octets (Err failed) → IsEvidenceJudged g octets ds (Err (refused.Record failed))
judged_unopened g octets ds failed never h = record {
  verdict = unopened octets ds failed h;
  complete = λ m shows. absurd (never g octets ds m (refused.Record failed) shows (unopened octets ds failed h));
}

-- memory was refused for the digests
pub judged_without_memory : (g : Grounds) (octets : List ℕ) (ds : List (List ℕ))
    → IsEvidenceJudged g octets ds (Err (refused.Device device.OutOfMemory))
judged_without_memory g octets ds = record { verdict = refl; complete = λ m shows. inr tt }

known : (g : Grounds) (octets : List ℕ) (ds : List (List ℕ)) (answer : Result ℕ EvidenceRefused)
    → IsVerdict g octets ds answer → CountsRefused answer 0 0 → IsKnownEvidenceVerdict g octets ds answer
known g octets ds (Ok m) h count = h
known g octets ds (Err (refused.Record failed)) h count = h
known g octets ds (Err (refused.Stamp chain stamp failed)) h count = h
known g octets ds (Err (refused.Device device.ReadFailed)) h count = absurd h
known g octets ds (Err (refused.Device device.AskFailed)) h count = absurd (never_raised count)
known g octets ds (Err (refused.Device device.TooLong)) h count = absurd h
known g octets ds (Err (refused.Device device.OutOfMemory)) h count = refl
known g octets ds (Err (refused.Device device.ContentTooLong)) h count = absurd h

shows_or : (answer : Result ℕ EvidenceRefused) (m : ℕ) → ShowsOrDevice m answer → (answer ≡ Ok m) ⊎ IsDevice answer
shows_or answer m (inl is) = inl is
shows_or (Ok n) m (inr failed) = absurd failed
shows_or (Err (refused.Record rule)) m (inr failed) = absurd failed
shows_or (Err (refused.Stamp chain stamp rule)) m (inr failed) = absurd failed
shows_or (Err (refused.Device fault)) m (inr failed) = inr tt

-- it was judged
pub judged_by_digests : (g : Grounds) (octets : List ℕ) (ds : List (List ℕ)) (answer : Result ℕ EvidenceRefused)
    → IsVerdict g octets ds answer → ((m : ℕ) → Shows g octets ds m → ShowsOrDevice m answer)
    → CountsRefused answer 0 0 → IsEvidenceJudged g octets ds answer
judged_by_digests g octets ds answer verdict complete count = record {
  verdict = known g octets ds answer verdict count;
  complete = λ m shows. shows_or answer m (complete m shows);
}

-- ---- what is said

pub record_rule_is_no : (failed : RecordRule) → (record_rule_numbers failed).verdict ≡ 1 → ⊥
record_rule_is_no (record_rule.Malformed fault) e = cc
record_rule_is_no record_rule.Encrypted e = cc
record_rule_is_no record_rule.NoData e = cc

pub stamp_rule_is_no : (failed : StampRule) → (stamp_rule_numbers failed).verdict ≡ 1 → ⊥
stamp_rule_is_no stamp.Algorithm e = cc
stamp_rule_is_no stamp.HashLength e = cc
stamp_rule_is_no stamp.NotCovered e = cc
stamp_rule_is_no (stamp.Token rule) e = token_is_no rule e
stamp_rule_is_no stamp.Order e = cc
stamp_rule_is_no stamp.Weak e = cc
stamp_rule_is_no stamp.Lapsed e = cc
stamp_rule_is_no stamp.Others e = cc

-- what is not as it must be is named
pub stated_names : (i : EvidenceCheck) (f : Failure) → RefusesStated i f → (value : List ℕ) × Names value f
stated_names i f (inl ends) = ends_name i.ends f ends
stated_names i f (inr (ends, inl (names, some, none))) = (_, names)
stated_names i f (inr (ends, inr (at, (names, why)))) = (_, names)

module _ (said : Answer) (status : ℕ) (before : List ℕ) (size : ℕ) (after : List ℕ) where
  -- an acceptance is one of the record
  shown_is : (g : Grounds) (octets : List ℕ) (ds : List (List ℕ)) (answer : Result ℕ EvidenceRefused) (m : ℕ)
      → IsKnownEvidenceVerdict g octets ds answer → SaysEvidence answer said status before size after
      → said ≡ accepted_numbers m → Shows g octets ds m
  shown_is g octets ds (Ok n) m verdict says one =
      subst (λ (k : ℕ). Shows g octets ds k) (one_moment_in n m (sym says.0 ∙ one)) verdict
  shown_is g octets ds (Err (refused.Record failed)) m verdict says one =
      absurd (record_rule_is_no failed (ap (λ (a : Answer). a.verdict) (sym says.0 ∙ one)))
  shown_is g octets ds (Err (refused.Stamp i j failed)) m verdict says one =
      absurd (stamp_rule_is_no failed (ap (λ (a : Answer). a.verdict) (sym says.0 ∙ one)))
  shown_is g octets ds (Err (refused.Device fault)) m verdict says one = absurd (no_verdict said m says.1 one)

  -- and what the record shows is said
  is_shown : (answer : Result ℕ EvidenceRefused) (m : ℕ) → (answer ≡ Ok m) ⊎ IsDevice answer
      → SaysEvidence answer said status before size after
      → (said ≡ accepted_numbers m) ⊎ ((said ≡ nothing) × (status ≡ 7))
  is_shown answer m (inl is) says =
      inl (subst (λ (r : Result ℕ EvidenceRefused). SaysEvidence r said status before size after) is says).0
  is_shown (Ok n) m (inr failed) says = absurd failed
  is_shown (Err (refused.Record rule)) m (inr failed) says = absurd failed
  is_shown (Err (refused.Stamp i j rule)) m (inr failed) says = absurd failed
  is_shown (Err (refused.Device fault)) m (inr failed) says = inr (says.1, says.0)

  module _ (list : List EntryValue) (asked : List Asked) (i : EvidenceCheck) (m : ℕ) where
    sound : IsEvidenceChecked list asked i said status before size after → said ≡ accepted_numbers m
        → ShowsStated list asked i m
    sound (inl (ends, at, stated, (answer, judged, says))) one = record {
      ends = ends;
      at = at;
      stated = stated;
      shows = shown_is (grounds_under list asked i ends at) i.evidence (data_of i) answer m judged.verdict says one;
    }
    sound (inr h) one = absurd (says_none (RefusesStated i) (stated_names i) said status before size after m h one)

    complete : IsEvidenceChecked list asked i said status before size after → ShowsStated list asked i m
        → (said ≡ accepted_numbers m) ⊎ ((said ≡ nothing) × (status ≡ 7))
    complete (inl (ends, at, stated, (answer, judged, says))) s =
        let (same_ends, same_at) = states_one i s.ends ends s.at at s.stated stated in
        is_shown answer m (judged.complete m (subst (λ (a : Option ℕ).
        Shows (grounds_under list asked i ends a) i.evidence (data_of i) m) same_at (subst (λ (es : List AlgEnd).
        Shows (grounds_under list asked i es s.at) i.evidence (data_of i) m) same_ends s.shows))) says
    complete (inr (inl (why, refuses, says))) s = absurd (states_or_refuses i why s.ends s.at refuses s.stated)
    complete (inr (inr (seven, none, empty, same))) s = inr (none, seven)

    pub says_shown : IsEvidenceChecked list asked i said status before size after
        → SaysShown list asked i said status m
    says_shown checked = record { sound = sound checked; complete = complete checked }

-- The verdict of a record is that of its chains.
use Rattle.std.proofs.Common.{◌≡◌, ◌≢◌, ℕ, List, [], ◌∷◌, Result, Ok, Err, inl, inr, refl, ap}
use Rattle.digests.specs.declared.selection.WantedDigests.{WantedDigests}
use Rattle.evidence_types.specs.EvidenceValue.{EvidenceValue}
use Rattle.check_evidence.specs.Grounds.{Grounds}
use Rattle.check_evidence.specs.Showing.{Shows}
use Rattle.check_evidence.specs.Laws.{RecordsShowOneMoment, RecordsNeverBoth}
use Rattle.check_evidence.specs.declared.rules.RecordRule.{RecordRule}
use Rattle.check_evidence.specs.declared.rules.RecordRule.TheVariants as rule
use Rattle.check_evidence.specs.declared.rules.EvidenceRefused.{EvidenceRefused}
use Rattle.check_evidence.specs.declared.rules.EvidenceRefused.TheVariants as refused
use Rattle.judge_evidence.specs.Data.{AreOfData}
use Rattle.judge_evidence.specs.Walking.{IsChainsVerdict}
use Rattle.judge_evidence.specs.RecordVerdicts.{IsOpened, IsVerdict, ShowsOrDevice}
use Rattle.judge_evidence.proofs.Recorded.{record_of_chains}

-- it isn't a record, or its data are encrypted
pub unopened : (g : Grounds) (octets : List ℕ) (ds : List (List ℕ)) (failed : RecordRule)
    → IsOpened octets (Err failed) → IsVerdict g octets ds (Err (refused.Record failed))
unopened g octets ds (rule.Malformed fault) h = h
unopened g octets ds rule.Encrypted h = h
unopened g octets ds rule.NoData h = absurd h

-- there are as many data objects as digests of them
no_objects : (digests : List WantedDigests) (ds : List (List ℕ)) → digests ≡ [] → AreOfData digests ds → ds ≡ []
no_objects [] [] e h = refl
no_objects [] (d ∷ ds) e h = absurd h
no_objects (x ∷ digests) ds e h = absurd cc

pub some_objects : (digests : List WantedDigests) (ds : List (List ℕ)) → digests ≢ [] → AreOfData digests ds → ds ≢ []
some_objects [] ds some h = absurd (some refl)
some_objects (x ∷ digests) [] some h = absurd h
some_objects (x ∷ digests) (d ∷ ds) some h = λ e. cc

pub without_data : (g : Grounds) (octets : List ℕ) (v : EvidenceValue) (digests : List WantedDigests)
    (ds : List (List ℕ)) → IsOpened octets (Ok v) → digests ≡ [] → AreOfData digests ds
    → IsVerdict g octets ds (Err (refused.Record rule.NoData))
without_data g octets v digests ds h none are = record {
  record_value = v;
  encodes = h.0;
  open_data = h.1;
  no_data = no_objects digests ds none are;
}

pub by_chains : (g : Grounds) (octets : List ℕ) (v : EvidenceValue) (digests : List WantedDigests)
    (ds : List (List ℕ)) (result : Result ℕ EvidenceRefused) → IsOpened octets (Ok v) → digests ≢ []
    → AreOfData digests ds → IsChainsVerdict g ds v.chains result → IsVerdict g octets ds result
by_chains g octets v digests ds (Ok m) h some are k =
    record_of_chains g octets ds m v (some_objects digests ds some are) h.0 h.1 k.1 k.0
by_chains g octets v digests ds (Err (refused.Record failed)) h some are k = absurd k
by_chains g octets v digests ds (Err (refused.Stamp chain stamp failed)) h some are k = record {
  some_data = some_objects digests ds some are;
  record_value = v;
  encodes = h.0;
  open_data = h.1;
  place = k.place;
  is_chain = k.is_chain;
  is_stamp = k.is_stamp;
  fails = k.fails;
}
by_chains g octets v digests ds (Err (refused.Device fault)) h some are k = k

abbrev ok_moment : ℕ → Result ℕ EvidenceRefused
ok_moment m = Ok m

-- what a record shows is the verdict
pub completes : RecordsShowOneMoment → RecordsNeverBoth → (g : Grounds) (octets : List ℕ) (ds : List (List ℕ))
    (result : Result ℕ EvidenceRefused) → IsVerdict g octets ds result → (m : ℕ) → Shows g octets ds m
    → ShowsOrDevice m result
completes one never g octets ds (Ok n) h m s = inl (ap ok_moment (one g octets ds n m h s))
completes one never g octets ds (Err (refused.Record failed)) h m s =
    absurd (never g octets ds m (refused.Record failed) s h)
completes one never g octets ds (Err (refused.Stamp chain stamp failed)) h m s =
    absurd (never g octets ds m (refused.Stamp chain stamp failed) s h)
completes one never g octets ds (Err (refused.Device fault)) h m s = inr tt

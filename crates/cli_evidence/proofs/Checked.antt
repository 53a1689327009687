-- What is said of an evidence record that was checked.
use Rattle.std.proofs.Common.{◌≡◌, ◌⊎◌, ℕ, List, Option, Result, Ok, Err, refl, inl, inr}
use Rattle.std.specs.Prelude.{Any, IfErr, IfOk, MatchResult}
use Rattle.devices.specs.Device.{raised}
use Rattle.check_fit.specs.declared.rules.DeviceFault.{DeviceFault}
use Rattle.check_fit.specs.declared.rules.DeviceFault.TheVariants as device
use Rattle.digests.specs.declared.selection.WantedDigests.{WantedDigests}
use Rattle.check_evidence.specs.Grounds.{AlgEnd, Grounds}
use Rattle.check_evidence.specs.Refusing.{Refuses}
use Rattle.check_evidence.specs.declared.rules.EvidenceRefused.{EvidenceRefused}
use Rattle.check_evidence.specs.declared.rules.EvidenceRefused.TheVariants as refused
use Rattle.judge_evidence.specs.Data.{AreOfData}
use Rattle.judge_evidence.specs.Ordering.{IsRecordOutOfOrder}
use Rattle.judge_evidence.specs.RecordVerdicts.{IsVerdict, IsWanted}
use Rattle.judge_evidence.specs.Walking.{CountsRefused}
use Rattle.cli_tasks.specs.declared.task.EvidenceWords.{EvidenceWords}
use Rattle.cli_failures.specs.declared.failure.Failure.{Failure}
use Rattle.cli_failures.specs.declared.failure.Failure.TheVariants as failure
use Rattle.cli_failures.specs.Files.{IsFailureToOpen, IsHeld}
use Rattle.cli_commands.specs.Stamping.{IsUnread}
use Rattle.cli_evidence.specs.Checking.{AcceptsData, IsChecked, IsFault, IsRefusal, RefusesData, RefusesRecord}
use Rattle.cli_evidence.specs.Digesting.{AreDigested, IsUndigested, TellsUnwanted}
use Rattle.cli_evidence.specs.Stating.{IsStated}
use Rattle.cli_evidence.specs.Verdicts.{TellsAccepted, TellsRefused}
use Rattle.cli_evidence.specs.declared.stated.Stated.{Stated}
use Rattle.cli_evidence.proofs.Stating.{grounds, grounds_by, later}
use Rattle.cli_evidence.proofs.Unopened.{unopened}
use Rattle.digests.specs.declared.set.Algs.{Algs}

-- an answers list never fails
pub never_raised : 0 ≡ raised 0 → ⊥
never_raised e = let no : ◌≡◌ {A = ℕ} 0 1 = e in cc

-- ---- before the record is judged

as_fault : {F : Type 0} (holds : F → Option (List ℕ)) (fault : DeviceFault) → IsUnread holds fault
    → IsFault holds fault
as_fault holds device.ReadFailed unread = unread
as_fault holds device.ContentTooLong unread = unread
as_fault holds device.AskFailed unread = unread
as_fault holds device.TooLong unread = unread
as_fault holds device.OutOfMemory unread = absurd unread

module _ {F : Type 0} (holds : F → Option (List ℕ)) (words : EvidenceWords) (stated : Stated)
    (is : IsStated holds words.ends.items words.at stated) (f : Failure) where
  pub record_refused : RefusesRecord holds words f → RefusesData holds words f
  record_refused fails =
      later holds words.ends.items words.at words.trust words.answers (RefusesRecord holds words) f stated is fails

  module _ (octets : List ℕ) (held : IsHeld holds octets) where
    pub wanted_refused : TellsUnwanted octets f → RefusesData holds words f
    wanted_refused (failed, fails, told) =
        record_refused (inr (inl (unopened holds octets failed held f fails told)))

    module _ (wanted : Algs) (is_wanted : IsWanted octets (Ok wanted)) where
      pub open_refused : Any (λ path. IsFailureToOpen path f) words.data.items ⊎ IsRefusal holds words f
          → RefusesData holds words f
      open_refused fails = record_refused (inr (inr (octets, wanted, held, is_wanted, fails)))

      pub data_refused : (f ≡ failure.Memory)
          ⊎ (Any (λ path. IsFailureToOpen path f) words.data.items ⊎ IsUndigested holds f)
          → RefusesData holds words f
      data_refused (inl memory) = inl memory
      data_refused (inr (inl opens)) = open_refused (inl opens)
      data_refused (inr (inr (fault, unread, told))) =
          open_refused (inr (inl (fault, as_fault holds fault unread, told)))

-- ---- the verdict

module _ {F : Type 0} (holds : F → Option (List ℕ)) (words : EvidenceWords) (stated : Stated)
    (is : IsStated holds words.ends.items words.at stated) (lent : List AlgEnd) (same : lent ≡ stated.ends.items)
    (octets : List ℕ) (held : IsHeld holds octets) (wanted : Algs) (is_wanted : IsWanted octets (Ok wanted))
    (digests : List WantedDigests) (digested : AreDigested holds wanted words.data.items digests)
  where
    abbrev g : Grounds
    g = grounds_by stated lent words.whole

    abbrev Judged : Result ℕ EvidenceRefused → Type 0
    Judged verdict = (data_objects : List (List ℕ)) → AreOfData digests data_objects
        → IsVerdict g octets data_objects verdict

    checked : IsChecked holds words g octets digested.data_objects
    checked = record {
      grounds = grounds holds words.ends.items words.at stated is lent same words.whole;
      record_held = held;
      data_held = digested.held;
    }

    refusal_of : (f : Failure) → IsRefusal holds words f → RefusesData holds words f
    refusal_of f refuses = open_refused holds words stated is f octets held wanted is_wanted (inr refuses)

    refusal : (why : EvidenceRefused) (f : Failure) → Refuses g octets digested.data_objects why
        → f ≡ failure.Unshown why → RefusesData holds words f
    refusal why f refuses told = refusal_of f (inr (g, octets, digested.data_objects, why, checked, refuses, told))

    -- X4 is told of a record with a list out of order
    abbrev Sorts : Result ℕ EvidenceRefused → Type 0
    Sorts verdict = verdict ≡ Err (refused.Device device.OutOfMemory) → IsRecordOutOfOrder octets

    refused_by : (why : EvidenceRefused) (f : Failure) → IsVerdict g octets digested.data_objects (Err why)
        → CountsRefused (let r : Result ℕ EvidenceRefused = Err why in r) 0 0 → Sorts (Err why)
        → f ≡ failure.Unshown why → RefusesData holds words f
    refused_by (refused.Record failed) f refuses counts sorts told = refusal (refused.Record failed) f refuses told
    refused_by (refused.Stamp chain stamp failed) f refuses counts sorts told =
        refusal (refused.Stamp chain stamp failed) f refuses told
    refused_by (refused.Device device.OutOfMemory) f fault counts sorts told =
        refusal_of f (inl (device.OutOfMemory, (octets, held, sorts refl), told))
    refused_by (refused.Device device.AskFailed) f fault counts sorts told = absurd (never_raised counts)
    refused_by (refused.Device device.ReadFailed) f fault counts sorts told = absurd fault
    refused_by (refused.Device device.TooLong) f fault counts sorts told = absurd fault
    refused_by (refused.Device device.ContentTooLong) f fault counts sorts told = absurd fault

    module _ {T : Type 0} (bytes : T → List ℕ) where
      abbrev Told : Result T Failure → Result ℕ EvidenceRefused → Type 0
      Told r verdict = MatchResult r (λ l. TellsAccepted verdict (bytes l)) (TellsRefused verdict)

      pub accepts : (verdict : Result ℕ EvidenceRefused) (r : Result T Failure) → Judged verdict → Told r verdict
          → IfOk r (λ l. AcceptsData holds words (bytes l))
      accepts verdict (Err f) judged told = tt
      accepts (Ok m) (Ok l) judged told = (
        g,
        octets,
        digested.data_objects,
        m,
        checked,
        judged digested.data_objects digested.are,
        told,
      )
      accepts (Err why) (Ok l) judged told = absurd told

      pub refuses : (verdict : Result ℕ EvidenceRefused) (r : Result T Failure) → Judged verdict
          → CountsRefused verdict 0 0 → Sorts verdict → Told r verdict → IfErr r (RefusesData holds words)
      refuses verdict (Ok l) judged counts sorts told = tt
      refuses (Ok m) (Err f) judged counts sorts told = inl told
      refuses (Err why) (Err f) judged counts sorts told =
          refused_by why f (judged digested.data_objects digested.are) counts sorts told

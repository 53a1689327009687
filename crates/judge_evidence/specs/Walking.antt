-- What is answered while one goes through the archive time-stamps of a record.
use Rattle.std.specs.Prelude.{◌≡◌, ⊤, ℕ, Bool, true, false, List, Option, MatchOption, Result, Ok, Err}
use Rattle.devices.specs.Device.{raised}
use Rattle.digests.specs.declared.algorithm.Alg.{Alg}
use Rattle.check_fit.specs.declared.rules.DeviceFault.{DeviceFault}
use Rattle.check_fit.specs.declared.rules.DeviceFault.TheVariants as device
use Rattle.evidence_types.specs.StampValue.{StampValue}
use Rattle.check_evidence.specs.CoveredValues.{AreValues}
use Rattle.check_evidence.specs.Grounds.{Grounds}
use Rattle.check_evidence.specs.Roots.{HasNoOthers}
use Rattle.check_evidence.specs.Places.{Place, following}
use Rattle.check_evidence.specs.Showing.{IsFirst, IsWhole}
use Rattle.check_evidence.specs.declared.covered.Covered.{Covered}
use Rattle.check_evidence.specs.declared.rules.EvidenceRefused.{EvidenceRefused}
use Rattle.check_evidence.specs.declared.rules.EvidenceRefused.TheVariants as refused
use Rattle.evidence_stamps.specs.StateValue.{StateValue, IsStateOf}
use Rattle.evidence_stamps.specs.declared.unfit.Unfit.{Unfit}
use Rattle.evidence_stamps.specs.declared.unfit.Unfit.TheVariants as unfit
use Rattle.judge_evidence.specs.ShowingChains.{ShowsChains}
use Rattle.judge_evidence.specs.Running.{IsRunPast, FailsAt}
use Rattle.judge_evidence.specs.declared.run.Begun.{Begun}
use Rattle.judge_evidence.specs.declared.run.Run.{Run}

-- what follows states this, or nothing; or nothing follows
abbrev pub IsAhead : Place → (last : Bool) → Option StateValue → Type 0
IsAhead p last ahead = MatchOption (following p) (last ≡ true)
    (λ s. (last ≡ false) × IsStateOf s.stamp ahead)

-- what the first of all shows, which has these lists and must cover these values: its moment, and whether other values
-- stand in the first list, where none may
pub record IsBegunBy (lists : Option (List (List (List ℕ)))) (alg : Alg) (covered : Covered) (m : ℕ) (alone : Bool)
    (b : Begun) : Type 0 where
  pub at : b.moment ≡ m
  pub others : b.others ≡ true → (alone ≡ true)
      × ((due : List (List ℕ)) → AreValues alg covered due → HasNoOthers lists due → ⊥)
  pub none : b.others ≡ false → alone ≡ true → (due : List (List ℕ)) → AreValues alg covered due
      → HasNoOthers lists due

-- the record is refused for this rule at a place, or for a device
abbrev pub refused_at : (chain stamp : ℕ) → Unfit → EvidenceRefused
refused_at chain stamp (unfit.Rule failed) = refused.Stamp chain stamp failed
refused_at chain stamp (unfit.Device fault) = refused.Device fault

-- the verifier failed, or memory was refused
abbrev pub IsFault : DeviceFault → Type 0
IsFault device.AskFailed = ⊤
IsFault device.OutOfMemory = ⊤
IsFault _ = ⊥

-- what is known after a place; or the record is refused there; or a device failed
abbrev pub IsRunOf : Grounds → (data_objects : List (List ℕ)) → (chains : List (List StampValue)) → Place
    → Result Run EvidenceRefused → Type 0
IsRunOf g data_objects chains p (Ok run) = IsRunPast g data_objects chains p run
IsRunOf g data_objects chains p (Err (refused.Stamp chain stamp failed)) =
    FailsAt g data_objects chains chain stamp failed
IsRunOf g data_objects chains p (Err (refused.Record failed)) = ⊥
IsRunOf g data_objects chains p (Err (refused.Device fault)) = IsFault fault

-- the chains show this moment, and the first list is whole where it must be; or the record is refused for a time-stamp;
-- or a device failed
abbrev pub IsChainsVerdict : Grounds → (data_objects : List (List ℕ)) → (chains : List (List StampValue))
    → Result ℕ EvidenceRefused → Type 0
IsChainsVerdict g data_objects chains (Ok m) = ShowsChains g chains data_objects m
    × (g.whole ≡ true → (first : StampValue) → IsFirst chains first → IsWhole data_objects first)
IsChainsVerdict g data_objects chains (Err (refused.Stamp chain stamp failed)) =
    FailsAt g data_objects chains chain stamp failed
IsChainsVerdict g data_objects chains (Err (refused.Record failed)) = ⊥
IsChainsVerdict g data_objects chains (Err (refused.Device fault)) = IsFault fault

-- the count of failures rose by one if the verifier failed, and otherwise it is as it was
abbrev pub CountsRefused : {A : Type 0} → Result A EvidenceRefused → (count count' : ℕ) → Type 0
CountsRefused (Err (refused.Device device.AskFailed)) count count' = count' ≡ raised count
CountsRefused result count count' = count' ≡ count

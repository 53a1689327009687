-- The digests of files of data.
use Rattle.std.specs.Prelude.{◌≡◌, ℕ, List, Option, Err}
use Rattle.std.specs.Borrow.{Bor}
use Rattle.std.specs.List.{AllByRecursion}
use Rattle.check_fit.specs.declared.rules.DeviceFault.{DeviceFault}
use Rattle.digests.specs.Selection.{AreOfWanted, set_given}
use Rattle.digests.specs.declared.selection.WantedDigests.{WantedDigests}
use Rattle.digests.specs.declared.set.Algs.{Algs}
use Rattle.check_evidence.specs.declared.rules.RecordRule.{RecordRule}
use Rattle.check_evidence.specs.declared.rules.EvidenceRefused.TheVariants as refused
use Rattle.judge_evidence.specs.Data.{AreOfData}
use Rattle.judge_evidence.specs.RecordVerdicts.{IsWanted}
use Rattle.cli_failures.specs.declared.failure.Failure.{Failure}
use Rattle.cli_failures.specs.declared.failure.Failure.TheVariants as failure
use Rattle.cli_commands.specs.Judging.{IsContentHeld}
use Rattle.cli_commands.specs.Stamping.{IsUnread}
use Rattle.cli_evidence.specs.Checking.{AreHeld}

-- V1 or V2, by which no algorithm is wanted
abbrev pub TellsUnwanted : (octets : List ℕ) → Failure → Type 0
TellsUnwanted octets f = (failed : RecordRule) × IsWanted octets (Err failed)
    × (f ≡ failure.Unshown (refused.Record failed))

-- the digests by these algorithms of all the octets of a file
pub record IsDigested {F : Type 0} (holds : F → Option (List ℕ)) (wanted : Algs) (digests : WantedDigests)
    : Type 0 where
  pub given : set_given digests ≡ wanted
  pub octets : List ℕ
  pub held : IsContentHeld holds octets
  pub are : AreOfWanted digests octets

-- a file isn't read to its end
abbrev pub IsUndigested : {F : Type 0} → (holds : F → Option (List ℕ)) → Failure → Type 0
IsUndigested holds f = (fault : DeviceFault) × IsUnread holds fault × (f ≡ failure.Unshown (refused.Device fault))

-- the digests by these algorithms of the files of these paths, in their order
pub record AreDigested {F : Type 0} (holds : F → Option (List ℕ)) (wanted : Algs) (paths : List (Bor (List ℕ)))
    (digests : List WantedDigests) : Type 0 where
  pub given : AllByRecursion (λ d. set_given d ≡ wanted) digests
  pub data_objects : List (List ℕ)
  pub held : AreHeld holds paths data_objects
  pub are : AreOfData digests data_objects

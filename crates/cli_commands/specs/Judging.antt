-- The verdict about a file that was read, and a content that was handed in or not, for any way of judging the two.
use Rattle.std.specs.Prelude.{◌≡◌, ◌⊎◌, ℕ, Bool, true, List, Option, Result, Err, MatchResult, IfSome}
use Rattle.devices.specs.Device.{AreOctets}
use Rattle.der_core.specs.declared.fault.Fault.{Fault}
use Rattle.cms_types.specs.declared.fault.CmsFault.{CmsFault}
use Rattle.cms_types.specs.SignedDataValue.{SignedDataValue}
use Rattle.check_fit.specs.declared.rules.DeviceFault.TheVariants as device
use Rattle.check_fit.specs.declared.rules.Refused.{Refused}
use Rattle.check_fit.specs.declared.rules.Refused.TheVariants as refused
use Rattle.check_fit.specs.FileFitting.{IsReadingBy, file_rules}

-- whether a verdict is right for a content and a SignedData
abbrev pub Judge : Type 1
Judge = (content : List ℕ) → SignedDataValue → Result ℕ Refused → Type 0

-- the content of a SignedData is this, if it holds one
abbrev pub IsContentOf : SignedDataValue → List ℕ → Type 0
IsContentOf v content = IfSome v.encapsulated.content (λ held. content ≡ held)

-- these are all the octets of a file that was opened, if it is known what such a file holds
abbrev pub IsContentHeld : {F : Type 0} → (holds : F → Option (List ℕ)) → (content : List ℕ) → Type 0
IsContentHeld {F} holds content = (file : F) × IfSome (holds file) (λ held. AreOctets held → content ≡ held)

-- the verdict about a SignedData that no rule C1 to C5 refuses: a content that was handed in failed, or the content is
-- judged; `IsGiven` says what was handed in
abbrev pub JudgesSigned : Judge → (IsGiven : List ℕ → Type 0) → (handed : Bool) → SignedDataValue
    → Result ℕ Refused → Type 0
JudgesSigned Judges IsGiven handed v verdict = ((handed ≡ true)
    × ((verdict ≡ Err (refused.Device device.ReadFailed)) ⊎ (verdict ≡ Err (refused.Device device.ContentTooLong))))
    ⊎ ((content : List ℕ) × IsContentOf v content × (handed ≡ true → IsGiven content) × Judges content v verdict)

-- the verdict about a file of these octets, with a content handed in or without; if they aren't a ContentInfo,
-- `HasFault` says by which faults
pub record JudgesFile (HasFault : List ℕ → Fault → Type 0) (Judges : Judge) (IsGiven : List ℕ → Type 0)
    (handed : Bool) (octets : List ℕ) (verdict : Result ℕ Refused) : Type 0 where
  pub reading : Result SignedDataValue CmsFault
  pub read : IsReadingBy HasFault octets reading
  pub judged : MatchResult (file_rules reading handed)
      (λ v. JudgesSigned Judges IsGiven handed v verdict) (λ e. verdict ≡ Err e)

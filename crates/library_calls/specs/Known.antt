-- The verdict about a file and a content that are in memory: reading them does not fail.
use Rattle.std.specs.Prelude.{◌≡◌, ◌<◌, ◌^◌, ◌⊎◌, ℕ, List, length, Option, Some, None, is_some}
use Rattle.std.specs.Prelude.{Result, Err, MatchResult}
use Rattle.cms_types.specs.SignedDataValue.{SignedDataValue}
use Rattle.cms_types.specs.declared.fault.CmsFault.{CmsFault}
use Rattle.check_fit.specs.declared.rules.DeviceFault.TheVariants as device
use Rattle.check_fit.specs.declared.rules.Refused.{Refused}
use Rattle.check_fit.specs.declared.rules.Refused.TheVariants as refused
use Rattle.check_fit.specs.FileFitting.{IsReading, file_rules}
use Rattle.check_verdict.specs.Verdicts.{IsContent}

-- X5: the content that is handed in is too long
abbrev pub IsTooLong : (handed : Option (List ℕ)) → Result ℕ Refused → Type 0
IsTooLong None verdict = ⊥
IsTooLong (Some content) verdict = (verdict ≡ Err (refused.Device device.ContentTooLong)) × (2 ^ 40 < length content)

-- the verdict about a SignedData that none of C1 to C5 refuses, and its content: X5, or what is judged of them
abbrev pub JudgesContent : (Judges : List ℕ → SignedDataValue → Result ℕ Refused → Type 0)
    → (handed : Option (List ℕ)) → SignedDataValue → Result ℕ Refused → Type 0
JudgesContent Judges handed v verdict = IsTooLong handed verdict
    ⊎ ((content : List ℕ) × IsContent v.encapsulated.content handed content × Judges content v verdict)

-- the first of C1 to C5 that fails, or that verdict
pub record JudgesHanded (Judges : List ℕ → SignedDataValue → Result ℕ Refused → Type 0) (octets : List ℕ)
    (handed : Option (List ℕ)) (verdict : Result ℕ Refused) : Type 0 where
  pub reading : Result SignedDataValue CmsFault
  pub read : IsReading octets reading
  pub judged : MatchResult (file_rules reading (is_some handed)) (λ v. JudgesContent Judges handed v verdict)
      (λ e. verdict ≡ Err e)

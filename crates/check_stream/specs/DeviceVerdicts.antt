-- What `check_stream` says of its devices, whatever file it is given: also if it is not known which octets the source
-- of the file has to give.
use Rattle.std.specs.Prelude.{◌≡◌, ⊤, ◌⊎◌, ℕ, Bool, true, false, is_some, Option, Some, None, Result, Err}
use Rattle.devices.specs.Device.{raised}
use Rattle.check_fit.specs.declared.rules.FileRule.{FileRule}
use Rattle.check_fit.specs.declared.rules.FileRule.TheVariants as rule
use Rattle.check_fit.specs.declared.rules.DeviceFault.TheVariants as device
use Rattle.check_fit.specs.declared.rules.Refused.{Refused}
use Rattle.check_fit.specs.declared.rules.Refused.TheVariants as refused
use Rattle.check_fit.specs.FileFitting.{SourceFacts, OfSource}
use Rattle.check_verdict.specs.SignerVerdicts.{IsOfSigners}

-- C1 to C5; C4 only if no content was handed in, C5 only if one was
abbrev pub IsOfWhole : (handed : Bool) → FileRule → Type 0
IsOfWhole handed (rule.Malformed fault) = ⊤
IsOfWhole handed rule.NotSignedData = ⊤
IsOfWhole handed rule.NoSigner = ⊤
IsOfWhole handed rule.NoContent = handed ≡ false
IsOfWhole handed rule.ContentTwice = handed ≡ true
IsOfWhole handed rule.NoSuchSigner = ⊥

-- a verdict about some signers: a moment, a rule that one of them or its token 1 fails, or X2
abbrev pub IsJudged : Result ℕ Refused → Type 0
IsJudged result = (count : ℕ) × IsOfSigners count result

-- The verdict about signers, if no content was handed in; if one was, its source failed, X1, and counted that, or gave
-- too much, X5, or was read and counted no failure.
abbrev pub OfHanded : {S : Type 0} → SourceFacts S → (before after : Option S) → Result ℕ Refused → Type 0
OfHanded facts None after result = (after ≡ None) × IsJudged result
OfHanded {S} facts (Some s) after result =
    (s' : S) × (after ≡ Some s')
    × OfSource (λ content. IsJudged) (facts.tells s) (facts.rest s) (facts.rest s') (facts.failures s)
    (facts.failures s') result

-- one of C1 to C5, and then none of the content is read; or the verdict about the content and the signers
abbrev pub OfRead : {S : Type 0} → SourceFacts S → (before after : Option S) → Result ℕ Refused → Type 0
OfRead facts before after result =
    ((failed : FileRule) × (result ≡ Err (refused.File failed)) × (after ≡ before) × IsOfWhole (is_some before) failed)
    ⊎ OfHanded facts before after result

-- The source of the file failed, X1, and counted that; or there was too little room, X3; in both cases none of the
-- content is read. Otherwise that source counted no failure.
pub data OfDevices {S : Type 0} (facts : SourceFacts S) (count count' : ℕ) (before after : Option S) : Result ℕ Refused
    → Type 0 where
  file_fails : count' ≡ raised count → after ≡ before
      → OfDevices facts count count' before after (Err (refused.Device device.ReadFailed))
  no_room : count' ≡ count → after ≡ before
      → OfDevices facts count count' before after (Err (refused.Device device.TooLong))
  decided : {result : Result ℕ Refused} → count' ≡ count → OfRead facts before after result
      → OfDevices facts count count' before after result

-- The text of each rule: its code and its name. Nowhere else are they written.
use Rattle.std.specs.Prelude.{ℕ, List, ◌++◌, codes}
use Rattle.std.specs.Fmt.{decimal}
use Rattle.cms_types.specs.declared.fault.CmsFault.TheVariants as cms
use Rattle.der_core.specs.FaultTexts.{fault_text}
use Rattle.check_fit.specs.declared.rules.FileRule.{FileRule}
use Rattle.check_fit.specs.declared.rules.FileRule.TheVariants as file
use Rattle.check_fit.specs.declared.rules.SignerRule.{SignerRule}
use Rattle.check_fit.specs.declared.rules.SignerRule.TheVariants as signer
use Rattle.check_fit.specs.declared.rules.TokenRule.{TokenRule}
use Rattle.check_fit.specs.declared.rules.TokenRule.TheVariants as token
use Rattle.check_fit.specs.declared.rules.Refused.{Refused}
use Rattle.check_fit.specs.declared.rules.Refused.TheVariants as refused
use Rattle.check_fit.specs.declared.rules.TokenRefused.{TokenRefused}
use Rattle.check_fit.specs.declared.rules.TokenRefused.TheVariants as token_refused
use Rattle.check_fit.specs.declared.rules.DeviceFault.{DeviceFault}
use Rattle.check_fit.specs.declared.rules.DeviceFault.TheVariants as device

-- without the fault that follows it
abbrev pub file_rule_word : FileRule → List ℕ
file_rule_word (file.Malformed fault) = codes "C1"
file_rule_word file.NotSignedData = codes "C2 NotSignedData"
file_rule_word file.NoSigner = codes "C3 NoSigner"
file_rule_word file.NoContent = codes "C4 NoContent"
file_rule_word file.ContentTwice = codes "C5 ContentTwice"
file_rule_word file.NoSuchSigner = codes "C6 NoSuchSigner"

abbrev pub file_rule_text : FileRule → List ℕ
file_rule_text (file.Malformed fault) = codes "C1" ++ codes " " ++ fault_text fault
file_rule_text rule = file_rule_word rule

abbrev pub signer_rule_text : SignerRule → List ℕ
signer_rule_text signer.NoSignedAttrs = codes "S1 NoSignedAttrs"
signer_rule_text signer.ContentTypeAttr = codes "S2 ContentTypeAttr"
signer_rule_text signer.ContentTypeDiffers = codes "S3 ContentTypeDiffers"
signer_rule_text signer.DigestAttr = codes "S4 DigestAttr"
signer_rule_text signer.DigestAlgorithm = codes "S5 DigestAlgorithm"
signer_rule_text signer.DigestDiffers = codes "S6 DigestDiffers"
signer_rule_text signer.UnknownSigner = codes "S7 UnknownSigner"
signer_rule_text signer.NotNamed = codes "S8 NotNamed"
signer_rule_text signer.SignatureFails = codes "S9 SignatureFails"
signer_rule_text signer.NoToken = codes "S10 NoToken"

abbrev pub device_fault_text : DeviceFault → List ℕ
device_fault_text device.ReadFailed = codes "X1 ReadFailed"
device_fault_text device.AskFailed = codes "X2 AskFailed"
device_fault_text device.TooLong = codes "X3 TooLong"
device_fault_text device.OutOfMemory = codes "X4 OutOfMemory"
device_fault_text device.ContentTooLong = codes "X5 ContentTooLong"

-- without the fault or the rule of a signer that follows it
abbrev pub token_rule_word : TokenRule → List ℕ
token_rule_word (token.Malformed (cms.Malformed fault)) = codes "K1"
token_rule_word (token.Malformed cms.NotSignedData) = codes "K1 NotSignedData"
token_rule_word (token.Malformed cms.OutOfMemory) = codes "K1 OutOfMemory"
token_rule_word token.ContentType = codes "K2 ContentType"
token_rule_word token.NoContent = codes "K3 NoContent"
token_rule_word token.OneSigner = codes "K4 OneSigner"
token_rule_word (token.Attributes rule) = codes "K5"
token_rule_word (token.TstMalformed fault) = codes "K6"
token_rule_word token.CriticalExtension = codes "K7 CriticalExtension"
token_rule_word token.ImprintAlgorithm = codes "K8 ImprintAlgorithm"
token_rule_word token.ImprintDiffers = codes "K9 ImprintDiffers"
token_rule_word token.UnknownTsa = codes "K10 UnknownTsa"
token_rule_word token.NotNamed = codes "K11 NotNamed"
token_rule_word token.Purpose = codes "K12 Purpose"
token_rule_word token.Period = codes "K13 Period"
token_rule_word token.SignatureFails = codes "K14 SignatureFails"

-- if a token can't be read, only its fault is printed
abbrev pub token_rule_text : TokenRule → List ℕ
token_rule_text (token.Malformed (cms.Malformed fault)) = codes "K1" ++ codes " " ++ fault_text fault
token_rule_text (token.Attributes rule) = codes "K5" ++ codes " " ++ signer_rule_text rule
token_rule_text (token.TstMalformed fault) = codes "K6" ++ codes " " ++ fault_text fault
token_rule_text rule = token_rule_word rule

-- if a file is not a ContentInfo, only its fault is printed
abbrev pub file_refusal_text : FileRule → List ℕ
file_refusal_text (file.Malformed fault) = codes "malformed " ++ fault_text fault
file_refusal_text rule = codes "refused " ++ file_rule_text rule

-- the line that reports a refusal, without its end
abbrev pub refused_text : Refused → List ℕ
refused_text (refused.File rule) = file_refusal_text rule
refused_text (refused.Signer signer rule) = codes "refused signer " ++ decimal signer ++ codes " "
    ++ signer_rule_text rule
refused_text (refused.Token signer token rule) = codes "refused signer " ++ decimal signer ++ codes " token "
    ++ decimal token ++ codes " " ++ token_rule_text rule
refused_text (refused.Device fault) = codes "failed " ++ device_fault_text fault

-- the rule that a single token fails, or the device that failed
abbrev pub token_refused_text : TokenRefused → List ℕ
token_refused_text (token_refused.Rule rule) = token_rule_text rule
token_refused_text (token_refused.Device fault) = device_fault_text fault

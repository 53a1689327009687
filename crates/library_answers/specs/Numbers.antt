-- An answer in numbers: what a program in C reads of a verdict.
use Rattle.std.specs.Prelude.{ℕ, pos, ◌-ℤ◌, ◌/◌, ◌%◌, ◌^◌, Result, Ok, Err}
use Rattle.der_core.specs.declared.fault.Fault.{Fault}
use Rattle.der_core.specs.declared.fault.Kind.{Kind}
use Rattle.der_core.specs.declared.fault.Kind.TheVariants as kind
use Rattle.cms_types.specs.declared.fault.CmsFault.{CmsFault}
use Rattle.cms_types.specs.declared.fault.CmsFault.TheVariants as cms
use Rattle.check_fit.specs.declared.rules.FileRule.{FileRule}
use Rattle.check_fit.specs.declared.rules.FileRule.TheVariants as file
use Rattle.check_fit.specs.declared.rules.SignerRule.{SignerRule}
use Rattle.check_fit.specs.declared.rules.SignerRule.TheVariants as signer
use Rattle.check_fit.specs.declared.rules.TokenRule.{TokenRule}
use Rattle.check_fit.specs.declared.rules.TokenRule.TheVariants as token
use Rattle.check_fit.specs.declared.rules.DeviceFault.{DeviceFault}
use Rattle.check_fit.specs.declared.rules.DeviceFault.TheVariants as device
use Rattle.check_fit.specs.declared.rules.Refused.{Refused}
use Rattle.check_fit.specs.declared.rules.Refused.TheVariants as refused
use Rattle.check_evidence.specs.declared.rules.RecordRule.{RecordRule}
use Rattle.check_evidence.specs.declared.rules.RecordRule.TheVariants as record_rule
use Rattle.check_evidence.specs.declared.rules.StampRule.{StampRule}
use Rattle.check_evidence.specs.declared.rules.StampRule.TheVariants as stamp
use Rattle.check_evidence.specs.declared.rules.EvidenceRefused.{EvidenceRefused}
use Rattle.check_evidence.specs.declared.rules.EvidenceRefused.TheVariants as evidence
use Rattle.library_answers.specs.declared.answer.Answer.{Answer}

-- no verdict
abbrev pub nothing : Answer
nothing = record {
  verdict = 0;
  letter = 0;
  number = 0;
  inner = 0;
  kind = 0;
  nanoseconds = 0;
  seconds = pos 0;
  at = 0;
  signer = 0;
  token = 0;
  line = 0;
}

-- a verdict, 2 for a refusal, 3 for octets that are not of their form, 4 for a device; and the letter and the number of
-- the rule's code
abbrev pub ruled : (verdict letter number : ℕ) → Answer
ruled verdict letter number = record nothing { verdict = verdict; letter = letter; number = number }

abbrev pub kind_number : Kind → ℕ
kind_number kind.End = 1
kind_number kind.HighTag = 2
kind_number kind.Indefinite = 3
kind_number kind.LengthForm = 4
kind_number kind.Overrun = 5
kind_number kind.Tag = 6
kind_number kind.Trailing = 7
kind_number kind.Integer = 8
kind_number kind.Oid = 9
kind_number kind.Boolean = 10
kind_number kind.Bits = 11
kind_number kind.Time = 12
kind_number kind.Value = 13
kind_number kind.Order = 14
kind_number kind.Empty = 15

abbrev pub with_fault : Answer → Fault → Answer
with_fault a f = record a { kind = kind_number f.kind; at = f.at }

abbrev pub signer_rule_number : SignerRule → ℕ
signer_rule_number signer.NoSignedAttrs = 1
signer_rule_number signer.ContentTypeAttr = 2
signer_rule_number signer.ContentTypeDiffers = 3
signer_rule_number signer.DigestAttr = 4
signer_rule_number signer.DigestAlgorithm = 5
signer_rule_number signer.DigestDiffers = 6
signer_rule_number signer.UnknownSigner = 7
signer_rule_number signer.NotNamed = 8
signer_rule_number signer.SignatureFails = 9
signer_rule_number signer.NoToken = 10

-- C1 to C6: 67 is the letter C
abbrev pub file_numbers : FileRule → Answer
file_numbers (file.Malformed fault) = with_fault (ruled 3 67 1) fault
file_numbers file.NotSignedData = ruled 2 67 2
file_numbers file.NoSigner = ruled 2 67 3
file_numbers file.NoContent = ruled 2 67 4
file_numbers file.ContentTwice = ruled 2 67 5
file_numbers file.NoSuchSigner = ruled 2 67 6

-- K1: 75 is the letter K. A token of another type has no fault
abbrev pub cms_numbers : CmsFault → Answer
cms_numbers (cms.Malformed fault) = with_fault (ruled 2 75 1) fault
cms_numbers cms.NotSignedData = ruled 2 75 1
cms_numbers cms.OutOfMemory = ruled 2 75 1

abbrev pub token_numbers : TokenRule → Answer
token_numbers (token.Malformed fault) = cms_numbers fault
token_numbers token.ContentType = ruled 2 75 2
token_numbers token.NoContent = ruled 2 75 3
token_numbers token.OneSigner = ruled 2 75 4
token_numbers (token.Attributes rule) = record (ruled 2 75 5) { inner = signer_rule_number rule }
token_numbers (token.TstMalformed fault) = with_fault (ruled 2 75 6) fault
token_numbers token.CriticalExtension = ruled 2 75 7
token_numbers token.ImprintAlgorithm = ruled 2 75 8
token_numbers token.ImprintDiffers = ruled 2 75 9
token_numbers token.UnknownTsa = ruled 2 75 10
token_numbers token.NotNamed = ruled 2 75 11
token_numbers token.Purpose = ruled 2 75 12
token_numbers token.Period = ruled 2 75 13
token_numbers token.SignatureFails = ruled 2 75 14

-- X1 to X5: 88 is the letter X
abbrev pub device_numbers : DeviceFault → Answer
device_numbers device.ReadFailed = ruled 4 88 1
device_numbers device.AskFailed = ruled 4 88 2
device_numbers device.TooLong = ruled 4 88 3
device_numbers device.OutOfMemory = ruled 4 88 4
device_numbers device.ContentTooLong = ruled 4 88 5

-- 83 is the letter S
abbrev pub refused_numbers : Refused → Answer
refused_numbers (refused.File rule) = file_numbers rule
refused_numbers (refused.Signer i rule) = record (ruled 2 83 (signer_rule_number rule)) { signer = i }
refused_numbers (refused.Token i j rule) = record (token_numbers rule) { signer = i; token = j }
refused_numbers (refused.Device fault) = device_numbers fault

-- V1 to V3: 86 is the letter V
abbrev pub record_rule_numbers : RecordRule → Answer
record_rule_numbers (record_rule.Malformed fault) = with_fault (ruled 3 86 1) fault
record_rule_numbers record_rule.Encrypted = ruled 2 86 2
record_rule_numbers record_rule.NoData = ruled 2 86 3

-- W1 to W8: 87 is the letter W. Of W4 the numbers are those of the rule that the token fails, whose letter is K
abbrev pub stamp_rule_numbers : StampRule → Answer
stamp_rule_numbers stamp.Algorithm = ruled 2 87 1
stamp_rule_numbers stamp.HashLength = ruled 2 87 2
stamp_rule_numbers stamp.NotCovered = ruled 2 87 3
stamp_rule_numbers (stamp.Token failed) = token_numbers failed
stamp_rule_numbers stamp.Order = ruled 2 87 5
stamp_rule_numbers stamp.Weak = ruled 2 87 6
stamp_rule_numbers stamp.Lapsed = ruled 2 87 7
stamp_rule_numbers stamp.Others = ruled 2 87 8

-- the chain stands where a signer does, and the archive time-stamp where a token does
abbrev pub evidence_numbers : EvidenceRefused → Answer
evidence_numbers (evidence.Record failed) = record_rule_numbers failed
evidence_numbers (evidence.Stamp i j failed) = record (stamp_rule_numbers failed) { signer = i; token = j }
evidence_numbers (evidence.Device fault) = device_numbers fault

-- 1, and the moment's seconds from 1970-01-01 00:00:00, which is 62167219200 seconds after 0000-01-01 00:00:00, and the
-- nanoseconds after them
abbrev pub accepted_numbers : ℕ → Answer
accepted_numbers m =
    record nothing { verdict = 1; seconds = pos (m / 10 ^ 9) -ℤ pos 62167219200; nanoseconds = m % 10 ^ 9 }

-- the numbers of an answer: the verdict is 1 exactly if it is an acceptance
abbrev pub numbers_of : Result ℕ Refused → Answer
numbers_of (Ok m) = accepted_numbers m
numbers_of (Err why) = refused_numbers why

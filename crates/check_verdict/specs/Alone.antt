-- A refusal without the fault of the octets that it reports: if there are several faults, any of them may be reported.
use Rattle.std.specs.Prelude.{ℕ, Result, Ok, Err}
use Rattle.der_core.specs.declared.fault.Fault.{Fault}
use Rattle.der_core.specs.declared.fault.Kind.TheVariants.{End}
use Rattle.cms_types.specs.declared.fault.CmsFault.{CmsFault}
use Rattle.cms_types.specs.declared.fault.CmsFault.TheVariants as cms
use Rattle.check_fit.specs.declared.rules.FileRule.{FileRule}
use Rattle.check_fit.specs.declared.rules.FileRule.TheVariants as file
use Rattle.check_fit.specs.declared.rules.TokenRule.{TokenRule}
use Rattle.check_fit.specs.declared.rules.TokenRule.TheVariants as token
use Rattle.check_fit.specs.declared.rules.Refused.{Refused}
use Rattle.check_fit.specs.declared.rules.Refused.TheVariants as refused

-- one fault in place of every fault
abbrev pub any_fault : Fault
any_fault = record { kind = End; at = 0 }

abbrev pub file_alone : FileRule → FileRule
file_alone (file.Malformed f) = file.Malformed any_fault
file_alone rule = rule

abbrev pub cms_alone : CmsFault → CmsFault
cms_alone (cms.Malformed f) = cms.Malformed any_fault
cms_alone fault = fault

abbrev pub token_alone : TokenRule → TokenRule
token_alone (token.Malformed f) = token.Malformed (cms_alone f)
token_alone (token.TstMalformed f) = token.TstMalformed any_fault
token_alone rule = rule

abbrev pub alone : Refused → Refused
alone (refused.File rule) = refused.File (file_alone rule)
alone (refused.Token signer token rule) = refused.Token signer token (token_alone rule)
alone r = r

-- the same for a verdict: a moment is unchanged
abbrev pub verdict_alone : Result ℕ Refused → Result ℕ Refused
verdict_alone (Ok m) = Ok m
verdict_alone (Err r) = Err (alone r)

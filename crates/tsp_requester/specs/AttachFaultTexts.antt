-- The text of each rule: its code and its name, as `Display` prints them.
use Rattle.std.specs.Prelude.{ℕ, List, ◌++◌, codes}
use Rattle.der_core.specs.FaultTexts.{fault_text}
use Rattle.cms_types.specs.declared.fault.CmsFault.TheVariants as cms
use Rattle.tsp_requester.specs.declared.fault.AttachFault.{AttachFault}
use Rattle.tsp_requester.specs.declared.fault.AttachFault.TheVariants as rule

abbrev pub attach_fault_text : AttachFault → List ℕ
attach_fault_text (rule.Malformed (cms.Malformed f)) = codes "A1 " ++ fault_text f
attach_fault_text (rule.Malformed cms.NotSignedData) = codes "A1 NotSignedData"
attach_fault_text (rule.Malformed cms.OutOfMemory) = codes "A1 OutOfMemory"
attach_fault_text rule.NoSuchSigner = codes "A2 NoSuchSigner"
attach_fault_text rule.TokenMalformed = codes "A3 TokenMalformed"
attach_fault_text rule.ImprintDiffers = codes "A4 ImprintDiffers"
attach_fault_text rule.TooLong = codes "A5 TooLong"
attach_fault_text rule.WriteFailed = codes "A6 WriteFailed"

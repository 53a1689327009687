-- The text of each refusal: its code and its name.
use Rattle.std.specs.Prelude.{ℕ, List, ◌++◌, codes}
use Rattle.der_core.specs.FaultTexts.{fault_text}
use Rattle.cms_types.specs.declared.fault.CmsFault.TheVariants as cms
use Rattle.check_fit.specs.RuleTexts.{signer_rule_text}
use Rattle.cms_compare.specs.declared.fault.CompareFault.{CompareFault}
use Rattle.cms_compare.specs.declared.fault.CompareRule.{CompareRule}
use Rattle.cms_compare.specs.declared.fault.CompareRule.TheVariants as rule
use Rattle.cms_compare.specs.declared.fault.Which.{Which}
use Rattle.cms_compare.specs.declared.fault.Which.TheVariants as which

abbrev pub which_text : Which → List ℕ
which_text which.First = codes "first "
which_text which.Second = codes "second "

abbrev pub refusal_text : Which → CompareRule → List ℕ
refusal_text w (rule.Malformed (cms.Malformed f)) = codes "malformed " ++ (which_text w ++ fault_text f)
refusal_text w (rule.Malformed cms.NotSignedData) = codes "refused " ++ (which_text w ++ codes "E1 NotSignedData")
refusal_text w (rule.Malformed cms.OutOfMemory) = codes "refused " ++ (which_text w ++ codes "E1 OutOfMemory")
refusal_text w rule.NoSuchSigner = codes "refused " ++ (which_text w ++ codes "E2 NoSuchSigner")
refusal_text w rule.NoContent = codes "refused " ++ (which_text w ++ codes "E3 NoContent")
refusal_text w (rule.Rule r) = codes "refused " ++ (which_text w ++ (codes "E4 " ++ signer_rule_text r))

-- the line that reports it, without its end
abbrev pub compare_fault_text : CompareFault → List ℕ
compare_fault_text fault = refusal_text fault.which fault.rule

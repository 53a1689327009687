-- The texts of the faults of trust lists.
use Rattle.std.specs.Prelude.{ℕ, List, ◌++◌, codes}
use Rattle.std.specs.Fmt.{decimal}
use Rattle.trust_lists.specs.declared.trust_fault.TrustRule.{TrustRule}
use Rattle.trust_lists.specs.declared.trust_fault.TrustRule.TheVariants as trust
use Rattle.trust_lists.specs.declared.trust_fault.TrustFault.{TrustFault}

-- the code and the name
abbrev pub trust_rule_text : TrustRule → List ℕ
trust_rule_text trust.Version = codes "L1 Version"
trust_rule_text trust.Line = codes "L2 Line"
trust_rule_text trust.Certificate = codes "L3 Certificate"
trust_rule_text trust.OutOfMemory = codes "L4 OutOfMemory"
trust_rule_text trust.Period = codes "L5 Period"

-- the same and where it is
abbrev pub trust_fault_text : TrustFault → List ℕ
trust_fault_text f = trust_rule_text f.rule ++ codes " at line " ++ decimal f.line

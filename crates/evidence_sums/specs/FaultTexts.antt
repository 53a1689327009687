-- The texts of the faults of sums.
use Rattle.std.specs.Prelude.{ℕ, List, [], ◌++◌, codes}
use Rattle.std.specs.Fmt.{decimal}
use Rattle.evidence_sums.specs.declared.sums_fault.SumsFault.{SumsFault}
use Rattle.evidence_sums.specs.declared.sums_fault.SumsRule.{SumsRule}
use Rattle.evidence_sums.specs.declared.sums_fault.SumsRule.TheVariants as rule

-- the code and the name
abbrev pub sums_rule_text : SumsRule → List ℕ
sums_rule_text rule.Line = codes "sums U1 Line"
sums_rule_text rule.Empty = codes "sums U2 Empty"
sums_rule_text rule.Name = codes "refused U5 Name"
sums_rule_text rule.NameTwice = codes "refused U6 NameTwice"
sums_rule_text rule.OutOfMemory = codes "failed memory"

-- a line that isn't a sum is named
abbrev pub place_text : SumsRule → (line : ℕ) → List ℕ
place_text rule.Line line = codes " at line " ++ decimal line
place_text _ line = []

-- the same and where it is
abbrev pub sums_fault_text : SumsFault → List ℕ
sums_fault_text f = sums_rule_text f.rule ++ place_text f.rule f.line

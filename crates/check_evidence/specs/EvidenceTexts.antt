-- The text of each rule of evidence records: its code and its name. Nowhere else are they written.
use Rattle.std.specs.Prelude.{ℕ, List, ◌++◌, codes}
use Rattle.std.specs.Fmt.{decimal}
use Rattle.der_core.specs.FaultTexts.{fault_text}
use Rattle.check_fit.specs.RuleTexts.{token_rule_text, device_fault_text}
use Rattle.check_evidence.specs.declared.rules.RecordRule.{RecordRule}
use Rattle.check_evidence.specs.declared.rules.RecordRule.TheVariants as record_rule
use Rattle.check_evidence.specs.declared.rules.StampRule.{StampRule}
use Rattle.check_evidence.specs.declared.rules.StampRule.TheVariants as rule
use Rattle.check_evidence.specs.declared.rules.EvidenceRefused.{EvidenceRefused}
use Rattle.check_evidence.specs.declared.rules.EvidenceRefused.TheVariants as refused

-- without the fault that follows it
abbrev pub record_rule_word : RecordRule → List ℕ
record_rule_word (record_rule.Malformed fault) = codes "V1"
record_rule_word record_rule.Encrypted = codes "V2 Encrypted"
record_rule_word record_rule.NoData = codes "V3 NoData"

abbrev pub record_rule_text : RecordRule → List ℕ
record_rule_text (record_rule.Malformed fault) = codes "V1" ++ codes " " ++ fault_text fault
record_rule_text failed = record_rule_word failed

-- without the rule of the token that follows it
abbrev pub stamp_rule_word : StampRule → List ℕ
stamp_rule_word rule.Algorithm = codes "W1 Algorithm"
stamp_rule_word rule.HashLength = codes "W2 HashLength"
stamp_rule_word rule.NotCovered = codes "W3 NotCovered"
stamp_rule_word (rule.Token failed) = codes "W4"
stamp_rule_word rule.Order = codes "W5 Order"
stamp_rule_word rule.Weak = codes "W6 Weak"
stamp_rule_word rule.Lapsed = codes "W7 Lapsed"
stamp_rule_word rule.Others = codes "W8 Others"

abbrev pub stamp_rule_text : StampRule → List ℕ
stamp_rule_text (rule.Token failed) = codes "W4" ++ codes " " ++ token_rule_text failed
stamp_rule_text failed = stamp_rule_word failed

-- if a record can't be read, only its fault is printed
abbrev pub record_refusal_text : RecordRule → List ℕ
record_refusal_text (record_rule.Malformed fault) = codes "malformed " ++ fault_text fault
record_refusal_text failed = codes "refused " ++ record_rule_text failed

-- the line that reports a refusal, without its end
abbrev pub evidence_refused_text : EvidenceRefused → List ℕ
evidence_refused_text (refused.Record failed) = record_refusal_text failed
evidence_refused_text (refused.Stamp chain stamp failed) = codes "refused chain " ++ decimal chain ++ codes " stamp "
    ++ decimal stamp ++ codes " " ++ stamp_rule_text failed
evidence_refused_text (refused.Device fault) = codes "failed " ++ device_fault_text fault

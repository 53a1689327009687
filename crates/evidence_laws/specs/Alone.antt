-- A refusal of an evidence record without the fault of the octets that it reports: if there are several faults, any of
-- them may be reported.
use Rattle.check_verdict.specs.Alone.{any_fault, token_alone}
use Rattle.check_evidence.specs.declared.rules.RecordRule.{RecordRule}
use Rattle.check_evidence.specs.declared.rules.RecordRule.TheVariants as record_rule
use Rattle.check_evidence.specs.declared.rules.StampRule.{StampRule}
use Rattle.check_evidence.specs.declared.rules.StampRule.TheVariants as rule
use Rattle.check_evidence.specs.declared.rules.EvidenceRefused.{EvidenceRefused}
use Rattle.check_evidence.specs.declared.rules.EvidenceRefused.TheVariants as refused

-- one fault in place of that of V1
abbrev pub record_alone : RecordRule → RecordRule
record_alone (record_rule.Malformed fault) = record_rule.Malformed any_fault
record_alone failed = failed

-- and of those of W4, which are those of a token's rules
abbrev pub stamp_alone : StampRule → StampRule
stamp_alone (rule.Token failed) = rule.Token (token_alone failed)
stamp_alone failed = failed

abbrev pub evidence_alone : EvidenceRefused → EvidenceRefused
evidence_alone (refused.Record failed) = refused.Record (record_alone failed)
evidence_alone (refused.Stamp chain stamp failed) = refused.Stamp chain stamp (stamp_alone failed)
evidence_alone r = r

-- The text of a refusal under an evidence record: of the record, which it names, or of the file.
use Rattle.std.specs.Prelude.{ℕ, List, ◌++◌, codes}
use Rattle.std.specs.Fmt.{decimal}
use Rattle.der_core.specs.FaultTexts.{fault_text}
use Rattle.check_fit.specs.RuleTexts.{refused_text, device_fault_text}
use Rattle.check_evidence.specs.EvidenceTexts.{record_rule_text, stamp_rule_text}
use Rattle.check_evidence.specs.declared.rules.EvidenceRefused.{EvidenceRefused}
use Rattle.check_evidence.specs.declared.rules.EvidenceRefused.TheVariants as evidence
use Rattle.check_evidence.specs.declared.rules.RecordRule.{RecordRule}
use Rattle.check_evidence.specs.declared.rules.RecordRule.TheVariants as record_rule
use Rattle.check_under.specs.declared.refused.UnderRefused.{UnderRefused}
use Rattle.check_under.specs.declared.refused.UnderRefused.TheVariants as refused

-- if the record can't be read, only its fault is printed
abbrev pub record_failed_text : RecordRule → List ℕ
record_failed_text (record_rule.Malformed fault) = codes "malformed record " ++ fault_text fault
record_failed_text failed = codes "refused record " ++ record_rule_text failed

abbrev pub record_refused_text : EvidenceRefused → List ℕ
record_refused_text (evidence.Record failed) = record_failed_text failed
record_refused_text (evidence.Stamp chain stamp failed) = codes "refused record chain " ++ decimal chain
    ++ codes " stamp " ++ decimal stamp ++ codes " " ++ stamp_rule_text failed
record_refused_text (evidence.Device fault) = codes "failed " ++ device_fault_text fault

-- the line that reports it, without its end
abbrev pub under_refused_text : UnderRefused → List ℕ
under_refused_text (refused.Evidence r) = record_refused_text r
under_refused_text (refused.Signed r) = refused_text r

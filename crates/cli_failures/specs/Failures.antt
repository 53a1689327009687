-- What is printed for a failure, and how a command ends with it.
use Rattle.std.specs.Prelude.{ℕ, List, [], ◌∷◌, ◌++◌, Option, Some, None, codes}
use Rattle.std.specs.Fmt.{decimal}
use Rattle.std.specs.String.{string_bytes}
use Rattle.der_core.specs.declared.fault.ReadFault.{ReadFault}
use Rattle.der_core.specs.declared.fault.ReadFault.TheVariants as read
use Rattle.cms_types.specs.declared.fault.CmsFault.{CmsFault}
use Rattle.cms_types.specs.declared.fault.CmsFault.TheVariants as cms
use Rattle.der_core.specs.declared.fault.Fault.{Fault}
use Rattle.der_core.specs.FaultTexts.{fault_text}
use Rattle.tsp_requester.specs.MatchFaultTexts.{match_fault_text}
use Rattle.trust_lists.specs.declared.trust_fault.TrustFault.{TrustFault}
use Rattle.trust_lists.specs.declared.trust_fault.TrustRule.{TrustRule}
use Rattle.trust_lists.specs.declared.trust_fault.TrustRule.TheVariants as trust
use Rattle.list_answers.specs.declared.answers_fault.AnswersFault.{AnswersFault}
use Rattle.list_answers.specs.declared.answers_fault.AnswersRule.{AnswersRule}
use Rattle.list_answers.specs.declared.answers_fault.AnswersRule.TheVariants as answers
use Rattle.list_answers.specs.FaultTexts.{answers_fault_text}
use Rattle.trust_lists.specs.FaultTexts.{trust_fault_text}
use Rattle.check_questions.specs.declared.fault.QuestionsFault.{QuestionsFault}
use Rattle.check_questions.specs.declared.fault.QuestionsFault.TheVariants as questions
use Rattle.check_questions.specs.FaultTexts.{questions_fault_text}
use Rattle.check_fit.specs.declared.rules.FileRule.TheVariants as file
use Rattle.check_fit.specs.declared.rules.Refused.{Refused}
use Rattle.check_fit.specs.declared.rules.Refused.TheVariants as refused
use Rattle.check_fit.specs.RuleTexts.{device_fault_text, refused_text, token_rule_text}
use Rattle.check_evidence.specs.declared.rules.RecordRule.{RecordRule}
use Rattle.check_evidence.specs.declared.rules.RecordRule.TheVariants as record_rule
use Rattle.check_evidence.specs.declared.rules.EvidenceRefused.{EvidenceRefused}
use Rattle.check_evidence.specs.declared.rules.EvidenceRefused.TheVariants as evidence
use Rattle.check_evidence.specs.EvidenceTexts.{evidence_refused_text, record_rule_text, stamp_rule_text}
use Rattle.evidence_sums.specs.declared.sums_fault.SumsFault.{SumsFault}
use Rattle.evidence_sums.specs.declared.sums_fault.SumsRule.{SumsRule}
use Rattle.evidence_sums.specs.declared.sums_fault.SumsRule.TheVariants as sums
use Rattle.evidence_sums.specs.FaultTexts.{sums_fault_text}
use Rattle.evidence_making.specs.declared.fault.MakeFault.{MakeFault}
use Rattle.evidence_making.specs.declared.fault.MakeFault.TheVariants as making
use Rattle.evidence_making.specs.declared.fault.LeafFault.{LeafFault}
use Rattle.evidence_making.specs.declared.fault.LeafFault.TheVariants as leaf
use Rattle.evidence_making.specs.FaultTexts.{leaf_fault_text, make_fault_text, stamp_fault_text}
use Rattle.tsp_requester.specs.AttachFaultTexts.{attach_fault_text}
use Rattle.cms_compare.specs.declared.fault.CompareRule.{CompareRule}
use Rattle.cms_compare.specs.declared.fault.CompareRule.TheVariants as compare
use Rattle.cms_compare.specs.FaultTexts.{compare_fault_text}
use Rattle.cli_failures.specs.declared.failure.Failure.{Failure}
use Rattle.cli_failures.specs.declared.failure.Failure.TheVariants as failure
use Rattle.cli_failures.specs.declared.failure.Message.{Message}
use Rattle.cli_failures.specs.declared.failure.Message.TheVariants as message
use Rattle.cli_failures.specs.declared.status.Status.{Status}
use Rattle.cli_failures.specs.declared.status.Status.TheVariants as status

-- words, a space, what they are about, and LF
abbrev pub said : (words subject : List ℕ) → List ℕ
said words subject = words ++ codes " " ++ subject ++ (10 ∷ [])

-- the name of a message
abbrev pub message_text : Message → List ℕ
message_text message.Request = codes "request"
message_text message.Response = codes "response"

-- the line of a fault, in the file that should hold this message if a command reads both
abbrev pub malformed_line : Option Message → Fault → List ℕ
malformed_line None fault = said (codes "malformed") (fault_text fault)
malformed_line (Some m) fault = said (codes "malformed") (message_text m ++ codes " " ++ fault_text fault)

-- of a record that is handed in beside another file: that it can't be read, or which rule it fails
abbrev pub record_failed_text : RecordRule → List ℕ
record_failed_text (record_rule.Malformed fault) = codes "malformed record " ++ fault_text fault
record_failed_text failed = codes "refused record " ++ record_rule_text failed

-- the line that reports its refusal, without its end
abbrev pub record_refused_text : EvidenceRefused → List ℕ
record_refused_text (evidence.Record failed) = record_failed_text failed
record_refused_text (evidence.Stamp chain stamp failed) = codes "refused record chain " ++ decimal chain
    ++ codes " stamp " ++ decimal stamp ++ codes " " ++ stamp_rule_text failed
record_refused_text (evidence.Device fault) = codes "failed " ++ device_fault_text fault

-- what is printed: a line, or the text of the parser of the words
abbrev pub failure_text : Failure → List ℕ
failure_text (failure.Words text) = string_bytes text
failure_text failure.NotText = codes "error: a word of the command line isn't UTF-8" ++ (10 ∷ [])
failure_text (failure.Usage option) = said (codes "usage") option.now
failure_text failure.NotSignedData = said (codes "refused") (codes "NotSignedData")
failure_text (failure.Malformed fault) = malformed_line None fault
failure_text (failure.MalformedMessage m fault) = malformed_line (Some m) fault
failure_text (failure.Unmatched why) = said (codes "refused") (match_fault_text why)
failure_text (failure.Refused why) = refused_text why ++ (10 ∷ [])
failure_text (failure.Unstamped why) = said (codes "refused") (token_rule_text why)
failure_text (failure.Unshown why) = evidence_refused_text why ++ (10 ∷ [])
failure_text (failure.Unevidenced why) = record_refused_text why.refused ++ (10 ∷ [])
failure_text (failure.Unasked fault) = questions_fault_text fault ++ (10 ∷ [])
failure_text failure.Different = codes "different" ++ (10 ∷ [])
failure_text failure.Collision = codes "collision" ++ (10 ∷ [])
failure_text (failure.Uncompared why) = compare_fault_text why ++ (10 ∷ [])
failure_text (failure.Unattached why) = said (codes "refused") (attach_fault_text why)
failure_text (failure.Answers fault) = said (codes "answers") (answers_fault_text fault)
failure_text (failure.Trust fault) = said (codes "trust") (trust_fault_text fault)
failure_text (failure.Sums fault) = sums_fault_text fault ++ (10 ∷ [])
failure_text (failure.Unstamping why) = said (codes "refused") (stamp_fault_text why)
failure_text (failure.Unmade why) = said (codes "refused") (make_fault_text why)
failure_text (failure.Unrenewable why) = said (codes "refused") (leaf_fault_text why)
failure_text failure.Mixed = said (codes "refused") (codes "U4 Mixed")
failure_text (failure.Open path) = said (codes "failed open") path.now
failure_text (failure.Read path) = said (codes "failed read") path.now
failure_text (failure.Size path) = said (codes "failed size") path.now
failure_text (failure.Write path) = said (codes "failed write") path.now
failure_text (failure.Unopened path) = said (codes "failed open") (string_bytes path)
failure_text (failure.Unread path) = said (codes "failed read") (string_bytes path)
failure_text (failure.Oversized path) = said (codes "failed size") (string_bytes path)
failure_text (failure.Unput path) = said (codes "failed write") (string_bytes path)
failure_text (failure.Taken path) = said (codes "failed replace") (string_bytes path)
failure_text failure.Memory = said (codes "failed") (codes "memory")

-- a file that isn't a ContentInfo is malformed, a device fails, and anything else is refused by a rule
abbrev pub refused_status : Refused → Status
refused_status (refused.File (file.Malformed fault)) = status.Malformed
refused_status (refused.Device fault) = status.Failed
refused_status _ = status.Refused

-- the same of an evidence record
abbrev pub unshown_status : EvidenceRefused → Status
unshown_status (evidence.Record (record_rule.Malformed fault)) = status.Malformed
unshown_status (evidence.Device fault) = status.Failed
unshown_status _ = status.Refused

abbrev pub unasked_status : QuestionsFault → Status
unasked_status (questions.Malformed fault) = status.Malformed
unasked_status questions.NotSignedData = status.Refused
unasked_status questions.WriteFailed = status.Failed

-- if two files are compared, one that isn't a ContentInfo is malformed
abbrev pub uncompared_status : CompareRule → Status
uncompared_status (compare.Malformed (cms.Malformed fault)) = status.Malformed
uncompared_status _ = status.Refused

-- a file of sums that isn't of its form is malformed, and a name in it is refused
abbrev pub sums_status : SumsRule → Status
sums_status sums.Line = status.Malformed
sums_status sums.Empty = status.Malformed
sums_status sums.Name = status.Refused
sums_status sums.NameTwice = status.Refused
sums_status sums.OutOfMemory = status.Failed

abbrev pub status_of : Failure → Status
status_of (failure.Words text) = status.Usage
status_of failure.NotText = status.Usage
status_of (failure.Usage option) = status.Usage
status_of failure.NotSignedData = status.Refused
status_of (failure.Malformed fault) = status.Malformed
status_of (failure.MalformedMessage m fault) = status.Malformed
status_of (failure.Unmatched why) = status.Refused
status_of (failure.Refused why) = refused_status why
status_of (failure.Unstamped why) = status.Refused
status_of (failure.Unshown why) = unshown_status why
status_of (failure.Unevidenced why) = unshown_status why.refused
status_of (failure.Unasked fault) = unasked_status fault
status_of failure.Different = status.Refused
status_of failure.Collision = status.Refused
status_of (failure.Uncompared why) = uncompared_status why.rule
status_of (failure.Unattached why) = status.Refused
status_of (failure.Trust fault) = status.Malformed
status_of (failure.Answers fault) = status.Malformed
status_of (failure.Sums fault) = sums_status fault.rule
status_of (failure.Unstamping why) = status.Refused
status_of (failure.Unmade why) = status.Refused
status_of (failure.Unrenewable why) = status.Refused
status_of failure.Mixed = status.Refused
status_of (failure.Open path) = status.Failed
status_of (failure.Read path) = status.Failed
status_of (failure.Size path) = status.Failed
status_of (failure.Write path) = status.Failed
status_of (failure.Unopened path) = status.Failed
status_of (failure.Unread path) = status.Failed
status_of (failure.Oversized path) = status.Failed
status_of (failure.Unput path) = status.Failed
status_of (failure.Taken path) = status.Failed
status_of failure.Memory = status.Failed

-- of the line of a failure with which a command ends so, what goes to the standard output: all, or nothing if the line
-- goes to the standard error
abbrev pub printed_by : Status → (line : List ℕ) → List ℕ
printed_by status.Usage line = []
printed_by status.Failed line = []
printed_by _ line = line

-- what is printed of a failure on the standard output
abbrev pub printed_text : Failure → List ℕ
printed_text f = printed_by (status_of f) (failure_text f)

-- the failure of a command for a fault of a read
abbrev pub failure_of : ReadFault → Failure
failure_of (read.Malformed fault) = failure.Malformed fault
failure_of read.OutOfMemory = failure.Memory

abbrev pub failure_of_cms : CmsFault → Failure
failure_of_cms (cms.Malformed fault) = failure.Malformed fault
failure_of_cms cms.NotSignedData = failure.NotSignedData
failure_of_cms cms.OutOfMemory = failure.Memory

-- the same for the file that should hold this message
abbrev pub failure_of_message : Message → ReadFault → Failure
failure_of_message m (read.Malformed fault) = failure.MalformedMessage m fault
failure_of_message m read.OutOfMemory = failure.Memory

-- the failure of a command for a fault of a list: a lack of memory is not a fault of the list
abbrev pub failure_by : TrustRule → TrustFault → Failure
failure_by trust.OutOfMemory fault = failure.Memory
failure_by _ fault = failure.Trust fault

abbrev pub failure_of_trust : TrustFault → Failure
failure_of_trust fault = failure_by fault.rule fault

abbrev pub failure_by_rule : AnswersRule → AnswersFault → Failure
failure_by_rule answers.OutOfMemory fault = failure.Memory
failure_by_rule _ fault = failure.Answers fault

abbrev pub failure_of_answers : AnswersFault → Failure
failure_of_answers fault = failure_by_rule fault.rule fault

abbrev pub failure_by_sums : SumsRule → SumsFault → Failure
failure_by_sums sums.OutOfMemory fault = failure.Memory
failure_by_sums _ fault = failure.Sums fault

abbrev pub failure_of_sums : SumsFault → Failure
failure_of_sums fault = failure_by_sums fault.rule fault

-- the failure of a command for which no record was made: a lack of memory is no rule
abbrev pub failure_of_making : MakeFault → Failure
failure_of_making making.TooLong = failure.Unmade making.TooLong
failure_of_making making.OutOfMemory = failure.Memory

-- the failure of a command for which a record can't be renewed: a record that isn't one is malformed, and a lack of
-- memory is no rule
abbrev pub failure_of_leaf : LeafFault → Failure
failure_of_leaf (leaf.Malformed fault) = failure.Malformed fault
failure_of_leaf leaf.NoStamp = failure.Unrenewable leaf.NoStamp
failure_of_leaf leaf.Unnamed = failure.Unrenewable leaf.Unnamed
failure_of_leaf leaf.OutOfMemory = failure.Memory

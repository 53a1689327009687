-- A failure that was reported doesn't end a command as done.
use Rattle.std.proofs.Common.{◌≡◌, ◌⊎◌, ◌∙◌, inl, inr, sym}
use Rattle.check_fit.specs.declared.rules.FileRule.TheVariants as file
use Rattle.check_fit.specs.declared.rules.Refused.TheVariants as refused
use Rattle.check_questions.specs.declared.fault.QuestionsFault.TheVariants as questions
use Rattle.check_evidence.specs.declared.rules.RecordRule.TheVariants as record_rule
use Rattle.check_evidence.specs.declared.rules.EvidenceRefused.{EvidenceRefused}
use Rattle.check_evidence.specs.declared.rules.EvidenceRefused.TheVariants as evidence
use Rattle.cms_types.specs.declared.fault.CmsFault.TheVariants as cms
use Rattle.cms_compare.specs.declared.fault.CompareRule.{CompareRule}
use Rattle.cms_compare.specs.declared.fault.CompareRule.TheVariants as compare
use Rattle.evidence_sums.specs.declared.sums_fault.SumsRule.{SumsRule}
use Rattle.evidence_sums.specs.declared.sums_fault.SumsRule.TheVariants as sums
use Rattle.cli_failures.specs.declared.failure.Failure.{Failure}
use Rattle.cli_failures.specs.declared.failure.Failure.TheVariants as failure
use Rattle.cli_failures.specs.declared.status.Status.{Status}
use Rattle.cli_failures.specs.declared.status.Status.TheVariants as status
use Rattle.cli_failures.specs.Failures.{status_of, sums_status, uncompared_status, unshown_status}

unshown : (why : EvidenceRefused) → unshown_status why ≡ status.Done → ⊥
unshown (evidence.Record (record_rule.Malformed fault)) ends = cc
unshown (evidence.Record record_rule.Encrypted) ends = cc
unshown (evidence.Record record_rule.NoData) ends = cc
unshown (evidence.Stamp chain stamp rule) ends = cc
unshown (evidence.Device fault) ends = cc

uncompared : (rule : CompareRule) → uncompared_status rule ≡ status.Done → ⊥
uncompared (compare.Malformed (cms.Malformed fault)) ends = cc
uncompared (compare.Malformed cms.NotSignedData) ends = cc
uncompared (compare.Malformed cms.OutOfMemory) ends = cc
uncompared compare.NoSuchSigner ends = cc
uncompared compare.NoContent ends = cc
uncompared (compare.Rule rule) ends = cc

not_read : (rule : SumsRule) → sums_status rule ≡ status.Done → ⊥
not_read sums.Line ends = cc
not_read sums.Empty ends = cc
not_read sums.Name ends = cc
not_read sums.NameTwice ends = cc
not_read sums.OutOfMemory ends = cc

pub never_done : (f : Failure) → status_of f ≡ status.Done → ⊥
never_done (failure.Words text) ends = cc
never_done failure.NotText ends = cc
never_done (failure.Usage option) ends = cc
never_done failure.NotSignedData ends = cc
never_done (failure.Malformed fault) ends = cc
never_done (failure.MalformedMessage m fault) ends = cc
never_done (failure.Unmatched why) ends = cc
never_done (failure.Refused (refused.File (file.Malformed fault))) ends = cc
never_done (failure.Refused (refused.File file.NotSignedData)) ends = cc
never_done (failure.Refused (refused.File file.NoSigner)) ends = cc
never_done (failure.Refused (refused.File file.NoContent)) ends = cc
never_done (failure.Refused (refused.File file.ContentTwice)) ends = cc
never_done (failure.Refused (refused.File file.NoSuchSigner)) ends = cc
never_done (failure.Refused (refused.Signer signer rule)) ends = cc
never_done (failure.Refused (refused.Token signer token rule)) ends = cc
never_done (failure.Refused (refused.Device fault)) ends = cc
never_done (failure.Unasked (questions.Malformed fault)) ends = cc
never_done (failure.Unasked questions.NotSignedData) ends = cc
never_done (failure.Unasked questions.WriteFailed) ends = cc
never_done failure.Different ends = cc
never_done failure.Collision ends = cc
never_done (failure.Uncompared why) ends = uncompared why.rule ends
never_done (failure.Unattached why) ends = cc
never_done (failure.Unstamped why) ends = cc
never_done (failure.Unshown why) ends = unshown why ends
never_done (failure.Unevidenced why) ends = unshown why.refused ends
never_done (failure.Trust fault) ends = cc
never_done (failure.Answers fault) ends = cc
never_done (failure.Sums fault) ends = not_read fault.rule ends
never_done (failure.Unstamping why) ends = cc
never_done (failure.Unmade why) ends = cc
never_done (failure.Unrenewable why) ends = cc
never_done failure.Mixed ends = cc
never_done (failure.Open path) ends = cc
never_done (failure.Read path) ends = cc
never_done (failure.Size path) ends = cc
never_done (failure.Write path) ends = cc
never_done (failure.Unopened path) ends = cc
never_done (failure.Unread path) ends = cc
never_done (failure.Oversized path) ends = cc
never_done (failure.Unput path) ends = cc
never_done (failure.Taken path) ends = cc
never_done failure.Memory ends = cc

pub reported : (f : Failure) (result : Status) → (result ≡ status_of f) ⊎ (result ≡ status.Failed)
    → result ≡ status.Done → ⊥
reported f result (inl same) ends = never_done f (sym same ∙ ends)
reported f result (inr failed) ends = cc

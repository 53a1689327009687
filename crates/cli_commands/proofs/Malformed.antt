-- Which failure ends a command as malformed, and which as refused.
use Rattle.std.proofs.Common.{◌≡◌, ◌⊎◌, ◌∙◌, ℕ, List, Option, Some, None, inl, inr, sym}
use Rattle.std.specs.Io.KnownBytes.{Appends}
use Rattle.check_fit.specs.declared.rules.FileRule.TheVariants as file
use Rattle.check_questions.specs.declared.fault.QuestionsFault.TheVariants as questions
use Rattle.check_fit.specs.declared.rules.Refused.TheVariants as refused
use Rattle.check_evidence.specs.declared.rules.RecordRule.TheVariants as record_rule
use Rattle.check_evidence.specs.declared.rules.EvidenceRefused.TheVariants as evidence
use Rattle.cli_failures.specs.declared.failure.Failure.{Failure}
use Rattle.cli_failures.specs.declared.failure.Failure.TheVariants as failure
use Rattle.cli_failures.specs.declared.status.Status.{Status}
use Rattle.cli_failures.specs.declared.status.Status.TheVariants as status
use Rattle.cli_failures.specs.Failures.{failure_text, status_of}
use Rattle.cli_commands.specs.Telling.{TellsMalformed, TellsRefusal}

pub fault_told : (f : Failure) (before after : Option (List ℕ)) → status_of f ≡ status.Malformed
    → Appends before after (failure_text f) → TellsMalformed before after
fault_told (failure.Words text) before after ends told = absurd (let no : ⊥ = cc in no)
fault_told failure.NotText before after ends told = absurd (let no : ⊥ = cc in no)
fault_told (failure.Malformed fault) before after ends told =
    inl (record { message = None; fault = fault; line = told })
fault_told (failure.MalformedMessage m fault) before after ends told =
    inl (record { message = Some m; fault = fault; line = told })
fault_told (failure.Trust fault) before after ends told = inr (inl (fault, told))
fault_told (failure.Answers fault) before after ends told = inr (inr (inl (fault, told)))
fault_told (failure.Uncompared why) before after ends told = inr (inr (inr (inl (why, ends, told))))
fault_told (failure.Sums fault) before after ends told = inr (inr (inr (inr (inl (fault, ends, told)))))
fault_told (failure.Unevidenced why) before after ends told = inr (inr (inr (inr (inr (why.refused, ends, told)))))
fault_told (failure.Unstamping why) before after ends told = absurd (let no : ⊥ = cc in no)
fault_told (failure.Unmade why) before after ends told = absurd (let no : ⊥ = cc in no)
fault_told (failure.Unrenewable why) before after ends told = absurd (let no : ⊥ = cc in no)
fault_told failure.Mixed before after ends told = absurd (let no : ⊥ = cc in no)
fault_told failure.Different before after ends told = absurd (let no : ⊥ = cc in no)
fault_told failure.Collision before after ends told = absurd (let no : ⊥ = cc in no)
fault_told (failure.Unattached why) before after ends told = absurd (let no : ⊥ = cc in no)
fault_told (failure.Unstamped why) before after ends told = absurd (let no : ⊥ = cc in no)
fault_told (failure.Unshown (evidence.Record (record_rule.Malformed fault))) before after ends told =
    inl (record { message = None; fault = fault; line = told })
fault_told (failure.Unshown (evidence.Record record_rule.Encrypted)) before after ends told =
    absurd (let no : ⊥ = cc in no)
fault_told (failure.Unshown (evidence.Record record_rule.NoData)) before after ends told =
    absurd (let no : ⊥ = cc in no)
fault_told (failure.Unshown (evidence.Stamp chain stamp rule)) before after ends told = absurd (let no : ⊥ = cc in no)
fault_told (failure.Unshown (evidence.Device fault)) before after ends told = absurd (let no : ⊥ = cc in no)
fault_told (failure.Unasked (questions.Malformed fault)) before after ends told =
    inl (record { message = None; fault = fault; line = told })
fault_told (failure.Unasked questions.NotSignedData) before after ends told = absurd (let no : ⊥ = cc in no)
fault_told (failure.Unasked questions.WriteFailed) before after ends told = absurd (let no : ⊥ = cc in no)
fault_told (failure.Unmatched why) before after ends told = absurd (let no : ⊥ = cc in no)
fault_told failure.NotSignedData before after ends told = absurd (let no : ⊥ = cc in no)
fault_told (failure.Refused (refused.File (file.Malformed fault))) before after ends told =
    inl (record { message = None; fault = fault; line = told })
fault_told (failure.Refused (refused.File file.NotSignedData)) before after ends told = absurd (let no : ⊥ = cc in no)
fault_told (failure.Refused (refused.File file.NoSigner)) before after ends told = absurd (let no : ⊥ = cc in no)
fault_told (failure.Refused (refused.File file.NoContent)) before after ends told = absurd (let no : ⊥ = cc in no)
fault_told (failure.Refused (refused.File file.ContentTwice)) before after ends told = absurd (let no : ⊥ = cc in no)
fault_told (failure.Refused (refused.File file.NoSuchSigner)) before after ends told = absurd (let no : ⊥ = cc in no)
fault_told (failure.Refused (refused.Signer signer rule)) before after ends told = absurd (let no : ⊥ = cc in no)
fault_told (failure.Refused (refused.Token signer token rule)) before after ends told = absurd (let no : ⊥ = cc in no)
fault_told (failure.Refused (refused.Device fault)) before after ends told = absurd (let no : ⊥ = cc in no)
fault_told (failure.Usage option) before after ends told = absurd (let no : ⊥ = cc in no)
fault_told (failure.Open path) before after ends told = absurd (let no : ⊥ = cc in no)
fault_told (failure.Read path) before after ends told = absurd (let no : ⊥ = cc in no)
fault_told (failure.Size path) before after ends told = absurd (let no : ⊥ = cc in no)
fault_told (failure.Write path) before after ends told = absurd (let no : ⊥ = cc in no)
fault_told (failure.Unopened path) before after ends told = absurd (let no : ⊥ = cc in no)
fault_told (failure.Unread path) before after ends told = absurd (let no : ⊥ = cc in no)
fault_told (failure.Oversized path) before after ends told = absurd (let no : ⊥ = cc in no)
fault_told (failure.Unput path) before after ends told = absurd (let no : ⊥ = cc in no)
fault_told (failure.Taken path) before after ends told = absurd (let no : ⊥ = cc in no)
fault_told failure.Memory before after ends told = absurd (let no : ⊥ = cc in no)

pub refusal_told : (f : Failure) (before after : Option (List ℕ)) → status_of f ≡ status.Refused
    → Appends before after (failure_text f) → TellsRefusal before after
refusal_told (failure.Words text) before after ends told = absurd (let no : ⊥ = cc in no)
refusal_told failure.NotText before after ends told = absurd (let no : ⊥ = cc in no)
refusal_told failure.NotSignedData before after ends told = inl told
refusal_told (failure.Unmatched why) before after ends told = inr (inl (why, told))
refusal_told (failure.Refused why) before after ends told =
    inr (inr (inr (inr (inr (inr (inr (inr (inr (why, ends, told)))))))))
refusal_told failure.Different before after ends told = inr (inr (inr (inl (inl told))))
refusal_told failure.Collision before after ends told = inr (inr (inr (inl (inr told))))
refusal_told (failure.Uncompared why) before after ends told = inr (inr (inr (inr (inl (why, ends, told)))))
refusal_told (failure.Unattached why) before after ends told = inr (inr (inr (inr (inr (inl (why, told))))))
refusal_told (failure.Unstamped why) before after ends told = inr (inr (inr (inr (inr (inr (inl (why, told)))))))
refusal_told (failure.Unshown why) before after ends told =
    inr (inr (inr (inr (inr (inr (inr (inl (inl (why, ends, told)))))))))
refusal_told (failure.Unevidenced why) before after ends told =
    inr (inr (inr (inr (inr (inr (inr (inl (inr (why.refused, ends, told)))))))))
refusal_told (failure.Sums fault) before after ends told =
    inr (inr (inr (inr (inr (inr (inr (inr (inl (inl (fault, ends, told))))))))))
refusal_told (failure.Unstamping why) before after ends told =
    inr (inr (inr (inr (inr (inr (inr (inr (inl (inr (inl (why, told)))))))))))
refusal_told (failure.Unmade why) before after ends told =
    inr (inr (inr (inr (inr (inr (inr (inr (inl (inr (inr (inl (why, told))))))))))))
refusal_told (failure.Unrenewable why) before after ends told =
    inr (inr (inr (inr (inr (inr (inr (inr (inl (inr (inr (inr (inl (why, told)))))))))))))
refusal_told failure.Mixed before after ends told =
    inr (inr (inr (inr (inr (inr (inr (inr (inl (inr (inr (inr (inr told))))))))))))
refusal_told (failure.Unasked questions.NotSignedData) before after ends told = inr (inr (inl told))
refusal_told (failure.Unasked (questions.Malformed fault)) before after ends told = absurd (let no : ⊥ = cc in no)
refusal_told (failure.Unasked questions.WriteFailed) before after ends told = absurd (let no : ⊥ = cc in no)
refusal_told (failure.Answers fault) before after ends told = absurd (let no : ⊥ = cc in no)
refusal_told (failure.MalformedMessage m fault) before after ends told = absurd (let no : ⊥ = cc in no)
refusal_told (failure.Trust fault) before after ends told = absurd (let no : ⊥ = cc in no)
refusal_told (failure.Malformed fault) before after ends told = absurd (let no : ⊥ = cc in no)
refusal_told (failure.Usage option) before after ends told = absurd (let no : ⊥ = cc in no)
refusal_told (failure.Open path) before after ends told = absurd (let no : ⊥ = cc in no)
refusal_told (failure.Read path) before after ends told = absurd (let no : ⊥ = cc in no)
refusal_told (failure.Size path) before after ends told = absurd (let no : ⊥ = cc in no)
refusal_told (failure.Write path) before after ends told = absurd (let no : ⊥ = cc in no)
refusal_told (failure.Unopened path) before after ends told = absurd (let no : ⊥ = cc in no)
refusal_told (failure.Unread path) before after ends told = absurd (let no : ⊥ = cc in no)
refusal_told (failure.Oversized path) before after ends told = absurd (let no : ⊥ = cc in no)
refusal_told (failure.Unput path) before after ends told = absurd (let no : ⊥ = cc in no)
refusal_told (failure.Taken path) before after ends told = absurd (let no : ⊥ = cc in no)
refusal_told failure.Memory before after ends told = absurd (let no : ⊥ = cc in no)

-- the same of a failure that was reported
pub refusal_reported : (f : Failure) (result : Status) (before after : Option (List ℕ))
    → (result ≡ status_of f) ⊎ (result ≡ status.Failed)
    → (result ≡ status.Refused → Appends before after (failure_text f)) → result ≡ status.Refused
    → TellsRefusal before after
refusal_reported f result before after (inl e) told ends = refusal_told f before after (sym e ∙ ends) (told ends)
refusal_reported f result before after (inr e) told ends = absurd (let no : ⊥ = cc in no)

-- the same of a fault
pub fault_reported : (f : Failure) (result : Status) (before after : Option (List ℕ))
    → (result ≡ status_of f) ⊎ (result ≡ status.Failed)
    → (result ≡ status.Malformed → Appends before after (failure_text f)) → result ≡ status.Malformed
    → TellsMalformed before after
fault_reported f result before after (inl e) told ends = fault_told f before after (sym e ∙ ends) (told ends)
fault_reported f result before after (inr e) told ends = absurd (let no : ⊥ = cc in no)

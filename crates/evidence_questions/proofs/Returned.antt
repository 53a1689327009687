-- What is returned for a record.
use Rattle.std.proofs.Common.{◌≡◌, ℕ, List, Option, Some, None, IsSome, Result, Ok, Err, refl, sym, subst}
use Rattle.std.specs.Prelude.{◌↔◌}
use Rattle.der_core.specs.declared.fault.Fault.{Fault}
use Rattle.der_core.specs.Element.{IsBytes}
use Rattle.der_core.specs.Faults.{Faults}
use Rattle.der_core.specs.Grammar.{file}
use Rattle.der_core.proofs.Refuted.{refuted}
use Rattle.trust_lists.specs.Entries.{EntryValue}
use Rattle.trust_lists.specs.Asking.{Asked}
use Rattle.evidence_types.specs.StampValue.{StampValue}
use Rattle.evidence_types.specs.EvidenceTable.{evidence_record}
use Rattle.evidence_types.specs.EvidenceValue.{EncryptionValue, EvidenceValue}
use Rattle.evidence_types.proofs.EvidenceReaders.{evidence_encodes, evidence_unique}
use Rattle.evidence_types.proofs.Clearness.{evidence_record_clear}
use Rattle.check_evidence.specs.Places.{stamps_of}
use Rattle.check_evidence.specs.Refusing.{IsEncrypted}
use Rattle.check_evidence.specs.declared.rules.RecordRule.{RecordRule}
use Rattle.check_evidence.specs.declared.rules.RecordRule.TheVariants as rule
use Rattle.evidence_questions.specs.declared.fault.RecordQuestionsFault.{RecordQuestionsFault}
use Rattle.evidence_questions.specs.declared.fault.RecordQuestionsFault.TheVariants.{Record, WriteFailed}
use Rattle.evidence_questions.specs.RecordQuestions.{OfStamps, AreQuestionsOfRecord}
use Rattle.evidence_questions.specs.RecordWritten.{HasNoQuestions, IsOpenRecord, EncodesNoRecord, IsMalformed}
use Rattle.evidence_questions.proofs.Members.{chains_of, some_of_record}

abbrev pub Returned : Type 0
Returned = Result (Unit {0}) RecordQuestionsFault

abbrev failing : RecordQuestionsFault → Returned
failing f = Err f

abbrev encrypted : Returned
encrypted = failing (Record rule.Encrypted)

-- ---- octets that have no questions

faultless : (octets : List ℕ) (f : Fault) → Faults (file evidence_record) octets f → EncodesNoRecord octets
faultless octets f fault v h =
    refuted (file evidence_record) octets f evidence_record_clear (evidence_encodes octets v h) fault

not_open : (o : Option EncryptionValue) → o ≡ None → IsSome o → ⊥
not_open None e h = absurd cc
not_open (Some x) e h = absurd cc

unencrypted : (octets : List ℕ) (v : EvidenceValue) → IsOpenRecord octets (Ok v) → IsEncrypted octets → ⊥
unencrypted octets v is k = not_open v.encryption is.1 (subst (λ (w : EvidenceValue). IsSome w.encryption)
    (evidence_unique octets k.record_value v k.encodes is.0) k.encrypted)

pub unopened : (octets : List ℕ) (failed : RecordRule) (v : EvidenceValue) → HasNoQuestions octets failed
    → IsOpenRecord octets (Ok v) → ⊥
unopened octets (rule.Malformed f) v h is = faultless octets f h v is.0
unopened octets rule.Encrypted v h is = unencrypted octets v is h
unopened octets rule.NoData v h is = h

pub unopened_malformed : (octets : List ℕ) (failed : RecordRule) → HasNoQuestions octets failed
    → IsMalformed (failing (Record failed)) ↔ EncodesNoRecord octets
unopened_malformed octets (rule.Malformed f) h = (λ _. faultless octets f h, λ _. tt)
unopened_malformed octets rule.Encrypted h = (λ f. absurd f, λ none. none h.record_value h.encodes)
unopened_malformed octets rule.NoData h = absurd h

malformed_differs : (f : Fault) → failing (Record (rule.Malformed f)) ≡ encrypted → ⊥
malformed_differs f e = absurd cc

pub unopened_encrypted : (octets : List ℕ) (failed : RecordRule) → HasNoQuestions octets failed
    → (failing (Record failed) ≡ encrypted) ↔ IsEncrypted octets
unopened_encrypted octets (rule.Malformed f) h =
    (λ e. absurd (malformed_differs f e), λ k. absurd (faultless octets f h k.record_value k.encodes))
unopened_encrypted octets rule.Encrypted h = (λ e. h, λ k. refl)
unopened_encrypted octets rule.NoData h = absurd h

-- ---- octets that have questions

abbrev done : Returned
done = Ok tt

done_differs : done ≡ encrypted → ⊥
done_differs e = absurd cc

failed_differs : failing WriteFailed ≡ encrypted → ⊥
failed_differs e = absurd cc

pub done_encrypted : (octets : List ℕ) (v : EvidenceValue) → IsOpenRecord octets (Ok v)
    → (done ≡ encrypted) ↔ IsEncrypted octets
done_encrypted octets v is = (λ e. absurd (done_differs e), λ k. absurd (unencrypted octets v is k))

pub failed_encrypted : (octets : List ℕ) (v : EvidenceValue) → IsOpenRecord octets (Ok v)
    → (failing WriteFailed ≡ encrypted) ↔ IsEncrypted octets
failed_encrypted octets v is = (λ e. absurd (failed_differs e), λ k. absurd (unencrypted octets v is k))

-- what is so of all questions of these chains is so of all that there are of the record
pub puts_record : {Was : List Asked → Type 0} (trust : List EntryValue) (chains : List (List StampValue))
    (octets : List ℕ) (v : EvidenceValue)
    → chains ≡ v.chains → IsOpenRecord octets (Ok v)
    → ((qs : List Asked) → OfStamps trust (stamps_of chains) qs → Was qs) → (qs : List Asked)
    → AreQuestionsOfRecord trust octets qs → Was qs
puts_record trust chains octets v are is was qs h =
    was qs (subst (λ (cs : List (List StampValue)). OfStamps trust (stamps_of cs) qs) (sym are)
    (chains_of trust octets v qs is.0 h))

-- there are questions of the record, and it is so of them
pub puts_some : {Was : List Asked → Type 0} (trust : List EntryValue) (chains : List (List StampValue))
    (octets : List ℕ) (v : EvidenceValue)
    → IsBytes octets → chains ≡ v.chains → IsOpenRecord octets (Ok v)
    → ((qs : List Asked) → OfStamps trust (stamps_of chains) qs → Was qs)
    → (qs : List Asked) × AreQuestionsOfRecord trust octets qs × Was qs
puts_some trust chains octets v bytes are is was =
    let l = some_of_record trust octets v bytes is.0 is.1 in
    (l.0, l.1, puts_record trust chains octets v are is was l.0 l.1)

-- What is returned for a file and for a token.
use Rattle.std.proofs.Common.{◌≡◌, ℕ, List, Result, Ok, Err, refl, sym, ap, subst, ◌∙◌}
use Rattle.std.specs.Prelude.{◌↔◌}
use Rattle.der_core.specs.declared.fault.Fault.{Fault}
use Rattle.der_core.specs.Element.{IsBytes}
use Rattle.der_core.specs.Faults.{Faults}
use Rattle.der_core.specs.Grammar.{file}
use Rattle.der_grammar.specs.Table.{content_info}
use Rattle.der_core.proofs.Refuted.{refuted}
use Rattle.der_grammar.proofs.Clearness.{content_info_clear}
use Rattle.cms_types.specs.SignerValue.{SignerValue}
use Rattle.cms_types.specs.SignedDataValue.{SignedDataValue, SignedContent, OtherContent, EncodesSignedData}
use Rattle.cms_types.specs.SignedDataValue.{EncodesAnotherType}
use Rattle.cms_types.proofs.SignedDataReaders.{content_encodes, content_unique}
use Rattle.trust_lists.specs.Entries.{EntryValue}
use Rattle.trust_lists.specs.Asking.{Asked}
use Rattle.check_fit.proofs.Readings.{one_value}
use Rattle.check_questions.specs.declared.fault.QuestionsFault.{QuestionsFault}
use Rattle.check_questions.specs.declared.fault.QuestionsFault.TheVariants.{Malformed, NotSignedData, WriteFailed}
use Rattle.check_questions.specs.AskingSteps.{IsOpened}
use Rattle.check_questions.specs.FileQuestions.{AreQuestions, AreQuestionsOf, AreQuestionsOfToken, OfToken}
use Rattle.check_questions.specs.Written.{CountsWrites, EncodesNothing, IsMalformed, IsWrittenOf}
use Rattle.check_questions.proofs.Files.{some_of_file, some_of_alone}

abbrev pub Returned : Type 0
Returned = Result (Unit {0}) QuestionsFault

abbrev failing : QuestionsFault → Returned
failing f = Err f

-- ---- octets that encode no SignedData

pub faultless : (bytes : List ℕ) (f : Fault) → Faults (file content_info) bytes f → EncodesNothing bytes
faultless bytes f fault c h = refuted (file content_info) bytes f content_info_clear (content_encodes bytes c h) fault

never_other : (v : SignedDataValue) (id content : List ℕ) → SignedContent v ≡ OtherContent id content → ⊥
never_other v id content e = absurd cc

pub never_both : (bytes : List ℕ) (v : SignedDataValue) → EncodesSignedData bytes v → EncodesAnotherType bytes → ⊥
never_both bytes v h a = never_other v a.0 a.1 (content_unique bytes (SignedContent v) (OtherContent a.0 a.1) h a.2)

pub unopened : (bytes : List ℕ) (f : QuestionsFault) (v : SignedDataValue) → IsOpened bytes (Err f)
    → EncodesSignedData bytes v → ⊥
unopened bytes (Malformed f) v h e = faultless bytes f h (SignedContent v) e
unopened bytes NotSignedData v h e = never_both bytes v e h
unopened bytes WriteFailed v h e = h

pub unopened_written : (Are : List Asked → Type 0) (bytes : List ℕ) (f : QuestionsFault) (tells : Type 0)
    (taken : List ℕ) (count : ℕ) → IsOpened bytes (Err f) → IsWrittenOf Are bytes (Err f) tells taken taken count count
unopened_written Are bytes (Malformed f) tells taken count h = (h, (λ t. refl, refl))
unopened_written Are bytes NotSignedData tells taken count h = (h, (λ t. refl, refl))
unopened_written Are bytes WriteFailed tells taken count h = absurd h

pub unopened_malformed : (bytes : List ℕ) (f : QuestionsFault) → IsOpened bytes (Err f)
    → IsMalformed (Err f) ↔ EncodesNothing bytes
unopened_malformed bytes (Malformed f) h = (λ _. faultless bytes f h, λ _. tt)
unopened_malformed bytes NotSignedData h = (λ f. absurd f, λ none. none (OtherContent h.0 h.1) h.2)
unopened_malformed bytes WriteFailed h = absurd h

malformed_differs : (f : Fault) → failing (Malformed f) ≡ failing NotSignedData → ⊥
malformed_differs f e = absurd cc

pub unopened_another : (bytes : List ℕ) (f : QuestionsFault) → IsOpened bytes (Err f)
    → (failing f ≡ failing NotSignedData) ↔ EncodesAnotherType bytes
unopened_another bytes (Malformed f) h =
    (λ e. absurd (malformed_differs f e), λ a. absurd (faultless bytes f h (OtherContent a.0 a.1) a.2))
unopened_another bytes NotSignedData h = (λ e. h, λ a. refl)
unopened_another bytes WriteFailed h = absurd h

pub unopened_counts : (bytes : List ℕ) (f : QuestionsFault) (count : ℕ) → IsOpened bytes (Err f)
    → CountsWrites (Err f) count count
unopened_counts bytes (Malformed f) count h = refl
unopened_counts bytes NotSignedData count h = refl
unopened_counts bytes WriteFailed count h = absurd h

-- ---- octets of a SignedData

-- what is so of all questions about these signers is so of all that there are about the file
pub puts_file : {Was : List Asked → Type 0} (trust : List EntryValue) (signers : List SignerValue) (bytes : List ℕ)
    (v : SignedDataValue)
    → signers ≡ v.signers → EncodesSignedData bytes v → ((qs : List Asked) → AreQuestions trust signers qs → Was qs)
    → (qs : List Asked)
    → AreQuestionsOf trust bytes qs → Was qs
puts_file trust signers bytes v is_signers encodes was qs h =
    let value : h.signed ≡ v = one_value bytes h.signed v h.encodes encodes in
    let all : h.signed.signers ≡ signers = ap (λ (w : SignedDataValue). w.signers) value ∙ sym is_signers in
    was qs (subst (λ (ss : List SignerValue). AreQuestions trust ss qs) all h.are)

-- there are questions about the file, and it is so of them
pub puts_some : {Was : List Asked → Type 0} (trust : List EntryValue) (signers : List SignerValue) (bytes : List ℕ)
    (v : SignedDataValue)
    → IsBytes bytes → signers ≡ v.signers → EncodesSignedData bytes v
    → ((qs : List Asked) → AreQuestions trust signers qs → Was qs)
    → (qs : List Asked) × AreQuestionsOf trust bytes qs × Was qs
puts_some trust signers bytes v octets is_signers encodes was =
    let l = some_of_file trust bytes v octets encodes in
    (l.0, l.1, puts_file trust signers bytes v is_signers encodes was l.0 l.1)

abbrev done : Returned
done = Ok tt

done_differs : done ≡ failing NotSignedData → ⊥
done_differs e = absurd cc

failed_differs : failing WriteFailed ≡ failing NotSignedData → ⊥
failed_differs e = absurd cc

pub done_another : (bytes : List ℕ) (v : SignedDataValue) → EncodesSignedData bytes v
    → (done ≡ failing NotSignedData) ↔ EncodesAnotherType bytes
done_another bytes v h = (λ e. absurd (done_differs e), λ a. absurd (never_both bytes v h a))

pub failed_another : (bytes : List ℕ) (v : SignedDataValue) → EncodesSignedData bytes v
    → (failing WriteFailed ≡ failing NotSignedData) ↔ EncodesAnotherType bytes
failed_another bytes v h = (λ e. absurd (failed_differs e), λ a. absurd (never_both bytes v h a))

-- octets of a SignedData are not malformed
pub opened_malformed : (bytes : List ℕ) (v : SignedDataValue) → EncodesSignedData bytes v → ⊥ ↔ EncodesNothing bytes
opened_malformed bytes v h = (λ never. absurd never, λ none. none (SignedContent v) h)

-- ---- octets of a token

pub puts_token : {Was : List Asked → Type 0} (trust : List EntryValue) (token : List ℕ)
    → ((qs : List Asked) → OfToken trust token qs → Was qs) → (qs : List Asked)
    → AreQuestionsOfToken trust token qs → Was qs
puts_token trust token was qs h = was qs h.are

pub puts_some_token : {Was : List Asked → Type 0} (trust : List EntryValue) (token : List ℕ) (v : SignedDataValue)
    → IsBytes token → EncodesSignedData token v → ((qs : List Asked) → OfToken trust token qs → Was qs)
    → (qs : List Asked) × AreQuestionsOfToken trust token qs × Was qs
puts_some_token trust token v octets encodes was = let l = some_of_alone trust token v octets encodes in
    (l.0, l.1, was l.0 l.1.are)

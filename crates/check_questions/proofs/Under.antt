-- Which questions there are about an entry, a token, a signer.
use Rattle.std.proofs.Common.{◌≡◌, ℕ, List, [], ◌∷◌, Option, Some, None, Result, Ok, Err, refl, sym, ap, subst, ◌∙◌}
use Rattle.std.proofs.Common.{inl, inr}
use Rattle.std.specs.Prelude.{MatchOption, option_map}
use Rattle.devices.specs.Device.{Wrote}
use Rattle.devices.specs.declared.sink.SinkFault.{SinkFault}
use Rattle.cms_types.specs.AttributeValue.{AttributeValue}
use Rattle.cert_types.specs.CertificateValue.{CertificateValue}
use Rattle.cms_types.specs.SignerValue.{SidValue, SignerValue}
use Rattle.cms_types.specs.SignedDataValue.{SignedDataValue}
use Rattle.cms_types.specs.declared.fault.CmsFault.{CmsFault}
use Rattle.der_core.specs.Lists.{only}
use Rattle.check_fit.specs.FileFitting.{IsReading}
use Rattle.check_names.specs.Naming.{Matches}
use Rattle.trust_lists.specs.declared.role.Role.{Role}
use Rattle.trust_lists.specs.declared.role.Role.TheVariants.{Signer, Tsa}
use Rattle.trust_lists.specs.Entries.{EntryValue}
use Rattle.trust_lists.specs.Asking.{Asked}
use Rattle.check_verdict.specs.Trusted.{asked}
use Rattle.check_verdict.specs.Verdicts.{tokens}
use Rattle.check_fit.proofs.Readings.{one_value, reads_it}
use Rattle.check_questions.specs.FileQuestions.{Joined, InOrder, IsUnder, OfEntry, OfEntries, IsSigned, OfToken}
use Rattle.check_questions.specs.FileQuestions.{OfSigner}
use Rattle.check_questions.specs.QuestionsText.{question_line}
use Rattle.check_questions.specs.AskingSteps.{PutsLines}
use Rattle.check_questions.proofs.Lines.{one_put, none_put}

-- ---- an entry

pub mapped : {A B : Type 0} (f : A → B) (o : Option A) (y : B) → Some y ≡ option_map f o
    → (x : A) × (o ≡ Some x) × (y ≡ f x)
mapped f None y e = absurd cc
mapped f (Some x) y e = (x, refl, same y (f x) e)
  where
    same : {B : Type 0} (a b : B) → Some a ≡ Some b → a ≡ b
    same a b e = cc

same_attributes : (a b : List AttributeValue) (o : Option (List AttributeValue)) → o ≡ Some a → o ≡ Some b → a ≡ b
same_attributes a b o e h = let z = sym e ∙ h in cc

-- there is one question about a signer under an entry
pub one_under : (role : Role) (s : SignerValue) (e : EntryValue) (p q : Asked) → IsUnder role s e p → IsUnder role s e q
    → p ≡ q
one_under role s e p q h g = h.is ∙ ap (λ (x : List AttributeValue). asked e.certificate s x)
    (same_attributes h.attributes g.attributes s.signed_attributes h.has g.has) ∙ sym g.is

-- an identifier and a certificate that were read
pub matches_as : (a b : SidValue) (x y : CertificateValue) → a ≡ b → x ≡ y → Matches a x → Matches b y
matches_as a b x y e d h = subst (λ (c : SidValue). Matches c y) e (subst (λ (c : CertificateValue). Matches a c) d h)

pub entry_put : (role : Role) (s : SignerValue) (e : EntryValue) (q : Asked) → IsUnder role s e q
    → (r : Result (Unit {0}) SinkFault) (tells : Type 0)
    (t0 t1 : List ℕ) (c0 c1 : ℕ) → Wrote r tells t0 t1 c0 c1 (question_line q)
    → PutsLines (OfEntry role s e) r tells t0 t1 c0 c1
entry_put role s e q under r tells t0 t1 c0 c1 w =
    one_put (IsUnder role s e) q r tells t0 t1 c0 c1 under (λ p h. one_under role s e p q h under) w

pub no_question : (role : Role) (s : SignerValue) (e : EntryValue) → ((q : Asked) → IsUnder role s e q → ⊥)
    → (qs : List Asked) → OfEntry role s e qs → qs ≡ []
no_question role s e none qs (inl h) = absurd (none h.0 h.1)
no_question role s e none qs (inr h) = h.1

pub entry_none : (role : Role) (s : SignerValue) (e : EntryValue) (u : Unit {0}) (tells : Type 0) (t : List ℕ) (c : ℕ)
    → ((q : Asked) → IsUnder role s e q → ⊥) → PutsLines (OfEntry role s e) (Ok u) tells t t c c
entry_none role s e u tells t c none = none_put (OfEntry role s e) u tells t c (no_question role s e none)

-- ---- a token

first_is : (a b : SignerValue) → a ∷ [] ≡ b ∷ [] → a ≡ b
first_is a b e = cc

pub one_signer : (token : List ℕ) (a b : SignerValue) → IsSigned token a → IsSigned token b → a ≡ b
one_signer token a b h g = first_is a b (sym h.one_signer ∙ ap (λ (v : SignedDataValue). v.signers)
    (one_value token h.signed g.signed h.encodes g.encodes) ∙ g.one_signer)

pub token_put : (trust : List EntryValue) (token : List ℕ) (s : SignerValue) (r : Result (Unit {0}) SinkFault)
    (tells : Type 0) (t0 t1 : List ℕ) (c0 c1 : ℕ)
    → IsSigned token s → PutsLines (OfEntries Tsa s trust) r tells t0 t1 c0 c1
    → PutsLines (OfToken trust token) r tells t0 t1 c0 c1
token_put trust token s r tells t0 t1 c0 c1 signed put qs (inl h) =
    put qs (subst (λ (x : SignerValue). OfEntries Tsa x trust qs) (one_signer token h.0 s h.1 signed) h.2)
token_put trust token s r tells t0 t1 c0 c1 signed put qs (inr h) = absurd (h.0 s signed)

no_questions : (trust : List EntryValue) (token : List ℕ) → ((s : SignerValue) → IsSigned token s → ⊥)
    → (qs : List Asked) → OfToken trust token qs → qs ≡ []
no_questions trust token none qs (inl h) = absurd (none h.0 h.1)
no_questions trust token none qs (inr h) = h.1

pub token_none : (trust : List EntryValue) (token : List ℕ) (u : Unit {0}) (tells : Type 0) (t : List ℕ) (c : ℕ)
    → ((s : SignerValue) → IsSigned token s → ⊥) → PutsLines (OfToken trust token) (Ok u) tells t t c c
token_none trust token u tells t c none = none_put (OfToken trust token) u tells t c (no_questions trust token none)

-- octets that don't read as a SignedData have no signer
pub unread_none : (token : List ℕ) (f : CmsFault) → IsReading token (Err f) → (s : SignerValue) → IsSigned token s → ⊥
unread_none token f is s h = let z : Err f ≡ Ok h.signed = reads_it token (Err f) h.signed is h.encodes in absurd cc

-- what reads as one with another number of signers has no sole one
pub other_number : (token : List ℕ) (v : SignedDataValue) → IsReading token (Ok v) → None ≡ only v.signers
    → (s : SignerValue) → IsSigned token s → ⊥
other_number token v is none s h =
    let e : v.signers ≡ s ∷ [] = ap (λ (w : SignedDataValue). w.signers) (one_value token v h.signed is h.encodes)
    ∙ h.one_signer in
    let z : None ≡ Some s = none ∙ ap only e in absurd cc

only_is : (xs : List SignerValue) (s : SignerValue) → Some s ≡ only xs → xs ≡ s ∷ []
only_is [] s e = absurd cc
only_is (x ∷ []) s e = ap (λ (y : SignerValue). y ∷ []) (same x s e)
  where
    same : (x s : SignerValue) → Some s ≡ Some x → x ≡ s
    same x s e = cc
only_is (x ∷ y ∷ xs) s e = absurd cc

pub sole : (token : List ℕ) (v : SignedDataValue) (s : SignerValue) → IsReading token (Ok v) → Some s ≡ only v.signers
    → IsSigned token s
sole token v s is e = record { signed = v; encodes = is; one_signer = only_is v.signers s e }

-- ---- a signer

pub signer_put : (trust : List EntryValue) (s : SignerValue) (attributes : List AttributeValue)
    (r : Result (Unit {0}) SinkFault) (tells : Type 0)
    (t0 t1 : List ℕ) (c0 c1 : ℕ)
    → s.signed_attributes ≡ Some attributes
    → PutsLines (Joined (OfEntries Signer s trust) (InOrder (OfToken trust) (tokens s))) r tells t0 t1 c0 c1
    → PutsLines (OfSigner trust s) r tells t0 t1 c0 c1
signer_put trust s attributes r tells t0 t1 c0 c1 has put qs are =
    put qs (subst (λ (o : Option (List AttributeValue)). MatchOption o (qs ≡ [])
    (λ _. Joined (OfEntries Signer s trust) (InOrder (OfToken trust) (tokens s)) qs)) has are)

pub signer_none : (trust : List EntryValue) (s : SignerValue) (u : Unit {0}) (tells : Type 0) (t : List ℕ) (c : ℕ)
    → s.signed_attributes ≡ None
    → PutsLines (OfSigner trust s) (Ok u) tells t t c c
signer_none trust s u tells t c has = none_put (OfSigner trust s) u tells t c
    (λ qs are. subst (λ (o : Option (List AttributeValue)). MatchOption o (qs ≡ [])
    (λ _. Joined (OfEntries Signer s trust) (InOrder (OfToken trust) (tokens s)) qs)) has are)

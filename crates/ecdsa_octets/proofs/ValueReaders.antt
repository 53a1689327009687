-- What is read of an ECDSA-Sig-Value is good and stands there, and what is good is read.
use Rattle.std.proofs.Common.{◌≡◌, ℕ, true, List, ◌++◌, Result, Ok, Err, refl, sym, ap, ◌∙◌}
use Rattle.std.specs.Prelude.{IfOk, IfErr}
use Rattle.der_core.specs.declared.fault.Fault.{Fault}
use Rattle.der_core.specs.Element.{el, IsBytes}
use Rattle.der_core.specs.Contents.{is_integer}
use Rattle.der_core.specs.Values.{IsInteger}
use Rattle.der_core.specs.Grammar.{one, integer, file}
use Rattle.der_core.specs.Reading.{spot, within, ◌then◌, whole_of, integer_in, Gives}
use Rattle.der_core.proofs.ReadLengths.{ok_is}
use Rattle.der_core.proofs.Readers.{Anything, IsReader, IsBody, within_reader, then_reader, whole_body, made_body}
use Rattle.der_core.proofs.PartReaders.{Always, alike_body, integer_body}
use Rattle.ecdsa_octets.specs.SignatureValue.{SignatureValue, signature_parts, encoding, GoodSignature}
use Rattle.ecdsa_octets.specs.SignatureValue.{EncodesSignature, signature}
use Rattle.ecdsa_octets.specs.declared.value.SignatureFields.{SignatureFields}
use Rattle.ecdsa_octets.specs.Fields.{fields_value}
use Rattle.ecdsa_octets.specs.SignatureReading.{signature_from, signature_in, signature_at}

integer_reader : IsReader (within 0x02 integer_in) (λ b. el 0x02 b) IsInteger (one 0x02 integer) Always Anything
integer_reader = within_reader 0x02 refl integer_in (λ b. b) (λ b. is_integer b ≡ true) integer integer_body

abbrev SignatureParts : SignatureValue → Type 0
SignatureParts v = IsInteger v.r × IsInteger v.s

signature_body : IsBody signature_in signature_parts SignatureParts signature
unfolding signature_in
signature_body = made_body signature_from (λ v. (v.r, v.s)) (λ v. refl)
    (whole_of (within 0x02 integer_in then within 0x02 integer_in))
    (λ p. el 0x02 p.0 ++ el 0x02 p.1) (λ p. IsInteger p.0 × IsInteger p.1) signature
    (whole_body _ _ _ _ _ _ (then_reader _ _ _ _ _ integer_reader _ _ _ _ _ _ integer_reader (λ y r h l. tt)) tt tt)
    (λ p h. refl)

file_body : IsBody (whole_of (within 0x30 signature_in)) encoding GoodSignature (file signature)
file_body = alike_body _ encoding _ GoodSignature (λ v. refl)
    (λ v h. record { r = h.0.0; s = h.0.1; size = h.1 })
    (λ v h. ((h.r, h.s), h.size)) _
    (file signature)
    (whole_body _ _ _ _ _ _
    (within_reader 0x30 refl signature_in signature_parts SignatureParts signature signature_body) tt tt)

pub signature_takes : (bytes : List ℕ) (v : SignatureValue) → IsBytes bytes → signature_at bytes ≡ Ok v
    → EncodesSignature bytes v
unfolding signature_at
signature_takes bytes v fits e = let t = file_body.takes (spot 0 bytes) v fits e in (t.1, t.0)

pub signature_again : (bytes : List ℕ) (v : SignatureValue) → EncodesSignature bytes v → signature_at bytes ≡ Ok v
unfolding signature_at
signature_again bytes v h = ap signature_at h.0 ∙ file_body.again v 0 h.1

not_both : (v : SignatureValue) (f : Fault) → ◌≡◌ {A = Result SignatureValue Fault} (Ok v) (Err f) → ⊥
not_both v f e = cc

pub one_value : (bytes : List ℕ) (v w : SignatureValue) → signature_at bytes ≡ Ok w → EncodesSignature bytes v → w ≡ v
one_value bytes v w e h = ok_is w v (sym e ∙ signature_again bytes v h)

pub no_value : (bytes : List ℕ) (f : Fault) (v : SignatureValue) → signature_at bytes ≡ Err f
    → EncodesSignature bytes v → ⊥
no_value bytes f v e h = not_both v f (sym (signature_again bytes v h) ∙ e)

-- the clauses, of what a call returned
pub found : (r : Result SignatureFields Fault) (bytes : List ℕ) → IsBytes bytes
    → Gives fields_value r (signature_at bytes) → IfOk r (λ v. EncodesSignature bytes (fields_value v))
found (Ok v) bytes fits e = signature_takes bytes (fields_value v) fits e
found (Err f) bytes fits e = tt

pub only : (r : Result SignatureFields Fault) (bytes : List ℕ) (v : SignatureValue)
    → Gives fields_value r (signature_at bytes) → EncodesSignature bytes v → IfOk r (λ w. fields_value w ≡ v)
only (Ok w) bytes v e h = one_value bytes v (fields_value w) e h
only (Err f) bytes v e h = tt

pub none : (r : Result SignatureFields Fault) (bytes : List ℕ) → Gives fields_value r (signature_at bytes)
    → IfErr r (λ f. (v : SignatureValue) → EncodesSignature bytes v → ⊥)
none (Ok w) bytes e = tt
none (Err f) bytes e = λ v h. no_value bytes f v e h

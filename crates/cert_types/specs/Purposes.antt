-- What the extensions of a certificate say about its key: its identifier, and whether it is for time-stamping alone.
use Rattle.std.specs.Prelude.{◌≡◌, ℕ, List, [], ◌∷◌, Option, unwrap_or, find, IsSomeAnd}
use Rattle.der_core.specs.Element.{el, IsElement}
use Rattle.der_core.specs.Lists.{is_same}
use Rattle.der_core.specs.declared.flag.Flag.TheVariants.{True}
use Rattle.der_grammar.specs.Table.{id_subject_key_identifier, id_ext_key_usage}
use Rattle.cert_types.specs.ExtensionValue.{ExtensionValue}
use Rattle.cert_types.specs.CertificateValue.{CertificateValue}

-- the extension of this kind, one of the two kinds that a certificate has at most once
abbrev pub extension_of : List ℕ → CertificateValue → Option ExtensionValue
extension_of id v = find (λ e. is_same e.id id) (unwrap_or v.tbs.extensions [])

-- SubjectKeyIdentifier ::= KeyIdentifier ::= OCTET STRING (RFC 5280, 4.2.1.2): the extension holds these octets
abbrev pub HasKeyId : CertificateValue → List ℕ → Type 0
HasKeyId v k = IsSomeAnd (extension_of id_subject_key_identifier v) (λ e. IsElement 0x04 k × (e.value ≡ el 0x04 k))

-- id-kp-timeStamping, 1.3.6.1.5.5.7.3.8
abbrev pub id_time_stamping : List ℕ
id_time_stamping = 0x2b ∷ 0x06 ∷ 0x01 ∷ 0x05 ∷ 0x05 ∷ 0x07 ∷ 0x03 ∷ 0x08 ∷ []

-- ExtKeyUsageSyntax ::= SEQUENCE SIZE (1..MAX) OF KeyPurposeId (RFC 5280, 4.2.1.12): it is critical and names
-- time-stamping alone (RFC 3161, 2.3)
abbrev pub IsStampingOnly : CertificateValue → Type 0
IsStampingOnly v = IsSomeAnd (extension_of id_ext_key_usage v)
    (λ e. (e.critical ≡ True) × (e.value ≡ el 0x30 (el 0x06 id_time_stamping)))

-- SignedData and their encoding (RFC 5652, 3 and 5.1).
use Rattle.std.specs.Prelude.{◌≡◌, ℕ, true, false, List, [], ◌∷◌, ◌++◌, Option, Some, None, IfSome}
use Rattle.std.specs.List.{flat_map, AllByRecursion}
use Rattle.der_core.specs.Element.{el}
use Rattle.der_core.specs.Lists.{is_same}
use Rattle.der_grammar.specs.Table.{id_signed_data}
use Rattle.der_core.specs.Values.{HasLength, IsOid, IsOpaque, AlgorithmValue, algorithm_element, GoodAlgorithm}
use Rattle.der_lists.specs.Ranks.{is_tagged}
use Rattle.cms_types.specs.AttributeValue.{joined}
use Rattle.cms_types.specs.SignerValue.{SignerValue, signer_element, IsVersion, GoodSigner}

-- EncapsulatedContentInfo ::= SEQUENCE { eContentType ContentType, eContent [0] EXPLICIT OCTET STRING OPTIONAL } (5.2)
pub record EncapsulatedValue : Type 0 where
  pub content_type : List ℕ
  pub content : Option (List ℕ)

abbrev pub content_part : Option (List ℕ) → List ℕ
content_part None = []
content_part (Some b) = el 0xa0 (el 0x04 b)

abbrev pub encapsulated_parts : EncapsulatedValue → List ℕ
encapsulated_parts e = el 0x06 e.content_type ++ content_part e.content

pub record GoodEncapsulated (e : EncapsulatedValue) : Type 0 where
  pub content_type : IsOid e.content_type
  pub content : IfSome e.content (λ b. HasLength b × HasLength (el 0x04 b))
  pub size : HasLength (encapsulated_parts e)

-- CertificateChoices ::= CHOICE { certificate Certificate, extendedCertificate [0] IMPLICIT ExtendedCertificate,
--   v1AttrCert [1] IMPLICIT AttributeCertificateV1, v2AttrCert [2] IMPLICIT AttributeCertificateV2,
--   other [3] IMPLICIT OtherCertificateFormat } (10.2.2): a whole element with one of these identifiers
abbrev pub certificate_tags : List ℕ
certificate_tags = 0x30 ∷ 0xa0 ∷ 0xa1 ∷ 0xa2 ∷ 0xa3 ∷ []

-- RevocationInfoChoice ::= CHOICE { crl CertificateList, other [1] IMPLICIT OtherRevocationInfoFormat } (10.2.1)
abbrev pub crl_tags : List ℕ
crl_tags = 0x30 ∷ 0xa1 ∷ []

-- elements with these identifiers
abbrev pub GoodChoices : List ℕ → List (List ℕ) → Type 0
GoodChoices tags xs = AllByRecursion (λ x. IsOpaque x × (is_tagged tags x ≡ true)) xs × HasLength (joined xs)

abbrev pub optional_choices : ℕ → Option (List (List ℕ)) → List ℕ
optional_choices t None = []
optional_choices t (Some xs) = el t (joined xs)

-- SignedData ::= SEQUENCE { version CMSVersion, digestAlgorithms DigestAlgorithmIdentifiers,
--   encapContentInfo EncapsulatedContentInfo, certificates [0] IMPLICIT CertificateSet OPTIONAL,
--   crls [1] IMPLICIT RevocationInfoChoices OPTIONAL, signerInfos SignerInfos }
-- DigestAlgorithmIdentifiers ::= SET OF DigestAlgorithmIdentifier, SignerInfos ::= SET OF SignerInfo
-- All of them are kept in the order in which they occur.
pub record SignedDataValue : Type 0 where
  pub version : List ℕ
  pub digest_algorithms : List AlgorithmValue
  pub encapsulated : EncapsulatedValue
  pub certificates : Option (List (List ℕ))
  pub crls : Option (List (List ℕ))
  pub signers : List SignerValue

abbrev pub algorithms_parts : List AlgorithmValue → List ℕ
algorithms_parts xs = flat_map algorithm_element xs

abbrev pub signers_parts : List SignerValue → List ℕ
signers_parts ss = flat_map signer_element ss

abbrev pub signed_data_parts : SignedDataValue → List ℕ
signed_data_parts v = el 0x02 v.version
    ++ (el 0x31 (algorithms_parts v.digest_algorithms)
    ++ (el 0x30 (encapsulated_parts v.encapsulated)
    ++ (optional_choices 0xa0 v.certificates
    ++ (optional_choices 0xa1 v.crls
    ++ el 0x31 (signers_parts v.signers)))))

pub record GoodSignedData (v : SignedDataValue) : Type 0 where
  pub version : IsVersion (1 ∷ 3 ∷ 4 ∷ 5 ∷ []) v.version
  pub digest_algorithms : AllByRecursion GoodAlgorithm v.digest_algorithms
  pub algorithms_size : HasLength (algorithms_parts v.digest_algorithms)
  pub encapsulated : GoodEncapsulated v.encapsulated
  pub certificates : IfSome v.certificates (GoodChoices certificate_tags)
  pub crls : IfSome v.crls (GoodChoices crl_tags)
  pub signers : AllByRecursion GoodSigner v.signers
  pub signers_size : HasLength (signers_parts v.signers)
  pub size : HasLength (signed_data_parts v)

-- ContentInfo ::= SEQUENCE { contentType ContentType, content [0] EXPLICIT ANY DEFINED BY contentType } (3): a
-- SignedData, or another type with one element of any kind
pub data ContentInfoValue : Type 0 where
  SignedContent : SignedDataValue → ContentInfoValue
  OtherContent : (id content : List ℕ) → ContentInfoValue

abbrev pub content_info_parts : ContentInfoValue → List ℕ
content_info_parts (SignedContent v) = el 0x06 id_signed_data ++ el 0xa0 (el 0x30 (signed_data_parts v))
content_info_parts (OtherContent id content) = el 0x06 id ++ el 0xa0 content

abbrev pub encoding : ContentInfoValue → List ℕ
encoding c = el 0x30 (content_info_parts c)

abbrev pub GoodContentInfo : ContentInfoValue → Type 0
GoodContentInfo (SignedContent v) = GoodSignedData v × HasLength (el 0x30 (signed_data_parts v))
    × HasLength (content_info_parts (SignedContent v))
GoodContentInfo (OtherContent id content) = IsOid id × (is_same id_signed_data id ≡ false) × IsOpaque content
    × HasLength content × HasLength (content_info_parts (OtherContent id content))

-- all of the octets encode the good ContentInfo
abbrev pub EncodesContentInfo : List ℕ → ContentInfoValue → Type 0
EncodesContentInfo bytes c = (bytes ≡ encoding c) × GoodContentInfo c

-- they encode this SignedData
abbrev pub EncodesSignedData : List ℕ → SignedDataValue → Type 0
EncodesSignedData bytes v = EncodesContentInfo bytes (SignedContent v)

-- they encode a ContentInfo of another type
abbrev pub EncodesAnotherType : List ℕ → Type 0
EncodesAnotherType bytes = (id content : List ℕ) × EncodesContentInfo bytes (OtherContent id content)

-- they are these good signers, one after the other, as in the contents of SignerInfos
abbrev pub EncodesSigners : List ℕ → List SignerValue → Type 0
EncodesSigners bytes ss = (bytes ≡ signers_parts ss) × AllByRecursion GoodSigner ss

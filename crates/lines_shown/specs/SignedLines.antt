-- The lines that show a SignedData, and what is shown for octets that should be one.
use Rattle.std.specs.Prelude.{◌≡◌, ℕ, ◌+◌, ◌==◌, if◌then◌else◌, List, [], ◌∷◌, ◌++◌, Option, Some, None, length}
use Rattle.std.specs.Prelude.{unwrap_or, codes}
use Rattle.std.specs.Fmt.{decimal}
use Rattle.der_oid_text.specs.OidText.{text_of}
use Rattle.cms_types.specs.AttributeValue.{AttributeValue}
use Rattle.cms_types.specs.SignerValue.{SidValue, IssuerAndSerial, KeyId, SignerValue}
use Rattle.cms_types.specs.SignedDataValue.{SignedDataValue, EncodesSignedData}
use Rattle.cms_types.specs.Tokens.{tokens_of}
use Rattle.cms_types.specs.Versions.{signer_version, signed_data_version}
use Rattle.lines_shown.specs.Lines.{line, octets_text}

-- a version, and whether it is the one that the standard demands
abbrev pub agreement : (stated standard : ℕ) → List ℕ
agreement stated standard = if stated == standard then codes " agrees" else codes " differs"

abbrev pub version_text : List ℕ → ℕ → List ℕ
version_text [] standard = []
version_text (v ∷ vs) standard = decimal v ++ agreement v standard

-- how many octets of content there are
abbrev pub content_line : Option (List ℕ) → List ℕ
content_line None = line (codes "content") (codes "absent")
content_line (Some octets) = line (codes "content") (decimal (length octets))

-- how many elements a part has; none if it is absent
abbrev pub elements_line : List ℕ → Option (List (List ℕ)) → List ℕ
elements_line name elements = line name (decimal (length (unwrap_or elements [])))

-- how a signer names its certificate
abbrev pub sid_line : SidValue → List ℕ
sid_line (IssuerAndSerial issuer serial) = line (codes "issuer")
    (octets_text issuer ++ codes " serial " ++ octets_text serial)
sid_line (KeyId id) = line (codes "keyid") (octets_text id)

-- how many signed attributes there are
abbrev pub attributes_line : Option (List AttributeValue) → List ℕ
attributes_line None = line (codes "attributes") (codes "absent")
attributes_line (Some attributes) = line (codes "attributes") (decimal (length attributes))

-- a signer and its number
abbrev pub signer_lines : ℕ → SignerValue → List ℕ
signer_lines n s = line (codes "signer") (decimal n ++ codes " version " ++ version_text s.version (signer_version s))
    ++ sid_line s.sid
    ++ line (codes "digest") (text_of s.digest_algorithm.oid)
    ++ line (codes "signature") (text_of s.signature_algorithm.oid)
    ++ attributes_line s.signed_attributes
    ++ line (codes "tokens") (decimal (length (tokens_of s.unsigned_attributes)))

-- the signers, from this number on
abbrev pub signers_lines : ℕ → List SignerValue → List ℕ
signers_lines n [] = []
signers_lines n (s ∷ ss) = signer_lines n s ++ signers_lines (n + 1) ss

abbrev pub signed_lines : SignedDataValue → List ℕ
signed_lines v = codes "signed" ++ (10 ∷ [])
    ++ line (codes "version") (version_text v.version (signed_data_version v))
    ++ line (codes "digests") (decimal (length v.digest_algorithms))
    ++ line (codes "type") (text_of v.encapsulated.content_type)
    ++ content_line v.encapsulated.content
    ++ elements_line (codes "certificates") v.certificates
    ++ elements_line (codes "crls") v.crls
    ++ line (codes "signers") (decimal (length v.signers))
    ++ signers_lines 1 v.signers

-- the octets encode a SignedData, and these are its lines
pub record ShowsSigned (octets text : List ℕ) : Type 0 where
  pub value : SignedDataValue
  pub encoded : EncodesSignedData octets value
  pub lines : text ≡ signed_lines value

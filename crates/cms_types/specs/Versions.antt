-- The versions that the standard requires (RFC 5652, 5.1 and 5.3).
use Rattle.std.specs.Prelude.{ℕ, Bool, not, ◌||◌, List, [], ◌∷◌, Option, unwrap_or, if◌then◌else◌}
use Rattle.der_core.specs.Lists.{some, is_same}
use Rattle.der_core.specs.Element.{has_tag}
use Rattle.cms_types.specs.SignerValue.{SidValue, IssuerAndSerial, KeyId, SignerValue}
use Rattle.cms_types.specs.SignedDataValue.{SignedDataValue}

-- of a SignerInfo: 1 with issuer and serial number, 3 with a key identifier
abbrev pub sid_version : SidValue → ℕ
sid_version (IssuerAndSerial issuer serial) = 1
sid_version (KeyId id) = 3

abbrev pub signer_version : SignerValue → ℕ
signer_version s = sid_version s.sid

-- id-data, 1.2.840.113549.1.7.1
abbrev pub id_data : List ℕ
id_data = 0x2a ∷ 0x86 ∷ 0x48 ∷ 0x86 ∷ 0xf7 ∷ 0x0d ∷ 0x01 ∷ 0x07 ∷ 0x01 ∷ []

-- one of these elements has this identifier
abbrev pub has_tagged : ℕ → Option (List (List ℕ)) → Bool
has_tagged t o = some (has_tag t) (unwrap_or o [])

-- the signer states version 3
abbrev pub is_third : SignerValue → Bool
is_third s = is_same s.version (3 ∷ [])

-- of a SignedData: 5 if it has a certificate or revocation information of another format; else 4 if it has a version 2
-- attribute certificate; else 3 if it has a version 1 attribute certificate, a SignerInfo of version 3 or a content
-- that isn't id-data; else 1
abbrev pub signed_data_version : SignedDataValue → ℕ
signed_data_version v = if has_tagged 0xa3 v.certificates || has_tagged 0xa1 v.crls then 5
    else if has_tagged 0xa2 v.certificates then 4
    else if has_tagged 0xa1 v.certificates
    || (some is_third v.signers || not (is_same v.encapsulated.content_type id_data)) then 3
    else 1

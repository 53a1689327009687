-- The hashes by which the worked rows name certificates.
use Rattle.std.proofs.Common.{◌≡◌, ℕ, List, refl, lit<, inr}
use Rattle.der_core.specs.Element.{len}
use Rattle.der_core.specs.Hex.{hex}
use Rattle.der_grammar.specs.Vectors.{certificate_named_v2}
use Rattle.cert_types.specs.CertificateValue.{CertificateValue}
use Rattle.cms_types.specs.AttributeValue.{AttributeValue}
use Rattle.check_names.specs.Naming.{id_signing_certificate, id_signing_certificate_v2, Occurs, NamesInV2, MustName}
use Rattle.check_names.specs.NamingRows.{digest_of_certificate}
use Rattle.check_names.proofs.HashNames.{octets_of, Encoded, encoded}

-- digests of certificates that have another key or another extension than the authority's
abbrev pub hash_with_another_key : List ℕ
hash_with_another_key = hex "df1ed26be428d9703fa8cfc664d279a28d302138f77140fcd73b05cd10c451d7"

abbrev pub hash_unstated : List ℕ
hash_unstated = hex "29f5d6ae05f8a4cc7c7d187c38e847a21e6bf5dd569e39a71233df0103958e45"

abbrev pub hash_uncritical : List ℕ
hash_uncritical = hex "765b9455b84e951e4b5cc1c7b7c407058168295fc7ed31081e8a3cfeaea6d329"

abbrev pub hash_second : List ℕ
hash_second = hex "056acf73cb4ed73ce7de1830e38cfa4e8901ed7c90742fe5ff665c06153dd845"

pub record AllEncoded : Type 0 where
  pub authority : Encoded digest_of_certificate
  pub unstated : Encoded hash_unstated
  pub uncritical : Encoded hash_uncritical
  pub second : Encoded hash_second

pub all_encoded : AllEncoded
unfolding len
all_encoded = record {
  authority = encoded digest_of_certificate refl (lit< tt) (lit< tt) (lit< tt) (lit< tt);
  unstated = encoded hash_unstated refl (lit< tt) (lit< tt) (lit< tt) (lit< tt);
  uncritical = encoded hash_uncritical refl (lit< tt) (lit< tt) (lit< tt) (lit< tt);
  second = encoded hash_second refl (lit< tt) (lit< tt) (lit< tt) (lit< tt);
}

-- what der_core's vectors spell is the attribute's value with the digest of the authority's certificate
pub spelled_v2 : certificate_named_v2 ≡ octets_of digest_of_certificate
unfolding len
spelled_v2 = refl

-- the attribute of version 1 isn't there, and that of version 2 names it
pub must_name : (attributes : List AttributeValue) (c : CertificateValue)
    → (Occurs attributes id_signing_certificate → ⊥)
    → Occurs attributes id_signing_certificate_v2 → NamesInV2 attributes c → MustName attributes c
must_name attributes c never occurs names =
    record { names = record { v1 = λ o. absurd (never o); v2 = λ o. names }; some = inr occurs }

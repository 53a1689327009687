-- Worked rows: the values that octets of a signing certificate encode. Those called OpenSSL's were taken from tokens of
-- `openssl ts -reply` 3.0 and from a signature of `openssl cms -cades`, with what `openssl asn1parse` prints for them;
-- the others were written by hand.
use Rattle.std.specs.Prelude.{◌≡◌, ℕ, true, false, List, [], ◌∷◌, ◌++◌, Option, Some, None}
use Rattle.der_core.specs.Hex.{hex}
use Rattle.der_core.specs.Values.{AlgorithmValue}
use Rattle.ess_types.specs.HashAlgorithms.{is_default}
use Rattle.ess_types.specs.SigningCertificateValue.{IssuerSerialValue, CertIdValue, SigningCertificateValue}
use Rattle.ess_types.specs.SigningCertificateValue.{EncodesSigningCertificate, EncodesSigningCertificateV2, first_id}
use Rattle.digests.specs.Spelled.{with_null, alone, sha1, sha256, sha384, sha512_256}

abbrev pub of : List CertIdValue → SigningCertificateValue
of ids = record { ids = ids; policies = None }

abbrev pub id : Option AlgorithmValue → List ℕ → Option IssuerSerialValue → CertIdValue
id algorithm hash issuer_serial = record { algorithm = algorithm; hash = hash; issuer_serial = issuer_serial }

-- the directoryName O=cmsproof, CN=Root, and a serial number under it
abbrev pub root : List ℕ
root = hex "a424 3022 3111 300f 0603 55040a 0c08 636d7370726f6f66 310d 300b 0603 550403 0c04 526f6f74"

abbrev pub serial : List ℕ
serial = hex "3016a173039089ff51437d07f687c874e1adc9da"

abbrev pub under_root : IssuerSerialValue
under_root = record { names = root ∷ []; serial = serial }

abbrev pub under_root_spelled : List ℕ
under_root_spelled = hex "303e 3026" ++ root ++ hex "0214" ++ serial

-- the directoryName O=anchors, CN=Anchor Root
abbrev pub anchor : List ℕ
anchor = hex "a42a 3028 3110 300e 0603 55040a 0c07 616e63686f7273 3114 3012 0603 550403 0c0b 416e63686f7220526f6f74"

-- OpenSSL's, with a chain: two identifiers, the second with issuer and serial
abbrev pub chain_by_sha1 : SigningCertificateValue
chain_by_sha1 = of (id None (hex "c9837c9712a431852ef9dc5897690a291514442c") None ∷ id None
    (hex "2799d32855df2bcc8bf3001294fe91198e033bcf") (Some under_root) ∷ [])

abbrev pub chain_by_sha1_spelled : List ℕ
chain_by_sha1_spelled = hex
    "3072 3070 3016 0414 c9837c9712a431852ef9dc5897690a291514442c 3056 0414 2799d32855df2bcc8bf3001294fe91198e033bcf"
    ++ under_root_spelled

-- by hand: a hash of one octet and, before it, an algorithm
abbrev pub by : AlgorithmValue → SigningCertificateValue
by algorithm = of (id (Some algorithm) (hex "aa") None ∷ [])

pub record SigningRows : Type 0 where
  -- version 1 with a chain, which can also be read as version 2
  pub chain : EncodesSigningCertificate chain_by_sha1_spelled chain_by_sha1
  pub chain_as_v2 : EncodesSigningCertificateV2 chain_by_sha1_spelled chain_by_sha1
  pub first_of_chain : first_id chain_by_sha1.ids ≡ Some (id None (hex "c9837c9712a431852ef9dc5897690a291514442c") None)
  -- OpenSSL's, of version 2: SHA-384; SHA-512/256 with a chain; no algorithm
  pub by_sha384 : EncodesSigningCertificateV2
      (hex "3043 3041 303f 300b 0609 608648016503040202 0430"
      ++ hex "b719abf91c93b2a97c29112c3ee0bc5e921bf1a71e85fcf5ddbd17c67a0ef9473475c9d38efcedf00a04f1c32b5c01c6")
      (of (id (Some (alone sha384))
      (hex "b719abf91c93b2a97c29112c3ee0bc5e921bf1a71e85fcf5ddbd17c67a0ef9473475c9d38efcedf00a04f1c32b5c01c6")
      None ∷ []))
  pub by_sha512_256 : EncodesSigningCertificateV2
      (hex "3081a5 3081a2 302f 300b 0609 608648016503040206 0420"
      ++ hex "d1729bdbaf216d6747d828b3172c1de6d92540ba4f1a7d1183e51a7ea2ce3891 306f 300b 0609 608648016503040206 0420"
      ++ hex "1f576ac65dddb3fa71a3cd8c3de214360a5465f6f8046089879f4bda049ea6fa"
      ++ under_root_spelled)
      (of (id (Some (alone sha512_256)) (hex "d1729bdbaf216d6747d828b3172c1de6d92540ba4f1a7d1183e51a7ea2ce3891") None
      ∷ id (Some (alone sha512_256)) (hex "1f576ac65dddb3fa71a3cd8c3de214360a5465f6f8046089879f4bda049ea6fa")
      (Some under_root) ∷ []))
  pub by_default : EncodesSigningCertificateV2
      (hex "3026 3024 3022 0420 cee1367759cf5477c09e0c167f2d50493bea79829a5e0ffa944eca40c21bce7f")
      (of (id None (hex "cee1367759cf5477c09e0c167f2d50493bea79829a5e0ffa944eca40c21bce7f") None ∷ []))
  -- OpenSSL's, of a signer: issuer and serial in the first identifier
  pub of_signer : EncodesSigningCertificateV2
      (hex "306c 306a 3068 0420 5a5daef5433802d5f65285ef77bca39f6a792b37eae6699e89f40059979ae25b 3044 302c"
      ++ anchor ++ hex "0214 6d1c05658474a5840ce97e37f4ead3e16cefe62b")
      (of (id None (hex "5a5daef5433802d5f65285ef77bca39f6a792b37eae6699e89f40059979ae25b")
      (Some (record { names = anchor ∷ []; serial = hex "6d1c05658474a5840ce97e37f4ead3e16cefe62b" })) ∷ []))
  -- SHA-1 in version 2; the default spelled out; the same with NULL, which is another value
  pub by_sha1 : EncodesSigningCertificateV2 (hex "3010 300e 300c 3007 0605 2b0e03021a 0401 aa") (by (alone sha1))
  pub by_spelled_default : EncodesSigningCertificateV2
      (hex "3014 3012 3010 300b 0609 608648016503040201 0401 aa") (by (alone sha256))
  pub by_null : EncodesSigningCertificateV2 (hex "3016 3014 3012 300d 0609 608648016503040201 0500 0401 aa")
      (by (with_null sha256))
  pub default_alone : is_default (alone sha256) ≡ true
  pub null_is_another : is_default (with_null sha256) ≡ false
  pub sha384_is_another : is_default (alone sha384) ≡ false
  -- no identifier, and policies
  pub empty : EncodesSigningCertificate (hex "3002 3000") (of [])
  pub none_first : first_id [] ≡ None
  pub with_policies : EncodesSigningCertificate (hex "3009 3005 3003 0401 aa 3000")
      (record { ids = id None (hex "aa") None ∷ []; policies = Some [] })
  -- two names of the issuer, and none
  pub two_names : EncodesSigningCertificate (hex "3014 3012 3010 0401 aa 300b 3006 8201 61 8201 62 0201 05")
      (of (id None (hex "aa") (Some (record { names = hex "820161" ∷ hex "820162" ∷ []; serial = hex "05" })) ∷ []))
  pub no_name : EncodesSigningCertificate (hex "300e 300c 300a 0401 aa 3005 3000 0201 05")
      (of (id None (hex "aa") (Some (record { names = []; serial = hex "05" })) ∷ []))
  -- an algorithm in version 1
  pub algorithm_in_v1 : (v : SigningCertificateValue)
      → EncodesSigningCertificate (hex "3010 300e 300c 3007 0605 2b0e03021a 0401 aa") v → ⊥
  -- an algorithm after the hash, and no hash
  pub late_algorithm : (v : SigningCertificateValue)
      → EncodesSigningCertificateV2 (hex "3010 300e 300c 0401 aa 3007 0605 2b0e03021a") v → ⊥
  pub no_hash : (v : SigningCertificateValue)
      → EncodesSigningCertificateV2 (hex "300d 300b 3009 3007 0605 2b0e03021a") v → ⊥
  -- issuer and serial without the serial
  pub no_serial : (v : SigningCertificateValue)
      → EncodesSigningCertificate (hex "300b 3009 3007 0401 aa 3002 3000") v → ⊥
  -- policies that aren't a SEQUENCE, and a third part
  pub other_policies : (v : SigningCertificateValue) → EncodesSigningCertificate (hex "3004 3000 3100") v → ⊥
  pub third_part : (v : SigningCertificateValue) → EncodesSigningCertificateV2 (hex "3006 3000 3000 3000") v → ⊥

-- Worked rows: signers that fit a content, and signers that don't, with the rule that each fails first.
use Rattle.std.specs.Prelude.{◌≢◌, ◌<◌, ◌^◌, ℕ, length, true, false, List, [], ◌∷◌, Option, Some, None, codes}
use Rattle.der_core.specs.Element.{el}
use Rattle.der_core.specs.Hex.{hex}
use Rattle.der_core.specs.Values.{AlgorithmValue}
use Rattle.digests.specs.Algorithms.{contents_of}
use Rattle.digests.specs.Messages.{digest_of}
use Rattle.digests.specs.declared.algorithm.Alg.{Alg}
use Rattle.digests.specs.declared.algorithm.Alg.TheVariants.{Sha1, Sha256, Sha512, Sha512_256}
use Rattle.cms_types.specs.AttributeValue.{AttributeValue}
use Rattle.cms_types.specs.SignerValue.{SignerValue, KeyId}
use Rattle.check_fit.specs.declared.policy.Policy.{Policy}
use Rattle.check_fit.specs.declared.rules.SignerRule.{SignerRule}
use Rattle.check_fit.specs.declared.rules.SignerRule.TheVariants as rule
use Rattle.check_fit.specs.Fitting.{Fits, FailsFirst, with_sha1, id_content_type, id_message_digest}

abbrev pub strict : Policy
strict = with_sha1 false

abbrev pub lenient : Policy
lenient = with_sha1 true

-- id-data (RFC 5652, 4), id-signedData (RFC 5652, 5.1), signing-time (RFC 5652, 11.3), MD5 (RFC 1321)
abbrev pub id_data : List ℕ
id_data = hex "2a864886f70d010701"

abbrev pub id_signed_data : List ℕ
id_signed_data = hex "2a864886f70d010702"

abbrev pub id_signing_time : List ℕ
id_signing_time = hex "2a864886f70d010905"

abbrev pub id_md5 : List ℕ
id_md5 = hex "2a864886f70d0205"

-- attributes with these values
abbrev pub content_type : List (List ℕ) → AttributeValue
content_type values = record { id = id_content_type; values = values }

abbrev pub message_digest : List (List ℕ) → AttributeValue
message_digest values = record { id = id_message_digest; values = values }

abbrev pub signing_time : AttributeValue
signing_time = record { id = id_signing_time; values = hex "170d3234303130313030303030305a" ∷ [] }

-- the content-type attribute of id-data
abbrev pub of_data : AttributeValue
of_data = content_type (el 0x06 id_data ∷ [])

-- the message-digest attribute of a content
abbrev pub digest_by : Alg → (content : List ℕ) → AttributeValue
digest_by alg content = message_digest (el 0x04 (digest_of alg content) ∷ [])

abbrev pub plainly : List ℕ → AlgorithmValue
plainly identifier = record { oid = identifier; parameters = None }

-- a signer with this digest algorithm and these signed attributes
abbrev pub signer : AlgorithmValue → Option (List AttributeValue) → SignerValue
signer algorithm attributes = record {
  version = 3 ∷ [];
  sid = KeyId (1 ∷ 2 ∷ []);
  digest_algorithm = algorithm;
  signed_attributes = attributes;
  signature_algorithm = plainly (hex "883701");
  signature = hex "616263";
  unsigned_attributes = None;
}

abbrev pub by_sha256 : List AttributeValue → SignerValue
by_sha256 attributes = signer (plainly (contents_of Sha256)) (Some attributes)

-- signers that fit any content
pub record FittingRows (content : List ℕ) : Type 0 where
  -- with both attributes and no other
  pub plain : Fits strict content id_data (by_sha256 (of_data ∷ digest_by Sha256 content ∷ []))
  -- with a third attribute, and in another order
  pub among_others : Fits strict content id_data (by_sha256 (signing_time ∷ digest_by Sha256 content ∷ of_data ∷ []))
  -- by another algorithm, whose parameters are NULL
  pub with_null : Fits strict content id_data
      (signer (record { oid = contents_of Sha512; parameters = Some (5 ∷ 0 ∷ []) })
      (Some (of_data ∷ digest_by Sha512 content ∷ [])))
  -- by SHA-512/256
  pub by_sha512_256 : Fits strict content id_data (signer (plainly (contents_of Sha512_256))
      (Some (of_data ∷ digest_by Sha512_256 content ∷ [])))
  -- by SHA-1, which is allowed
  pub by_sha1 : Fits lenient content id_data (signer (plainly (contents_of Sha1))
      (Some (of_data ∷ digest_by Sha1 content ∷ [])))
  -- a content of another type
  pub of_another_type : Fits strict content id_signed_data
      (by_sha256 (content_type (el 0x06 id_signed_data ∷ []) ∷ digest_by Sha256 content ∷ []))

-- a signer doesn't fit, and this is the rule that it fails first
abbrev pub Fails : Policy → (content : List ℕ) → SignerValue → SignerRule → Type 0
Fails policy content s rule = FailsFirst policy content id_data s rule × (Fits policy content id_data s → ⊥)

-- signers that don't fit any content of the type id-data; the digest is not that of the content
pub record UnfitRows (content digest : List ℕ) : Type 0 where
  -- no signed attributes
  pub bare : Fails strict content (signer (plainly (contents_of Sha256)) None) rule.NoSignedAttrs
  -- no content-type; two of them; one with two values, or with none; one whose value is an OCTET STRING
  pub no_type : Fails strict content (by_sha256 (digest_by Sha256 content ∷ [])) rule.ContentTypeAttr
  pub type_twice : Fails strict content
      (by_sha256 (of_data ∷ of_data ∷ digest_by Sha256 content ∷ [])) rule.ContentTypeAttr
  pub two_types : Fails strict content (by_sha256 (content_type (el 0x06 id_data ∷ el 0x06 id_data ∷ [])
      ∷ digest_by Sha256 content ∷ [])) rule.ContentTypeAttr
  pub empty_type : Fails strict content
      (by_sha256 (content_type [] ∷ digest_by Sha256 content ∷ [])) rule.ContentTypeAttr
  pub type_octets : Fails strict content
      (by_sha256 (content_type (el 0x04 id_data ∷ []) ∷ digest_by Sha256 content ∷ [])) rule.ContentTypeAttr
  -- another type, and one that begins with id-data and is longer
  pub other_type : Fails strict content
      (by_sha256 (content_type (el 0x06 id_signed_data ∷ []) ∷ digest_by Sha256 content ∷ [])) rule.ContentTypeDiffers
  pub longer_type : Fails strict content (by_sha256 (content_type (el 0x06 (hex "2a864886f70d01070101") ∷ [])
      ∷ digest_by Sha256 content ∷ [])) rule.ContentTypeDiffers
  -- no message-digest; two of them, though both are right; one with two values; one whose value is an INTEGER
  pub no_digest : Fails strict content (by_sha256 (of_data ∷ [])) rule.DigestAttr
  pub digest_twice : Fails strict content
      (by_sha256 (of_data ∷ digest_by Sha256 content ∷ digest_by Sha256 content ∷ [])) rule.DigestAttr
  pub two_digests : Fails strict content (by_sha256 (of_data ∷ message_digest (el 0x04
      (digest_of Sha256 content) ∷ el 0x04 (digest_of Sha256 content) ∷ []) ∷ [])) rule.DigestAttr
  pub digest_integer : Fails strict content
      (by_sha256 (of_data ∷ message_digest (el 0x02 (digest_of Sha256 content) ∷ []) ∷ [])) rule.DigestAttr
  -- an algorithm that isn't known; SHA-1, which isn't allowed
  pub unknown : Fails strict content
      (signer (plainly id_md5) (Some (of_data ∷ message_digest (el 0x04 digest ∷ []) ∷ []))) rule.DigestAlgorithm
  pub forbidden : Fails strict content (signer (plainly (contents_of Sha1))
      (Some (of_data ∷ digest_by Sha1 content ∷ []))) rule.DigestAlgorithm
  -- two rules fail, and the first is reported: no message-digest and no known algorithm
  pub first_of_two : Fails strict content (signer (plainly id_md5) (Some (of_data ∷ []))) rule.DigestAttr
  -- a digest other than the content's, of any length that an element can have
  pub other_digest : length digest < 2 ^ 32 → digest ≢ digest_of Sha256 content
      → Fails strict content (by_sha256 (of_data ∷ message_digest (el 0x04 digest ∷ []) ∷ [])) rule.DigestDiffers

-- the digest of abc by SHA-256 (FIPS 180-4), and a signer who states it
abbrev pub abc_digest : List ℕ
abc_digest = hex "ba7816bf8f01cfea414140de5dae2223b00361a396177a9cb410ff61f20015ad"

abbrev pub abc_signer : SignerValue
abc_signer = by_sha256 (of_data ∷ message_digest (el 0x04 abc_digest ∷ []) ∷ [])

-- the same by SHA-512/256 (FIPS 180-4)
abbrev pub abc_digest_512_256 : List ℕ
abc_digest_512_256 = hex "53048e2681941ef99b2e29b76b4c7dabe4c2d0c634fc6d46e0e2f13107e7af23"

abbrev pub abc_signer_512_256 : SignerValue
abc_signer_512_256 = signer (plainly (contents_of Sha512_256))
    (Some (of_data ∷ message_digest (el 0x04 abc_digest_512_256 ∷ []) ∷ []))

pub record AbcRows : Type 0 where
  -- the signers fit the content abc, and the first doesn't fit the empty content
  pub abc : Fits strict (codes "abc") id_data abc_signer
  pub abc_512_256 : Fits strict (codes "abc") id_data abc_signer_512_256
  pub nothing : Fails strict [] abc_signer rule.DigestDiffers

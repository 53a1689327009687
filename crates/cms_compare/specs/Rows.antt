-- Worked rows, of any content: which signers sign alike, and what a SignedData is compared by.
use Rattle.std.specs.Prelude.{◌≡◌, ℕ, List, [], ◌∷◌, Option, Some, None, Ok, Err}
use Rattle.der_core.specs.Hex.{hex}
use Rattle.digests.specs.Algorithms.{contents_of}
use Rattle.digests.specs.declared.algorithm.Alg.TheVariants.{Sha256, Sha512}
use Rattle.cms_types.specs.SignerValue.{SignerValue, KeyId}
use Rattle.cms_types.specs.SignedDataValue.{SignedDataValue}
use Rattle.check_fit.specs.declared.rules.SignerRule.TheVariants as signer_rule
use Rattle.check_fit.specs.FittingRows.{id_data, of_data, digest_by, signing_time, plainly, signer, by_sha256}
use Rattle.cms_compare.specs.declared.compared.Compared.TheVariants as compared
use Rattle.cms_compare.specs.declared.fault.CompareRule.TheVariants as rule
use Rattle.cms_compare.specs.Comparing.{SignAlike, IsCompared, signed_by}

-- a signer that fits the content; one with NULL for the parameters of its digest algorithm, another identifier and
-- another signature
abbrev pub plain : List ℕ → SignerValue
plain content = by_sha256 (of_data ∷ digest_by Sha256 content ∷ [])

abbrev pub another : List ℕ → SignerValue
another content = record {
  version = 3 ∷ [];
  sid = KeyId (7 ∷ []);
  digest_algorithm = record { oid = contents_of Sha256; parameters = Some (hex "0500") };
  signed_attributes = Some (of_data ∷ digest_by Sha256 content ∷ []);
  signature_algorithm = plainly (hex "883702");
  signature = hex "646566";
  unsigned_attributes = None;
}

-- a SignedData of data with this content and these signers
abbrev pub data_of : Option (List ℕ) → List SignerValue → SignedDataValue
data_of content signers = record {
  version = 1 ∷ [];
  digest_algorithms = [];
  encapsulated = record { content_type = id_data; content = content };
  certificates = None;
  crls = None;
  signers = signers;
}

pub record ComparingRows (content : List ℕ) : Type 0 where
  -- neither the parameters' spelling nor identifier and signature are part of what is compared
  pub alike : SignAlike (plain content) (another content)
  pub same : IsCompared content (plain content) content (another content) compared.Same
  -- another algorithm, and another attribute
  pub algorithm : IsCompared content (by_sha256 (of_data ∷ [])) content
      (signer (plainly (contents_of Sha512)) (Some (of_data ∷ []))) compared.Different
  pub attribute : IsCompared content (by_sha256 (of_data ∷ [])) content
      (by_sha256 (of_data ∷ signing_time ∷ [])) compared.Different
  -- the signer of a number, from 1
  pub first : signed_by 1 (Ok (data_of (Some content) (plain content ∷ another content ∷ []))) ≡ Ok
      (content, plain content)
  pub second : signed_by 2 (Ok (data_of (Some content) (plain content ∷ another content ∷ []))) ≡ Ok
      (content, another content)
  pub none : signed_by 0 (Ok (data_of (Some content) (plain content ∷ []))) ≡ Err rule.NoSuchSigner
  pub beyond : signed_by 2 (Ok (data_of (Some content) (plain content ∷ []))) ≡ Err rule.NoSuchSigner
  -- of two rules the earlier
  pub number_first : signed_by 2 (Ok (data_of None (plain content ∷ []))) ≡ Err rule.NoSuchSigner
  pub content_first : signed_by 1
      (Ok (data_of None (signer (plainly (contents_of Sha256)) None ∷ []))) ≡ Err rule.NoContent
  pub no_attributes : signed_by 1 (Ok (data_of (Some content) (signer (plainly (contents_of Sha256)) None ∷ [])))
      ≡ Err (rule.Rule signer_rule.NoSignedAttrs)

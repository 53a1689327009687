-- The signature that a stamp is asked of: one of a file's signers made it (RFC 3161, appendix A).
use Rattle.std.specs.Prelude.{◌≡◌, ◌⊎◌, ℕ, List, Some, None}
use Rattle.der_core.specs.Grammar.{file}
use Rattle.der_grammar.specs.Table.{content_info}
use Rattle.der_lists.specs.Numbers.{of_number}
use Rattle.digests.specs.declared.algorithm.Alg.{Alg}
use Rattle.digests.specs.declared.value.Digest.{Digest}
use Rattle.digests.specs.Digests.{alg_of, octets_of}
use Rattle.digests.specs.Messages.{digest_of}
use Rattle.cms_types.specs.declared.fault.CmsFault.TheVariants as cms
use Rattle.cms_types.specs.SignerValue.{SignerValue}
use Rattle.cms_types.specs.SignedDataValue.{SignedDataValue, EncodesSignedData, EncodesAnotherType}
use Rattle.tsp_requester.specs.declared.fault.AttachFault.TheVariants as rule
use Rattle.cli_failures.specs.declared.failure.Failure.{Failure}
use Rattle.cli_failures.specs.declared.failure.Failure.TheVariants as failure
use Rattle.cli_failures.specs.Causes.{IsMalformed}

-- the digest by this algorithm of the signature of the signer of this number, from 1, in the SignedData that the octets
-- encode
pub record IsSignatureDigest (alg : Alg) (octets : List ℕ) (number : ℕ) (digest : Digest) : Type 0 where
  pub signed : SignedDataValue
  pub encodes : EncodesSignedData octets signed
  pub signer : SignerValue
  pub numbered : of_number signed.signers number ≡ Some signer
  pub by : alg_of digest ≡ alg
  pub is : octets_of digest ≡ digest_of alg signer.signature

-- the octets aren't a ContentInfo, are one of another type, or are a SignedData that has no signer of this number
abbrev pub HasNoSigner : (octets : List ℕ) (number : ℕ) → Failure → Type 0
HasNoSigner octets number f = IsMalformed (file content_info) octets f
    ⊎ (((f ≡ failure.Unattached (rule.Malformed cms.NotSignedData)) × EncodesAnotherType octets)
    ⊎ ((f ≡ failure.Unattached rule.NoSuchSigner)
    × ((v : SignedDataValue) × EncodesSignedData octets v × (of_number v.signers number ≡ None))))

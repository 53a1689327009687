-- Whether a token lasts by itself, and what is asked of a trusted entry for that before the verifier is asked.
use Rattle.std.specs.Prelude.{◌≡◌, ℕ, List, [], ◌∷◌, Some, Contains}
use Rattle.cert_types.specs.Purposes.{IsStampingOnly}
use Rattle.cms_types.specs.AttributeValue.{AttributeValue}
use Rattle.cms_types.specs.SignerValue.{SignerValue}
use Rattle.cms_types.specs.SignedDataValue.{SignedDataValue}
use Rattle.trust_lists.specs.Asking.{Asked}
use Rattle.trust_lists.specs.Entries.{EntryValue}
use Rattle.trust_lists.specs.declared.role.Role.TheVariants.{Tsa}
use Rattle.check_names.specs.Naming.{Matches, MustName}
use Rattle.check_verdict.specs.Trusted.{Holds, asked}
use Rattle.check_evidence.specs.Grounds.{Grounds}
use Rattle.check_evidence.specs.Standing.{Lasts}

-- its one signer has signed attributes, and the token lasts by them
pub record TokenLasts (g : Grounds) (signed : SignedDataValue) (m until : ℕ) : Type 0 where
  pub signer : SignerValue
  pub one_signer : signed.signers ≡ signer ∷ []
  pub attributes : List AttributeValue
  pub has : signer.signed_attributes ≡ Some attributes
  pub lasts : Lasts g signer attributes m until

-- an entry of an authority, whose certificate is the signer's and for time-stamping alone, holds at both moments
pub record MayLast (s : SignerValue) (attributes : List AttributeValue) (m until : ℕ) (e : EntryValue) : Type 0 where
  pub role : e.role ≡ Tsa
  pub matches : Matches s.sid e.certificate
  pub named : MustName attributes e.certificate
  pub purpose : IsStampingOnly e.certificate
  pub period : Holds e m
  pub still : Holds e until

-- it is asked about the one signer of a token under such an entry
pub record IsAskedToLast (trust : List EntryValue) (signed : SignedDataValue) (m until : ℕ) (q : Asked) : Type 0 where
  pub signer : SignerValue
  pub one_signer : signed.signers ≡ signer ∷ []
  pub attributes : List AttributeValue
  pub has : signer.signed_attributes ≡ Some attributes
  pub entry : EntryValue
  pub trusted : Contains trust entry
  pub may : MayLast signer attributes m until entry
  pub is : q ≡ asked entry.certificate signer attributes

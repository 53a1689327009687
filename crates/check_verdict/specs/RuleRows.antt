-- Worked rows of the rules of tokens, over values: which of two rules that fail is reported, and which certificates are
-- for time-stamping alone.
use Rattle.std.specs.Prelude.{◌≡◌, ℕ, List, [], ◌∷◌, Option, Some, None, Result, Ok, Err, codes}
use Rattle.der_core.specs.declared.fault.Fault.{Fault}
use Rattle.der_core.specs.declared.flag.Flag.{Flag}
use Rattle.der_core.specs.declared.flag.Flag.TheVariants as flag
use Rattle.der_core.specs.Element.{el}
use Rattle.der_core.specs.Hex.{hex}
use Rattle.der_grammar.specs.Table.{id_ext_key_usage}
use Rattle.der_core.specs.Values.{AlgorithmValue}
use Rattle.der_grammar.specs.Vectors.{authority_name, authority_key, time_stamp}
use Rattle.cert_types.specs.CertificateValue.{CertificateValue}
use Rattle.cert_types.specs.ExtensionValue.{ExtensionValue}
use Rattle.digests.specs.Algorithms.{contents_of}
use Rattle.digests.specs.declared.algorithm.Alg.TheVariants.{Sha1, Sha256}
use Rattle.cms_types.specs.SignerValue.{SignerValue}
use Rattle.cms_types.specs.SignedDataValue.{SignedDataValue}
use Rattle.cms_types.specs.declared.fault.CmsFault.{CmsFault}
use Rattle.cms_types.specs.declared.fault.CmsFault.TheVariants as cms
use Rattle.check_fit.specs.FittingRows.{strict, id_data, id_md5, plainly}
use Rattle.check_fit.specs.declared.rules.SignerRule.TheVariants as signer
use Rattle.check_fit.specs.declared.rules.TokenRule.{TokenRule}
use Rattle.check_fit.specs.declared.rules.TokenRule.TheVariants as token
use Rattle.tsp_types.specs.TstValue.{TstValue}
use Rattle.check_verdict.specs.Alone.{any_fault}
use Rattle.trust_lists.specs.Entries.{EntryValue}
use Rattle.trust_lists.specs.declared.role.Role.TheVariants.{Tsa}
use Rattle.check_names.specs.NamingRows.{named_by, digest_of_certificate}
use Rattle.tsp_types.specs.TstValue.{id_tst_info}
use Rattle.check_verdict.specs.Passing.{of_octets}
use Rattle.check_verdict.specs.TokenRules.{TokenClaim, token_claim, RunsOut}
use Rattle.check_verdict.specs.Rows.{certificate, tst, digest_of_stamp, token_signer, token_data, trusted, terms}

-- ---- K1 to K9

abbrev pub data_of : (econtent_type : List ℕ) → Option (List ℕ) → List SignerValue → SignedDataValue
data_of econtent_type content signers =
    record token_data { encapsulated = record { content_type = econtent_type; content = content }; signers = signers }

abbrev pub its_signer : SignerValue
its_signer = token_signer digest_of_stamp

abbrev pub stamp_with : AlgorithmValue → (digest : List ℕ) → Option (List ExtensionValue) → TstValue
stamp_with algorithm digest extensions =
    record tst { imprint = record { algorithm = algorithm; digest = digest }; extensions = extensions }

abbrev pub an_extension : Flag → Option (List ExtensionValue)
an_extension critical = Some (record { id = hex "883701"; critical = critical; value = [] } ∷ [])

-- a token over abc that is read as this, with a content that is read as that, fails this rule first
abbrev pub Breaks : Result SignedDataValue CmsFault → Result TstValue Fault → TokenRule → Type 0
Breaks signed stamp failed = token_claim strict (of_octets (codes "abc")) signed stamp ≡ Err failed

-- each rule, with all later rules failing too as far as possible
pub record ClaimRows : Type 0 where
  pub another_type : Breaks (Err cms.NotSignedData) (Err any_fault) (token.Malformed cms.NotSignedData)
  pub another_content : Breaks (Ok (data_of id_data None [])) (Err any_fault) token.ContentType
  pub no_content : Breaks (Ok (data_of id_tst_info None [])) (Err any_fault) token.NoContent
  pub no_signer : Breaks (Ok (data_of id_tst_info (Some time_stamp) [])) (Err any_fault) token.OneSigner
  pub two_signers : Breaks (Ok (data_of id_tst_info (Some time_stamp) (its_signer ∷ its_signer ∷ [])))
      (Err any_fault) token.OneSigner
  pub no_attributes : Breaks (Ok (data_of id_tst_info (Some time_stamp)
      (record its_signer { signed_attributes = None } ∷ []))) (Err any_fault) (token.Attributes signer.NoSignedAttrs)
  pub no_stamp : Breaks (Ok token_data) (Err any_fault) (token.TstMalformed any_fault)
  pub critical : Breaks (Ok token_data)
      (Ok (stamp_with (plainly id_md5) [] (an_extension flag.True))) token.CriticalExtension
  -- an extension that isn't critical is none of these
  pub unknown : Breaks (Ok token_data)
      (Ok (stamp_with (plainly id_md5) [] (an_extension flag.False))) token.ImprintAlgorithm
  pub forbidden : Breaks (Ok token_data) (Ok (stamp_with (plainly (contents_of Sha1))
      (hex "a9993e364706816aba3e25717850c26c9cd0d89d") None)) token.ImprintAlgorithm
  pub another_digest : Breaks (Ok token_data)
      (Ok (stamp_with (plainly (contents_of Sha256)) digest_of_stamp None)) token.ImprintDiffers

-- ---- for time-stamping alone

-- the authority's certificate with another extension, or none
abbrev pub authority_with : Option (List ExtensionValue) → CertificateValue
authority_with extensions = certificate (Some (2 ∷ [])) (7 ∷ []) authority_name authority_key extensions

abbrev pub ext_key_usage : Flag → (purposes : List ℕ) → Option (List ExtensionValue)
ext_key_usage critical purposes =
    Some (record { id = id_ext_key_usage; critical = critical; value = el 0x30 purposes } ∷ [])

abbrev pub attests_with : Option (List ExtensionValue) → EntryValue
attests_with extensions = trusted Tsa None None (authority_with extensions)

-- a claim at no moment of the certificate, with attributes that name it by this hash
abbrev pub claim_naming : (hash : List ℕ) → TokenClaim
claim_naming hash = record { signer = its_signer; attributes = named_by hash ∷ []; moment = 0 }

-- the entry fails by its purpose, before its period
abbrev pub NotForStamping : Option (List ExtensionValue) → (hash : List ℕ) → Type 0
NotForStamping extensions hash = RunsOut (terms (attests_with extensions ∷ []) []) (claim_naming hash) token.Purpose

pub record PurposeRows : Type 0 where
  -- no purpose is stated; the extension isn't critical; there is a second purpose
  pub unstated : NotForStamping None (hex "29f5d6ae05f8a4cc7c7d187c38e847a21e6bf5dd569e39a71233df0103958e45")
  pub uncritical : NotForStamping (ext_key_usage flag.Absent (hex "06082b06010505070308"))
      (hex "765b9455b84e951e4b5cc1c7b7c407058168295fc7ed31081e8a3cfeaea6d329")
  pub second : NotForStamping (ext_key_usage flag.True (hex "06082b0601050507030806082b06010505070301"))
      (hex "056acf73cb4ed73ce7de1830e38cfa4e8901ed7c90742fe5ff665c06153dd845")
  -- the claim is of another moment
  pub ended : RunsOut (terms (attests_with (ext_key_usage flag.True (hex "06082b06010505070308")) ∷ []) [])
      (claim_naming digest_of_certificate) token.Period

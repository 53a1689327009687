-- Worked rows: a signer whose signing-certificate attribute names its certificate or another one (RFC 5035, 4).
use Rattle.std.specs.Prelude.{ℕ, List, [], ◌∷◌, ◌++◌, None, codes}
use Rattle.der_core.specs.Hex.{hex}
use Rattle.der_grammar.specs.Vectors.{signer_name}
use Rattle.cms_types.specs.AttributeValue.{AttributeValue}
use Rattle.cms_types.specs.SignerValue.{SignerValue}
use Rattle.check_fit.specs.FittingRows.{id_data}
use Rattle.check_fit.specs.declared.rules.SignerRule.{SignerRule}
use Rattle.check_fit.specs.declared.rules.SignerRule.TheVariants as signer
use Rattle.trust_lists.specs.Entries.{EntryValue}
use Rattle.check_names.specs.NamingRows.{named_by, digest_of_certificate}
use Rattle.check_verdict.specs.Verdicts.{SignerFails}
use Rattle.check_verdict.specs.Rows.{file_attributes, signer_by, signs, terms}

-- the SHA-256 digest of the signer's certificate, as coreutils print it
abbrev pub digest_of_signer : List ℕ
digest_of_signer = hex "c1945be7c339f83538fc089fafa1b79449714eaa151b595107bd1eff892be936"

abbrev pub attributes_naming : (hash : List ℕ) → List AttributeValue
attributes_naming hash = file_attributes ++ (named_by hash ∷ [])

-- the file's signer with no token, who names a certificate by this hash
abbrev pub signer_naming : (hash : List ℕ) → SignerValue
signer_naming hash = signer_by signer_name (5 ∷ []) (codes "abc") (attributes_naming hash) None

-- it fails this rule first, under these entries and a verifier that vouches for nothing
abbrev pub FailsNaming : List EntryValue → (hash : List ℕ) → SignerRule → Type 0
FailsNaming trust hash failed = SignerFails (terms trust []) (codes "abc") id_data (signer_naming hash) failed

pub record NamedSignerRows : Type 0 where
  -- it names the authority's certificate: that is reported before its signature, and not if the signer is unknown
  pub another : FailsNaming (signs None None ∷ []) digest_of_certificate signer.NotNamed
  pub another_of_nobody : FailsNaming [] digest_of_certificate signer.UnknownSigner
  -- it names its own certificate: its signature is reported
  pub its_own : FailsNaming (signs None None ∷ []) digest_of_signer signer.SignatureFails

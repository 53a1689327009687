-- Worked rows: entries that are known by their key identifier (RFC 5652, 5.3; RFC 5280, 4.2.1.2), and which rule of a
-- token is reported if an entry fails two.
use Rattle.std.specs.Prelude.{[], ◌∷◌, Some, None}
use Rattle.der_core.specs.declared.flag.Flag.TheVariants as flag
use Rattle.der_core.specs.Element.{el}
use Rattle.der_core.specs.Hex.{hex}
use Rattle.der_grammar.specs.Table.{id_subject_key_identifier}
use Rattle.der_grammar.specs.Vectors.{signer_name, signer_key, authority_name, authority_key}
use Rattle.cert_types.specs.CertificateValue.{CertificateValue}
use Rattle.cms_types.specs.SignerValue.{KeyId}
use Rattle.check_fit.specs.declared.rules.TokenRule.TheVariants as token
use Rattle.trust_lists.specs.Entries.{EntryValue}
use Rattle.trust_lists.specs.declared.role.Role.TheVariants.{Tsa}
use Rattle.check_names.specs.Naming.{Matches}
use Rattle.check_names.specs.NamingRows.{digest_of_certificate}
use Rattle.check_verdict.specs.TokenRules.{RunsOut}
use Rattle.check_verdict.specs.Rows.{certificate, trusted, terms}
use Rattle.check_verdict.specs.RuleRows.{claim_naming, attests_with}

-- the signer's certificate with the key identifier 01 02
abbrev pub with_key_id : CertificateValue
with_key_id = certificate (Some (2 ∷ [])) (5 ∷ []) signer_name signer_key
    (Some (record { id = id_subject_key_identifier; critical = flag.Absent; value = el 0x04 (hex "0102") } ∷ []))

-- an authority of another serial number, of which no purpose is stated
abbrev pub of_another_serial : EntryValue
of_another_serial = trusted Tsa None None (certificate (Some (2 ∷ [])) (8 ∷ []) authority_name authority_key None)

pub record OtherEntryRows : Type 0 where
  -- a signer has this key identifier; another; and the octets of its element
  pub key_id : Matches (KeyId (hex "0102")) with_key_id
  pub another_key_id : Matches (KeyId (hex "0103")) with_key_id → ⊥
  pub element : Matches (KeyId (hex "04020102")) with_key_id → ⊥
  -- a token doesn't match the only authority, which is reported before that it doesn't name it
  pub unknown : RunsOut (terms (of_another_serial ∷ []) []) (claim_naming digest_of_certificate) token.UnknownTsa
  -- it matches one and doesn't name it, which is reported before that no purpose is stated
  pub not_named : RunsOut (terms (attests_with None ∷ []) []) (claim_naming digest_of_certificate) token.NotNamed

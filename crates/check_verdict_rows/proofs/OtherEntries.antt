-- The worked rows of other entries hold.
use Rattle.std.proofs.Common.{◌≡◌, ℕ, List, [], ◌∷◌, get_or, None, refl, ap, ◌∙◌, arith, lit<}
use Rattle.der_core.specs.Element.{len}
use Rattle.der_core.specs.Hex.{hex}
use Rattle.cert_types.specs.CertificateValue.{encoding}
use Rattle.sha2.specs.Sha256 as sha256
use Rattle.digests.specs.Messages.{digest_of}
use Rattle.digests.specs.declared.algorithm.Alg.TheVariants.{Sha256}
use Rattle.cms_types.specs.AttributeValue.{AttributeValue}
use Rattle.cms_types.specs.SignerValue.{KeyId}
use Rattle.trust_lists.specs.Entries.{EntryValue}
use Rattle.check_names.specs.Naming.{id_signing_certificate_v2, Occurs, Matches, MustName}
use Rattle.check_names.specs.NamingRows.{named_by, digest_of_certificate}
use Rattle.check_names.proofs.HashNames.{other_hash}
use Rattle.check_verdict.specs.TokenRules.{LeftForToken}
use Rattle.check_verdict.specs.Rows.{terms}
use Rattle.check_verdict.specs.RuleRows.{authority_with, attests_with, claim_naming}
use Rattle.check_verdict.proofs.NamedCertificates.{all_encoded, hash_unstated}
use Rattle.check_verdict.proofs.RowsJudged.{one_of, nor, nobody}
use Rattle.check_verdict_rows.specs.OtherEntries.{with_key_id, of_another_serial, OtherEntryRows}

-- two octets of lists that are the same are the same
pub other_octets : (i a b : ℕ) (xs ys : List ℕ) → get_or xs i 0 ≡ a → get_or ys i 0 ≡ b → (a ≡ b → ⊥) → xs ≡ ys → ⊥
other_octets i a b xs ys p q never e = let f = ap (λ (l : List ℕ). get_or l i 0) e in never (omega (arith, f, p, q))

-- ---- key identifiers

key_id_matches : Matches (KeyId (hex "0102")) with_key_id
unfolding len
key_id_matches = (record { identifier = refl; size = lit< tt }, refl)

never_another : Matches (KeyId (hex "0103")) with_key_id → ⊥
unfolding len
never_another m = other_octets 3 2 3 _ _ refl refl (λ e. absurd (omega (arith, e))) m.1

never_element : Matches (KeyId (hex "04020102")) with_key_id → ⊥
unfolding len
never_element m = other_octets 1 2 4 _ _ refl refl (λ e. absurd (omega (arith, e))) m.1

-- ---- what the token names

unstated_digest : digest_of Sha256 (encoding (authority_with None)) ≡ hash_unstated
unfolding len digest_of sha256.sha256 sha256.digest_bytes sha256.hash_after sha256.compress sha256.rounds
    sha256.schedule sha256.first_words
unstated_digest = refl

abbrev its_attributes : List AttributeValue
its_attributes = named_by digest_of_certificate ∷ []

pub not_empty : (a : AttributeValue) (xs : List AttributeValue) → a ∷ xs ≡ [] → ⊥
not_empty a xs e = absurd cc

occurs : Occurs its_attributes id_signing_certificate_v2
occurs e = not_empty _ _ e

differs : digest_of_certificate ≡ hash_unstated → ⊥
differs e = other_octets 0 0xb5 0x29 _ _ refl refl (λ f. absurd (omega (arith, f))) e

never_named : MustName its_attributes (authority_with None) → ⊥
never_named n = other_hash its_attributes digest_of_certificate (authority_with None) refl all_encoded.authority
    (λ e. differs (e ∙ unstated_digest)) (n.names.v2 occurs)

-- ---- the rules

abbrev Left : EntryValue → ℕ → EntryValue → Type 0
Left entry k e = LeftForToken (terms (entry ∷ []) []) (claim_naming digest_of_certificate) k e

never_matches : Left of_another_serial 1 of_another_serial → ⊥
never_matches p = other_octets 0 8 7 _ _ refl refl (λ e. absurd (omega (arith, e))) p.1.1

pub other_entry_rows : OtherEntryRows
other_entry_rows = record {
  key_id = key_id_matches;
  another_key_id = never_another;
  element = never_element;
  unknown = record {
    filter = 0;
    stops = record {
      within = lit< tt;
      left = λ lt. absurd (omega (arith, lt));
      none = nor (Left of_another_serial 1) of_another_serial [] never_matches (nobody (Left of_another_serial 1));
    };
    is = refl;
  };
  not_named = record {
    filter = 1;
    stops = record {
      within = lit< tt;
      left = λ lt. one_of (Left (attests_with None) 1) (attests_with None) (refl, (refl, refl));
      none = nor (Left (attests_with None) 2) (attests_with None) [] (λ p. never_named p.1)
          (nobody (Left (attests_with None) 2));
    };
    is = refl;
  };
}

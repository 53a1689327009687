-- The worked rows of the rules of tokens hold.
use Rattle.std.proofs.Common.{◌≡◌, ℕ, List, [], ◌∷◌, get_or, Option, None, refl, ap, arith, lit<}
use Rattle.der_core.specs.declared.flag.Flag.TheVariants as flag
use Rattle.der_core.specs.Element.{len, el}
use Rattle.der_core.specs.Hex.{hex}
use Rattle.der_grammar.specs.Vectors.{time_stamp}
use Rattle.der_time.specs.Calendar.{days_before_month}
use Rattle.der_time.specs.Moments.{utc_moment}
use Rattle.cert_types.specs.CertificateValue.{CertificateValue, encoding}
use Rattle.cert_types.specs.ExtensionValue.{ExtensionValue}
use Rattle.sha2.specs.Sha256 as sha256
use Rattle.digests.specs.Messages.{digest_of}
use Rattle.digests.specs.declared.algorithm.Alg.TheVariants.{Sha256}
use Rattle.digests.proofs.Rows.{abc_rows}
use Rattle.cms_types.specs.AttributeValue.{AttributeValue}
use Rattle.check_fit.specs.Fitting.{signer_claim}
use Rattle.check_fit.specs.FittingRows.{strict}
use Rattle.trust_lists.specs.Entries.{EntryValue}
use Rattle.check_verdict.specs.Trusted.{Holds}
use Rattle.check_names.specs.Naming.{MustName}
use Rattle.check_names.specs.NamingRows.{digest_of_certificate, named_by}
use Rattle.tsp_types.specs.TstValue.{id_tst_info}
use Rattle.check_verdict.specs.TokenRules.{LeftForToken}
use Rattle.check_verdict.specs.Rows.{terms}
use Rattle.check_verdict.specs.RuleRows.{its_signer, ClaimRows, authority_with, ext_key_usage, attests_with}
use Rattle.check_verdict.specs.RuleRows.{claim_naming, NotForStamping, PurposeRows}
use Rattle.check_fit.proofs.FitLaw.{fit_from}
use Rattle.check_names.proofs.HashNames.{Encoded, names_v2}
use Rattle.check_verdict.proofs.NamedCertificates.{all_encoded, hash_unstated, hash_uncritical, hash_second, must_name}
use Rattle.check_verdict.proofs.RowsJudged.{one_of, token_fits, nor, nobody}

-- ---- K1 to K9

pub claim_rows : ClaimRows
unfolding signer_claim
claim_rows = record {
  another_type = refl;
  another_content = refl;
  no_content = refl;
  no_signer = refl;
  two_signers = refl;
  no_attributes = refl;
  no_stamp = rw (fit_from strict time_stamp id_tst_info its_signer token_fits) refl;
  critical = rw (fit_from strict time_stamp id_tst_info its_signer token_fits) refl;
  unknown = rw (fit_from strict time_stamp id_tst_info its_signer token_fits) refl;
  forbidden = rw (fit_from strict time_stamp id_tst_info its_signer token_fits) refl;
  another_digest = rw (fit_from strict time_stamp id_tst_info its_signer token_fits, abc_rows.sha256) refl;
}

record Digests : Type 0 where
  pub unstated : digest_of Sha256 (encoding (authority_with None)) ≡ hash_unstated
  pub uncritical : digest_of Sha256 (encoding (authority_with (ext_key_usage flag.Absent (hex "06082b06010505070308"))))
      ≡ hash_uncritical
  pub second : digest_of Sha256 (encoding
      (authority_with (ext_key_usage flag.True (hex "06082b0601050507030806082b06010505070301")))) ≡ hash_second
  pub same : digest_of Sha256 (encoding (authority_with (ext_key_usage flag.True (hex "06082b06010505070308"))))
      ≡ digest_of_certificate

digests : Digests
unfolding len digest_of sha256.sha256 sha256.digest_bytes sha256.hash_after sha256.compress sha256.rounds
    sha256.schedule sha256.first_words
digests = record { unstated = refl; uncritical = refl; second = refl; same = refl }

not_empty : (a : AttributeValue) (xs : List AttributeValue) → a ∷ xs ≡ [] → ⊥
not_empty a xs e = absurd cc

-- ---- for time-stamping alone

named_so : (hash : List ℕ) (c : CertificateValue) → Encoded hash → digest_of Sha256 (encoding c) ≡ hash
    → MustName (named_by hash ∷ []) c
named_so hash c encodes digest = must_name (named_by hash ∷ []) c (λ occurs. occurs refl) (λ e. not_empty _ _ e)
    (names_v2 (named_by hash ∷ []) hash c refl encodes digest)

abbrev Left : Option (List ExtensionValue) → List ℕ → ℕ → EntryValue → Type 0
Left extensions hash k e = LeftForToken (terms (attests_with extensions ∷ []) []) (claim_naming hash) k e

named_left : (extensions : Option (List ExtensionValue)) (hash : List ℕ) → Encoded hash
    → digest_of Sha256 (encoding (authority_with extensions)) ≡ hash → Left extensions hash 2 (attests_with extensions)
named_left extensions hash encodes digest =
    ((refl, (refl, refl)), named_so hash (authority_with extensions) encodes digest)

not_for_stamping : (extensions : Option (List ExtensionValue)) (hash : List ℕ) → Encoded hash
    → digest_of Sha256 (encoding
    (authority_with extensions)) ≡ hash → (Left extensions hash 3 (attests_with extensions) → ⊥)
    → NotForStamping extensions hash
not_for_stamping extensions hash encodes digest never = record {
  filter = 2;
  stops = record {
    within = lit< tt;
    left = λ lt. one_of (Left extensions hash 2) (attests_with extensions) (named_left extensions hash encodes digest);
    none = nor (Left extensions hash 3) (attests_with extensions) [] never (nobody (Left extensions hash 3));
  };
  is = refl;
}

other_contents : (a b : ℕ) → a ≡ 20 → b ≡ 10 → a ≡ b → ⊥
other_contents a b p q e = omega (arith, p, q, e)

never_uncritical : flag.Absent ≡ flag.True → ⊥
never_uncritical e = absurd cc

never_second : el 0x30 (hex "06082b0601050507030806082b06010505070301") ≡ el 0x30 (el 0x06 (hex "2b06010505070308")) → ⊥
unfolding len
never_second e = other_contents _ _ refl refl (ap (λ (l : List ℕ). get_or l 1 0) e)

not_at_0 : Holds (attests_with (ext_key_usage flag.True (hex "06082b06010505070308"))) 0 → ⊥
unfolding utc_moment days_before_month
not_at_0 h = let le = h.valid_from in omega (arith, le)

usage_left : Left (ext_key_usage flag.True (hex "06082b06010505070308")) digest_of_certificate 3
    (attests_with (ext_key_usage flag.True (hex "06082b06010505070308")))
unfolding len
usage_left = (
  named_left (ext_key_usage flag.True (hex "06082b06010505070308")) digest_of_certificate
      all_encoded.authority digests.same,
  (refl, refl),
)

pub purpose_rows : PurposeRows
purpose_rows = record {
  unstated = not_for_stamping None hash_unstated all_encoded.unstated digests.unstated (λ p. p.1);
  uncritical = not_for_stamping
      (ext_key_usage flag.Absent (hex "06082b06010505070308")) hash_uncritical all_encoded.uncritical digests.uncritical
      (λ p. never_uncritical p.1.0);
  second = not_for_stamping (ext_key_usage flag.True (hex "06082b0601050507030806082b06010505070301")) hash_second
      all_encoded.second digests.second
      (λ p. never_second p.1.1);
  ended = record {
    filter = 3;
    stops = record {
      within = lit< tt;
      left = λ lt. one_of (Left (ext_key_usage flag.True (hex "06082b06010505070308")) digest_of_certificate 3)
          (attests_with (ext_key_usage flag.True (hex "06082b06010505070308"))) usage_left;
      none = nor (Left (ext_key_usage flag.True (hex "06082b06010505070308")) digest_of_certificate 4)
          (attests_with (ext_key_usage flag.True (hex "06082b06010505070308"))) [] (λ p. not_at_0 p.1)
          (nobody (Left (ext_key_usage flag.True (hex "06082b06010505070308")) digest_of_certificate 4));
    };
    is = refl;
  };
}

-- The worked rows of signers that name a certificate hold.
use Rattle.std.proofs.Common.{◌≡◌, ℕ, true, false, List, [], ◌∷◌, None, refl, sym, ap, ◌∙◌, arith, lit<, inl, inr}
use Rattle.der_core.specs.Element.{len}
use Rattle.cert_types.specs.CertificateValue.{encoding}
use Rattle.sha2.specs.Sha256 as sha256
use Rattle.digests.specs.Messages.{digest_of}
use Rattle.digests.specs.declared.algorithm.Alg.TheVariants.{Sha256}
use Rattle.digests.proofs.Rows.{abc_rows}
use Rattle.check_fit.specs.Fitting.{Fits}
use Rattle.check_fit.specs.FittingRows.{strict, id_data}
use Rattle.check_fit.proofs.Fitted.{fitted}
use Rattle.trust_lists.specs.Entries.{EntryValue}
use Rattle.check_names.specs.Naming.{id_signing_certificate_v2, Occurs, NamesIfAny}
use Rattle.check_names.specs.NamingRows.{digest_of_certificate}
use Rattle.check_names.proofs.HashNames.{Encoded, encoded, names_v2, other_hash}
use Rattle.check_verdict.specs.Filters.{StopsAt}
use Rattle.check_verdict.specs.Verdicts.{IsSigners, LeftForSigner, signer_filter}
use Rattle.check_verdict.specs.Passing.{Passes}
use Rattle.check_verdict.specs.Rows.{of_signer, signs, terms}
use Rattle.check_verdict.proofs.Lists.{any_of_none}
use Rattle.check_verdict.proofs.NamedCertificates.{all_encoded}
use Rattle.check_verdict.proofs.RowsJudged.{one_of, nor, nobody, element, abc}
use Rattle.check_verdict_rows.proofs.OtherEntries.{other_octets, not_empty}
use Rattle.check_verdict_rows.specs.NamedSigners.{digest_of_signer, attributes_naming, signer_naming, FailsNaming}
use Rattle.check_verdict_rows.specs.NamedSigners.{NamedSignerRows}

signer_digest : digest_of Sha256 (encoding of_signer) ≡ digest_of_signer
unfolding len digest_of sha256.sha256 sha256.digest_bytes sha256.hash_after sha256.compress sha256.rounds
    sha256.schedule sha256.first_words
signer_digest = refl

signer_encoded : Encoded digest_of_signer
unfolding len
signer_encoded = encoded digest_of_signer refl (lit< tt) (lit< tt) (lit< tt) (lit< tt)

naming_fits : (hash : List ℕ) → Fits strict abc id_data (signer_naming hash)
unfolding len
naming_fits hash = fitted _ _ _ _ (attributes_naming hash) Sha256
    refl refl (lit< tt) (record { contents = refl; plain = tt }) refl (ap element (sym abc_rows.sha256))

-- ---- what the attribute names

occurs : (hash : List ℕ) → Occurs (attributes_naming hash) id_signing_certificate_v2
occurs hash e = not_empty _ _ e

differs : digest_of_certificate ≡ digest_of_signer → ⊥
differs e = other_octets 0 0xb5 0xc1 _ _ refl refl (λ f. absurd (omega (arith, f))) e

never_named : NamesIfAny (attributes_naming digest_of_certificate) of_signer → ⊥
never_named n =
    other_hash (attributes_naming digest_of_certificate) digest_of_certificate of_signer refl all_encoded.authority
    (λ e. differs (e ∙ signer_digest)) (n.v2 (occurs digest_of_certificate))

named : NamesIfAny (attributes_naming digest_of_signer) of_signer
named = record {
  v1 = λ o. absurd (o refl);
  v2 = λ o. names_v2 (attributes_naming digest_of_signer) digest_of_signer of_signer refl signer_encoded signer_digest;
}

-- ---- the rules

abbrev Left : List EntryValue → List ℕ → ℕ → EntryValue → Type 0
Left trust hash k e = LeftForSigner (terms trust []) (signer_naming hash) (attributes_naming hash) k e

fails : (trust : List EntryValue) (hash : List ℕ) (n : ℕ) → StopsAt (Left trust hash) 3 trust n
    → FailsNaming trust hash (signer_filter n)
fails trust hash n stops = inr (inl (record {
  fits = naming_fits hash;
  attributes = attributes_naming hash;
  has = refl;
  filter = n;
  stops = stops;
  is = refl;
}))

abbrev alone : List EntryValue
alone = signs None None ∷ []

is_signers : (hash : List ℕ) → IsSigners (terms alone []) (signer_naming hash) (signs None None)
is_signers hash = record {
  role = refl;
  matches = (refl, refl);
  period = λ n k. absurd (any_of_none (λ token. Passes (terms alone []) token abc n) [] refl k);
}

another_stops : StopsAt (Left alone digest_of_certificate) 3 alone 1
another_stops = record {
  within = lit< tt;
  left = λ lt. one_of (Left alone digest_of_certificate 1) (signs None None) (is_signers digest_of_certificate);
  none = nor (Left alone digest_of_certificate 2) (signs None None) [] (λ p. never_named p.1)
      (nobody (Left alone digest_of_certificate 2));
}

nobody_stops : StopsAt (Left [] digest_of_certificate) 3 [] 0
nobody_stops = record {
  within = lit< tt;
  left = λ lt. absurd (omega (arith, lt));
  none = nobody (Left [] digest_of_certificate 1);
}

false_true : false ≡ true → ⊥
false_true e = absurd cc

own_stops : StopsAt (Left alone digest_of_signer) 3 alone 2
own_stops = record {
  within = lit< tt;
  left = λ lt. one_of (Left alone digest_of_signer 2) (signs None None) (is_signers digest_of_signer, named);
  none = nor (Left alone digest_of_signer 3) (signs None None) [] (λ p. false_true p.1)
      (nobody (Left alone digest_of_signer 3));
}

pub named_signer_rows : NamedSignerRows
named_signer_rows = record {
  another = fails alone digest_of_certificate 1 another_stops;
  another_of_nobody = fails [] digest_of_certificate 0 nobody_stops;
  its_own = fails alone digest_of_signer 2 own_stops;
}

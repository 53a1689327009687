-- When a trusted entry holds, and what a verifier is asked under an entry.
use Rattle.std.specs.Prelude.{ℕ, ◌≤◌, List, IfSome}
use Rattle.der_core.specs.Values.{algorithm_element}
use Rattle.der_time.specs.TimeValue.{moment_of}
use Rattle.cert_types.specs.CertificateValue.{CertificateValue}
use Rattle.cms_types.specs.AttributeValue.{AttributeValue, tail_of}
use Rattle.cms_types.specs.SignerValue.{SignerValue}
use Rattle.trust_lists.specs.Asking.{Asked}
use Rattle.trust_lists.specs.Entries.{EntryValue}

-- the entry holds at a moment: it isn't before notBefore of the certificate nor after notAfter (RFC 5280, 4.1.2.5), and
-- not outside the entry's own period; both ends are part of each period
pub record Holds (e : EntryValue) (m : ℕ) : Type 0 where
  pub valid_from : moment_of e.certificate.tbs.validity.from ≤ m
  pub valid_until : m ≤ moment_of e.certificate.tbs.validity.until
  pub trusted_from : IfSome e.from (λ first. first ≤ m)
  pub trusted_until : IfSome e.until (λ last. m ≤ last)

-- whether a signer with these signed attributes signed under the key of a certificate (RFC 5652, 5.4 and 5.6)
abbrev pub asked : CertificateValue → SignerValue → List AttributeValue → Asked
asked c s attributes = record {
  key = c.tbs.key;
  digest_alg = algorithm_element s.digest_algorithm;
  signature_alg = algorithm_element s.signature_algorithm;
  tail = tail_of attributes;
  signature = s.signature;
}

-- The certificate that octets encode is what reading them gives.
use Rattle.std.proofs.Common.{◌≡◌, ℕ, List, refl, sym, subst}
use Rattle.cert_types.specs.CertificateValue.{CertificateValue, EncodesCertificate}
use Rattle.cert_types.proofs.CertificateReaders.{certificate_again}
use Rattle.trust_lists.specs.Certificates.{certificate_of}

pub certificate_is : (bytes : List ℕ) (c : CertificateValue) → EncodesCertificate bytes c → certificate_of bytes ≡ c
unfolding certificate_of
certificate_is bytes c h = rw (certificate_again bytes c h) refl

-- so the octets of a certificate encode it
pub certificate_encoded : (bytes : List ℕ) (c : CertificateValue) → EncodesCertificate bytes c
    → EncodesCertificate bytes (certificate_of bytes)
certificate_encoded bytes c h =
    subst (λ (x : CertificateValue). EncodesCertificate bytes x) (sym (certificate_is bytes c h)) h

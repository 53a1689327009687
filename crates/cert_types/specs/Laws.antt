-- What holds of the definitions of certificates.
use Rattle.std.specs.Prelude.{◌≡◌, ℕ, List}
use Rattle.der_core.specs.declared.fault.Fault.{Fault}
use Rattle.der_core.specs.Encoding.{IsEncoding}
use Rattle.der_core.specs.OpenFaults.{FaultsOpenly}
use Rattle.der_core.specs.Grammar.{file}
use Rattle.der_grammar.specs.Table.{certificate}
use Rattle.cert_types.specs.CertificateValue.{CertificateValue, EncodesCertificate}

-- the octets of a good certificate are an encoding by the grammar
abbrev pub CertificatesAreEncodings : Type 0
CertificatesAreEncodings = (bytes : List ℕ) (v : CertificateValue) → EncodesCertificate bytes v
    → IsEncoding (file certificate) bytes

-- so they have no fault, nor a fault that shows before their outer lengths are met
abbrev pub CertificatesHaveNoFault : Type 0
CertificatesHaveNoFault = (bytes : List ℕ) (v : CertificateValue) → EncodesCertificate bytes v → (f : Fault)
    → FaultsOpenly (file certificate) bytes f → ⊥

-- octets encode at most one certificate
abbrev pub CertificatesAreUnique : Type 0
CertificatesAreUnique = (bytes : List ℕ) (v w : CertificateValue) → EncodesCertificate bytes v
    → EncodesCertificate bytes w → v ≡ w

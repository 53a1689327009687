-- What holds of the definitions of signing certificates.
use Rattle.std.specs.Prelude.{◌≡◌, ℕ, List}
use Rattle.der_core.specs.declared.fault.Fault.{Fault}
use Rattle.der_core.specs.Encoding.{IsEncoding}
use Rattle.der_core.specs.OpenFaults.{FaultsOpenly}
use Rattle.der_core.specs.Grammar.{file}
use Rattle.der_grammar.specs.Table.{signing_certificate, signing_certificate_v2}
use Rattle.ess_types.specs.SigningCertificateValue.{SigningCertificateValue, EncodesSigningCertificate}
use Rattle.ess_types.specs.SigningCertificateValue.{EncodesSigningCertificateV2}

-- the octets of a good signing certificate of version 1 are an encoding by the grammar
abbrev pub SigningCertificatesAreEncodings : Type 0
SigningCertificatesAreEncodings = (bytes : List ℕ) (v : SigningCertificateValue) → EncodesSigningCertificate bytes v
    → IsEncoding (file signing_certificate) bytes

-- so they have no fault, nor a fault that shows before their outer lengths are met
abbrev pub SigningCertificatesHaveNoFault : Type 0
SigningCertificatesHaveNoFault = (bytes : List ℕ) (v : SigningCertificateValue) → EncodesSigningCertificate bytes v
    → (f : Fault) → FaultsOpenly (file signing_certificate) bytes f → ⊥

-- octets encode at most one signing certificate
abbrev pub SigningCertificatesAreUnique : Type 0
SigningCertificatesAreUnique = (bytes : List ℕ) (v w : SigningCertificateValue) → EncodesSigningCertificate bytes v
    → EncodesSigningCertificate bytes w → v ≡ w

-- the same for version 2
abbrev pub SecondVersionsAreEncodings : Type 0
SecondVersionsAreEncodings = (bytes : List ℕ) (v : SigningCertificateValue) → EncodesSigningCertificateV2 bytes v
    → IsEncoding (file signing_certificate_v2) bytes

abbrev pub SecondVersionsHaveNoFault : Type 0
SecondVersionsHaveNoFault = (bytes : List ℕ) (v : SigningCertificateValue) → EncodesSigningCertificateV2 bytes v
    → (f : Fault) → FaultsOpenly (file signing_certificate_v2) bytes f → ⊥

abbrev pub SecondVersionsAreUnique : Type 0
SecondVersionsAreUnique = (bytes : List ℕ) (v w : SigningCertificateValue) → EncodesSigningCertificateV2 bytes v
    → EncodesSigningCertificateV2 bytes w → v ≡ w

-- Octets that encode a signing certificate, by each part of it.
use Rattle.std.proofs.Common.{◌≡◌, List, ℕ}
use Rattle.std.specs.Prelude.{IfSome}
use Rattle.std.specs.List.{AllByRecursion}
use Rattle.der_core.specs.Values.{HasLength}
use Rattle.ess_types.specs.SigningCertificateValue.{GoodCertId, SigningCertificateValue, ids_parts}
use Rattle.ess_types.specs.SigningCertificateValue.{signing_certificate_parts, encoding, EncodesSigningCertificateV2}

pub spelled : (bytes : List ℕ) (v : SigningCertificateValue) → bytes ≡ encoding v → AllByRecursion GoodCertId v.ids
    → HasLength (ids_parts v.ids) → IfSome v.policies HasLength → HasLength (signing_certificate_parts v)
    → EncodesSigningCertificateV2 bytes v
spelled bytes v is ids list policies size = (is, record { ids = ids; list = list; policies = policies; size = size })

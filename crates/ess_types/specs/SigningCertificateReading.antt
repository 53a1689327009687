-- Reading a signing certificate from the left, of version 1 and of version 2.
use Rattle.std.specs.Prelude.{ℕ, List, Option, None, Result}
use Rattle.der_core.specs.declared.fault.Fault.{Fault}
use Rattle.der_core.specs.AlgorithmReading.{algorithm_in}
use Rattle.der_core.specs.Reading.{Spot, spot, within, maybe, last, ◌then◌, whole_of, made, any_at, integer_in, many_in}
use Rattle.der_core.specs.Values.{AlgorithmValue}
use Rattle.der_lists.specs.Items.{opaque_item}
use Rattle.ess_types.specs.SigningCertificateValue.{IssuerSerialValue, CertIdValue, SigningCertificateValue}

abbrev pub names_in : Spot → Result (List (List ℕ)) Fault
names_in s = many_in opaque_item s

abbrev pub issuer_serial_from : List (List ℕ) × List ℕ → IssuerSerialValue
issuer_serial_from p = record { names = p.0; serial = p.1 }

unfoldable pub issuer_serial_in : Spot → Result IssuerSerialValue Fault
issuer_serial_in s = made issuer_serial_from (whole_of (within 0x30 names_in then within 0x02 integer_in)) s

-- an identifier of version 1
abbrev pub plain_id_from : List ℕ × Option IssuerSerialValue → CertIdValue
plain_id_from p = record { algorithm = None; hash = p.0; issuer_serial = p.1 }

unfoldable pub plain_id_in : Spot → Result CertIdValue Fault
plain_id_in s = made plain_id_from (whole_of (within 0x04 any_at then last 0x30 issuer_serial_in)) s

-- and of version 2
abbrev pub cert_id_from : Option AlgorithmValue × (List ℕ × Option IssuerSerialValue) → CertIdValue
cert_id_from p = record { algorithm = p.0; hash = p.1.0; issuer_serial = p.1.1 }

unfoldable pub cert_id_in : Spot → Result CertIdValue Fault
cert_id_in s = made cert_id_from
    (whole_of (maybe 0x30 algorithm_in then within 0x04 any_at then last 0x30 issuer_serial_in)) s

abbrev pub plain_ids_in : Spot → Result (List CertIdValue) Fault
plain_ids_in s = many_in (within 0x30 plain_id_in) s

abbrev pub ids_in : Spot → Result (List CertIdValue) Fault
ids_in s = many_in (within 0x30 cert_id_in) s

abbrev pub signing_certificate_from : List CertIdValue × Option (List ℕ) → SigningCertificateValue
signing_certificate_from p = record { ids = p.0; policies = p.1 }

-- a signing certificate whose identifiers are read in this way
abbrev pub signing_in : (Spot → Result (List CertIdValue) Fault) → Spot → Result SigningCertificateValue Fault
signing_in ids s = made signing_certificate_from (whole_of (within 0x30 ids then last 0x30 any_at)) s

abbrev pub signing_at : (Spot → Result (List CertIdValue) Fault) → List ℕ → Result SigningCertificateValue Fault
signing_at ids bytes = whole_of (within 0x30 (signing_in ids)) (spot 0 bytes)

unfoldable pub signing_certificate_at : List ℕ → Result SigningCertificateValue Fault
signing_certificate_at bytes = signing_at plain_ids_in bytes

unfoldable pub signing_certificate_v2_at : List ℕ → Result SigningCertificateValue Fault
signing_certificate_v2_at bytes = signing_at ids_in bytes

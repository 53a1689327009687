-- Reading an ECDSA-Sig-Value from the left.
use Rattle.std.specs.Prelude.{ℕ, List, Result}
use Rattle.der_core.specs.declared.fault.Fault.{Fault}
use Rattle.der_core.specs.Reading.{Spot, spot, within, ◌then◌, whole_of, made, integer_in}
use Rattle.ecdsa_octets.specs.SignatureValue.{SignatureValue}

abbrev pub signature_from : List ℕ × List ℕ → SignatureValue
signature_from p = record { r = p.0; s = p.1 }

unfoldable pub signature_in : Spot → Result SignatureValue Fault
signature_in s = made signature_from (whole_of (within 0x02 integer_in then within 0x02 integer_in)) s

unfoldable pub signature_at : List ℕ → Result SignatureValue Fault
signature_at bytes = whole_of (within 0x30 signature_in) (spot 0 bytes)

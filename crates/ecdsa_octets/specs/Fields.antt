-- The parts of an ECDSA-Sig-Value as a value, independent of their place in memory.
use Rattle.ecdsa_octets.specs.declared.value.SignatureFields.{SignatureFields}
use Rattle.ecdsa_octets.specs.SignatureValue.{SignatureValue}

abbrev pub fields_value : SignatureFields → SignatureValue
fields_value v = record { r = v.r; s = v.s }

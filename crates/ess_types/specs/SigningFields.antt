-- The parts of a signing certificate as values, independent of their place in memory.
use Rattle.std.specs.Prelude.{option_map}
use Rattle.ess_types.specs.declared.signing_cert.SigningFields.{SigningFields}
use Rattle.ess_types.specs.SigningCertificateValue.{SigningCertificateValue}

abbrev pub signing_value : SigningFields → SigningCertificateValue
signing_value r = record { ids = r.ids; policies = option_map (λ b. b.now) r.policies }

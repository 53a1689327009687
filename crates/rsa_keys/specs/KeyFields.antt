-- A key's fields as a value.
use Rattle.rsa_keys.specs.declared.key.RsaKey.{RsaKey}
use Rattle.rsa_keys.specs.KeyValue.{KeyValue}

abbrev pub key_value : RsaKey → KeyValue
key_value k = record { scheme = k.scheme; modulus = k.modulus.now; exponent = k.exponent }

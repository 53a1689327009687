-- The parts of parameters as a value.
use Rattle.rsa_keys.specs.declared.parameter_parts.Parts.{Parts}
use Rattle.rsa_keys.specs.ParameterValue.{PssParts}

abbrev pub parts_value : Parts → PssParts
parts_value p = record { hash = p.hash; mask = p.mask; salt = p.salt; trailer = p.trailer }

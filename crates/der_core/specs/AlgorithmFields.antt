-- The fields of an AlgorithmIdentifier as values, independent of their place in memory.
use Rattle.std.specs.Prelude.{option_map}
use Rattle.der_core.specs.declared.algorithm.Fields.{Fields}
use Rattle.der_core.specs.Values.{AlgorithmValue}

abbrev pub fields_value : Fields → AlgorithmValue
fields_value a = record { oid = a.oid; parameters = option_map (λ x. x.now) a.parameters }

-- Reading a message imprint from the left.
use Rattle.std.specs.Prelude.{ℕ, List, Result}
use Rattle.der_core.specs.declared.fault.Fault.{Fault}
use Rattle.der_core.specs.Values.{AlgorithmValue}
use Rattle.der_core.specs.Reading.{Spot, within, ◌then◌, whole_of, made, any_at}
use Rattle.der_core.specs.AlgorithmReading.{algorithm_in}
use Rattle.tsp_types.specs.ImprintValue.{ImprintValue}

abbrev pub imprint_from : AlgorithmValue × List ℕ → ImprintValue
imprint_from p = record { algorithm = p.0; digest = p.1 }

unfoldable pub imprint_in : Spot → Result ImprintValue Fault
imprint_in s = made imprint_from (whole_of (within 0x30 algorithm_in then within 0x04 any_at)) s

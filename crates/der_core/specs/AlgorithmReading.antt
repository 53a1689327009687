-- Reading an AlgorithmIdentifier from the left.
use Rattle.std.specs.Prelude.{ℕ, List, Option, Result}
use Rattle.der_core.specs.declared.fault.Fault.{Fault}
use Rattle.der_core.specs.Values.{AlgorithmValue}
use Rattle.der_core.specs.Reading.{Spot, within, ◌then◌, whole_of, made, oid_in, opaque_at}

abbrev pub algorithm_from : List ℕ × Option (List ℕ) → AlgorithmValue
algorithm_from p = record { oid = p.0; parameters = p.1 }

unfoldable pub algorithm_in : Spot → Result AlgorithmValue Fault
algorithm_in s = made algorithm_from (whole_of (within 0x06 oid_in then opaque_at)) s

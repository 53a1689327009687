-- Reading archive time-stamps from the left.
use Rattle.std.specs.Prelude.{ℕ, List, Option, Result}
use Rattle.der_core.specs.declared.fault.Fault.{Fault}
use Rattle.der_core.specs.AlgorithmReading.{algorithm_in}
use Rattle.der_core.specs.Values.{AlgorithmValue}
use Rattle.der_core.specs.Reading.{Spot, within, maybe, maybe_filled, element_at, ◌then◌, whole_of, made, any_at}
use Rattle.der_core.specs.Reading.{many_in}
use Rattle.cms_types.specs.AttributeValue.{AttributeValue}
use Rattle.cms_types.specs.AttributeReading.{signed_attributes_in}
use Rattle.evidence_types.specs.FilledReading.{within_filled}
use Rattle.evidence_types.specs.StampValue.{StampValue}

-- hash values, and lists of them
abbrev pub values_in : Spot → Result (List (List ℕ)) Fault
values_in s = many_in (within 0x04 any_at) s

abbrev pub lists_in : Spot → Result (List (List (List ℕ))) Fault
lists_in s = many_in (within_filled 0x30 values_in) s

abbrev pub StampParts : Type 0
StampParts = Option AlgorithmValue × (Option (List AttributeValue) × (Option (List (List (List ℕ))) × List ℕ))

abbrev pub stamp_from : StampParts → StampValue
stamp_from p = record { algorithm = p.0; attributes = p.1.0; lists = p.1.1.0; stamp = p.1.1.1 }

unfoldable pub stamp_in : Spot → Result StampValue Fault
stamp_in s = made stamp_from (whole_of (maybe 0xa0 algorithm_in then maybe_filled 0xa1 signed_attributes_in
    then maybe_filled 0xa2 lists_in then element_at 0x30)) s

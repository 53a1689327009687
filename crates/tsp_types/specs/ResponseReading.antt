-- Reading a response from the left.
use Rattle.std.specs.Prelude.{ℕ, List, Option, Result}
use Rattle.der_core.specs.declared.fault.Fault.{Fault}
use Rattle.der_core.specs.LastElement.{last_element}
use Rattle.der_core.specs.Reading.{Spot, spot, within, maybe, last, ◌then◌, whole_of, made, any_at, integer_in, bits_in}
use Rattle.der_core.specs.Reading.{many_in}
use Rattle.tsp_types.specs.ResponseValue.{StatusValue, ResponseValue}

abbrev pub texts_in : Spot → Result (List (List ℕ)) Fault
texts_in s = many_in (within 0x0c any_at) s

abbrev pub status_from : List ℕ × (Option (List (List ℕ)) × Option (List ℕ)) → StatusValue
status_from p = record { number = p.0; texts = p.1.0; fail = p.1.1 }

unfoldable pub status_in : Spot → Result StatusValue Fault
status_in s = made status_from (whole_of (within 0x02 integer_in then maybe 0x30 texts_in then last 0x03 bits_in)) s

abbrev pub response_from : StatusValue × Option (List ℕ) → ResponseValue
response_from p = record { status = p.0; token = p.1 }

unfoldable pub response_in : Spot → Result ResponseValue Fault
response_in s = made response_from (whole_of (within 0x30 status_in then last_element 0x30)) s

unfoldable pub response_at : List ℕ → Result ResponseValue Fault
response_at bytes = whole_of (within 0x30 response_in) (spot 0 bytes)

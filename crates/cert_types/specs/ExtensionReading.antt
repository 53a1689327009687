-- Reading extensions from the left.
use Rattle.std.specs.Prelude.{ℕ, List, Result}
use Rattle.der_core.specs.declared.fault.Fault.{Fault}
use Rattle.der_core.specs.declared.flag.Flag.{Flag}
use Rattle.der_core.specs.Reading.{Spot, within, ◌then◌, whole_of, made, any_at, oid_in, many_in}
use Rattle.der_core.specs.Flags.{flag_at}
use Rattle.cert_types.specs.ExtensionValue.{ExtensionValue}

abbrev pub extension_from : List ℕ × (Flag × List ℕ) → ExtensionValue
extension_from p = record { id = p.0; critical = p.1.0; value = p.1.1 }

unfoldable pub extension_in : Spot → Result ExtensionValue Fault
extension_in s = made extension_from (whole_of (within 0x06 oid_in then flag_at then within 0x04 any_at)) s

abbrev pub extensions_in : Spot → Result (List ExtensionValue) Fault
extensions_in s = many_in (within 0x30 extension_in) s

-- Reading a request from the left.
use Rattle.std.specs.Prelude.{ℕ, List, [], ◌∷◌, Option, Result}
use Rattle.der_core.specs.declared.fault.Fault.{Fault}
use Rattle.der_core.specs.declared.flag.Flag.{Flag}
use Rattle.der_core.specs.Reading.{Spot, spot, within, maybe, last, ◌then◌, whole_of, made, oid_in, integer_in}
use Rattle.der_core.specs.Reading.{version_in}
use Rattle.der_core.specs.Flags.{flag_at}
use Rattle.cert_types.specs.ExtensionValue.{ExtensionValue}
use Rattle.cert_types.specs.ExtensionReading.{extensions_in}
use Rattle.tsp_types.specs.ImprintValue.{ImprintValue}
use Rattle.tsp_types.specs.ImprintReading.{imprint_in}
use Rattle.tsp_types.specs.RequestValue.{RequestValue}

abbrev pub request_from : List ℕ × (ImprintValue × (Option (List ℕ)
    × (Option (List ℕ) × (Flag × Option (List ExtensionValue))))) → RequestValue
request_from p = record {
  imprint = p.1.0;
  policy = p.1.1.0;
  nonce = p.1.1.1.0;
  cert_req = p.1.1.1.1.0;
  extensions = p.1.1.1.1.1;
}

unfoldable pub request_in : Spot → Result RequestValue Fault
request_in s = made request_from (whole_of (within 0x02 (version_in (1 ∷ [])) then within 0x30 imprint_in
    then maybe 0x06 oid_in then maybe 0x02 integer_in then flag_at then last 0xa0 extensions_in)) s

unfoldable pub request_at : List ℕ → Result RequestValue Fault
request_at bytes = whole_of (within 0x30 request_in) (spot 0 bytes)

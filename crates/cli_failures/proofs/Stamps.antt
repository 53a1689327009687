-- One whole element, and octets that are none.
use Rattle.std.proofs.Common.{◌≡◌, ℕ, List, Ok, Err, sym, subst}
use Rattle.der_core.specs.declared.fault.Fault.{Fault}
use Rattle.der_core.specs.Element.{IsBytes}
use Rattle.der_core.specs.Faults.{Faults}
use Rattle.der_core.specs.Reading.{spot}
use Rattle.der_core.specs.Values.{IsOpaque}
use Rattle.der_lists.specs.Items.{explicit_opaque_in}
use Rattle.der_lists.proofs.OpaqueReader.{explicit_opaque_body}
use Rattle.cli_failures.specs.Stamps.{element}

pub whole : (octets x : List ℕ) → IsBytes octets → explicit_opaque_in (spot 0 octets) ≡ Ok x
    → IsOpaque octets × (x ≡ octets)
whole octets x fits e = let t = explicit_opaque_body.takes (spot 0 octets) x fits e in
    (subst IsOpaque (sym t.1) t.0, sym t.1)

pub none : (octets : List ℕ) (fault : Fault) → IsBytes octets → explicit_opaque_in (spot 0 octets) ≡ Err fault
    → Faults element octets fault
none octets fault fits e = explicit_opaque_body.faults (spot 0 octets) fault fits e

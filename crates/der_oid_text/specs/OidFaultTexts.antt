-- The text of each reason why there is no OBJECT IDENTIFIER for a text.
use Rattle.std.specs.Prelude.{ℕ, List, codes}
use Rattle.der_oid_text.specs.declared.oid_arcs.OidFault.{OidFault}
use Rattle.der_oid_text.specs.declared.oid_arcs.OidFault.TheVariants as fault

abbrev pub oid_fault_text : OidFault → List ℕ
oid_fault_text fault.OidText = codes "O1 OidText"
oid_fault_text fault.OutOfMemory = codes "O2 OutOfMemory"

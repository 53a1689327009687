-- What a read call may return in place of a value.
use Rattle.std.specs.Prelude.{⊤, ℕ, List}
use Rattle.der_core.specs.declared.fault.ReadFault.{ReadFault}
use Rattle.der_core.specs.declared.fault.ReadFault.TheVariants.{Malformed, OutOfMemory}
use Rattle.der_core.specs.Form.{Form}
use Rattle.der_core.specs.Faults.{Faults}

-- if the input is malformed, a fault that it has
abbrev pub IsReadFault : Form → List ℕ → ReadFault → Type 0
IsReadFault form bytes (Malformed f) = Faults form bytes f
IsReadFault form bytes OutOfMemory = ⊤

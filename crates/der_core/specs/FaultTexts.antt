-- The text of each fault: its code, its name, and where it is.
use Rattle.std.specs.Prelude.{ℕ, List, ◌++◌, codes}
use Rattle.std.specs.Fmt.{decimal}
use Rattle.der_core.specs.declared.fault.Kind.{Kind}
use Rattle.der_core.specs.declared.fault.Kind.TheVariants as kind
use Rattle.der_core.specs.declared.fault.Fault.{Fault}
use Rattle.der_core.specs.declared.fault.ReadFault.{ReadFault}
use Rattle.der_core.specs.declared.fault.ReadFault.TheVariants.{Malformed, OutOfMemory}

abbrev pub kind_text : Kind → List ℕ
kind_text kind.End = codes "M1 End"
kind_text kind.HighTag = codes "M2 HighTag"
kind_text kind.Indefinite = codes "M3 Indefinite"
kind_text kind.LengthForm = codes "M4 LengthForm"
kind_text kind.Overrun = codes "M5 Overrun"
kind_text kind.Tag = codes "M6 Tag"
kind_text kind.Trailing = codes "M7 Trailing"
kind_text kind.Integer = codes "M8 Integer"
kind_text kind.Oid = codes "M9 Oid"
kind_text kind.Boolean = codes "M10 Boolean"
kind_text kind.Bits = codes "M11 Bits"
kind_text kind.Time = codes "M12 Time"
kind_text kind.Value = codes "M13 Value"
kind_text kind.Order = codes "M14 Order"
kind_text kind.Empty = codes "M15 Empty"

-- as in "M4 LengthForm at 1"
abbrev pub fault_text : Fault → List ℕ
fault_text f = kind_text f.kind ++ codes " at " ++ decimal f.at

abbrev pub read_fault_text : ReadFault → List ℕ
read_fault_text (Malformed f) = codes "malformed " ++ fault_text f
read_fault_text OutOfMemory = codes "out of memory"

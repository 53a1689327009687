-- The text of each reason why no request was made.
use Rattle.std.specs.Prelude.{ℕ, List, codes}
use Rattle.tsp_types.specs.declared.putting.MakeFault.{MakeFault}
use Rattle.tsp_types.specs.declared.putting.MakeFault.TheVariants as fault

abbrev pub make_fault_text : MakeFault → List ℕ
make_fault_text fault.TooLong = codes "N1 TooLong"
make_fault_text fault.OutOfMemory = codes "N2 OutOfMemory"

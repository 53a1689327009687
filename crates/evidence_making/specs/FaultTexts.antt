-- The text of each reason why no record was made or renewed: its code and its name, as `Display` prints them.
use Rattle.std.specs.Prelude.{ℕ, List, ◌++◌, codes}
use Rattle.der_core.specs.FaultTexts.{fault_text}
use Rattle.evidence_making.specs.declared.fault.LeafFault.{LeafFault}
use Rattle.evidence_making.specs.declared.fault.LeafFault.TheVariants as leaf
use Rattle.evidence_making.specs.declared.fault.MakeFault.{MakeFault}
use Rattle.evidence_making.specs.declared.fault.MakeFault.TheVariants as fault
use Rattle.evidence_making.specs.declared.fault.RenewFault.{RenewFault}
use Rattle.evidence_making.specs.declared.fault.RenewFault.TheVariants as renew
use Rattle.evidence_making.specs.declared.fault.StampFault.{StampFault}
use Rattle.evidence_making.specs.declared.fault.StampFault.TheVariants as stamp

abbrev pub make_fault_text : MakeFault → List ℕ
make_fault_text fault.TooLong = codes "U10 TooLong"
make_fault_text fault.OutOfMemory = codes "X4 OutOfMemory"

abbrev pub renew_fault_text : RenewFault → List ℕ
renew_fault_text (renew.Malformed f) = codes "V1 " ++ fault_text f
renew_fault_text renew.TooLong = codes "U10 TooLong"
renew_fault_text renew.OutOfMemory = codes "X4 OutOfMemory"

-- the same of each reason why a token can't be the stamp of a root
abbrev pub stamp_fault_text : StampFault → List ℕ
stamp_fault_text stamp.TokenMalformed = codes "U7 TokenMalformed"
stamp_fault_text stamp.ImprintDiffers = codes "U8 ImprintDiffers"
stamp_fault_text stamp.Order = codes "U9 Order"

-- the same of each reason why there is nothing on which a renewal stands
abbrev pub leaf_fault_text : LeafFault → List ℕ
leaf_fault_text (leaf.Malformed f) = codes "V1 " ++ fault_text f
leaf_fault_text leaf.NoStamp = codes "U3 NoStamp"
leaf_fault_text leaf.Unnamed = codes "U11 Unnamed"
leaf_fault_text leaf.OutOfMemory = codes "X4 OutOfMemory"
